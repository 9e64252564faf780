-- Bits that are packed in bytes, the lowest bit of a byte first.
use Rattle.std.specs.Prelude.{ℕ, ◌/◌, ◌%◌, ◌^◌, ◌==◌, Bool, List, map, slice_index}
use Rattle.std.specs.List.{range_with_len}

-- bit i is bit i mod 8 of byte i / 8
abbrev pub bit_at : List ℕ → ℕ → Bool
bit_at bytes i = slice_index bytes (i / 8) / 2 ^ (i % 8) % 2 == 1

-- n bits from a place on
abbrev pub bits_from : List ℕ → ℕ → ℕ → List Bool
bits_from bytes offset n = map (bit_at bytes) (range_with_len offset n)

-- the first n bits
abbrev pub bits_of : List ℕ → ℕ → List Bool
bits_of bytes n = bits_from bytes 0 n

-- the n lowest bits of a word
abbrev pub low_bits : ℕ → ℕ → List Bool
low_bits word n = map (λ i. word / 2 ^ i % 2 == 1) (range_with_len 0 n)
