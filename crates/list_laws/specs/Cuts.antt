-- Lists that stand one behind the other.
use Rattle.std.specs.Prelude.{ℕ, ◌+◌, ◌-◌, List, map, length, get_or}
use Rattle.std.specs.List.{range_with_len, slice_range}

-- the lists, by the start of each and the end of the last
abbrev pub cut : List ℕ → List ℕ → List (List ℕ)
cut starts rows = map (λ k. slice_range rows (get_or starts k 0) (get_or starts (k + 1) 0)) (range_with_len 0 (length starts - 1))
