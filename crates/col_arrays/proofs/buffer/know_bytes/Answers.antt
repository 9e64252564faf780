use Rattle.std.proofs.Common.{ℕ, ◌<◌, ◌^◌}
use Rattle.std.proofs.lemmas.List.Elements.{All-from_get_or}
use Rattle.col_arrays.proofs.buffer.know_bytes.Goals as goal

pub returns : goal.returns
returns c =
    let Byte : ℕ → Type 0 = λ b. b < 2 ^ 8 in
    All-from_get_or Byte c.args.bytes.now 0 (λ k l. (c.type_inv.bytes k).fits)
