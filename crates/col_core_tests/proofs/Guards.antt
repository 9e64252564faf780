-- What the values of one chunk are.
use Rattle.std.proofs.Common.{◌≡◌, [], ◌∷◌}
use Rattle.std.proofs.lemmas.List.{append-nil}
use Rattle.col_core.specs.declared.chunk.Chunk.{Chunk}
use Rattle.col_core.specs.Tables.{leaves_of, chunk_leaves}

pub leaves_of_one : (c : Chunk) → leaves_of (c ∷ []) ≡ chunk_leaves c
leaves_of_one c = append-nil (chunk_leaves c)

pub ruleset one_chunk = (leaves_of_one)
