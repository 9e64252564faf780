-- Local states and a morsel that is given by keys and columns.
use Rattle.std.proofs.Common.{ℕ, ◌+◌, ◌<◌, ◌^◌, List, flat_map, length, get_or, sym, subst, arith}
use Rattle.col_core.specs.declared.leaf.Leaf.{Leaf}
use Rattle.key_groups.specs.Groups.{with_keys}
use Rattle.reduce_states.specs.States.{State}
use Rattle.reduce_states.specs.Reductions.{Shape}
use Rattle.list_laws.specs.Places.{ChangedAt}
use Rattle.join_laws.specs.Locals.{entries_from}
use Rattle.group_locals.specs.declared.local.LocalState.{LocalState}
use Rattle.group_locals.specs.Rows.{keyed_rows}
use Rattle.group_locals.specs.Locals.{Grouping, LocalsFit, LocalTakes, AreFresh, kept}
use Rattle.group_locals.proofs.Fits.{few_at, locals_fit}
use Rattle.group_locals.proofs.Takes.{rows_keys, rows_long}

module _ {R : Type 0} (shape : R → Shape) (of : Grouping) (ls : List (LocalState R)) (n : ℕ) (keys : List (List ℕ)) (columns : List (List Leaf)) (fits : LocalsFit shape of ls) (room : n + length keys < 2 ^ 32) (fresh : AreFresh n (length keys) (flat_map kept ls)) where
  rows_room : n + length (keyed_rows keys columns) < 2 ^ 32
  rows_room = let l = rows_long keys columns in omega arith

  rows_fresh : AreFresh n (length (keyed_rows keys columns)) (flat_map kept ls)
  rows_fresh = subst (λ (k : ℕ). AreFresh n k (flat_map kept ls)) (sym (rows_long keys columns)) fresh

  -- the local state that takes it has room for its keys
  pub few_keys : (i : ℕ) (d : LocalState R) → i < length ls → length (with_keys (get_or ls i d).grouper.keys keys) < 2 ^ 32
  few_keys i d inside = subst (λ (ks : List (List ℕ)). length (with_keys (get_or ls i d).grouper.keys ks) < 2 ^ 32) (rows_keys keys columns) (few_at shape of ls i d n (keyed_rows keys columns) inside fits rows_room rows_fresh)

  -- they fit after it
  pub fit_after : (holds : R → List State → Type 0) (mo i : ℕ) (ms : List (LocalState R)) → ChangedAt (LocalTakes shape holds (entries_from mo n (keyed_rows keys columns))) i ls ms → LocalsFit shape of ms
  fit_after holds mo i ms c = locals_fit shape holds of mo n (keyed_rows keys columns) rows_room i ls ms fits rows_fresh c
