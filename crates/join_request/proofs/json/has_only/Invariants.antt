use Rattle.std.proofs.Common.{◌≡◌, map}
use Rattle.serde_json.specs.View.{members_view}
use Rattle.join_request.specs.Json.{only_named}
use Rattle.join_request.proofs.json.has_only.Given as goal

-- what is left decides
abbrev pub invariant-loop-name : goal.invariant-loop-name
invariant-loop-name l = only_named (map (λ n. n.now) l.names) (members_view l.members.entries) ≡ only_named (map (λ n. n.now) l.names) (members_view l.name-iterator)
