use Rattle.std.proofs.Common.{◌≡◌, drop, map}
use Rattle.join_request.specs.Json.{is_one_of}
use Rattle.join_request.proofs.json.is_among.Given as goal

-- what is left decides
abbrev pub invariant-loop-known : goal.invariant-loop-known
invariant-loop-known l = is_one_of (map (λ n. n.now) l.names) l.name ≡ is_one_of (map (λ n. n.now) (drop l.known-index l.names)) l.name
