use Rattle.join_request.proofs.leaves.text_of.Goals as goal

pub returns-clause-fits : goal.returns-clause-fits
returns-clause-fits c = (c.small_bytes.ensures.small, rw c.small_bytes.ensures.same c.as_bytes.ensures.utf8)
