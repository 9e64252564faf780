use Rattle.row_code.proofs.Fronts.{small_bytes, bytes_read}
use Rattle.row_code.proofs.read.read_bytes.Goals as goal

pub returns-then-fits-clause-found : goal.returns-then-fits-clause-found
returns-then-fits-clause-found c =
    let both = bytes_read c.args.bytes.now c.in_ok-front.front.now c.in_ok-front.rest.now c.in_ok-value.value.now c.in_ok-value.rest.now c.from_le_bytes-len.result
    (record { front_is = c.in_ok-front.ensures.cases.0; rest_is = c.in_ok-front.ensures.cases.1; long = c.in_ok-front.ensures.cases.2 }) (small_bytes c.args.bytes.now c.type_inv.bytes) c.from_le_bytes-len.ensures c.in_ok-value.ensures.cases in
    (c.fits.ensures.0 c.if-fits.true, both.0, both.1)
