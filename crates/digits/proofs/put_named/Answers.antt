-- The name, then the number behind a space.
use Rattle.digits.proofs.Due.{wrote_then}
use Rattle.digits.proofs.put_named.Goals as goal

pub returns : goal.returns
returns c = wrote_then c.put_bytes-p.ensures c.put_number.ensures
