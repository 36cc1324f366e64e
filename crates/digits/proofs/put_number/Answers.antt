-- A space, then the digits.
use Rattle.std.proofs.Common.{arith}
use Rattle.digits.specs.Spaced.{spaced}
use Rattle.digits.proofs.Due.{wrote_then}
use Rattle.digits.proofs.put_number.Goals as goal

pub put_byte-p-requires : goal.put_byte-p-requires
unfolding spaced
put_byte-p-requires c = omega arith

pub put_decimal-requires : goal.put_decimal-requires
unfolding spaced
put_decimal-requires c = omega (arith, c.put_byte-p.ensures.is-end, c.put_byte-p.auto.text)

pub returns : goal.returns
unfolding spaced
returns c = wrote_then c.put_byte-p.ensures c.put_decimal.ensures
