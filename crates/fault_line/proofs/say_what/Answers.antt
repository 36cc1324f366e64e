-- One of four texts, by the fault's number.
use Rattle.std.proofs.Common.{arith}
use Rattle.digits.proofs.Due.{wrote_as, wrote_then}
use Rattle.digits.proofs.Decimals.{digits_7}
use Rattle.fault_line.proofs.Said.{text-other, text-large, text-many, text-nothing}
use Rattle.fault_line.proofs.say_what.Goals as goal

pub returns-then-fault-eq-OTHER : goal.returns-then-fault-eq-OTHER
returns-then-fault-eq-OTHER c = wrote_as c.say_other.ensures (text-other _ c.if-fault-eq-OTHER.true)

pub put_decimal-p-requires : goal.put_decimal-p-requires
put_decimal-p-requires c = omega (arith, c.requires.1, digits_7 c.args.found c.requires.0)

pub put_bytes-requires : goal.put_bytes-requires
put_bytes-requires c = omega (arith, c.requires.1, c.put_decimal-p.ensures.is-end, c.put_decimal-p.auto.text, digits_7 c.args.found c.requires.0)

pub returns-then-fault-eq-LARGE : goal.returns-then-fault-eq-LARGE
returns-then-fault-eq-LARGE c = wrote_as (wrote_then c.put_decimal-p.ensures c.put_bytes.ensures) (text-large _ c.if-fault-eq-LARGE.true)

pub returns-then-fault-eq-MANY : goal.returns-then-fault-eq-MANY
returns-then-fault-eq-MANY c = wrote_as c.put_bytes-then-fault-eq-MANY.ensures (text-many c.args.found c.if-fault-eq-MANY.true)

pub returns : goal.returns
returns c = wrote_as c.put_bytes-2.ensures (text-nothing c.args.found c.if-fault-eq-OTHER.false c.if-fault-eq-LARGE.false c.if-fault-eq-MANY.false)
