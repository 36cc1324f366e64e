-- A number below 10 is one digit; any other has the digits of its tenth, then the last.
use Rattle.std.proofs.Common.{sym, arith}
use Rattle.digits.proofs.Due.{wrote_as, wrote_then}
use Rattle.digits.proofs.Decimals.{decimal-one, decimal-more, one-length, one_more}
use Rattle.digits.proofs.+put_decimal.Goals as goal

pub put_byte-requires : goal.put_byte-requires
put_byte-requires t c = omega (arith, one-length c.args.n c.if-n-lt10.true)

pub returns-then-n-lt10 : goal.returns-then-n-lt10
returns-then-n-lt10 t c = wrote_as c.put_byte.ensures (sym (decimal-one c.args.n c.if-n-lt10.true))

pub put_decimal-p-requires : goal.put_decimal-p-requires
put_decimal-p-requires t c = (omega arith, omega (arith, one_more c.args.n c.if-n-lt10.false))

pub put_byte-requires-2 : goal.put_byte-requires-2
put_byte-requires-2 t c = omega (arith, c.put_decimal-p.ensures.is-end, c.put_decimal-p.auto.text, one_more c.args.n c.if-n-lt10.false)

pub returns : goal.returns
returns t c =
    wrote_as (wrote_then c.put_decimal-p.ensures c.put_byte-2.ensures) (sym (decimal-more c.args.n c.if-n-lt10.false))
