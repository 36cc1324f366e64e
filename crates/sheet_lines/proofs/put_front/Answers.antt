-- The place, then the three numbers.
use Rattle.std.proofs.Common.{arith}
use Rattle.digits.proofs.Due.{wrote_then}
use Rattle.digits.proofs.Decimals.{digits_7}
use Rattle.report_lines.proofs.Room.{three-most}
use Rattle.sheet_lines.specs.Line.{front_text}
use Rattle.sheet_lines.proofs.put_front.Goals as goal

pub put_decimal-front-requires : goal.put_decimal-front-requires
put_decimal-front-requires c = omega (arith, digits_7 c.args.place c.requires.place_lt_number_limit.0)

pub put_three-requires : goal.put_three-requires
put_three-requires c =
    let a = c.args in
    let l = c.requires.place_lt_number_limit in
    omega (arith, digits_7 a.place l.0, three-most a.blocks a.copies a.edges l.1 l.2 l.3)

pub returns : goal.returns
unfolding front_text
returns c =
    let a = c.args in
    let l = c.requires.place_lt_number_limit in (
      wrote_then c.put_decimal-front.ensures c.put_three.ensures,
      omega (arith, digits_7 a.place l.0, three-most a.blocks a.copies a.edges l.1 l.2 l.3),
    )
