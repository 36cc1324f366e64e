-- The place, the word and the number, then the newline.
use Rattle.std.proofs.Common.{arith}
use Rattle.digits.proofs.Due.{wrote_then}
use Rattle.digits.proofs.Decimals.{digits_7}
use Rattle.digits.proofs.Room.{spaced-7}
use Rattle.report_lines.proofs.Lines.{whole-line}
use Rattle.sheet_lines.proofs.Lines.{refused-is}
use Rattle.sheet_lines.proofs.write_refused.Goals as goal

pub put_decimal-front-requires : goal.put_decimal-front-requires
put_decimal-front-requires c = omega (arith, digits_7 c.args.place c.requires.place_lt_number_limit.0)

pub put_named-end-requires : goal.put_named-end-requires
put_named-end-requires c =
    let l = c.requires.place_lt_number_limit in
    omega (arith, digits_7 c.args.place l.0, spaced-7 c.args.number l.1)

pub put_byte-requires : goal.put_byte-requires
put_byte-requires c =
    let l = c.requires.place_lt_number_limit in
    omega (arith, digits_7 c.args.place l.0, spaced-7 c.args.number l.1)

pub returns : goal.returns
returns c =
    let l = c.requires.place_lt_number_limit in
    whole-line (wrote_then c.put_decimal-front.ensures c.put_named-end.ensures) c.put_byte.ensures
    (refused-is c.args.place c.args.number) (omega (arith, digits_7 c.args.place l.0, spaced-7 c.args.number l.1))
    c.put_byte.auto.text
