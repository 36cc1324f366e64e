-- The three numbers, each behind a space.
use Rattle.std.proofs.Common.{arith}
use Rattle.digits.proofs.Due.{wrote_then}
use Rattle.report_lines.specs.Lines.{three_text}
use Rattle.report_lines.proofs.Room.{three-length}
use Rattle.report_lines.proofs.put_three.Goals as goal

pub put_number-p-requires : goal.put_number-p-requires
put_number-p-requires c = let a = c.args in omega (arith, three-length a.x a.y a.z)

pub put_number-q-requires : goal.put_number-q-requires
put_number-q-requires c =
    let a = c.args in
    omega (arith, c.put_number-p.ensures.is-end, c.put_number-p.auto.text, three-length a.x a.y a.z)

pub put_number-requires : goal.put_number-requires
put_number-requires c =
    let a = c.args in
    omega (
      arith,
      c.put_number-p.ensures.is-end,
      c.put_number-p.auto.text,
      c.put_number-q.ensures.is-end,
      c.put_number-q.auto.text,
      three-length a.x a.y a.z,
    )

pub returns : goal.returns
unfolding three_text
returns c = wrote_then c.put_number-p.ensures (wrote_then c.put_number-q.ensures c.put_number.ensures)
