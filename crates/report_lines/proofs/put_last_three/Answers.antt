-- The three numbers, then the newline.
use Rattle.std.proofs.Common.{arith}
use Rattle.digits.proofs.Due.{wrote_then}
use Rattle.report_lines.specs.Lines.{last_three}
use Rattle.report_lines.proofs.Room.{last-length}
use Rattle.report_lines.proofs.put_last_three.Goals as goal

pub put_three-p-requires : goal.put_three-p-requires
put_three-p-requires c = let a = c.args in omega (arith, last-length a.x a.y a.z)

pub put_byte-requires : goal.put_byte-requires
put_byte-requires c =
    let a = c.args in
    omega (arith, c.put_three-p.ensures.is-end, c.put_three-p.auto.text, last-length a.x a.y a.z)

pub returns : goal.returns
unfolding last_three
returns c = wrote_then c.put_three-p.ensures c.put_byte.ensures
