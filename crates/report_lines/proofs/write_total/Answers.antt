-- The word, then the three sums.
use Rattle.std.proofs.Common.{arith}
use Rattle.report_lines.proofs.Lines.{total-is, whole-line}
use Rattle.report_lines.proofs.Room.{last-room}
use Rattle.report_lines.proofs.write_total.Goals as goal

pub put_last_three-requires : goal.put_last_three-requires
put_last_three-requires c =
    let l = c.requires.blocks_lt_number_limit in
    last-room _ _ _ _ (omega arith) (omega arith) (omega arith) (omega (arith, c.put_bytes-p.ensures.is-end, c.put_bytes-p.auto.text))

pub returns : goal.returns
returns c =
    whole-line c.put_bytes-p.ensures c.put_last_three.ensures (total-is _) ((let l = c.requires.blocks_lt_number_limit in
    last-room _ _ _ _ (omega arith) (omega arith) (omega arith) (omega (arith, c.put_bytes-p.ensures.is-end, c.put_bytes-p.auto.text)))) c.put_last_three.auto.text
