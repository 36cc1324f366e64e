-- The blocks one by one; each turn writes the line of a marked one, and the rest is due.
use Rattle.std.proofs.Common.{arith}
use Rattle.unused_lines.proofs.Marked.{marked-begin, line-room, unmarked-on, marked-on, marked-end}
use Rattle.unused_lines.proofs.write_unused.Goals as goal
use Rattle.unused_lines.proofs.write_unused.Goals.{then-unused, else-unused}

pub loop-block-init : goal.loop-block-init
loop-block-init c = marked-begin _ _ c.requires.place_lt_number_limit c.requires.unused_room_in_bounds

pub put_unused-end-requires : goal.put_unused-end-requires
put_unused-end-requires c = line-room _ _ c.loop-block.invariant (omega arith) c.if-unused.true

pub loop-block-preserved : goal.loop-block-preserved
loop-block-preserved c =
    let M = c.loop-block.invariant in
    elim c.if-unused.branch [
      | then-unused w ↦
          rw (w.text-is, w.end-is) (marked-on _ _ M (omega arith) w.if-unused.true w.put_unused-end.ensures w.put_unused-end.auto.text)
      | else-unused w ↦ rw (w.text-is, w.end-is) (unmarked-on _ _ M (omega arith) w.if-unused.false)
    ]

pub returns : goal.returns
returns c = marked-end _ _ c.loop-block.invariant (omega arith)
