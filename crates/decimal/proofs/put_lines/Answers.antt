-- The lines are written one by one; the rest is due.
use Rattle.std.proofs.Common.{arith}
use Rattle.decimal.proofs.Lines.{part-inside, part_length, line-room, lines-on, lines_end}
use Rattle.decimal.proofs.put_lines.Goals as goal

pub overflow_add-first : goal.overflow_add-first
overflow_add-first c = omega (arith, part-inside _ _ _ c.loop-left.invariant c.loop-left-test.true)

pub slice_bounds-put_line-end : goal.slice_bounds-put_line-end
slice_bounds-put_line-end c = omega (arith, part-inside _ _ _ c.loop-left.invariant c.loop-left-test.true)

pub put_line-place-requires : goal.put_line-place-requires
put_line-place-requires c = record { in_bounds = omega (arith, part_length _ _ _ c.loop-left.invariant c.loop-left-test.true, c.requires.le_width); words_in_bounds = line-room _ _ _ c.loop-left.invariant c.loop-left-test.true }

pub loop-left-preserved : goal.loop-left-preserved
loop-left-preserved c = lines-on _ _ _ c.loop-left.invariant c.loop-left-test.true c.put_line-place.ensures c.put_line-place.auto.text

pub returns : goal.returns
returns c = lines_end _ _ _ c.loop-left.invariant c.loop-left-test.false
