-- The copies' lines one by one; each turn writes the next one, and the rest is due.
use Rattle.std.proofs.Common.{arith}
use Rattle.digits.proofs.Counted.{parts-begin, part_room, parts-on, parts-end}
use Rattle.text.proofs.write_copies.Goals as goal

pub loop-copy-init : goal.loop-copy-init
loop-copy-init c = parts-begin _ _ c.requires.edges_in_bounds

pub write_copy-place-requires : goal.write_copy-place-requires
write_copy-place-requires c = record { readable = c.requires.readable; le_copy = (c.loop-copy.invariant.least, omega arith); copy_in_bounds = part_room _ _ c.loop-copy.invariant (omega arith) }

pub loop-copy-preserved : goal.loop-copy-preserved
loop-copy-preserved c = parts-on _ _ c.loop-copy.invariant (omega (arith, c.loop-copy-test.true)) c.write_copy-place.ensures c.write_copy-place.auto.text

pub returns : goal.returns
returns c = parts-end _ _ c.loop-copy.invariant (omega (arith, c.loop-copy-test.false))
