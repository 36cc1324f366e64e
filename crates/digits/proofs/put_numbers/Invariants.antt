-- The words are written one by one, each behind a space.
use Rattle.std.proofs.Common.{◌-◌, length}
use Rattle.digits.specs.Spaced.{spaced}
use Rattle.digits.proofs.Items.{Items}
use Rattle.digits.proofs.put_numbers.Given as goal

abbrev pub invariant-loop-i : goal.invariant-loop-i
invariant-loop-i l = Items spaced l.ws l.initial.text l.at l.text l.p l.i

abbrev pub decreases-loop-i : goal.decreases-loop-i
decreases-loop-i l = length l.ws - l.i
