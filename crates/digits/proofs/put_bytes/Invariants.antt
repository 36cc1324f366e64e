-- The bytes are written one by one.
use Rattle.std.proofs.Common.{◌-◌, ◌≤◌, length, drop}
use Rattle.digits.proofs.Due.{Due}
use Rattle.digits.proofs.put_bytes.Given as goal

abbrev pub invariant-loop-i : goal.invariant-loop-i
invariant-loop-i l = (l.i ≤ length l.bytes) × Due l.initial.text l.at l.bytes l.text l.p (drop l.i l.bytes)

abbrev pub decreases-loop-i : goal.decreases-loop-i
decreases-loop-i l = length l.bytes - l.i
