-- The bytes are read one by one; the measure is the bytes left.
use Rattle.std.proofs.Common.{◌≡◌, ◌-◌, ◌≤◌, length, take}
use Rattle.word_reading.specs.Held.{Able}
use Rattle.reading.specs.Fed.{Feeds}
use Rattle.reading.proofs.feed.Given as goal

abbrev pub invariant-loop-i : goal.invariant-loop-i
invariant-loop-i l = (l.i ≤ length l.text) × (length l.out ≡ length l.initial.out) × Able l.t l.out × Feeds (take l.i l.text) l.initial.out l.initial.t l.out l.t

abbrev pub decreases-loop-i : goal.decreases-loop-i
decreases-loop-i l = length l.text - l.i
