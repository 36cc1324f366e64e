-- The marks of one sheet in the row of all: those that were put there, and those of an earlier sheet, which stay.
-- Rests on formats Limits, specs Standing.
use mathlib.Core.Path.{◌≡◌, sym, ap, ◌∙◌}
use mathlib.Core.List.{◌++◌}
use Prim.Native.Nat.{ℕ, ◌+◌, ◌*◌, ◌≤◌, ◌<◌}
use native.Mathlib.Omega.{arith}
use lib.ListN.{length, take, drop, length-drop, take-append-drop}
use lib.Seq.{length-take-le, take-append-le, drop-append-le, take_at, drop_at}
use Rattle.formats.specs.Limits.{most_blocks}
use Rattle.catalogue.specs.Standing.{marks_of}
use Rattle.unused.specs.Marks.{Marks}

-- they lie in the front of a row
front-marks : (i : ℕ) (a b : Marks) → i * most_blocks + most_blocks ≤ length a → marks_of i (a ++ b) ≡ marks_of i a
front-marks i a b l =
    ap (take most_blocks) (drop-append-le (i * most_blocks) a b (omega arith))
    ∙ take-append-le most_blocks (drop (i * most_blocks) a) b (omega (arith, length-drop (i * most_blocks) a))

module _ (p : ℕ) (old part rest : Marks) (l : p * most_blocks ≤ length old) where
  before : length (take (p * most_blocks) old) ≡ p * most_blocks
  before = length-take-le (p * most_blocks) old l

  pub own-marks : length part ≡ most_blocks → marks_of p (take (p * most_blocks) old ++ (part ++ rest)) ≡ part
  own-marks e =
      ap (take most_blocks) (drop_at (take (p * most_blocks) old) (part ++ rest) (p * most_blocks) before) ∙ take_at part rest most_blocks e

  pub other-marks : (i : ℕ) → i < p → marks_of i (take (p * most_blocks) old ++ (part ++ rest)) ≡ marks_of i old
  other-marks i q =
      let m : i * most_blocks + most_blocks ≤ length (take (p * most_blocks) old) = omega (arith, before) in
      front-marks i (take (p * most_blocks) old) (part ++ rest) m
      ∙ sym (front-marks i (take (p * most_blocks) old) (drop (p * most_blocks) old) m)
      ∙ ap (marks_of i) (take-append-drop (p * most_blocks) old)
