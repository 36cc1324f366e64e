-- The closing parts, by what a tally and the marks stand for.
-- Rests on base Lists, formats Limits and Report, tally Tallies, specs Standing and Parts.
use mathlib.Core.Path.{◌≡◌, ap, ◌∙◌}
use mathlib.Core.List.{List}
use Prim.Native.Nat.{ℕ, suc, ◌+◌, ◌-◌, ◌*◌, ◌<◌}
use native.Mathlib.Omega.{arith}
use lib.ListN.{take, drop}
use Rattle.base.specs.Lists.{each}
use Rattle.base.proofs.Lists.{chosen-some}
use Rattle.formats.specs.Limits.{most_blocks}
use Rattle.formats.specs.Report.{Figures, total_line, most_line, unused_line, unused_lines}
use Rattle.unused.specs.Marks.{Marks, marked_blocks}
use Rattle.tally.specs.declared.Tally.{Tally}
use Rattle.tally.specs.Tallies.{sums_of, most_from}
use Rattle.catalogue.specs.Standing.{marks_of, Standing}
use Rattle.catalogue.specs.Parts.{closing_part}

module _ {fs : List Figures} {t : Tally} {marks : Marks} (D : Standing fs t marks) where
  pub total-part : total_line (sums_of t) ≡ closing_part fs 0
  unfolding closing_part
  total-part = ap total_line D.summed

  pub most-part : most_line (most_from t.most) ≡ closing_part fs 1
  unfolding closing_part
  most-part = ap most_line D.greatest

  of-sheet : (i : ℕ) → i < t.place → each (unused_line (suc i)) (marked_blocks (marks_of i marks)) ≡ closing_part fs (suc (suc i))
  unfolding closing_part unused_lines
  of-sheet i l =
      let f = chosen-some fs (suc i) (omega arith) (omega (arith, D.place)) in
      ap (each (unused_line (suc i))) (D.unused i f.0 f.1) ∙ rw (f.1, closing_part)

  -- the part of the marks as the code has it
  pub unused-part : (i : ℕ) → i < t.place
      → each (unused_line (i + 1)) (marked_blocks (take (i * most_blocks + most_blocks - i * most_blocks) (drop (i * most_blocks) marks)))
      ≡ closing_part fs (suc (suc i))
  unused-part i l =
      let p : i + 1 ≡ suc i = omega arith in
      let a : i * most_blocks + most_blocks - i * most_blocks ≡ most_blocks = omega arith in
      rw (p, a) (of-sheet i l)
