-- The lines of a catalogue's sheets and behind them the closing parts, in order, are its report.
-- Rests on base Lists, formats Report, specs Parts.
use mathlib.Core.Path.{◌≡◌, refl, ap}
use mathlib.Core.List.{List, [], ◌∷◌, ◌++◌}
use mathlib.Core.Option.{some}
use Prim.Native.Nat.{ℕ, suc, ◌+◌}
use native.Mathlib.Omega.{arith}
use lib.ListN.{length}
use Rattle.base.specs.Lists.{each, chosen, from}
use Rattle.formats.specs.Report.{Figures, sheet_line, unused_lines, each_sheet, report_of}
use Rattle.catalogue.specs.Parts.{closing_part}

-- the sheets' parts: those behind the first i of all
unused-parts : (fs gs : List Figures) (i : ℕ) → ((j : ℕ) → chosen fs (suc (i + j)) ≡ chosen gs (suc j))
    → each_sheet unused_lines (suc i) gs ≡ each (closing_part fs) (from (suc (suc i)) (length gs))
unfolding each_sheet each from chosen closing_part
unused-parts fs [] i at = refl
unused-parts fs (g ∷ gs) i at =
    let z : i + 0 ≡ i = omega arith in
    let e : chosen fs (suc i) ≡ some g = rw z at (at 0) in
    rw (e, closing_part)
    (ap (λ (xs : List ℕ). unused_lines (suc i) g ++ xs)
    (unused-parts fs gs (suc i) (λ j. let s : suc i + j ≡ i + suc j = omega arith in rw s (at (suc j)))))

pub by_parts : (fs : List Figures) → report_of fs ≡ each_sheet sheet_line 1 fs ++ each (closing_part fs) (from 0 (suc (suc (length fs))))
unfolding report_of each from closing_part
by_parts fs =
    ap (λ (xs : List ℕ). each_sheet sheet_line 1 fs ++ (closing_part fs 0 ++ (closing_part fs 1 ++ xs)))
    (unused-parts fs fs 0 (λ j. let s : 0 + j ≡ j = omega arith in rw s refl))
