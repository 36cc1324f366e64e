-- A sheet's line, part by part as it is written.
-- Rests on base Lists, formats Listing and Report, digits Spaced and NumberLine, report_lines Lines, margins Margins, specs Line.
use mathlib.Core.Path.{◌≡◌, sym, ap, ◌∙◌}
use mathlib.Core.List.{List, [], ◌∷◌, ◌++◌, append_assoc}
use mathlib.Core.Option.{Option}
use Prim.Native.Nat.{ℕ}
use Rattle.base.specs.Lists.{each}
use Rattle.formats.specs.Listing.{decimal, line}
use Rattle.formats.specs.Report.{margin_text, figures_line, refused_line}
use Rattle.digits.specs.Spaced.{spaced}
use Rattle.digits.proofs.NumberLine.{newline_text, words-line}
use Rattle.report_lines.specs.Lines.{three_text}
use Rattle.report_lines.proofs.Lines.{three-then}
use Rattle.margins.specs.Margins.{margin_word}
use Rattle.sheet_lines.specs.Line.{front_text}

-- ` refused`
abbrev pub refused_name : List ℕ
refused_name = 32 ∷ 114 ∷ 101 ∷ 102 ∷ 117 ∷ 115 ∷ 101 ∷ 100 ∷ []

-- the front, the margins and the newline
pub figures-is : (p n c f : ℕ) (ms : List (Option ℕ)) → (front_text p n c f ++ each margin_word ms) ++ newline_text ≡ figures_line p n c f ms
unfolding figures_line front_text line spaced margin_word
figures-is p n c f ms =
    let rest = each margin_word ms ++ newline_text in
    append_assoc (front_text p n c f) (each margin_word ms) newline_text ∙ append_assoc (decimal p) (three_text n c f) rest
    ∙ ap (λ (w : List ℕ). decimal p ++ w) (three-then n c f rest)
    ∙ ap (λ (w : List ℕ). decimal p ++ (spaced n ++ (spaced c ++ (32 ∷ w)))) (sym (words-line margin_text (decimal f) ms))

pub refused-is : (p n : ℕ) → (decimal p ++ (refused_name ++ spaced n)) ++ newline_text ≡ refused_line p n
unfolding refused_line line spaced
refused-is p n = append_assoc (decimal p) (refused_name ++ spaced n) newline_text
