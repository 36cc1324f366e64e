-- How long a sheet's text is at most: six bytes a word; and the answer of a call that writes it.
-- Rests on digits Wrote, Due, Decimals and NumberLine, specs Writing, All, Layouts.
use mathlib.Core.Path.{◌≡◌, sym, ap}
use mathlib.Core.List.{List, [], ◌∷◌, ◌++◌, map}
use Prim.Native.Nat.{ℕ, ◌*◌, ◌≤◌, ◌<◌}
use native.Mathlib.Omega.{arith}
use lib.ListN.{length, get_or, take, drop, length-append, length-drop}
use lib.Seq.{length-take-le}
use Rattle.base.specs.Lists.{each}
use Rattle.formats.specs.Limits.{word_limit}
use Rattle.formats.specs.Listing.{decimal, line}
use Rattle.digits.specs.Wrote.{Wrote}
use Rattle.digits.specs.Spaced.{spaced}
use Rattle.digits.proofs.Due.{wrote_as}
use Rattle.digits.proofs.Decimals.{digits_5}
use Rattle.digits.proofs.NumberLine.{newline_text, numbers-line}
use Rattle.decimal.specs.Writing.{layout, lines_text, sheet_text, total, sheet_room}
use Rattle.decimal.proofs.All.{AllOf, all_of, all_take, all_drop, Words}
use Rattle.decimal.proofs.Layouts.{Filled, layout-total, layout-filled}

numbers-most : (ws : List ℕ) → Words ws → length (each spaced ws) ≤ 6 * length ws
unfolding each spaced AllOf
numbers-most [] h = omega arith
numbers-most (w ∷ ws) h =
    omega (arith, length-append (spaced w) (each spaced ws), digits_5 w (omega (arith, h.0)), numbers-most ws h.1)

line-most : (ws : List ℕ) → 1 ≤ length ws → Words ws → length (line (map decimal ws)) ≤ 6 * length ws
unfolding AllOf
line-most [] l h = absurd (omega arith)
line-most (w ∷ ws) l h =
    omega (
      arith,
      ap length (numbers-line (decimal w) ws),
      length-append (decimal w) (each spaced ws ++ newline_text),
      length-append (each spaced ws) newline_text,
      digits_5 w (omega (arith, h.0)),
      numbers-most ws h.1,
    )

lines-most : (ks ws : List ℕ) → Filled ks → total ks ≤ length ws → Words ws → length (lines_text ks ws) ≤ 6 * total ks
unfolding lines_text total AllOf
lines-most [] ws f l h = omega arith
lines-most (k ∷ ks) ws f l h =
    let t = length-take-le k ws (omega arith) in
    omega (
      arith,
      t,
      length-append (line (map decimal (take k ws))) (lines_text ks (drop k ws)),
      line-most (take k ws) (omega (arith, t, f.0)) (all_take (λ w. w < word_limit) k ws h),
      lines-most ks (drop k ws) f.1 (omega (arith, length-drop k ws)) (all_drop (λ w. w < word_limit) k ws h),
    )

module _ (ws : List ℕ) (h : (i : ℕ) → get_or ws i 0 < word_limit) {ks : List ℕ} (e : layout ws ≡ ks) where
  pub sheet-fits : {n : ℕ} → sheet_room ws ≤ n → length (lines_text ks ws) ≤ n
  sheet-fits l =
      omega (
        arith,
        ap (λ (x : List ℕ). length (lines_text x ws)) e,
        lines-most (layout ws) ws (layout-filled ws) (omega (arith, layout-total ws)) (all_of (λ w. w < word_limit) ws h),
        layout-total ws,
      )

  pub sheet-ends : {old new : List ℕ} {r : ℕ} → sheet_room ws ≤ length old → length new ≡ length old → Wrote old 0 (lines_text ks ws) new r
      → Wrote old 0 (sheet_text ws) new r × (r ≤ length new)
  unfolding sheet_text
  sheet-ends l q W =
      (wrote_as W (ap (λ (x : List ℕ). lines_text x ws) (sym e)), omega (arith, W.is-end, q, sheet-fits l))
