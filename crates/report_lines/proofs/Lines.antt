-- A report's closing lines, part by part as they are written; two pieces as a line.
-- Rests on formats Listing and Report, digits Spaced, Wrote, Due and NumberLine, specs Lines.
use mathlib.Core.Path.{◌≡◌, refl, ap, ◌∙◌}
use mathlib.Core.List.{List, [], ◌∷◌, ◌++◌, append_assoc}
use Prim.Native.Nat.{ℕ, zero, suc, ◌+◌, ◌≤◌}
use native.Mathlib.Omega.{arith}
use lib.ListN.{length}
use Rattle.formats.specs.Listing.{line}
use Rattle.formats.specs.Report.{Most, Sums, total_text, most_text, total_line, most_line}
use Rattle.digits.specs.Spaced.{spaced}
use Rattle.digits.specs.Wrote.{Wrote}
use Rattle.digits.proofs.Due.{wrote_as, wrote_then}
use Rattle.digits.proofs.NumberLine.{newline_text}
use Rattle.report_lines.specs.Lines.{three_text, last_three}

-- `most none`
abbrev pub most_none_text : List ℕ
most_none_text = 109 ∷ 111 ∷ 115 ∷ 116 ∷ 32 ∷ 110 ∷ 111 ∷ 110 ∷ 101 ∷ []

-- three numbers and what stands behind them
pub three-then : (x y z : ℕ) (ys : List ℕ) → three_text x y z ++ ys ≡ spaced x ++ (spaced y ++ (spaced z ++ ys))
unfolding three_text
three-then x y z ys =
    append_assoc (spaced x) (spaced y ++ spaced z) ys ∙ ap (λ (w : List ℕ). spaced x ++ w) (append_assoc (spaced y) (spaced z) ys)

-- behind a word
last-three : (w : List ℕ) (x y z : ℕ) → w ++ last_three x y z ≡ w ++ (spaced x ++ (spaced y ++ (spaced z ++ newline_text)))
unfolding last_three
last-three w x y z = ap (λ (v : List ℕ). w ++ v) (three-then x y z newline_text)

pub total-is : (s : Sums) → total_text ++ last_three s.blocks s.copies s.edges ≡ total_line s
unfolding total_line line spaced
total-is s = last-three total_text s.blocks s.copies s.edges

pub none_is : (m : Most) → m.place ≡ 0 → most_none_text ++ newline_text ≡ most_line m
unfolding most_line line
none_is m z = rw (z, most_line)

pub most-is : (m : Most) → (m.place ≡ 0 → ⊥) → most_text ++ last_three m.place m.copies m.blocks ≡ most_line m
unfolding most_line line spaced
most-is m n = go m.place refl
  where
    go : (p : ℕ) → m.place ≡ p → most_text ++ last_three m.place m.copies m.blocks ≡ most_line m
    go zero e = absurd (n e)
    go (suc p) e = rw (e, most_line) (last-three most_text (suc p) m.copies m.blocks)

-- two pieces from the row's start on, the second in its room, are a line
pub whole-line : {old mid new xs ys zs : List ℕ} {p r : ℕ} → Wrote old 0 xs mid p → Wrote mid p ys new r → xs ++ ys ≡ zs
    → p + length ys ≤ length mid → length new ≡ length mid → Wrote old 0 zs new r × (r ≤ length new)
whole-line U W e l q = (wrote_as (wrote_then U W) e, omega (arith, W.is-end))
