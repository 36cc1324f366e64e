-- The text of a margin, by whether there is a next cost; the cost lies above the low and within the budget, so the text is short.
-- Rests on base Lists and Cells, theory Next, formats Limits, Words and Report, calls Area, tables Tables and Places, digits Spaced and Room, specs Margins.
use mathlib.Core.Path.{◌≡◌, refl, sym, ap, ap₂, ◌∙◌}
use mathlib.Core.List.{List, ◌∷◌}
use mathlib.Core.Option.{Option, some, none}
use Prim.Native.Nat.{ℕ, suc, ◌-◌, ◌≤◌, ◌<◌}
use native.Mathlib.Omega.{arith}
use lib.ListN.{length}
use Rattle.std.specs.Prelude.{Some, None, Option as Choice}
use Rattle.std.specs.Option.{IfSome}
use Rattle.base.specs.Options.{option_in}
use Rattle.theory.proofs.Next.{smallest-some}
use Rattle.formats.specs.Limits.{most_blocks, most_budget, most_cells}
use Rattle.formats.specs.Words.{field}
use Rattle.formats.specs.Report.{none_text, margin_text}
use Rattle.base.specs.Cells.{cell_of, cell_count}
use Rattle.calls.specs.Area.{area_size, stands, HasCell}
use Rattle.calls.proofs.Area.{area-cell}
use Rattle.tables.proofs.Places.{few-cells}
use Rattle.tables.specs.Tables.{next_in}
use Rattle.digits.specs.Spaced.{spaced}
use Rattle.digits.proofs.Room.{spaced-3}
use Rattle.margins.specs.Margins.{less_low, margin_at, margin_word}

-- ` none`, and a number
pub word_none : (a : ℕ) {o : Choice ℕ} → o ≡ None → 32 ∷ none_text ≡ margin_word (less_low a (option_in o))
unfolding margin_word margin_text
word_none a e = rw e

pub word_some : (a : ℕ) {n : ℕ} {o : Choice ℕ} → o ≡ Some n → spaced (n - a) ≡ margin_word (less_low a (option_in o))
unfolding margin_word margin_text spaced
word_some a e = rw e

module _ (b v a : ℕ) (area : List ℕ) where
  -- a next cost lies above the low, at or below b
  next-lies : (n : ℕ) → next_in b area v a ≡ some n → (a < n) × (n ≤ b)
  next-lies n e = let w = smallest-some (stands b area v) (b - a) (suc a) n e in omega (arith, w.above, w.below)

  pub next-above : (o : Choice ℕ) → option_in o ≡ next_in b area v a → IfSome o (λ (n : ℕ). a < n)
  next-above None e = tt
  next-above (Some n) e = (next-lies n (sym e)).0

  pub word-length : b ≤ most_budget → length (margin_word (less_low a (next_in b area v a))) ≤ 5
  unfolding margin_word margin_text spaced
  word-length l = go (next_in b area v a) refl
    where
      go : (o : Option ℕ) → next_in b area v a ≡ o → length (margin_word (less_low a (next_in b area v a))) ≤ 5
      go none e = rw e (omega arith)
      go (some n) e = rw e (omega (arith, spaced-3 (n - a) (omega (arith, l, next-lies n e))))

-- what the look-up of the i-th copy's block and low makes its margin
pub word_at : (t area : List ℕ) (b at i : ℕ) {v a : ℕ} (o : Option ℕ) → v ≡ field t at 3 i 0 → a ≡ field t at 3 i 1 → o ≡ next_in b area v a
    → margin_word (less_low a o) ≡ margin_word (margin_at t area b at i)
word_at t area b at i {a = a} o p q e =
    ap (λ (o : Option ℕ). margin_word (less_low a o)) e ∙ ap₂ (λ (x y : ℕ). margin_word (less_low y (next_in b area x y))) p q

-- the costs of a block have cells in an area for the most blocks and the largest budget
pub costs-stand : (b v : ℕ) (area : List ℕ) → b ≤ most_budget → 1 ≤ v → v ≤ most_blocks → most_cells ≤ length area → HasCell area (cell_of b v b)
unfolding area_size cell_count
costs-stand b v area l p q room =
    area-cell most_blocks b v b area p q (omega arith) (omega (arith, few-cells most_blocks b (omega arith) l))
