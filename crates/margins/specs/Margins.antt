-- The margins of a bounded sheet's copies, by a work area; their text.
-- Rests on base Lists, formats Limits, Words, BoundedSheet and Report, tables Tables.
use Rattle.std.specs.Prelude.{List, ◌∷◌, map, ℕ, ◌+◌, ◌-◌, ◌*◌, ◌≤◌, length}
use Rattle.std.proofs.Math.Option
use Rattle.std.proofs.Math.Option.{Option}
use Rattle.base.specs.Lists.{each, from}
use Rattle.formats.specs.Limits.{most_blocks, most_budget}
use Rattle.formats.specs.Words.{field}
use Rattle.formats.specs.BoundedSheet.{heading}
use Rattle.formats.specs.Report.{margin_text}
use Rattle.tables.specs.Tables.{next_in}

-- what a next cost makes the margin of a low
abbrev pub less_low : ℕ → Option ℕ → Option ℕ
less_low a o = Option.map (λ c. c - a) o

-- of the i-th copy, where copy records stand from the word `at` on and the area has the costs up to b
abbrev pub margin_at : List ℕ → List ℕ → ℕ → ℕ → ℕ → Option ℕ
margin_at t area b at i = less_low (field t at 3 i 1) (next_in b area (field t at 3 i 0) (field t at 3 i 1))

-- of all copies of a bounded sheet, in order
unfoldable pub margins_at : List ℕ → List ℕ → List (Option ℕ)
margins_at t area = let h = heading t in map (margin_at t area h.largest h.records) (from 1 h.copies)

-- a margin behind a space
unfoldable pub margin_word : Option ℕ → List ℕ
margin_word m = 32 ∷ margin_text m

-- those of c copies
unfoldable pub margin_words : List ℕ → List ℕ → ℕ → ℕ → ℕ → List ℕ
margin_words t area b at c = each (λ i. margin_word (margin_at t area b at i)) (from 1 c)

-- c copy records stand from the word `at` on, each with a block that may be and a low up to b
pub record Records (t : List ℕ) (b at c : ℕ) : Type 0 where
  pub budget : b ≤ most_budget
  pub size : at + 3 * c ≤ length t
  pub block : (i : ℕ) → 1 ≤ i → i ≤ c → (1 ≤ field t at 3 i 0) × (field t at 3 i 0 ≤ most_blocks)
  pub low : (i : ℕ) → 1 ≤ i → i ≤ c → field t at 3 i 1 ≤ b
