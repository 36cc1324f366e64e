-- MASKS: in a row of words of 64 bits, two words for each mask, a bit for each of the blocks 1 to 128.
-- Rests on nothing.
use Rattle.std.specs.Prelude.{◌≡◌, Bool, true, false, List, ℕ, ◌+◌, ◌-◌, ◌*◌, ◌/◌, ◌%◌, ◌^◌, ◌≤◌, leb, eqb, length, get_or}

-- whether a word has the bit i
unfoldable pub has_bit : ℕ → ℕ → Bool
has_bit m i = eqb (m / 2 ^ i % 2) 1

-- whether t is in the mask k
unfoldable pub in_mask : List ℕ → ℕ → ℕ → Bool
in_mask row k t = elim (leb t 64) [ true ↦ has_bit (get_or row (2 * k) 0) (t - 1) | false ↦ has_bit (get_or row (2 * k + 1) 0) (t - 65) ]

-- no block is in any mask
unfoldable pub Empty : List ℕ → Type 0
Empty row = (k t : ℕ) → in_mask row k t ≡ false

-- t is put into the mask k, and nothing else is changed
pub record Put (k t : ℕ) (before after : List ℕ) : Type 0 where
  pub same : length after ≡ length before
  pub here : in_mask after k t ≡ true
  pub others : (j u : ℕ) → 1 ≤ u → u ≤ 128 → (j ≡ k → u ≡ t → ⊥) → in_mask after j u ≡ in_mask before j u

-- a block in two masks
pub record Common (a : List ℕ) (i : ℕ) (b : List ℕ) (j : ℕ) : Type 0 where
  pub block : ℕ
  pub range : (1 ≤ block) × (block ≤ 128)
  pub one : in_mask a i block ≡ true
  pub other : in_mask b j block ≡ true

-- x says whether there is one
pub record Meets (a : List ℕ) (i : ℕ) (b : List ℕ) (j : ℕ) (x : Bool) : Type 0 where
  pub yes : x ≡ true → Common a i b j
  pub no : x ≡ false → Common a i b j → ⊥
