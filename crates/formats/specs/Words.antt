-- Rows of words, and chains of records that are linked by a next number.
-- Rests on base Lists.
use Rattle.std.specs.Prelude.{Bool, ◌||◌, not, ℕ, zero, suc, ◌+◌, ◌-◌, ◌*◌, ◌≤◌, ltb, get_or}
use mathlib.Core.List.{List, [], ◌∷◌, map, Memᴰ}
use Rattle.base.specs.Lists.{any, all, from, member, distinct}

-- the word at a place counted from 0, 0 beyond the row
abbrev pub word : List ℕ → ℕ → ℕ
word w i = get_or w i 0

-- word k, counted from 0, of record i, where records of so many words stand from the word `base` on; records are numbered from 1
abbrev pub field : List ℕ → ℕ → ℕ → ℕ → ℕ → ℕ
field w base width i k = word w (base + width * (i - 1) + k)

-- the record numbers of a chain from e on, "zero ends the chain"; at most k of them, for in a damaged sheet a chain may not end
unfoldable pub follow : (ℕ → ℕ) → ℕ → ℕ → List ℕ
follow next zero e = []
follow next (suc k) zero = []
follow next (suc k) (suc e) = suc e ∷ follow next k (next (suc e))

-- the number of records of a chain, "zero if empty, else one more than the rest"; at most k of them
unfoldable pub chain_length : (ℕ → ℕ) → ℕ → ℕ → ℕ
chain_length next zero e = 0
chain_length next (suc k) zero = 0
chain_length next (suc k) (suc e) = suc (chain_length next k (next (suc e)))

-- no record number above m is met on a chain from e on
pub record Inside (next : ℕ → ℕ) (m k e : ℕ) : Type 0 where
  pub is-inside : (x : ℕ) → Memᴰ x (follow next k e) → x ≤ m

-- following all chains meets a record number above m, or a record twice, or misses one of the records 1 to m
unfoldable pub unsound : ℕ → List ℕ → Bool
unsound m met = any (λ e. ltb m e) met || (not (distinct met) || not (all (λ e. member e met) (from 1 m)))

-- EDGE RECORDS, as both kinds of sheet have them: two words, target and next, from the word `base` on
module _ (w : List ℕ) (base : ℕ) where
  abbrev pub target_from : ℕ → ℕ
  target_from e = field w base 2 e 0

  abbrev pub next_from : ℕ → ℕ
  next_from e = field w base 2 e 1

  -- the edges from e on, at most k of them, and their targets
  abbrev pub edges_from : ℕ → ℕ → List ℕ
  edges_from k e = follow next_from k e

  abbrev pub targets_from : ℕ → ℕ → List ℕ
  targets_from k e = map target_from (edges_from k e)
