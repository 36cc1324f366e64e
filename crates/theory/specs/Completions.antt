-- Graphs, completions of blocks by their costs, and the look-up of a cost (document 01, "Completions and copies").
-- Rests on base Lists.
use Rattle.std.specs.Prelude.{◌≡◌, Bool, true, false, ◌&&◌, ◌||◌, ℕ, zero, suc, ◌+◌, ◌-◌, ◌≤◌, ◌<◌, leb, eqb}
use mathlib.Core.List.{List, Memᴰ}
use Rattle.std.proofs.Math.Option.{Option, some, none}
use Rattle.base.specs.Lists.{any, from}

-- a block's cost, and its successors in order; block 1 is the start, block 2 the exit
pub record Graph : Type 0 where
  pub cost : ℕ → ℕ
  pub next : ℕ → List ℕ

-- "A completion of block v is a path from v to the exit; its cost sums all its blocks, v included."
pub data Completion (g : Graph) : ℕ → ℕ → Type 0 where
  exit : Completion g 2 0
  step : {v t c n : ℕ} → Memᴰ t (g.next v) → Completion g t c → n ≡ g.cost v + c → Completion g v n

-- a is the largest completion cost of v at or below r (document 01 calls it low)
pub record IsLow (g : Graph) (v r a : ℕ) : Type 0 where
  pub cost : Completion g v a
  pub below : a ≤ r
  pub most : (c : ℕ) → Completion g v c → c ≤ r → c ≤ a

-- v has no completion cost at or below r
abbrev pub NoLow : Graph → ℕ → ℕ → Type 0
NoLow g v r = (c : ℕ) → Completion g v c → c ≤ r → ⊥

-- a is the smallest completion cost of v above r, at or below b (document 02, K5)
pub record IsNext (g : Graph) (b v r a : ℕ) : Type 0 where
  pub cost : Completion g v a
  pub above : r < a
  pub below : a ≤ b
  pub least : (c : ℕ) → Completion g v c → r < c → a ≤ c

-- v has no completion cost above r and at or below b
abbrev pub NoNext : Graph → ℕ → ℕ → ℕ → Type 0
NoNext g b v r = (c : ℕ) → Completion g v c → r < c → c ≤ b → ⊥

-- HOW THEY ARE COMPUTED (proofs Completions: these are exactly the above)

-- a path of at most k edges from v to the exit costs c
unfoldable pub within : Graph → ℕ → ℕ → ℕ → Bool
within g zero v c = eqb v 2 && eqb c 0
within g (suc k) v c = (eqb v 2 && eqb c 0) || (leb (g.cost v) c && any (λ t. within g k t (c - g.cost v)) (g.next v))

-- v has a completion costing c: where every block but the start and the exit costs something, such a path has at most c + 1 edges
unfoldable pub completes : Graph → ℕ → ℕ → Bool
completes g v c = within g (suc c) v c

-- the largest number up to r that passes a test
unfoldable pub largest : (ℕ → Bool) → ℕ → Option ℕ
largest f zero = elim (f zero) [ true ↦ some zero | false ↦ none ]
largest f (suc r) = elim (f (suc r)) [ true ↦ some (suc r) | false ↦ largest f r ]

-- the smallest of the k numbers from a on that passes a test
unfoldable pub smallest : (ℕ → Bool) → ℕ → ℕ → Option ℕ
smallest f a zero = none
smallest f a (suc k) = elim (f a) [ true ↦ some a | false ↦ smallest f (suc a) k ]

-- A LOOK-UP among the numbers up to b that pass a test: the largest at or below r, and the smallest above it
pub record LookUp : Type 0 where
  pub low : Option ℕ
  pub next : Option ℕ

abbrev pub look_up : (ℕ → Bool) → ℕ → ℕ → LookUp
look_up f b r = record { low = largest f r; next = smallest f (suc r) (b - r) }

-- the largest completion cost of v at or below r
unfoldable pub low_of : Graph → ℕ → ℕ → Option ℕ
low_of g v r = largest (completes g v) r

-- the smallest completion cost of v above r, at or below b
unfoldable pub next_of : Graph → ℕ → ℕ → ℕ → Option ℕ
next_of g b v r = (look_up (completes g v) b r).next

-- v has a completion that costs, with n cycles more, at most b
unfoldable pub fits : Graph → ℕ → ℕ → ℕ → Bool
fits g b n v = any (λ c. leb (c + n) b && completes g v c) (from 0 (suc b))
