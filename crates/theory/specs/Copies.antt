-- The copies that serve the cycles left, and those that are reached from some start copies (document 01, "Completions and copies").
-- Rests on base Lists and Copy, Completions.
use Rattle.std.specs.Prelude.{◌≡◌, true, false, ℕ, zero, suc, ◌+◌, ◌-◌}
use mathlib.Core.List.{List, [], ◌∷◌, map, Memᴰ}
use Rattle.std.proofs.Math.Option
use Rattle.std.proofs.Math.Option.{Option, some, none}
use Rattle.base.specs.Lists.{keep, each, from}
use Rattle.base.specs.Copy.{Copy, copy_of, is_in, number_from}
use Rattle.theory.specs.Completions.{Graph, IsLow, low_of}

-- A COPY REACHED from some start copies by j edges. "For an edge from copy (u, a) to block v, take a − cost(u)", which is r: "with no completion
-- cost of v at or below it, the edge is diverted; else it goes to v's copy whose low is the largest such cost."
pub data Reached (g : Graph) (starts : List Copy) : ℕ → Copy → Type 0 where
  start : {c : Copy} → Memᴰ c starts → Reached g starts 0 c
  along : {j r : ℕ} {c d : Copy} → Reached g starts j c → Memᴰ d.block (g.next c.block) → c.low ≡ g.cost c.block + r
      → IsLow g d.block r d.low → Reached g starts (suc j) d

-- HOW THEY ARE COMPUTED (proofs Reach: these are exactly the copies reached)

-- the copy of v that serves r cycles left, if any: its low is the largest completion cost at or below r
unfoldable pub copy_for : Graph → ℕ → ℕ → Option Copy
copy_for g r v = Option.map (copy_of v) (low_of g v r)

-- where the edges of a copy go, in chain order: to a copy, or nowhere, the edge being diverted
unfoldable pub targets : Graph → Copy → List (Option Copy)
targets g c = map (copy_for g (c.low - g.cost c.block)) (g.next c.block)

-- a copy put before a list, where it is not in it yet
unfoldable pub add : Copy → List Copy → List Copy
add c cs = elim (is_in c cs) [ true ↦ cs | false ↦ c ∷ cs ]

-- the copies among these that are not in the list yet, put before it
unfoldable pub join : List (Option Copy) → List Copy → List Copy
join [] cs = cs
join (none ∷ os) cs = join os cs
join (some c ∷ os) cs = join os (add c cs)

-- the copies reached from those of a list by at most k edges
unfoldable pub spread : Graph → ℕ → List Copy → List Copy
spread g zero cs = cs
spread g (suc k) cs = let r = spread g k cs in join (each (targets g) r) r

-- all pairs of a block 1 to n and a low up to b, by block and then low
unfoldable pub candidates : ℕ → ℕ → List Copy
candidates n b = each (λ v. map (copy_of v) (from 0 (suc b))) (from 1 n)

-- the start copies of some budgets: for each the copy of block 1 that serves it, if any
unfoldable pub start_copies : Graph → List ℕ → List Copy
start_copies g bs = join (map (λ b. copy_for g b 1) bs) []

-- "all copies reached so, and no other", from some start copies: by block and then low, where no low is above b
unfoldable pub copies_from : Graph → ℕ → ℕ → List Copy → List Copy
copies_from g n b starts = let cs = spread g (suc b) starts in keep (λ c. is_in c cs) (candidates n b)

-- the number that an edge's target has among the copies, 0 for the exception exit
unfoldable pub target_number : List Copy → Option Copy → ℕ
target_number cs none = 0
target_number cs (some c) = number_from 1 c cs
