-- Chains whose edges are consecutive numbers, followed one after the other, and none of which strays.
-- Rests on base Lists, formats Words.
use Rattle.std.specs.Prelude.{◌≡◌, Bool, false, ◌&&◌, not, List, ◌++◌, ℕ, suc, ◌-◌, ◌≤◌, Option, Some, None, IfSome}
use Rattle.base.specs.Lists.{any, from, equal}
use Rattle.formats.specs.Words.{follow}

-- the edges e, e + 1, .. up to m
abbrev pub edges_up_to : ℕ → ℕ → List ℕ
edges_up_to m e = from e (suc m - e)

-- the edges es that are met are these, in this order, and none of them strays
unfoldable pub in_turn : (ℕ → Bool) → ℕ → ℕ → List ℕ → Bool
in_turn stray m e es = equal es (edges_up_to m e) && not (any stray (edges_up_to m e))

-- the edges es that are met behind a chain go on from the edge that it leaves due, if it leaves one
abbrev pub goes_on : (ℕ → Bool) → ℕ → Option ℕ → List ℕ → Bool
goes_on stray m None es = false
goes_on stray m (Some e) es = in_turn stray m e es

-- the chain from x on has the edges from e up to the one before that which is due behind it, or none is and it has others, or one that strays;
-- whatever edges are met behind it
pub record Consecutive (next : ℕ → ℕ) (stray : ℕ → Bool) (m x e : ℕ) (end : Option ℕ) : Type 0 where
  pub within : IfSome end (λ d. (1 ≤ d) × (d ≤ suc m))
  pub then : (es : List ℕ) → in_turn stray m e (follow next (suc m) x ++ es) ≡ goes_on stray m end es
