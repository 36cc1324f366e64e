-- THE MARGIN OF A COPY, and what it says (document 02, K5): how many more cycles open another path through it.
-- Rests on base Copy, Completions, Tasks.
use Rattle.std.specs.Prelude.{List, map, ℕ, ◌+◌, ◌-◌, ◌≤◌, ◌<◌}
use Rattle.std.proofs.Math.Option
use Rattle.std.proofs.Math.Option.{Option, some, none}
use Rattle.base.specs.Copy.{Copy}
use Rattle.theory.specs.Completions.{Graph, IsLow, next_of}
use Rattle.theory.specs.Tasks.{Task, copies_in}

-- "that next cost less its low, or `none`", the next cost being "up to the largest budget"
abbrev pub margin_of : Task → Copy → Option ℕ
margin_of T c = Option.map (λ a. a - c.low) (next_of T.graph T.largest c.block c.low)

-- "the margin of every copy, in order"
unfoldable pub margins_in : Task → List (Option ℕ)
margins_in T = map (margin_of T) (copies_in T)

-- WHAT IT SAYS of a copy (v, a), b being the largest budget (proofs Margins: every margin does, and nothing else would)
pub data Says (g : Graph) (b v a : ℕ) : Option ℕ → Type 0 where
  -- with m cycles more, and no fewer, there is a completion of v that (v, a) does not serve
  opens : (m : ℕ) → 0 < m → a + m ≤ b → IsLow g v (a + m) (a + m) → ((r : ℕ) → a ≤ r → r < a + m → IsLow g v r a) → Says g b v a (some m)
  -- no more cycles within the largest budget open one
  never : ((r : ℕ) → a ≤ r → r ≤ b → IsLow g v r a) → Says g b v a none
