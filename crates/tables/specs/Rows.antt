-- The edges of some copies: each has one for each successor of its block.
-- Rests on base Copy, theory Completions.
use Rattle.std.specs.Prelude.{List, [], ◌∷◌, ℕ, ◌+◌, length}
use Rattle.base.specs.Copy.{Copy}
use Rattle.theory.specs.Completions.{Graph}

unfoldable pub edges_of : Graph → List Copy → ℕ
edges_of g [] = 0
edges_of g (c ∷ cs) = length (g.next c.block) + edges_of g cs
