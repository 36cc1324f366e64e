-- The graph that is weighed: well-formed, its edges from and to its blocks, which are numbered from 1.
-- Rests on theory Completions and Setting, formats Limits.
use mathlib.Core.List.{Memᴰ}
use Rattle.std.specs.Prelude.{ℕ, ◌≤◌}
use Rattle.theory.specs.Completions.{Graph}
use Rattle.theory.specs.Setting.{WellFormed}
use Rattle.formats.specs.Limits.{most_blocks}

pub record Joined (g : Graph) (n : ℕ) : Type 0 where
  pub blocks : (2 ≤ n) × (n ≤ most_blocks)
  pub laws : WellFormed g
  pub source : (u t : ℕ) → Memᴰ t (g.next u) → (1 ≤ u) × (u ≤ n)
  -- a successor is not the start
  pub target : (u t : ℕ) → Memᴰ t (g.next u) → (2 ≤ t) × (t ≤ n)
