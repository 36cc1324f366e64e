-- The masks of the successors of each block of a graph g of the blocks 1 to n.
-- Rests on theory Completions, masks Masks.
use Rattle.std.specs.Prelude.{◌≡◌, true, ℕ, ◌+◌, ◌*◌, ◌≤◌, ◌<◌, length}
use mathlib.Core.List.{List, Memᴰ}
use Rattle.theory.specs.Completions.{Graph}
use Rattle.masks.specs.Masks.{in_mask}

-- the mask v has successors of v alone, and all of them where v is below top
pub record Nexts (g : Graph) (n top : ℕ) (nexts : List ℕ) : Type 0 where
  pub room : 2 * n + 2 ≤ length nexts
  pub sound : (v t : ℕ) → 1 ≤ t → t ≤ 128 → in_mask nexts v t ≡ true → Memᴰ t (g.next v)
  pub full : (v t : ℕ) → v < top → Memᴰ t (g.next v) → in_mask nexts v t ≡ true
