-- The first copies of a bounded sheet that are of block 1; where the copies are in order, these are the start copies.
-- Rests on formats BoundedSheet.
use Rattle.std.specs.Prelude.{◌≡◌, List, ℕ, ◌+◌, ◌≤◌, ◌<◌}
use Rattle.formats.specs.BoundedSheet.{Heading, block_at}

-- the first k copies are, and the next, if there is one, is not
pub record Leading (h : Heading) (s : List ℕ) (k : ℕ) : Type 0 where
  pub most : k ≤ h.copies
  pub ones : (i : ℕ) → 1 ≤ i → i ≤ k → block_at h s i ≡ 1
  pub next : k < h.copies → block_at h s (k + 1) ≡ 1 → ⊥
