-- FOR EVERY WAY OF CUTTING AN INPUT into pieces, each given to `keep` with the row and what is kept as the last call left them: what is kept
-- in the end is that of the whole. Rests on specs Held, More.
use mathlib.Core.List.{List, [], ◌++◌}
use Prim.Native.Nat.{ℕ}
use Rattle.kept.specs.Held.{Holding, Held, none}
use Rattle.kept.proofs.More.{held_start}

-- the pieces ps were given, first to last: `nothing` began, and each `keep` promised this
pub data Fed : List ℕ → List ℕ → Holding → Type 0 where
  start : {row : List ℕ} → Fed [] row none
  more : {xs bytes row after : List ℕ} {s r : Holding} → Fed xs row s → ((ys : List ℕ) → Held ys row s → Held (ys ++ bytes) after r)
      → Fed (xs ++ bytes) after r

pub pieces-held : {xs row : List ℕ} {s : Holding} → Fed xs row s → Held xs row s
pieces-held (start {row = row}) = held_start row
pieces-held (more {xs = xs} f h) = h xs (pieces-held f)
