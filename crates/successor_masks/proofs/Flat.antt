-- A flat row: the edges of its graph join its blocks; its successors one after the other.
-- Rests on graph_row Successors, specs Joined.
use mathlib.Core.Path.{◌≡◌, subst}
use mathlib.Core.List.{List, ◌∷◌, Memᴰ}
use Prim.Native.Nat.{ℕ, suc, ◌<◌}
use lib.ListN.{length, get_or, drop}
use lib.Seq.{drop-cons}
use Rattle.graph_row.specs.GraphRow.{blocks_in, graph_in, Flat}
use Rattle.graph_row.proofs.Successors.{source-block, successor-fits, get-mem}
use Rattle.successor_masks.specs.Joined.{Joined}

pub joined : {row : List ℕ} → Flat row → Joined (graph_in row) (blocks_in row)
joined {row} F = record { blocks = F.blocks; laws = F.laws; source = source-block row; target = successor-fits F }

-- the i-th of a list, counted from 0, which what was read is
pub item-left : (xs items : List ℕ) → items ≡ xs → (i : ℕ) → i < length items
    → (drop i xs ≡ get_or items i 0 ∷ drop (suc i) xs) × Memᴰ (get_or items i 0) xs
item-left xs items e i l =
    subst (λ (ys : List ℕ). (drop i ys ≡ get_or items i 0 ∷ drop (suc i) ys) × Memᴰ (get_or items i 0) ys) e
    (drop-cons items i 0 l, get-mem items i l)
