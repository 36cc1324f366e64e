-- A flat row with room beside it is ready to be weighed.
-- Rests on calls Area, graph_row GraphRow, successor_masks Flat, block_cost States.
use mathlib.Core.List.{List}
use Prim.Native.Nat.{ℕ, ◌≤◌}
use lib.ListN.{length}
use Rattle.formats.specs.Limits.{most_budget}
use Rattle.calls.specs.Area.{area_size}
use Rattle.graph_row.specs.GraphRow.{blocks_in, graph_in, Flat}
use Rattle.block_cost.specs.States.{Ready}
use Rattle.successor_masks.proofs.Flat.{joined}

pub ready : {row : List ℕ} {b : ℕ} {area : List ℕ} → Flat row → (b ≤ most_budget) × (area_size (blocks_in row) b ≤ length area)
    → Ready (graph_in row) (blocks_in row) b area
ready F p = record { graph = joined F; budget = p.0; room = p.1 }
