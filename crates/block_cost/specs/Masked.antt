-- The masks of weighing beside the work area: for each cost the blocks that it has it for.
-- Rests on theory Completions, calls Area, masks Masks, successor_masks Nexts, States. A graph g of the blocks 1 to n, and the budget b.
use Rattle.std.specs.Prelude.{◌≡◌, List, ℕ, ◌+◌, ◌*◌, ◌≤◌, length}
use Rattle.theory.specs.Completions.{Graph}
use Rattle.calls.specs.Area.{stands}
use Rattle.masks.specs.Masks.{in_mask}
use Rattle.successor_masks.specs.Nexts.{Nexts}
use Rattle.block_cost.specs.States.{Fair}

-- the mask c has the blocks that the area stands for the cost c of
pub record Mirror (n b : ℕ) (has area : List ℕ) : Type 0 where
  pub room : 2 * b + 2 ≤ length has
  pub cells : (t c : ℕ) → 1 ≤ t → t ≤ n → c ≤ b → in_mask has c t ≡ stands b area t c

-- all successors are listed, the area is fair, and the masks of the costs say the same
pub record Kept (g : Graph) (n b : ℕ) (nexts has area : List ℕ) : Type 0 where
  pub listed : Nexts g n (n + 1) nexts
  pub fair : Fair g n b area
  pub mirror : Mirror n b has area
