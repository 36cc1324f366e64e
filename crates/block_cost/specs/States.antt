-- The work area while it is filled: what is asked of it, which costs it stands for, and what is kept.
-- Rests on theory Completions, formats Limits, calls Area, successor_masks Joined. A graph g of the blocks 1 to n, and the budget b.
use Rattle.std.specs.Prelude.{◌≡◌, true, List, ℕ, ◌≤◌, ◌<◌, length}
use Rattle.theory.specs.Completions.{Graph, completes}
use Rattle.formats.specs.Limits.{most_budget}
use Rattle.calls.specs.Area.{area_size, stands, Filling}
use Rattle.successor_masks.specs.Joined.{Joined}

-- a graph of n blocks, a budget within its limit, and an area with room for both
pub record Ready (g : Graph) (n b : ℕ) (area : List ℕ) : Type 0 where
  pub graph : Joined g n
  pub budget : b ≤ most_budget
  pub room : area_size n b ≤ length area

-- it stands for the exit's cost 0, and for no cost that is no completion cost
pub record Fair (g : Graph) (n b : ℕ) (area : List ℕ) : Type 0 where
  pub ready : Ready g n b area
  pub exit : stands b area 2 0 ≡ true
  pub cells : (v c : ℕ) → 1 ≤ v → v ≤ n → c ≤ b → stands b area v c ≡ true → completes g v c ≡ true

-- it stands for some more costs, and was made of the same area
pub record Wider (g : Graph) (n b : ℕ) (before after : List ℕ) : Type 0 where
  pub fair : Fair g n b after
  pub same : length after ≡ length before
  pub filling : (first : List ℕ) → Filling n b first before → Filling n b first after
  pub stays : (v c : ℕ) → stands b before v c ≡ true → stands b after v c ≡ true

-- no completion cost is missing below c, nor the cost c of the blocks from 2 on that are below v
pub record Settled (g : Graph) (n b : ℕ) (area : List ℕ) (c v : ℕ) : Type 0 where
  pub before : (t d : ℕ) → 1 ≤ t → t ≤ n → d ≤ b → d < c → completes g t d ≡ true → stands b area t d ≡ true
  pub here : (t : ℕ) → 2 ≤ t → t < v → t ≤ n → c ≤ b → completes g t c ≡ true → stands b area t c ≡ true
