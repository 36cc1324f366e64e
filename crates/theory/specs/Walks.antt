-- The monitor of a graph, the walk over its copies, and the walk on a bounded graph (document 01, "Walks" and "The watch ..").
-- Rests on base Lists and Copy, Completions, Copies, Machines.
use Rattle.std.specs.Prelude.{◌≡◌, Bool, true, false, List, [], ◌∷◌, ℕ, zero, suc, ◌+◌, ◌≤◌, eqb}
use Rattle.std.proofs.Math.Option.{Option, some, none}
use Rattle.base.specs.Lists.{chosen}
use Rattle.base.specs.Copy.{Copy}
use Rattle.theory.specs.Completions.{Graph, fits}
use Rattle.theory.specs.Copies.{targets}
use Rattle.theory.specs.Machines.{End, going, exit, diverted, Machine}

-- "A walk is a place, a count and an end"; so is the monitor's state, whose place is a block
pub record Walk : Type 0 where
  pub place : ℕ
  pub count : ℕ
  pub end : End

-- a walk that sets out from a place
unfoldable pub start_at : ℕ → Walk
start_at p = record { place = p; count = 0; end = going }

-- "The starting walk .. is place 1, count 0, going."
abbrev pub starting : Walk
starting = start_at 1

-- a walk that is diverted before it sets out (document 02, K2: "Where nothing fits it starts diverted at place 1, count 0")
abbrev pub stopped : Walk
stopped = record { place = 1; count = 0; end = diverted }

-- the end of a walk that has entered the place p, where x is the exit's place
unfoldable pub end_at : ℕ → ℕ → End
end_at x p = elim (eqb p x) [ true ↦ exit | false ↦ going ]

-- the largest number of moves within a budget b: of a walk that is going, and of one that has ended
unfoldable pub most_moves : ℕ → End → ℕ
most_moves b going = b
most_moves b exit = suc b
most_moves b diverted = suc b

unfoldable pub is_exit : End → Bool
is_exit going = false
is_exit exit = true
is_exit diverted = false

unfoldable pub has_ended : End → Bool
has_ended going = false
has_ended exit = true
has_ended diverted = true

-- a walk in shape, on n places with the exit's at x, and with a count of at most m (document 01 answers 33 where it is not)
pub record InShape (n x m : ℕ) (s : Walk) : Type 0 where
  pub place : (1 ≤ s.place) × (s.place ≤ n)
  pub ended : is_exit s.end ≡ eqb s.place x
  pub count : s.count ≤ m

-- THE MONITOR of a graph at a budget b (document 01 calls it the watch)
module _ (g : Graph) (b : ℕ) where
  -- the state after an edge to t, by whether t has a completion that costs, with the count, at most b
  unfoldable pub monitor_take : Walk → ℕ → Bool → Walk
  monitor_take s t false = record { place = s.place; count = s.count; end = diverted }
  monitor_take s t true = record { place = t; count = s.count + g.cost t; end = end_at 2 t }

  unfoldable pub monitor : Machine Walk ℕ
  monitor = record {
    stands = λ s. s.end;
    targets = λ s. g.next s.place;
    take = λ s t. monitor_take s t (fits g b s.count t);
  }

-- THE WALK OVER COPIES, which no document names: the link between the monitor and the bounded walk
pub record CopyWalk : Type 0 where
  pub copy : Copy
  pub moves : ℕ
  pub end : End

-- a copy just entered, after m moves
unfoldable pub entered : Copy → ℕ → CopyWalk
entered c m = record { copy = c; moves = m; end = end_at 2 c.block }

unfoldable pub copy_take : CopyWalk → Option Copy → CopyWalk
copy_take u none = record { copy = u.copy; moves = suc u.moves; end = diverted }
copy_take u (some c) = entered c (suc u.moves)

unfoldable pub copy_walk : Graph → Machine CopyWalk (Option Copy)
copy_walk g = record { stands = λ u. u.end; targets = λ u. targets g u.copy; take = copy_take }

-- A BOUNDED GRAPH: the places 1 to size, the block of each, its targets in order, 0 for the exception exit, and the exit's place
pub record Bounded : Type 0 where
  pub size : ℕ
  pub block : ℕ → ℕ
  pub next : ℕ → List ℕ
  pub last : ℕ

-- THE BOUNDED WALK: "Target 0 diverts", the exit's place ends it, and each move counts one
unfoldable pub bounded_take : ℕ → Walk → ℕ → Walk
bounded_take x s zero = record { place = s.place; count = suc s.count; end = diverted }
bounded_take x s (suc t) = record { place = suc t; count = suc s.count; end = end_at x (suc t) }

unfoldable pub bounded_walk : Bounded → Machine Walk ℕ
bounded_walk m = record { stands = λ s. s.end; targets = λ s. m.next s.place; take = bounded_take m.last }

-- A PATH to the exit: the choices that lead along it, its blocks in order, the first included, and what they cost
pub data Path (g : Graph) : ℕ → List ℕ → List ℕ → ℕ → Type 0 where
  here : Path g 2 [] (2 ∷ []) 0
  hop : {v t c n : ℕ} {k : ℕ} {ks bs : List ℕ} → chosen (g.next v) k ≡ some t → Path g t ks bs c → n ≡ g.cost v + c
      → Path g v (k ∷ ks) (v ∷ bs) n
