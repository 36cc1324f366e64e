-- What f writes of the words of a row, word by word.
-- Rests on base Lists, specs Wrote, Due.
use mathlib.Core.Path.{◌≡◌, refl, ap}
use mathlib.Core.List.{List, ◌++◌}
use Prim.Native.Nat.{ℕ, ◌+◌, ◌≤◌, ◌<◌}
use native.Mathlib.Omega.{arith}
use lib.ListN.{length, get_or, drop, drop_of_length-le}
use Rattle.base.specs.Lists.{each}
use Rattle.base.proofs.Lists.{each_next}
use Rattle.digits.specs.Wrote.{Wrote}
use Rattle.digits.proofs.Due.{Due, due-start, due-as, due-room, due-step, due-end}

module _ (f : ℕ → List ℕ) (ws : List ℕ) where
  -- the first i words are written
  pub record Items (old : List ℕ) (at : ℕ) (new : List ℕ) (p i : ℕ) : Type 0 where
    pub upto : i ≤ length ws
    pub due : Due old at (each f ws) new p (each f (drop i ws))

  pub items-start : {old : List ℕ} {at : ℕ} → at + length (each f ws) ≤ length old → Items old at old at 0
  items-start l = record { upto = omega arith; due = due-start (each f ws) (each f ws) l refl }

  module _ {old : List ℕ} {at : ℕ} {new : List ℕ} {p i : ℕ} (I : Items old at new p i) where
    -- the next one
    module _ (l : i < length ws) {x : ℕ} (e : x ≡ get_or ws i 0) where
      next-due : Due old at (each f ws) new p (f x ++ each f (drop (i + 1) ws))
      next-due = due-as _ I.due (each_next f ws i x l e)

      pub items-room : p + length (f x) ≤ length new
      items-room = due-room (f x) (each f (drop (i + 1) ws)) next-due

      pub items-step : {new' : List ℕ} {p' : ℕ} → Wrote new p (f x) new' p' → length new' ≡ length new → Items old at new' p' (i + 1)
      items-step w n = record { upto = omega arith; due = due-step (f x) (each f (drop (i + 1) ws)) next-due w n }

    pub items-end : length ws ≤ i → Wrote old at (each f ws) new p
    unfolding each
    items-end l = due-end I.due (ap (each f) (drop_of_length-le ws l))
