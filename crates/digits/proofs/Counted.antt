-- The loop that writes a part for each of the numbers 1 to n: one turn, and its end.
-- Rests on base Lists and Search, specs Wrote, Due.
use mathlib.Core.Path.{◌≡◌, sym, ap}
use mathlib.Core.List.{List, ◌++◌}
use Prim.Native.Nat.{ℕ, ◌+◌, ◌≤◌, ◌<◌}
use native.Mathlib.Omega.{arith}
use lib.ListN.{length}
use Rattle.base.specs.Lists.{each, from}
use Rattle.base.proofs.Search.{upto, upto-one, upto-more, upto-end}
use Rattle.digits.specs.Wrote.{Wrote}
use Rattle.digits.proofs.Due.{Due, due-start, due-as, due-room, due-step, due-end}

module _ (text : ℕ → List ℕ) (n : ℕ) where
  abbrev whole : List ℕ
  whole = each text (from 1 n)

  -- the parts from i on are due
  pub record PartsDue (old : List ℕ) (at : ℕ) (new : List ℕ) (p i : ℕ) : Type 0 where
    pub least : 1 ≤ i
    pub most : i ≤ n + 1
    pub due : Due old at whole new p (each text (upto i n))

  pub parts-begin : {at : ℕ} {old : List ℕ} → at + length whole ≤ length old → PartsDue old at old at 1
  parts-begin r = record { least = omega arith; most = omega arith; due = due-start whole _ r (ap (each text) (sym (upto-one n))) }

  module _ {at : ℕ} {old new : List ℕ} {p i : ℕ} (L : PartsDue old at new p i) where
    module _ (l : i ≤ n) where
      next-due : Due old at whole new p (text i ++ each text (upto (i + 1) n))
      unfolding each
      next-due = due-as _ L.due (ap (each text) (upto-more i n l))

      pub part_room : p + length (text i) ≤ length new
      part_room = due-room (text i) (each text (upto (i + 1) n)) next-due

      pub parts-on : {new' : List ℕ} {p' : ℕ} → Wrote new p (text i) new' p' → length new' ≡ length new → PartsDue old at new' p' (i + 1)
      parts-on W e =
          record { least = omega arith; most = omega arith; due = due-step (text i) (each text (upto (i + 1) n)) next-due W e }

    pub parts-end : n < i → Wrote old at whole new p
    unfolding each
    parts-end l = due-end L.due (ap (each text) (upto-end i n l))
