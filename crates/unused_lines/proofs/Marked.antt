-- The loop that writes the marked blocks' lines: one turn, and its end.
-- Rests on base Lists and Search, formats Report, digits Wrote, Due and Room, unused Marks, report_lines Lines, specs Room, proofs Line.
use mathlib.Core.Path.{◌≡◌, refl, sym, ap, ◌∙◌}
use mathlib.Core.Bool.{Bool, true, false, not}
use mathlib.Core.List.{List, [], ◌∷◌, ◌++◌}
use Prim.Native.Nat.{ℕ, ◌+◌, ◌-◌, ◌≤◌, ◌<◌}
use native.Mathlib.Omega.{arith}
use borrow.Author.Tests.{eq-eqb, ne_eqb}
use lib.ListN.{length, get_or}
use Rattle.base.specs.Lists.{keep, each, from}
use Rattle.base.proofs.Lists.{keep-e, from-e, from-length}
use Rattle.base.proofs.Search.{upto, upto-one, upto-more, upto-end}
use Rattle.formats.specs.Limits.{most_blocks}
use Rattle.formats.specs.Report.{unused_line}
use Rattle.digits.specs.Wrote.{Wrote}
use Rattle.digits.proofs.Due.{Due, due-start, due-as, due-room, due-step, due-end}
use Rattle.digits.proofs.Room.{each-room}
use Rattle.unused.specs.Marks.{marked, marked_blocks}
use Rattle.report_lines.specs.Lines.{number_limit}
use Rattle.unused_lines.specs.Room.{unused_room}
use Rattle.unused_lines.proofs.Line.{unused-fits}

-- no more are kept than there are
keep-most : {A : Type 0} (f : A → Bool) (xs : List A) → length (keep f xs) ≤ length xs
unfolding keep
keep-most f [] = omega arith
keep-most f (x ∷ xs) = go (f x) refl (keep-most f xs)
  where
    go : (b : Bool) → f x ≡ b → length (keep f xs) ≤ length xs → length (keep f (x ∷ xs)) ≤ length (x ∷ xs)
    go true e below = rw (e, keep) (omega arith)
    go false e below = rw (e, keep) (omega arith)

module _ (place : ℕ) (ms : List ℕ) where
  -- the lines of those blocks of a list that are marked
  abbrev lines_of : List ℕ → List ℕ
  lines_of vs = each (unused_line place) (keep (marked ms) vs)

  abbrev pub all_lines : List ℕ
  all_lines = each (unused_line place) (marked_blocks ms)

  pub marked-fits : place < number_limit → length all_lines ≤ unused_room
  unfolding marked_blocks
  marked-fits l =
      let vs = from 1 most_blocks in
      let lines = each-room (unused_line place) 23 (marked_blocks ms)
      (λ v m. let b = from-e most_blocks 1 v (keep-e (marked ms) vs m).0 in unused-fits place v l (omega arith)) in
      omega (arith, lines, keep-most (marked ms) vs, from-length most_blocks 1)

  -- the lines of the marked blocks from v on are due
  pub record MarkedDue (old new : List ℕ) (p v : ℕ) : Type 0 where
    pub least : 1 ≤ v
    pub most : v ≤ most_blocks + 1
    pub due : Due old 0 all_lines new p (lines_of (upto v most_blocks))

  pub marked-begin : {old : List ℕ} → place < number_limit → unused_room ≤ length old → MarkedDue old old 0 1
  unfolding marked_blocks
  marked-begin l r =
      record {
        least = omega arith;
        most = omega arith;
        due = due-start all_lines _ (omega (arith, marked-fits l)) (ap lines_of (sym (upto-one most_blocks)));
      }

  module _ {old new : List ℕ} {p v : ℕ} (M : MarkedDue old new p v) where
    module _ (l : v ≤ most_blocks) where
      abbrev later : List ℕ
      later = lines_of (upto (v + 1) most_blocks)

      -- a block that is not marked has no line
      pub unmarked-on : get_or ms (v - 1) 0 ≡ 0 → MarkedDue old new p (v + 1)
      unfolding marked keep
      unmarked-on z =
          let no : marked ms v ≡ false = ap not (eq-eqb (get_or ms (v - 1) 0) 0 z) in
          record {
            least = omega arith;
            most = omega arith;
            due = due-as later M.due (ap lines_of (upto-more v most_blocks l) ∙ rw (no, keep));
          }

      module _ (n : get_or ms (v - 1) 0 ≡ 0 → ⊥) where
        next-due : Due old 0 all_lines new p (unused_line place v ++ later)
        unfolding marked keep each
        next-due =
            let yes : marked ms v ≡ true = ap not (ne_eqb (get_or ms (v - 1) 0) 0 n) in
            due-as _ M.due (ap lines_of (upto-more v most_blocks l) ∙ rw (yes, keep))

        pub line-room : p + length (unused_line place v) ≤ length new
        line-room = due-room (unused_line place v) later next-due

        pub marked-on : {new' : List ℕ} {p' : ℕ} → Wrote new p (unused_line place v) new' p' → length new' ≡ length new
            → MarkedDue old new' p' (v + 1)
        marked-on W e =
            record { least = omega arith; most = omega arith; due = due-step (unused_line place v) later next-due W e }

    pub marked-end : most_blocks < v → Wrote old 0 all_lines new p × (p ≤ length new)
    unfolding keep each
    marked-end l =
        let W = due-end M.due (ap lines_of (upto-end v most_blocks l)) in
        (W, omega (arith, W.is-end, M.due.room, M.due.same))
