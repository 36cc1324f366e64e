-- The two calls, case by case: the sheet is refused, the walk is out of shape, or the machine replies, which brings 32 and 31.
-- Rests on base Lists and Orders, theory Machines and Walks, formats RuleKept, Weigh.
use mathlib.Core.Path.{◌≡◌, refl, sym, ◌∙◌}
use mathlib.Core.Bool.{Bool, true, false, not, beq}
use mathlib.Core.List.{List, ◌∷◌, [], ◌++◌}
use mathlib.Core.Option.{Option, some, none, none-ne-some}
use Prim.Native.Nat.{ℕ, ◌≤◌}
use native.Mathlib.Omega.{arith}
use borrow.Author.Tests.{le-ltb}
use lib.Dec.{eqb}
use lib.ListN.{length}
use Rattle.base.specs.Lists.{chosen, nth}
use Rattle.base.specs.Checks.{Order, refused, over, lent_after, outside}
use Rattle.base.proofs.Lists.{chosen-le, chosen-some}
use Rattle.base.proofs.Orders.{Numbered, pick, tested, none_left, over-is, over-stops, over-passes, inside_of, not-outside, refused-lent}
use Rattle.theory.specs.Completions.{low_of}
use Rattle.theory.specs.Machines.{End, going, exit, diverted, Reply, Machine, taken, reply_at, reply}
use Rattle.theory.specs.Walks.{Walk, is_exit, has_ended, InShape, most_moves, monitor, bounded_walk}
use Rattle.formats.specs.Versions.{budgets_in}
use Rattle.formats.specs.GraphSheet.{header, handled_refusal}
use Rattle.formats.specs.Rule11.{bounded_order, bounded_refusal}
use Rattle.formats.proofs.RuleKept.{bounded-numbered}
use Rattle.calls.specs.SheetGraph.{task, graph, read_bounded}
use Rattle.calls.specs.Weigh.{task_area, weigh_order}
use Rattle.calls.proofs.Weigh.{weigh-numbered, weighs}
use Rattle.calls.specs.Moves.{Budgeted, budgeted, reply_with, out_of_shape, Standing, bad_walk, move_order, moved, Move, GuardedInput, on_graph}
use Rattle.calls.specs.Moves.{guarded_order, guarded_reply}
use Rattle.calls.specs.Moves.{BoundedInput, on_bounded, bounded_move_order, bounded_move}

-- 31 is where the list has no such element
unchosen : {X : Type 0} (xs : List X) (k : ℕ) → chosen xs k ≡ none → outside 1 (length xs) k ≡ true
unchosen xs k e = go (outside 1 (length xs) k) refl
  where
    go : (b : Bool) → outside 1 (length xs) k ≡ b → outside 1 (length xs) k ≡ true
    go true p = p
    go false p =
        let l = inside_of 1 (length xs) k p in
        let x = chosen-some xs k l.0 l.1 in
        absurd (none-ne-some x.0 (sym e ∙ x.1))

-- A CALL on a walk with its budget: some order over a part of the input, then 33, 32 and 31 of where the walk stands on a machine
module _ (m : Machine Walk ℕ) where
  -- what the machine replies
  abbrev pub replies : Budgeted → ℕ → Reply Budgeted
  replies s k = reply_with s.number (reply m s.walk k)

  -- under a refusal of its own the machine stays, so that nothing is left to keep
  reply-lent : (s : Budgeted) (k : ℕ)
      → lent_after (reply m s.walk k).answer s (budgeted s.number (reply m s.walk k).after)
      ≡ budgeted s.number (reply m s.walk k).after
  unfolding lent_after reply reply_at taken
  reply-lent s k = by_end (m.stands s.walk)
    where
      by-choice : (o : Option ℕ)
          → lent_after (taken m s.walk o).answer s (budgeted s.number (taken m s.walk o).after)
          ≡ budgeted s.number (taken m s.walk o).after
      by-choice none = refl
      by-choice (some x) = refl

      by_end : (e : End)
          → lent_after (reply_at m e s.walk k).answer s (budgeted s.number (reply_at m e s.walk k).after)
          ≡ budgeted s.number (reply_at m e s.walk k).after
      by_end going = by-choice (chosen (m.targets s.walk) k)
      by_end exit = refl
      by_end diverted = refl

  module _ (i : Standing) (stand : m.stands i.walk.walk ≡ i.walk.walk.end) (same : m.targets i.walk.walk ≡ i.targets) where
    -- 32 and 31 are the machine's
    last-two : refused ((32, λ (i : Standing). has_ended i.walk.walk.end) ∷ (31, λ (i : Standing). outside 1 (length i.targets) i.choice) ∷ []) i
        ≡ (reply m i.walk.walk i.choice).answer
    unfolding reply reply_at taken has_ended
    last-two =
        let r = tested 31 (λ (i : Standing). outside 1 (length i.targets) i.choice) [] i refl (none_left i) in
        tested 32 (λ (i : Standing). has_ended i.walk.walk.end) _ i refl r ∙ rw (stand) (by_end i.walk.walk.end)
      where
        by-choice : (o : Option ℕ) → chosen i.targets i.choice ≡ o
            → pick (outside 1 (length i.targets) i.choice) 31 0 ≡ (taken m i.walk.walk o).answer
        by-choice none e = rw (unchosen i.targets i.choice e)
        by-choice (some x) e =
            let l = chosen-le i.targets i.choice x e in rw (not-outside 1 (length i.targets) i.choice l.0 l.1)

        by_end : (e : End)
            → pick (has_ended e) 32 (pick (outside 1 (length i.targets) i.choice) 31 0) ≡ (reply_at m e i.walk.walk i.choice).answer
        by_end going = rw same (by-choice (chosen i.targets i.choice) refl)
        by_end exit = refl
        by_end diverted = refl

  module _ {I J : Type 0} (f : J → I) (rs : Order I) (n : Numbered rs) (g : J → Standing) (j : J) where
    abbrev s : Budgeted
    s = (g j).walk

    abbrev r : Reply Budgeted
    r = reply_with (g j).walk.number (reply m (g j).walk.walk (g j).choice)

    abbrev order : Order J
    order = over f rs ++ over g move_order

    refuses : (a : ℕ) → (a ≡ 0 → ⊥) → refused order j ≡ a → moved (refused order j) s r ≡ record { answer = a; after = s }
    unfolding moved
    refuses a z e = rw e (λ i. record { answer = a; after = sym (refused-lent s r.after a z) i })

    -- the sheet is refused
    pub sheet-refuses : {a : ℕ} → a ≡ refused rs (f j) → (a ≡ 0 → ⊥)
        → moved (refused (over f rs ++ over g move_order) j) (g j).walk (replies (g j).walk (g j).choice)
        ≡ record { answer = a; after = (g j).walk }
    sheet-refuses {a} e z = refuses a z (over-stops f rs (over g move_order) j (λ q. z (e ∙ q)) ∙ sym e)

    module _ (e : refused rs (f j) ≡ 0) where
      behind : refused order j ≡ refused move_order (g j)
      behind = over-passes f rs (over g move_order) j n e ∙ over-is g move_order j

      -- the walk is out of shape
      pub shape-refuses : bad_walk (g j) ≡ true
          → moved (refused (over f rs ++ over g move_order) j) (g j).walk (replies (g j).walk (g j).choice)
          ≡ record { answer = 33; after = (g j).walk }
      unfolding move_order
      shape-refuses t = refuses 33 (λ z. omega arith) (behind ∙ tested 33 _ _ (g j) t refl)

      -- the machine replies
      pub machine-replies : m.stands (g j).walk.walk ≡ (g j).walk.walk.end → m.targets (g j).walk.walk ≡ (g j).targets
          → bad_walk (g j) ≡ false
          → moved (refused (over f rs ++ over g move_order) j) (g j).walk (replies (g j).walk (g j).choice)
          ≡ replies (g j).walk (g j).choice
      unfolding moved move_order
      machine-replies stand same t =
          let a : refused order j ≡ r.answer = behind ∙ tested 33 _ _ (g j) t (last-two (g j) stand same) in
          rw a (λ i. record { answer = r.answer; after = reply-lent s (g j).choice i })

-- A WALK IN SHAPE is not refused by 33
beq-refl : (a b : Bool) → a ≡ b → not (beq a b) ≡ false
beq-refl a b e = rw e (go b)
  where
    go : (b : Bool) → not (beq b b) ≡ false
    go true = refl
    go false = refl

in-shape : (n x m : ℕ) (s : Walk) → InShape n x m s → out_of_shape n x m s ≡ false
unfolding out_of_shape
in-shape n x m s h =
    rw (not-outside 1 n s.place h.place.0 h.place.1, beq-refl (is_exit s.end) (eqb s.place x) h.ended)
    (le-ltb m s.count h.count)

-- with the number of a budget of the sheet
pub numbered-shape : (i : Standing) → 1 ≤ i.walk.number → i.walk.number ≤ i.budgets
    → InShape i.places i.last i.most i.walk.walk → bad_walk i ≡ false
unfolding bad_walk
numbered-shape i p q h =
    rw (not-outside 1 i.budgets i.walk.number p q) (in-shape i.places i.last i.most i.walk.walk h)

-- THE TWO CALLS on walks in shape and accepted sheets reply as the machines do
pub guarded-as : (w : List ℕ) (h : ℕ) (i : Move) (s : Budgeted) (a : ℕ) → handled_refusal w h ≡ 0 → task_area (task w h) ≤ length i.area
    → low_of (graph w) 1 (task w h).largest ≡ some a
    → 1 ≤ s.number → s.number ≤ length (task w h).budgets
    → InShape (header w).blocks 2 (nth (task w h).budgets s.number) s.walk
    → guarded_reply w h s i ≡ reply_with s.number (reply (monitor (graph w) (nth (task w h).budgets s.number)) s.walk i.choice)
unfolding guarded_reply guarded_order monitor
guarded-as w h i s a e room low p q shape =
    let x : GuardedInput = record { sheet = w; handler = h; area = i.area; walk = s; choice = i.choice } in
    machine-replies (monitor (graph w) (nth (task w h).budgets s.number)) _ weigh_order weigh-numbered on_graph x
    (weighs w h i.area e room a low) refl refl (numbered-shape (on_graph x) p q shape)

pub bounded-as : (t : List ℕ) (s : Budgeted) (k : ℕ) → bounded_refusal t ≡ 0
    → 1 ≤ s.number → s.number ≤ length (budgets_in t)
    → InShape (read_bounded t).size (read_bounded t).last (most_moves (nth (budgets_in t) s.number) s.walk.end) s.walk
    → bounded_move t s k ≡ reply_with s.number (reply (bounded_walk (read_bounded t)) s.walk k)
unfolding bounded_move bounded_move_order bounded_refusal bounded_walk
bounded-as t s k e p q h =
    let x : BoundedInput = record { sheet = t; walk = s; choice = k } in
    machine-replies (bounded_walk (read_bounded t)) _ bounded_order bounded-numbered on_bounded x e refl refl (numbered-shape (on_bounded x) p q h)
