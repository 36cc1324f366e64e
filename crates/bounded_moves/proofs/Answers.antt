-- The call, case by case: the sheet is refused, the budget's number or the walk is out of shape, the bounded walk replies.
-- Rests on base Truth, formats RuleKept, calls Moves, walk Shape, specs Bounded.
use mathlib.Core.Path.{◌≡◌, sym, ap, ◌∙◌}
use mathlib.Core.Bool.{Bool, true, false}
use mathlib.Core.List.{List}
use Prim.Native.Nat.{ℕ, suc, ◌≤◌}
use native.Mathlib.Omega.{arith}
use lib.ListN.{length}
use Rattle.base.specs.Lists.{nth}
use Rattle.base.specs.Checks.{outside}
use Rattle.base.specs.Refusals.{number_of}
use Rattle.base.specs.declared.refusal.Refusal.{Refusal}
use Rattle.base.proofs.Refusals.{is-refused}
use Rattle.base.proofs.Orders.{inside_of}
use Rattle.base.proofs.Truth.{or_l, or_r}
use Rattle.theory.specs.Machines.{Reply, Machine, reply}
use Rattle.theory.specs.Walks.{Walk, InShape, most_moves, bounded_walk}
use Rattle.theory.proofs.Shape.{most-fits}
use Rattle.formats.specs.Limits.{most_budget}
use Rattle.formats.specs.Versions.{budgets_in}
use Rattle.formats.specs.BoundedSheet.{Heading, heading}
use Rattle.formats.specs.Rule11.{copies_of, bounded_order, bounded_refusal}
use Rattle.formats.proofs.RuleKept.{bounded-numbered}
use Rattle.calls.specs.SheetGraph.{read_bounded}
use Rattle.calls.specs.Moves.{Budgeted, reply_with, out_of_shape, bad_walk, BoundedInput, on_bounded, bounded_move_order, bounded_move}
use Rattle.calls.proofs.Moves.{sheet-refuses, shape-refuses, bounded-as}
use Rattle.bounded_check.specs.Ruled.{IsRuled}
use Rattle.walk.proofs.Shape.{shape_of}
use Rattle.bounded_moves.specs.Bounded.{bounded_at}

module _ (t : List ℕ) (s : Budgeted) (k : ℕ) where
  abbrev at : BoundedInput
  at = record { sheet = t; walk = s; choice = k }

  abbrev walker : Machine Walk ℕ
  walker = bounded_walk (read_bounded t)

  -- an answer and a walk are those of the call
  abbrev pub Answers : ℕ → Budgeted → Type 0
  Answers a s' = (a ≡ (bounded_move t s k).answer) × (s' ≡ (bounded_move t s k).after)

  answers : (r : Reply Budgeted) → bounded_move t s k ≡ r → Answers r.answer r.after
  answers r e = (ap (λ (x : Reply Budgeted). x.answer) (sym e), ap (λ (x : Reply Budgeted). x.after) (sym e))

  pub rule-refused : (r : Refusal) → number_of r ≡ bounded_refusal t → Answers (number_of r) s
  unfolding bounded_move bounded_move_order bounded_refusal
  rule-refused r q =
      answers (record { answer = number_of r; after = s })
      (sheet-refuses walker (λ i. i.sheet) bounded_order bounded-numbered on_bounded at q (is-refused r))

  -- on a sheet that keeps rule 11
  module _ {h : Heading} {bs es : List ℕ} (S : IsRuled h bs es t) where
    refused-33 : bad_walk (on_bounded at) ≡ true → Answers 33 s
    unfolding bounded_move bounded_move_order bounded_refusal
    refused-33 h =
        answers (record { answer = 33; after = s })
        (shape-refuses walker (λ i. i.sheet) bounded_order bounded-numbered on_bounded at S.kept h)

    -- the budget's number, as it is tested
    module _ {p : Bool} (P : p ≡ outside 1 (length bs) s.number) where
      numbered : {c : Bool} → p ≡ c → outside 1 (length (budgets_in t)) s.number ≡ c
      numbered z = ap (λ (l : List ℕ). outside 1 (length l) s.number) (sym S.listed.budgets) ∙ sym P ∙ z

      pub number-refused : p ≡ true → Answers 33 s
      unfolding bad_walk
      number-refused z = refused-33 (or_l _ (numbered z))

      -- the walk's shape, as it is tested with the exit at x and the budget b
      module _ {x b m : ℕ} {o : Bool} (y : x ≡ nth (copies_of h t 2) 1) (q : b ≡ nth (budgets_in t) s.number)
          (u : m ≡ most_moves b s.walk.end) (g : o ≡ out_of_shape h.copies x m s.walk) where
        -- what the sheet's own header, exit and budget say
        abbrev n : ℕ
        n = (heading t).copies

        abbrev last : ℕ
        last = nth (copies_of (heading t) t 2) 1

        abbrev most : ℕ
        most = most_moves (nth (budgets_in t) s.number) s.walk.end

        exit-is : x ≡ last
        exit-is = rw S.header at y

        tested : {c : Bool} → o ≡ c → out_of_shape n last most s.walk ≡ c
        tested z = rw (S.header, exit-is, u, q) at (sym g ∙ z)

        sheet-shape : o ≡ false → InShape n last most s.walk
        sheet-shape z = shape_of n last most s.walk (tested z)

        pub shape-refused : o ≡ true → Answers 33 s
        unfolding bad_walk read_bounded
        shape-refused z = refused-33 (or_r (outside 1 (length (budgets_in t)) s.number) (tested z))

        -- the walk is on one of the copies, and its moves are few
        pub stands_on : b ≤ most_budget → o ≡ false → ((1 ≤ s.walk.place) × (s.walk.place ≤ h.copies)) × (s.walk.count ≤ suc most_budget)
        stands_on l z =
            let W = sheet-shape z in
            let copies = ap (λ (h : Heading). h.copies) S.header in
            ((W.place.0, omega (arith, W.place, copies)), omega (arith, W.count, q, most-fits (nth (budgets_in t) s.number) s.walk.end))

        pub walk-replies : p ≡ false → o ≡ false
            → (r : Reply Budgeted) → r ≡ reply_with s.number (reply (bounded_walk (bounded_at h x t)) s.walk k)
            → Answers r.answer r.after
        unfolding read_bounded
        walk-replies z w r u =
            let c = inside_of 1 (length (budgets_in t)) s.number (numbered z) in
            answers r (bounded-as t s k S.kept c.0 c.1 (sheet-shape w) ∙ sym (rw (S.header, exit-is) at u))
