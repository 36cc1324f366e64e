-- The call, case by case: the sheet is refused, the budget's number or the walk is out of shape, the monitor replies.
-- Rests on base Truth, calls Weigh and Moves, weigh_sheet Answers, walk Shape and Replies, Weighed.
use mathlib.Core.Path.{◌≡◌, sym, ap, ◌∙◌}
use mathlib.Core.Bool.{Bool, true, false}
use mathlib.Core.List.{List}
use Prim.Native.Nat.{ℕ, ◌≤◌}
use lib.ListN.{length}
use Rattle.base.specs.Lists.{any, from, member, nth}
use Rattle.base.specs.Checks.{outside}
use Rattle.base.proofs.Truth.{or_l, or_r}
use Rattle.theory.specs.Machines.{Reply, Machine, reply}
use Rattle.theory.specs.Walks.{Walk, InShape, monitor}
use Rattle.formats.specs.GraphSheet.{header}
use Rattle.calls.specs.SheetGraph.{task, graph}
use Rattle.calls.specs.Area.{filled}
use Rattle.calls.specs.Weigh.{weigh_order, before_weighing, area_after, weighed}
use Rattle.calls.specs.Moves.{Budgeted, reply_with, out_of_shape, bad_walk, Move, GuardedInput, weighing, on_graph, guarded_order, guarded_reply, guarded_move}
use Rattle.calls.proofs.Weigh.{weigh-numbered, spared}
use Rattle.calls.proofs.Moves.{sheet-refuses, shape-refuses, guarded-as}
use Rattle.graph_row.specs.GraphRow.{blocks_in, graph_in}
use Rattle.flatten.specs.Decoded.{Decoded}
use Rattle.weigh_sheet.proofs.Answers.{Weighs}
use Rattle.walk.proofs.Shape.{shape_of}
use Rattle.walk.proofs.Replies.{reply-late}
use Rattle.guarded_moves.proofs.Weighed.{area-is, passed, late}

module _ (w : List ℕ) (h : ℕ) (area : List ℕ) (s : Budgeted) (k : ℕ) where
  abbrev given : Move
  given = record { choice = k; area = area }

  abbrev input : GuardedInput
  input = record { sheet = w; handler = h; area = area; walk = s; choice = k }

  -- the walk's budget, and the monitor
  abbrev B : ℕ
  B = nth (task w h).budgets s.number

  abbrev machine : Machine Walk ℕ
  machine = monitor (graph w) B

  -- an answer, a walk and an area are those of the call
  abbrev pub Guarded : ℕ → Budgeted → List ℕ → Type 0
  Guarded a s' after =
      (a ≡ (guarded_move w h s given).answer) × ((s' ≡ (guarded_move w h s given).walk) × (after ≡ (guarded_move w h s given).area))

  guarded : (r : Reply Budgeted) {after : List ℕ} → guarded_reply w h s given ≡ r → after ≡ area_after (task w h) r.answer area
      → Guarded r.answer r.after after
  unfolding guarded_move
  guarded r e q = (
    ap (λ (x : Reply Budgeted). x.answer) (sym e),
    (ap (λ (x : Reply Budgeted). x.after) (sym e), q ∙ ap (λ (x : Reply Budgeted). area_after (task w h) x.answer area) (sym e)),
  )

  -- weighing's answer a and the area after it
  module _ {a : ℕ} {after : List ℕ} (W : Weighs w h area a after) where
    pub weigh-refused : (a ≡ 0 → ⊥) → Guarded a s after
    unfolding guarded_reply guarded_order weighed
    weigh-refused n =
        guarded (record { answer = a; after = s }) (sheet-refuses machine weighing weigh_order weigh-numbered on_graph input W.0 n)
        (area-is w h area W)

    -- it is 0, and the area is filled
    module _ (z : a ≡ 0) {l : ℕ} (m : l ≡ (task w h).largest) (f : after ≡ filled (graph w) (header w).blocks l area) where
      refused-33 : bad_walk (on_graph input) ≡ true → Guarded 33 s after
      unfolding guarded_reply guarded_order weighed any member from
      refused-33 bad =
          guarded (record { answer = 33; after = s })
          (shape-refuses machine weighing weigh_order weigh-numbered on_graph input (sym W.0 ∙ z) bad) (late w h area W z m f 33 (spared 33))

      pub number-refused : outside 1 (length (task w h).budgets) s.number ≡ true → Guarded 33 s after
      unfolding bad_walk
      number-refused out = refused-33 (or_l _ out)

      -- the row holds the sheet's graph, and the walk's shape is tested with its budget b
      module _ {row : List ℕ} (D : Decoded (header w) w row) {n b : ℕ} {t : Bool} (e : n ≡ blocks_in row) (q : b ≡ nth (task w h).budgets s.number)
          (g : t ≡ out_of_shape n 2 b s.walk) where
        tested-is : {c : Bool} → t ≡ c → out_of_shape (header w).blocks 2 B s.walk ≡ c
        tested-is is = rw (e, D.blocks, q) at (sym g ∙ is)

        sheet-shape : t ≡ false → InShape (header w).blocks 2 B s.walk
        sheet-shape is = shape_of (header w).blocks 2 B s.walk (tested-is is)

        pub shape-refused : t ≡ true → Guarded 33 s after
        unfolding bad_walk
        shape-refused is = refused-33 (or_r (outside 1 (length (task w h).budgets) s.number) (tested-is is))

        pub in-shape : t ≡ false → InShape (blocks_in row) 2 b s.walk
        in-shape is = rw (D.blocks, q) (sheet-shape is)

        pub monitor-replies : (1 ≤ s.number) × (s.number ≤ length (task w h).budgets) → t ≡ false
            → (r : Reply Budgeted) → r ≡ reply_with s.number (reply (monitor (graph_in row) b) s.walk k)
            → Guarded r.answer r.after after
        monitor-replies p is r x =
            let y : r ≡ reply_with s.number (reply machine s.walk k) = rw (D.same, q) at x in
            let P = passed w h area W z in
            let o = guarded-as w h given s P.start P.ok P.room P.opens p.0 p.1 (sheet-shape is) in
            guarded r (o ∙ sym y)
            (late w h area W z m f r.answer (ap (λ (v : Reply Budgeted). before_weighing v.answer) y ∙ reply-late machine s.walk k))
