-- The look-up of block 1, and the call, case by case: the sheet is refused, the budget's number is, the walk sets out or is stopped.
-- Rests on base Orders, formats Handler, calls Weigh, Area and Starts, tables Tables, weigh_sheet Answers, guarded_moves Weighed.
use mathlib.Core.Path.{◌≡◌, refl, sym, ap, ◌∙◌}
use mathlib.Core.Bool.{true, false}
use mathlib.Core.List.{List, [], ◌∷◌}
use mathlib.Core.Option.{Option, some, none}
use Prim.Native.Nat.{ℕ, ◌≤◌}
use native.Mathlib.Omega.{arith}
use lib.ListN.{length}
use Rattle.base.specs.Lists.{any, from, member, nth}
use Rattle.base.specs.Cells.{cell_of}
use Rattle.base.specs.Checks.{refused, lent_after, outside}
use Rattle.base.proofs.Orders.{tested, none_left, over-stops, over-passes, refused-lent, accepted-lent}
use Rattle.theory.specs.Completions.{low_of}
use Rattle.theory.specs.Walks.{start_at, stopped}
use Rattle.formats.specs.GraphSheet.{header, handled_refusal}
use Rattle.formats.proofs.Handler.{accepted-with}
use Rattle.calls.specs.SheetGraph.{task, graph}
use Rattle.calls.specs.Area.{filled, HasCell, Table}
use Rattle.calls.specs.Weigh.{weigh_order, area_after, weighed}
use Rattle.calls.specs.Moves.{Budgeted, budgeted}
use Rattle.calls.specs.Starts.{sets_out, graph_start, Outset, OutsetOn, weighing, number_outside, guarded_start_order, guarded_start}
use Rattle.calls.proofs.Weigh.{weigh-numbered, spared}
use Rattle.calls.proofs.Area.{area-cell}
use Rattle.tables.specs.Tables.{low_in}
use Rattle.tables.proofs.Tables.{low-in}
use Rattle.weigh_sheet.proofs.Answers.{Weighs}
use Rattle.guarded_moves.proofs.Weighed.{area-is, late}

-- BLOCK 1 looked up at b, in an area that is laid out for l
module _ (w : List ℕ) (h : ℕ) (ok : handled_refusal w h ≡ 0) {after : List ℕ} {l : ℕ} (T : Table (graph w) (header w).blocks l after) where
  pub start_cell : (1 ≤ (header w).blocks) × HasCell after (cell_of l 1 l)
  start_cell =
      let n = (accepted-with w h ok).sheet.sound.form.blocks in
      (omega (arith, n.0), area-cell (header w).blocks l 1 l after (omega arith) (omega (arith, n.0)) (omega arith) T.room)

  pub start-low : {b : ℕ} → (b ≤ l) → (k : ℕ) → b ≡ nth (task w h).budgets k → (o : Option ℕ) → o ≡ low_in l after 1 b
      → o ≡ low_of (graph w) 1 (nth (task w h).budgets k)
  start-low {b} fits k q o e =
      let n = (accepted-with w h ok).sheet.sound.form.blocks in
      e ∙ low-in T 1 b (omega arith) (omega (arith, n.0)) fits ∙ ap (low_of (graph w) 1) q

-- THE CALL
module _ (w : List ℕ) (h : ℕ) (area : List ℕ) (s : Budgeted) (k : ℕ) where
  abbrev given : Outset
  given = record { number = k; area = area }

  abbrev input : OutsetOn
  input = record { sheet = w; handler = h; outset = given }

  -- the walk that is set
  abbrev new : Budgeted
  new = budgeted k (graph_start (graph w) (nth (task w h).budgets k))

  -- an answer, a walk and an area are those of the call
  abbrev pub Begins : ℕ → Budgeted → List ℕ → Type 0
  Begins a s' after =
      (a ≡ (guarded_start w h s given).answer) × ((s' ≡ (guarded_start w h s given).walk) × (after ≡ (guarded_start w h s given).area))

  begins : (a : ℕ) {s' : Budgeted} {after : List ℕ} → refused guarded_start_order input ≡ a → s' ≡ lent_after a s new
      → after ≡ area_after (task w h) a area → Begins a s' after
  unfolding guarded_start
  begins a e p q = (
    sym e,
    (p ∙ ap (λ (x : ℕ). lent_after x s new) (sym e), q ∙ ap (λ (x : ℕ). area_after (task w h) x area) (sym e)),
  )

  -- weighing's answer a and the area after it
  module _ {a : ℕ} {after : List ℕ} (W : Weighs w h area a after) where
    pub weigh-refused : (a ≡ 0 → ⊥) → Begins a s after
    unfolding guarded_start_order weighed
    weigh-refused n =
        begins a (over-stops weighing weigh_order _ input (λ z. n (W.0 ∙ z)) ∙ sym W.0) (refused-lent s new a n) (area-is w h area W)

    -- it is 0, and the area is filled
    module _ (z : a ≡ 0) {l : ℕ} (m : l ≡ (task w h).largest) (f : after ≡ filled (graph w) (header w).blocks l area) where
      behind : (c : ℕ) → refused ((33, number_outside) ∷ []) input ≡ c
          → refused guarded_start_order input ≡ c
      unfolding guarded_start_order weighed
      behind c e = over-passes weighing weigh_order _ input weigh-numbered (sym W.0 ∙ z) ∙ e

      pub number-refused : outside 1 (length (task w h).budgets) k ≡ true → Begins 33 s after
      unfolding any member from
      number-refused out =
          begins 33 (behind 33 (tested 33 _ [] input out refl)) (refused-lent s new 33 (λ e. omega arith)) (late w h area W z m f 33 (spared 33))

      -- y is what the look-up of block 1 at the budget finds
      module _ (inside : outside 1 (length (task w h).budgets) k ≡ false) (y : Option ℕ) (o : y ≡ low_of (graph w) 1 (nth (task w h).budgets k)) where
        sets : {s' : Budgeted} → s' ≡ new → Begins 0 s' after
        unfolding any member from
        sets e = begins 0 (behind 0 (tested 33 _ [] input inside (none_left input))) (accepted-lent s new e) (late w h area W z m f 0 (spared 0))

        pub stops : y ≡ none → {s' : Budgeted} → s' ≡ budgeted k stopped → Begins 0 s' after
        unfolding sets_out
        stops n e = sets (e ∙ ap (λ (o : Option ℕ). budgeted k (sets_out o)) (sym n ∙ o))

        pub goes : {z : ℕ} → y ≡ some z → {s' : Budgeted} → s' ≡ budgeted k (start_at 1) → Begins 0 s' after
        unfolding sets_out
        goes n e = sets (e ∙ ap (λ (o : Option ℕ). budgeted k (sets_out o)) (sym n ∙ o))
