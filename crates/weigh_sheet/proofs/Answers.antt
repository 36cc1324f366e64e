-- The answers of weighing, half by half, and the work area after them.
-- Rests on base Orders, formats Accepted and Handler, calls Weigh and Area, block_cost States, weigh Flat.
use mathlib.Core.Path.{◌≡◌, refl, sym, ap, ap₂, subst, ◌∙◌}
use mathlib.Core.Bool.{Bool, true, false}
use mathlib.Core.List.{List, []}
use mathlib.Core.Option.{Option, some, none}
use Prim.Native.Nat.{ℕ, suc, ◌+◌, ◌*◌, ◌≤◌, ◌<◌}
use native.Mathlib.Omega.{arith}
use native.Mathlib.Nat.{mul-le-mul}
use native.Mathlib.Numerals.{add-one}
use borrow.Author.Tests.{lt-ltb, le-ltb}
use lib.ListN.{length}
use Rattle.base.specs.Lists.{any, is_none, from, member}
use Rattle.base.specs.Cells.{cell_of, cell_count}
use Rattle.base.specs.Checks.{refused}
use Rattle.base.specs.Refusals.{number_of}
use Rattle.base.specs.declared.refusal.Refusal.{Refusal}
use Rattle.base.proofs.Refusals.{is-refused}
use Rattle.base.proofs.Orders.{pick, tested, none_left, append-stops, append-passes, over-passes, over-stops}
use Rattle.theory.specs.Completions.{low_of}
use Rattle.formats.specs.Limits.{most_budget}
use Rattle.formats.specs.GraphSheet.{header, handled_order, handled_refusal, Sound}
use Rattle.formats.proofs.Handler.{handled-numbered, accepted-with}
use Rattle.calls.specs.SheetGraph.{task, graph}
use Rattle.calls.specs.Area.{area_size, filled, HasCell, Table}
use Rattle.calls.specs.Weigh.{Weighing, handled, task_of, task_area, small_area, nothing_fits, area_order, fit_order, front_order, weigh_order}
use Rattle.calls.specs.Weigh.{before_weighing, area_after, weighed}
use Rattle.calls.proofs.Area.{area-cell, filled-table}
use Rattle.tables.specs.Tables.{low_in}
use Rattle.tables.proofs.Tables.{low-in}
use Rattle.graph_row.specs.GraphRow.{blocks_in, graph_in}
use Rattle.flatten.specs.Decoded.{Decoded}
use Rattle.block_cost.specs.States.{Ready}
use Rattle.weigh.proofs.Flat.{ready}
use Rattle.calls.proofs.Weigh.{front-numbered, front-early, front-passes, late-area, spared}
use Rattle.weigh_sheet.specs.Rows.{fit_answer}

-- THE FRONT: 1 to 8, 41 and 43, then 21
module _ (w : List ℕ) (h : ℕ) (area : List ℕ) where
  abbrev i : Weighing
  i = record { sheet = w; handler = h; area = area }

  pub sheet-refused : (r : Refusal) → number_of r ≡ handled_refusal w h → number_of r ≡ refused front_order i
  unfolding front_order handled_refusal
  sheet-refused r q = q ∙ sym (over-stops handled handled_order area_order i (λ z. is-refused r (q ∙ z)))

  -- the code's product is the length that the sheet asks for
  module _ (ok : 0 ≡ handled_refusal w h) {n b : ℕ} (p : n ≡ (header w).blocks) (q : b ≡ (task w h).largest) where
    pub size_small : n * (b + 1) ≤ 128 * 501
    size_small =
        let A = accepted-with w h (sym ok) in
        mul-le-mul {n₁ = n} {m₁ = b + 1} {n₂ = 128} {m₂ = 501} (omega (arith, A.sheet.sound.form.blocks)) (omega (arith, A.budget))

    asked : n * (b + 1) ≡ task_area (task w h)
    unfolding task_area area_size cell_count
    asked = ap₂ (λ (x y : ℕ). x * y) p (add-one b ∙ ap suc q)

    answer : {t : Bool} → small_area i ≡ t → refused front_order i ≡ pick t 21 0
    unfolding front_order handled_refusal
    answer e = over-passes handled handled_order area_order i handled-numbered (sym ok) ∙ tested 21 small_area [] i e (none_left i)

    pub area-refused : length area < n * (b + 1) → 21 ≡ refused front_order i
    unfolding small_area
    area-refused l = sym (answer (lt-ltb (length area) (task_area (task w h)) (omega (arith, asked))))

    pub area-passes : n * (b + 1) ≤ length area → 0 ≡ refused front_order i
    unfolding small_area
    area-passes l = sym (answer (le-ltb (length area) (task_area (task w h)) (omega (arith, asked))))

-- BEHIND IT: the decoded row of n blocks is weighed, and block 1 looked up at the budget b
module _ (w area : List ℕ) (b : ℕ) (S : Sound (header w) w) (small : b ≤ most_budget) (room : area_size (header w).blocks b ≤ length area) {row : List ℕ}
    (D : Decoded (header w) w row) {n : ℕ} (e : n ≡ (header w).blocks) where
  pub row-ready : Ready (graph_in row) n b area
  row-ready = subst (λ (m : ℕ). Ready (graph_in row) m b area) (D.blocks ∙ sym e) (ready D.flat (small, rw D.blocks room))

  module _ {after : List ℕ} (f : after ≡ filled (graph_in row) n b area) where
    pub area-filled : after ≡ filled (graph w) (header w).blocks b area
    area-filled = f ∙ (λ i. filled (D.same i) (e i) b area)

    table : Table (graph w) (header w).blocks b after
    table = subst (Table (graph w) (header w).blocks b) (sym area-filled) (filled-table (graph w) (header w).blocks b area room)

    pub start_cell : (1 ≤ n) × HasCell after (cell_of b 1 b)
    start_cell =
        let m = S.form.blocks in
        (omega (arith, m, e), area-cell (header w).blocks b 1 b after (omega arith) (omega arith) (omega arith) table.room)

    pub start-low : (x : Option ℕ) → x ≡ low_in b after 1 b → x ≡ low_of (graph w) 1 b
    start-low x e = let m = S.form.blocks in e ∙ low-in table 1 b (omega arith) (omega arith) (omega arith)

-- 9, by what the look-up found
module _ (w : List ℕ) (b : ℕ) {x : Option ℕ} (e : x ≡ low_of (graph w) 1 b) where
  pub fits_not : x ≡ none → 9 ≡ fit_answer (graph w) b
  unfolding fit_answer is_none
  fits_not z = rw (sym e ∙ z, fit_answer, is_none)

  pub fits : {a : ℕ} → x ≡ some a → 0 ≡ fit_answer (graph w) b
  unfolding fit_answer is_none
  fits z = rw (sym e ∙ z, fit_answer, is_none)

-- THE WHOLE
module _ (w : List ℕ) (h : ℕ) (area : List ℕ) where
  abbrev j : Weighing
  j = record { sheet = w; handler = h; area = area }

  -- the sheet passes, with area enough for its largest budget, lowered
  pub front-leaves : 0 ≡ refused front_order j → {b : ℕ} → b ≡ (task w h).largest
      → (b ≤ most_budget) × (area_size (header w).blocks b ≤ length area)
  unfolding task_area
  front-leaves z q =
      let p = front-passes j (sym z) in
      let A = accepted-with w h p.0 in
      (omega (arith, A.budget, q), rw q p.1)

  -- the stage of 9
  pub fit_is : {b r : ℕ} → b ≡ (task w h).largest → r ≡ fit_answer (graph w) b → r ≡ refused fit_order j
  unfolding fit_answer nothing_fits
  fit_is q e = e ∙ ap (fit_answer (graph w)) q ∙ sym (tested 9 (λ i. nothing_fits (task_of i)) [] j refl (none_left j))

  abbrev pub Weighs : ℕ → List ℕ → Type 0
  Weighs r after = (r ≡ (weighed j).answer) × (after ≡ (weighed j).area)

  weighs : (r : ℕ) {after : List ℕ} → refused weigh_order j ≡ r → after ≡ area_after (task w h) r area → Weighs r after
  unfolding weighed
  weighs r e q = (sym e, q ∙ ap (λ (x : ℕ). area_after (task w h) x area) (sym e))

  pub front-refused : (r : Refusal) → number_of r ≡ refused front_order j → Weighs (number_of r) area
  unfolding weigh_order area_after
  front-refused r q =
      let n : refused front_order j ≡ 0 → ⊥ = λ z. is-refused r (q ∙ z) in
      let early : before_weighing (number_of r) ≡ true = ap before_weighing q ∙ front-early j n in
      weighs (number_of r) (append-stops front_order fit_order j n ∙ sym q) (rw (early, area_after))

  -- an answer of 9's stage is not one before 9
  late : {r : ℕ} → r ≡ refused fit_order j → before_weighing r ≡ false
  unfolding any member from nothing_fits refused
  late {r} q = go (nothing_fits (task w h)) refl
    where
      go : (t : Bool) → nothing_fits (task w h) ≡ t → before_weighing r ≡ false
      go true e = ap before_weighing (q ∙ tested 9 (λ i. nothing_fits (task_of i)) [] j e (none_left j)) ∙ spared 9
      go false e = ap before_weighing (q ∙ tested 9 (λ i. nothing_fits (task_of i)) [] j e (none_left j)) ∙ spared 0

  pub front-passed : {r b : ℕ} {after : List ℕ} → 0 ≡ refused front_order j → b ≡ (task w h).largest → r ≡ fit_answer (graph w) b
      → after ≡ filled (graph w) (header w).blocks b area → Weighs r after
  unfolding weigh_order
  front-passed {r} z q e f =
      let a = fit_is q e in
      weighs r (append-passes front_order fit_order j front-numbered (sym z) ∙ sym a)
      (f ∙ ap (λ (x : ℕ). filled (graph w) (header w).blocks x area) q ∙ late-area w h area r (late a))
