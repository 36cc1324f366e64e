-- What a guarded call, a move or a start, has of a sheet that is weighed: the area under any later answer, its table, and the budget with a number.
-- Rests on base Orders and Numbers, formats Budgets and Handler, calls Weigh and Area, weigh_sheet Answers.
use mathlib.Core.Path.{◌≡◌, sym, ap, ◌∙◌}
use mathlib.Core.Bool.{Bool, false}
use mathlib.Core.List.{List}
use Prim.Native.Nat.{ℕ, ◌≤◌}
use native.Mathlib.Omega.{arith}
use lib.ListN.{length}
use Rattle.base.specs.Lists.{nth}
use Rattle.base.specs.Checks.{outside}
use Rattle.base.proofs.Orders.{inside_of}
use Rattle.base.proofs.Numbers.{nth_in}
use Rattle.formats.specs.Limits.{most_budget}
use Rattle.formats.specs.Versions.{budget_count, budgets_in}
use Rattle.formats.specs.GraphSheet.{Header, header, handled_refusal}
use Rattle.formats.proofs.Budgets.{budgets-there, largest-most}
use Rattle.formats.proofs.Handler.{lowered-count, AcceptedWith, accepted-with}
use Rattle.calls.specs.SheetGraph.{task, graph}
use Rattle.calls.specs.Area.{filled, Table}
use Rattle.calls.specs.Weigh.{task_area, before_weighing, area_after, weighed}
use Rattle.calls.proofs.Area.{filled-table}
use Rattle.calls.proofs.Weigh.{Passed, weighs-e, late-area}
use Rattle.graph_row.specs.GraphRow.{blocks_in, graph_in}
use Rattle.flatten.specs.Decoded.{Decoded}
use Rattle.weigh_sheet.proofs.Answers.{Weighs}

-- a row that the sheet is decoded into has its blocks
pub blocks-decoded : {w row : List ℕ} {g : Header} → g ≡ header w → Decoded (header w) w row → g.blocks ≡ blocks_in row
blocks-decoded q D = ap (λ (x : Header). x.blocks) q ∙ sym D.blocks

-- weighing's answer a and the area after it, with the handler's cost h
module _ (w : List ℕ) (h : ℕ) (area : List ℕ) {a : ℕ} {after : List ℕ} (W : Weighs w h area a after) where
  pub area-is : after ≡ area_after (task w h) a area
  unfolding weighed
  area-is = W.1 ∙ ap (λ (x : ℕ). area_after (task w h) x area) (sym W.0)

  -- it is 0, and the area is filled up to the largest budget, l
  module _ (z : a ≡ 0) where
    pub passed : Passed w h area
    unfolding weighed
    passed = weighs-e (record { sheet = w; handler = h; area = area }) (sym W.0 ∙ z)

    module _ {l : ℕ} (q : l ≡ (task w h).largest) (f : after ≡ filled (graph w) (header w).blocks l area) where
      pub late : (c : ℕ) → before_weighing c ≡ false → after ≡ area_after (task w h) c area
      late c g = f ∙ ap (λ (x : ℕ). filled (graph w) (header w).blocks x area) q ∙ late-area w h area c g

      -- it is the table of the sheet's graph, and of the graph in the row
      pub sheet-table : Table (graph w) (header w).blocks l after
      unfolding task_area
      sheet-table = rw f (filled-table (graph w) (header w).blocks l area (rw q passed.room))

      pub area-table : {row : List ℕ} → Decoded (header w) w row → Table (graph_in row) (blocks_in row) l after
      area-table D = rw (D.same, D.blocks) sheet-table

-- THE BUDGET WITH THE NUMBER k, of the budgets bs: t tells whether k is outside them
module _ (w : List ℕ) (h : ℕ) (ok : handled_refusal w h ≡ 0) {bs : List ℕ} (e : bs ≡ budgets_in w) (k : ℕ) {t : Bool} (g : t ≡ outside 1 (length bs) k) where
  abbrev A : AcceptedWith w h
  A = accepted-with w h ok

  pub number_is : {c : Bool} → t ≡ c → outside 1 (length (task w h).budgets) k ≡ c
  number_is c = ap (λ (n : ℕ). outside 1 n k) (lowered-count h (budgets_in w) ∙ ap length (sym e)) ∙ sym g ∙ c

  module _ (inside : t ≡ false) where
    pub listed : (1 ≤ k) × (k ≤ length (task w h).budgets)
    listed = inside_of 1 (length (task w h).budgets) k (number_is inside)

    pub counted : (1 ≤ k) × (k ≤ budget_count w)
    counted =
        let n : length (task w h).budgets ≡ budget_count w = lowered-count h (budgets_in w) ∙ budgets-there w A.sheet.there in
        (listed.0, omega (arith, listed.1, n))

    -- it is at most the largest, for which the area is laid out
    pub within : {b l : ℕ} → b ≡ nth (task w h).budgets k → l ≡ (task w h).largest → (b ≤ l) × (l ≤ most_budget)
    within p q =
        omega (arith, largest-most A.claims (nth (task w h).budgets k) (nth_in (task w h).budgets k listed.0 listed.1), A.budget)
