-- Local rows serve every sheet within their sizes.
-- Rests on formats Handler, weigh_sheet Rows, specs Sizes.
use mathlib.Core.Path.{◌≡◌, refl, ap, ap₂, ◌∙◌}
use mathlib.Core.List.{List}
use Prim.Native.Nat.{ℕ, zero, suc, ◌+◌, ◌*◌, ◌≤◌}
use native.Mathlib.Omega.{arith}
use native.Mathlib.Nat.{mul-le-mul}
use lib.ListN.{length, get_or, replicate, length-replicate}
use Rattle.base.specs.Cells.{cell_count}
use Rattle.formats.specs.Limits.{most_blocks, most_budget}
use Rattle.formats.specs.GraphSheet.{Header, header, handled_refusal}
use Rattle.formats.proofs.Handler.{accepted-with}
use Rattle.calls.specs.SheetGraph.{task}
use Rattle.descend.specs.Marks.{Clear}
use Rattle.weigh_sheet.specs.Rows.{Rows}
use Rattle.weigh_sheet.proofs.Rows.{zero-rows}
use Rattle.build.specs.Sizes.{Serves}

-- A ROW OF ZEROS has no mark
pub zeros-clear : (n : ℕ) → Clear (replicate n 0)
unfolding Clear
zeros-clear n i = go n i
  where
    go : (n i : ℕ) → get_or (replicate {A = ℕ} n 0) i 0 ≡ 0
    go zero i = refl
    go (suc n) zero = refl
    go (suc n) (suc i) = go n i

-- the cells that were counted
pub cells_are : (w : List ℕ) (h : ℕ) {y : Header} {b x : ℕ} → y ≡ header w → b ≡ (task w h).largest → x ≡ cell_count y.blocks b
    → x ≡ cell_count (task w h).blocks (task w h).largest
cells_are w h p q e = e ∙ ap₂ cell_count (ap (λ (y : Header). y.blocks) p) q

-- THE LARGEST ROWS serve any sheet, with enough cells
pub any-serves : {w : List ℕ} {h : ℕ} → handled_refusal w h ≡ 0 → (x y z k : ℕ) → 897 ≤ x → 258 ≤ y → 1002 ≤ z
    → cell_count (task w h).blocks (task w h).largest ≤ k → Serves x y z k w h
any-serves {w} {h} P x y z k p q r l =
    let A = accepted-with w h P in
    record {
      row = omega (arith, A.sheet.sound.form.blocks.1, A.sheet.sound.form.edges.1);
      nexts = omega (arith, A.sheet.sound.form.blocks.1);
      has = omega (arith, A.budget);
      table = l;
    }

pub most-cells : (w : List ℕ) (h : ℕ) → handled_refusal w h ≡ 0 → cell_count (task w h).blocks (task w h).largest ≤ 64128
unfolding cell_count
most-cells w h P =
    let A = accepted-with w h P in
    mul-le-mul {n₁ = (header w).blocks} {m₁ = suc (task w h).largest} {n₂ = most_blocks} {m₂ = suc most_budget} A.sheet.sound.form.blocks.1
    (omega (arith, A.budget))

-- a sheet of at most n blocks, m edges, k cells and a budget of at most b is served by rows that are long enough for these
pub within-serves : (n m b k x y z : ℕ) {w : List ℕ} {h : ℕ} → (header w).blocks ≤ n → (header w).edges ≤ m → (task w h).largest ≤ b
    → cell_count (task w h).blocks (task w h).largest ≤ k → 1 + 3 * n + m ≤ x → 2 * n + 2 ≤ y → 2 * b + 2 ≤ z → Serves x y z k w h
within-serves n m b k x y z {w} {h} p q r l i j c = record {
  row = omega (arith, p, q, i);
  nexts = omega (arith, p, j);
  has = omega (arith, r, c);
  table = l;
}

-- ROWS OF ZEROS that serve a sheet are long enough, and clear
pub rows-serve : (x y z k : ℕ) {w : List ℕ} {h : ℕ} → Serves x y z k w h
    → Rows w (task w h).largest (replicate x 0) (replicate y 0) (replicate z 0)
    × (((cell_count (task w h).blocks (task w h).largest ≤ length (replicate {A = ℕ} k 0))
    × (cell_count (task w h).blocks (task w h).largest ≤ length (replicate {A = ℕ} k 0)))
    × Clear (replicate k 0))
rows-serve x y z k {w} {h} S =
    let few : cell_count (task w h).blocks (task w h).largest ≤ length (replicate {A = ℕ} k 0) = omega (arith, S.table, length-replicate {A = ℕ} k 0) in (
      zero-rows (header w).blocks (header w).edges (task w h).largest x y z (omega arith) (omega arith) (omega arith) S.row S.nexts S.has,
      ((few, few), zeros-clear k),
    )
