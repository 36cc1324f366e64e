-- Marked copies are copies of the task, whose lows are completion costs of their blocks.
-- Rests on theory Reach and Completions, graph_row Setting, tables Tables, chain_records Marked.
use mathlib.Core.Path.{◌≡◌, sym, subst}
use mathlib.Core.Bool.{false}
use mathlib.Core.List.{List, Memᴰ}
use Prim.Native.Nat.{ℕ, ◌≤◌}
use native.Mathlib.Omega.{arith}
use lib.ListN.{length}
use Rattle.base.specs.Lists.{is_none, last_of}
use Rattle.base.specs.Cells.{cell_count}
use Rattle.base.specs.Copy.{copy_of}
use Rattle.base.proofs.Lists.{keep-i}
use Rattle.theory.specs.Completions.{low_of}
use Rattle.theory.specs.Tasks.{copies_in}
use Rattle.theory.specs.Copies.{candidates}
use Rattle.theory.proofs.Completions.{completes-complete}
use Rattle.theory.proofs.Reach.{copy-sound, candidate}
use Rattle.formats.specs.Versions.{Claimed}
use Rattle.formats.proofs.Budgets.{largest-small}
use Rattle.calls.proofs.Weigh.{some-low}
use Rattle.tables.specs.Tables.{marked, marked_copies}
use Rattle.graph_row.specs.GraphRow.{blocks_in, graph_in, task_in, Flat}
use Rattle.graph_row.proofs.Setting.{row-setting}
use Rattle.chain_records.specs.Marked.{Marked}

pub served : {row bs : List ℕ} → Flat row → (b : ℕ) {marks : List ℕ} → Claimed bs → b ≡ last_of bs → is_none (low_of (graph_in row) 1 b) ≡ false
    → cell_count (blocks_in row) b ≤ length marks → marked_copies (blocks_in row) b marks ≡ copies_in (task_in row bs b)
    → Marked (graph_in row) (blocks_in row) b marks
unfolding marked_copies
served {row} F b {marks} C l o room e =
    let a = some-low _ o in
    let S = row-setting F C l a.0 a.1 in
    record {
      budget = omega (arith, l, largest-small C);
      room = room;
      serves = λ v x p q r m.
          let c : Memᴰ (copy_of v x) (marked_copies (blocks_in row) b marks)
          = keep-i (λ c. marked b marks c.block c.low) (candidates (blocks_in row) b) (candidate (blocks_in row) b (copy_of v x) (p, q) r) m in
          completes-complete (graph_in row) F.laws (copy-sound S (copy_of v x) (subst (Memᴰ (copy_of v x)) e c)).1.cost;
    }

-- the same by so many blocks
pub served-in : {row bs : List ℕ} → Flat row → {n b : ℕ} {marks : List ℕ} → n ≡ blocks_in row
    → Claimed bs × (b ≡ last_of bs) × (is_none (low_of (graph_in row) 1 b) ≡ false)
    → cell_count n b ≤ length marks → marked_copies n b marks ≡ copies_in (task_in row bs b) → Marked (graph_in row) n b marks
served-in {row} {bs} F {n} {b} {marks} q C r e =
    subst (λ (n : ℕ). Marked (graph_in row) n b marks) (sym q)
    (served F b C.0 C.1 C.2 (subst (λ (n : ℕ). cell_count n b ≤ length marks) q r)
    (subst (λ (n : ℕ). marked_copies n b marks ≡ copies_in (task_in row bs b)) q e))
