-- Sound records hold a well-formed graph, and so a setting for the theory with budgets of which something fits the largest; the task of a sheet
-- without a handler's cost. Rests on theory Setting, formats Budgets, Accepted and Handler, SheetGraph.
use mathlib.Core.Path.{◌≡◌, ap, subst, ◌∙◌}
use mathlib.Core.Logic.{◌≢◌}
use mathlib.Core.List.Memᴰ
use mathlib.Core.List.{List, Memᴰ}
use mathlib.Core.Option.{some}
use Prim.Native.Nat.{ℕ, ◌≤◌}
use native.Mathlib.Omega.{arith}
use Rattle.base.specs.Lists.{last_of}
use Rattle.theory.specs.Completions.{low_of}
use Rattle.theory.specs.Tasks.{task_with}
use Rattle.theory.specs.Setting.{WellFormed, Setting}
use Rattle.formats.specs.Versions.{budgets_in, largest_in, Claimed}
use Rattle.formats.specs.GraphSheet.{Header, header, successors, Sound}
use Rattle.formats.proofs.Budgets.{largest-named, largest-most}
use Rattle.formats.proofs.Accepted.{free, paid, source-inside, target-inside, no-successor}
use Rattle.formats.proofs.Handler.{lowered-zero}
use Rattle.calls.specs.SheetGraph.{graph_at, graph, task}

-- WITHOUT A HANDLER'S COST the budgets are the claimed ones
pub task-zero : (w : List ℕ) → task w 0 ≡ task_with (graph w) (header w).blocks (budgets_in w)
task-zero w = ap (task_with (graph w) (header w).blocks) (lowered-zero (budgets_in w))

pub largest-zero : (w : List ℕ) → (task w 0).largest ≡ largest_in w
largest-zero w = ap last_of (lowered-zero (budgets_in w))

module _ (h : Header) (w : List ℕ) (A : Sound h w) where
  pub well-formed : WellFormed (graph_at h w)
  unfolding graph_at
  well-formed =
      record {
        free = free h w A 1 (omega arith) (omega arith);
        last = free h w A 2 (omega arith) (omega arith);
        paid = λ v t m n.
            let r = source-inside h w A v t m in
            let k : v ≢ 2 = λ e. Memᴰ.not-nil {a = t} (subst (Memᴰ t) (ap (successors h w) e ∙ no-successor h w A) m) in
            paid h w A v (omega (arith, r)) r.1;
        above = λ v t m. (target-inside h w A v t m).0;
        closed = no-successor h w A;
      }

  -- its edges lead to its blocks
  pub inside : (v t : ℕ) → Memᴰ t ((graph_at h w).next v) → t ≤ h.blocks
  unfolding graph_at
  inside v t m = (target-inside h w A v t m).1

  -- its setting with budgets whose largest leaves block 1 a completion
  abbrev pub setting_with : (bs : List ℕ) → Claimed bs → (a : ℕ) → low_of (graph_at h w) 1 (last_of bs) ≡ some a → Setting
  setting_with bs C a e = record {
    task = task_with (graph_at h w) h.blocks bs;
    laws = well-formed;
    inside = inside;
    named = largest-named C;
    most = largest-most C;
    start = a;
    opens = e;
  }
