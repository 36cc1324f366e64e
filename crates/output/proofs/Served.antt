-- What a build found is the copies of its task, with its edges and its entries.
-- Rests on chain_records Founds, heading_words Entries.
use mathlib.Core.Path.{◌≡◌, ap, ◌∙◌}
use mathlib.Core.List.{List, map}
use lib.ListN.{length}
use Rattle.base.specs.Copy.{Copy}
use Rattle.theory.specs.Copies.{copy_for, target_number}
use Rattle.theory.specs.Tasks.{copies_in}
use Rattle.calls.specs.SheetGraph.{entry_for}
use Rattle.tables.specs.Rows.{edges_of}
use Rattle.chain_records.specs.declared.Found.{Found}
use Rattle.chain_records.specs.Founds.{graph_of, task_of}
use Rattle.heading_words.specs.Entries.{entries_in}

module _ (f : Found) where
  pub copies_are : f.copies ≡ length (copies_in (task_of f))
  copies_are = f.copies_counted ∙ ap length f.whole

  pub edges_are : f.edges ≡ edges_of (graph_of f.numbered) (copies_in (task_of f))
  edges_are = f.edges_counted.0 ∙ ap (edges_of (graph_of f.numbered)) f.whole

  -- the entries of the budgets, by the marked copies, are the task's
  pub entries-are : entries_in f.numbered f.budgets.now ≡ map (entry_for (task_of f)) f.budgets.now
  unfolding entry_for
  entries-are = ap (λ (cs : List Copy). map (λ c. target_number cs (copy_for (graph_of f.numbered) c 1)) f.budgets.now) f.whole
