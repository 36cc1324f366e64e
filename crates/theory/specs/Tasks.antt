-- A TASK, what is built: a graph with its number of blocks, some budgets and the largest of them; and its copies.
-- Rests on base Lists and Copy, Completions, Copies.
use Rattle.std.specs.Prelude.{List, ℕ}
use Rattle.base.specs.Lists.{last_of}
use Rattle.base.specs.Copy.{Copy}
use Rattle.theory.specs.Completions.{Graph}
use Rattle.theory.specs.Copies.{start_copies, copies_from}

pub record Task : Type 0 where
  pub graph : Graph
  pub blocks : ℕ
  pub budgets : List ℕ
  pub largest : ℕ

-- a task with rising budgets, of which the last is the largest
abbrev pub task_with : Graph → ℕ → List ℕ → Task
task_with g n bs = record { graph = g; blocks = n; budgets = bs; largest = last_of bs }

abbrev pub copies_in : Task → List Copy
copies_in T = copies_from T.graph T.blocks T.largest (start_copies T.graph T.budgets)
