-- The words after a step, as the code makes it.
-- Rests on base Orders and Refusals, calls Moves, walk Walks and WalkWords, specs Steps.
use mathlib.Core.Path.{◌≡◌, ap, ◌∙◌}
use mathlib.Core.List.{List}
use Prim.Native.Nat.{ℕ}
use Rattle.std.specs.Prelude.{Result, Ok, Err}
use Rattle.base.specs.Refusals.{answer_of}
use Rattle.base.specs.declared.refusal.Refusal.{Refusal}
use Rattle.base.proofs.Orders.{refused-lent, accepted-lent}
use Rattle.base.proofs.Refusals.{is-refused}
use Rattle.theory.specs.Machines.{Reply}
use Rattle.calls.specs.Moves.{Budgeted}
use Rattle.walk.specs.declared.Walk.{Walk}
use Rattle.walk.specs.Walks.{set_on}
use Rattle.walk.specs.WalkWords.{walk_words}
use Rattle.gilstavo.specs.Steps.{in_words, words_after}

pub words-after : (row : List ℕ) (R : Reply Budgeted) (s : Budgeted) (r : Result Walk Refusal) → answer_of r ≡ R.answer → set_on s r ≡ R.after
    → words_after row r ≡ (in_words row R).after
unfolding in_words
words-after row R s (Ok w) e f = rw (← e) (accepted-lent row (walk_words R.after) (ap walk_words f))
words-after row R s (Err x) e f = refused-lent row (walk_words R.after) R.answer (λ z. is-refused x (e ∙ z))
