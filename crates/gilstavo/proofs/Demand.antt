-- DEMAND 3 ON WORDS: four words stand faithfully for a walk, so a run of the exported calls keeps the demand as one by value does.
-- Rests on theory Runs, calls Forms, walk Words, specs Steps.
use mathlib.Core.Path.{refl}
use mathlib.Core.List.{List}
use Prim.Native.Nat.{ℕ, zero, suc}
use Rattle.base.specs.Checks.{lent_after}
use Rattle.theory.specs.Machines.{Reply}
use Rattle.theory.proofs.Runs.{SameStep}
use Rattle.calls.specs.Moves.{Budgeted, starting_walk, moved, guarded_reply, bounded_move}
use Rattle.calls.specs.Starts.{guarded_start, bounded_start}
use Rattle.calls.proofs.Forms.{Faithful, held-demand3, held-from-start}
use Rattle.walk.specs.WalkWords.{walk_in}
use Rattle.walk.proofs.Words.{walk-back}
use Rattle.gilstavo.specs.Steps.{in_words, guarded_outset, bounded_outset, guarded_step, bounded_step, on_words, WordsKeepDemand3, WordsKeepFromStart}

-- an answer with the walk after it, which is the old one under a refusal
abbrev kept : ℕ → Budgeted → Budgeted → Reply Budgeted
kept a s new = record { answer = a; after = lent_after a s new }

-- under 0 the words are those of the walk after the call; under a refusal both stay
same_step : (row : List ℕ) (a : ℕ) (new : Budgeted) → SameStep walk_in (in_words row (kept a (walk_in row) new)) (kept a (walk_in row) new)
unfolding in_words lent_after
same_step row zero new = record { answer = refl; after = walk-back new }
same_step row (suc a) new = record { answer = refl; after = refl }

faithful : Faithful on_words
unfolding guarded_outset bounded_outset guarded_step bounded_step guarded_start bounded_start guarded_reply bounded_move moved
faithful = record {
  start = walk-back starting_walk;
  guarded-start = λ w h row i. same_step row _ _;
  bounded-start = λ t row k. same_step row _ _;
  guarded = λ w h row m. same_step row _ _;
  bounded = λ t row k. same_step row _ _;
}

pub words-keep-demand3 : WordsKeepDemand3
words-keep-demand3 = held-demand3 on_words faithful

pub words-keep-from-start : WordsKeepFromStart
words-keep-from-start = held-from-start on_words faithful
