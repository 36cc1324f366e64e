-- THE CALLS ON WORDS, as C and Rust have them: a start and a move are those of the walk that four words stand for, and under a refusal the words
-- stay. Rests on base Checks, theory Machines, calls Moves, Starts and Demand, walk WalkWords.
use Rattle.std.specs.Prelude.{List, ℕ, Result, Ok, Err}
use Rattle.base.specs.declared.refusal.Refusal.{Refusal}
use Rattle.base.specs.Checks.{lent_after}
use Rattle.theory.specs.Machines.{Reply}
use Rattle.calls.specs.Moves.{Budgeted, starting_walk, Move, guarded_reply, bounded_move}
use Rattle.calls.specs.Starts.{Outset, bounded_start}
use Rattle.calls.specs.Demand.{Calls, start_reply, KeepsDemand3, KeepsFromStart}
use Rattle.walk.specs.declared.Walk.{Walk}
use Rattle.walk.specs.Walks.{walk_of}
use Rattle.walk.specs.WalkWords.{walk_in, walk_words}

-- the words after a reply
unfoldable pub in_words : List ℕ → Reply Budgeted → Reply (List ℕ)
in_words row r = record { answer = r.answer; after = lent_after r.answer row (walk_words r.after) }

-- the words after a call that answers a walk: a refusal leaves them
abbrev pub words_after : List ℕ → Result Walk Refusal → List ℕ
words_after row (Ok after) = walk_words (walk_of after)
words_after row (Err r) = row

unfoldable pub guarded_outset : List ℕ → ℕ → List ℕ → Outset → Reply (List ℕ)
guarded_outset w h row i = in_words row (start_reply w h (walk_in row) i)

unfoldable pub bounded_outset : List ℕ → List ℕ → ℕ → Reply (List ℕ)
bounded_outset t row k = in_words row (bounded_start t (walk_in row) k)

unfoldable pub guarded_step : List ℕ → ℕ → List ℕ → Move → Reply (List ℕ)
guarded_step w h row m = in_words row (guarded_reply w h (walk_in row) m)

unfoldable pub bounded_step : List ℕ → List ℕ → ℕ → Reply (List ℕ)
bounded_step t row k = in_words row (bounded_move t (walk_in row) k)

abbrev pub on_words : Calls (List ℕ)
on_words = record {
  start = walk_words starting_walk;
  guarded-start = guarded_outset;
  bounded-start = bounded_outset;
  guarded = guarded_step;
  bounded = bounded_step;
  walk = walk_in;
}

-- DEMAND 3, whole, for a run of the exported calls on words: from the starts, and from the starting walk
abbrev pub WordsKeepDemand3 : Type 0
WordsKeepDemand3 = KeepsDemand3 on_words

abbrev pub WordsKeepFromStart : Type 0
WordsKeepFromStart = KeepsFromStart on_words
