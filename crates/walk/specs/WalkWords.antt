-- A walk as four words: place, count, the end as 0 going, 1 exit, 2 diverted, and the number of its budget.
-- Rests on theory Machines and Walks, calls Moves.
use Rattle.std.specs.Prelude.{true, false, List, [], ◌∷◌, ℕ, zero, suc, ltb, get_or}
use Rattle.theory.specs.Machines.{End, going, exit, diverted}
use Rattle.theory.specs.Walks.{Walk}
use Rattle.calls.specs.Moves.{Budgeted, budgeted}

unfoldable pub end_in : ℕ → End
end_in zero = going
end_in (suc zero) = exit
end_in (suc (suc n)) = diverted

unfoldable pub end_word : End → ℕ
end_word going = 0
end_word exit = 1
end_word diverted = 2

-- no place at all: such a walk is out of shape (33) on every sheet
abbrev pub nowhere : Walk
nowhere = record { place = 0; count = 0; end = going }

-- the walk that four words stand for; an end above 2 stands for none
unfoldable pub state_in : List ℕ → Walk
state_in row =
    elim (ltb 2 (get_or row 2 0)) [
      | true ↦ nowhere
      | false ↦ record { place = get_or row 0 0; count = get_or row 1 0; end = end_in (get_or row 2 0) }
    ]

abbrev pub walk_in : List ℕ → Budgeted
walk_in row = budgeted (get_or row 3 0) (state_in row)

abbrev pub walk_words : Budgeted → List ℕ
walk_words s = s.walk.place ∷ s.walk.count ∷ end_word s.walk.end ∷ s.number ∷ []
