-- What the code's walk stands for: document 01's place, count and end, for each of the enum's cases, and document 02's number of a budget.
-- Rests on base, theory Machines and Walks, calls Moves.
use Rattle.std.specs.Prelude.{Bool, not, Result, Ok, Err}
use Rattle.std.specs.Bool.{beq}
use Rattle.base.specs.Refusals.{answer_of}
use Rattle.base.specs.declared.refusal.Refusal.{Refusal}
use Rattle.theory.specs.Machines.{End as Ends, going, exit, diverted, Reply}
use Rattle.theory.specs.Walks.{Walk as Walked}
use Rattle.calls.specs.Moves.{Budgeted, budgeted}
use Rattle.walk.specs.declared.End.{End}
use Rattle.walk.specs.declared.End.TheVariants.{Going, Exit, Diverted}
use Rattle.walk.specs.declared.Walk.{Walk}

unfoldable pub end_of : End → Ends
end_of Going = going
end_of Exit = exit
end_of Diverted = diverted

-- the place, the count and the end, without the budget's number
abbrev pub state_of : Walk → Walked
state_of w = record { place = w.place; count = w.count; end = end_of w.end }

abbrev pub walk_of : Walk → Budgeted
walk_of w = budgeted w.budget (state_of w)

-- a walk on which a call's answer is set: under a refusal it stays as it was
abbrev pub set_on : Budgeted → Result Walk Refusal → Budgeted
set_on s (Ok after) = walk_of after
set_on s (Err r) = s

-- the walk after a call on it
abbrev pub after_of : Walk → Result Walk Refusal → Budgeted
after_of w = set_on (walk_of w)

-- an answer with the walk after it, as a call replies
abbrev pub reply_of : Walk → Result Walk Refusal → Reply Budgeted
reply_of w r = record { answer = answer_of r; after = after_of w r }

-- the end exit and the exit's place not together
abbrev pub apart : Bool → Bool → Bool
apart ended at = not (beq ended at)
