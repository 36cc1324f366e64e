-- The sheet is refused, the budget's number or the walk is out of shape, or the bounded walk replies.
use Rattle.std.proofs.Common.{sym, ◌∙◌}
use Rattle.std.proofs.lemmas.Result.{err_from_is_err_and}
use Rattle.base.proofs.Orders.{inside_of}
use Rattle.walk.specs.Walks.{walk_of, reply_of}
use Rattle.bounded_moves.proofs.Answers.{rule-refused, number-refused, shape-refused, stands_on, walk-replies}
use Rattle.bounded_moves.proofs.bounded_move.Goals as goal

pub returns-in_err-sheet : goal.returns-in_err-sheet
returns-in_err-sheet c =
    let a = c.args in
    let p = err_from_is_err_and c.from_residual.result c.from_residual.ensures.1 in
    let whole = rule-refused a.words.now (walk_of a.walk) a.choice _ c.in_err-sheet.ensures.answer in
    rw (p.1, p.2) (record { answer_value = whole.0; walk_value = whole.1 })

pub returns-then-is_outside : goal.returns-then-is_outside
returns-then-is_outside c =
    let a = c.args in
    let s = c.in_ok-sheet.ensures.words in
    let whole = number-refused a.words.now (walk_of a.walk) a.choice (rw s at c.in_ok-sheet.sheet.ruled) c.is_outside.ensures c.if-is_outside.true in
    record { answer_value = whole.0; walk_value = whole.1 }

pub budget-budget-requires : goal.budget-budget-requires
budget-budget-requires c = inside_of 1 _ _ (sym c.is_outside.ensures ∙ c.if-is_outside.false)

pub returns-then-out_of_shape : goal.returns-then-out_of_shape
returns-then-out_of_shape c =
    let a = c.args in
    let s = c.in_ok-sheet.ensures.words in
    let whole = shape-refused a.words.now (walk_of a.walk) a.choice (rw s at c.in_ok-sheet.sheet.ruled) c.is_outside.ensures
    (rw s at c.exit-exit.ensures.value) (rw s at c.budget-budget.ensures.0) c.most_moves-most.ensures c.out_of_shape.ensures
    c.if-out_of_shape.true in
    record { answer_value = whole.0; walk_value = whole.1 }

pub bounded_reply-requires : goal.bounded_reply-requires
bounded_reply-requires c =
    let a = c.args in
    let s = c.in_ok-sheet.ensures.words in
    let b = c.budget-budget.ensures in
    stands_on a.words.now (walk_of a.walk) a.choice (rw s at c.in_ok-sheet.sheet.ruled) c.is_outside.ensures
    (rw s at c.exit-exit.ensures.value) (rw s at b.0) c.most_moves-most.ensures c.out_of_shape.ensures b.1 c.if-out_of_shape.false

pub returns : goal.returns
returns c =
    let a = c.args in
    let s = c.in_ok-sheet.ensures.words in
    let whole = walk-replies a.words.now (walk_of a.walk) a.choice (rw s at c.in_ok-sheet.sheet.ruled) c.is_outside.ensures
    (rw s at c.exit-exit.ensures.value) (rw s at c.budget-budget.ensures.0) c.most_moves-most.ensures c.out_of_shape.ensures
    c.if-is_outside.false c.if-out_of_shape.false (reply_of a.walk c.bounded_reply.result) (rw s at c.bounded_reply.ensures) in
    record { answer_value = whole.0; walk_value = whole.1 }
