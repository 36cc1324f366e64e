-- The call by value, of the walk that is lent.
use Rattle.std.proofs.lemmas.Result.{err_from_is_err_and}
use Rattle.walk.specs.Walks.{walk_of}
use Rattle.lent.proofs.start_bounded_in_place.Goals as goal

pub returns-in_err-walk : goal.returns-in_err-walk
returns-in_err-walk c =
    let p = err_from_is_err_and c.from_residual.result c.from_residual.ensures.1 in
    let e = c.in_err-walk.ensures in
    let s = walk_of c.args.walk.now in
    rw (p.1, p.2) (record { value = e.answer_value s; walk_after = e.walk_value s })

pub returns : goal.returns
returns c =
    let e = c.in_ok-walk.ensures in
    let s = walk_of c.args.walk.now in
    record { value = e.answer_value s; walk_after = e.walk_value s }
