-- Under a refusal the walk stays.
use Rattle.std.proofs.lemmas.Result.{err_from_is_err_and}
use Rattle.lent.proofs.bounded_move_in_place.Goals as goal

pub returns-in_err-walk : goal.returns-in_err-walk
returns-in_err-walk c =
    let p = err_from_is_err_and c.from_residual.result c.from_residual.ensures.1 in
    let e = c.in_err-walk.ensures in
    rw (p.1, p.2) (record { value = e.answer_value; walk_after = e.walk_value })
