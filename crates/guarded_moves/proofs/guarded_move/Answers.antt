-- The front first, then the rest.
use Rattle.std.proofs.lemmas.Result.{err_from_is_err_and}
use Rattle.base.proofs.Refusals.{is-refused}
use Rattle.walk.specs.Walks.{walk_of}
use Rattle.weigh_sheet.proofs.Answers.{front-refused}
use Rattle.guarded_moves.proofs.Answers.{weigh-refused}
use Rattle.guarded_moves.proofs.guarded_move.Goals as goal

pub returns-in_err-sound : goal.returns-in_err-sound
returns-in_err-sound c =
    let a = c.args in
    let p = err_from_is_err_and c.from_residual.result c.from_residual.ensures.1 in
    let whole = weigh-refused a.sheet.now a.handler a.area.now (walk_of a.walk) a.choice (front-refused _ _ _ _ c.in_err-sound.ensures.answer)
    (is-refused _) in
    rw (p.1, p.2) (record { answer_value = whole.0; walk_value = whole.1.0; area_after = whole.1.1 })

pub guard-requires : goal.guard-requires
guard-requires c =
    let s = c.in_ok-sound.ensures.words in
    rw s c.in_ok-sound.ensures.answer

pub returns : goal.returns
returns c =
    let s = c.in_ok-sound.ensures.words in
    record {
      answer_value = rw s at c.guard.ensures.answer_value;
      walk_value = rw s at c.guard.ensures.walk_value;
      area_after = rw s at c.guard.ensures.area_after;
    }
