-- The front first, then the rest.
use Rattle.std.proofs.lemmas.Result.{err_from_is_err_and}
use Rattle.base.specs.Refusals.{number_of}
use Rattle.base.proofs.Refusals.{is-refused}
use Rattle.calls.specs.Moves.{Budgeted}
use Rattle.weigh_sheet.proofs.Answers.{front-refused}
use Rattle.guarded_starts.proofs.Answers.{Begins, weigh-refused}
use Rattle.guarded_starts.proofs.start_guarded.Goals as goal

pub returns-in_err-sound : goal.returns-in_err-sound
returns-in_err-sound c =
    let a = c.args in
    let p = err_from_is_err_and c.from_residual.result c.from_residual.ensures.1 in
    let whole : (s : Budgeted) → Begins a.sheet.now a.handler a.area.now s a.budget (number_of c.in_err-sound.field-0.0) s a.area.now = λ s. weigh-refused a.sheet.now a.handler a.area.now s a.budget (front-refused _ _ _ _ c.in_err-sound.ensures.answer)
    (is-refused _) in
    rw (p.1, p.2) (record { answer_value = λ s. (whole s).0; walk_value = λ s. (whole s).1.0; area_after = λ s. (whole s).1.1 })

pub begin-requires : goal.begin-requires
begin-requires c =
    let s = c.in_ok-sound.ensures.words in
    rw s c.in_ok-sound.ensures.answer

pub returns : goal.returns
returns c =
    let s = c.in_ok-sound.ensures.words in
    record {
      answer_value = rw s at c.begin.ensures.answer_value;
      walk_value = rw s at c.begin.ensures.walk_value;
      area_after = rw s at c.begin.ensures.area_after;
    }
