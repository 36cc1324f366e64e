-- The front first, then the rest.
use Rattle.std.proofs.Common.{sym}
use Rattle.std.proofs.lemmas.Result.{err_from_is_err_and}
use Rattle.calls.proofs.Weigh.{front-passes}
use Rattle.build_rows.proofs.Front.{front-refused}
use Rattle.build.proofs.build.Goals as goal

pub returns-in_err-sound : goal.returns-in_err-sound
returns-in_err-sound c =
    let p = err_from_is_err_and c.from_residual.result c.from_residual.ensures.1 in
    let whole = front-refused _ _ _ c.args.output.now _ c.in_err-sound.ensures.answer in
    rw (p.1, p.2) (record { value = whole.0; area_after = whole.1.0; out_after = whole.1.1 })

pub invariant_of-lowered : goal.invariant_of-lowered
invariant_of-lowered c =
    let s = c.in_ok-sound.ensures.words in
    let p = front-passes _ (sym c.in_ok-sound.ensures.answer) in
    rw s (record { accepted = p.0; lowered = c.lowered_largest-largest.ensures.0 })

pub build_passed-requires : goal.build_passed-requires
build_passed-requires c =
    let s = c.in_ok-sound.ensures.words in
    let p = front-passes _ (sym c.in_ok-sound.ensures.answer) in
    rw s p.1

pub returns : goal.returns
returns c =
    let s = c.in_ok-sound.ensures.words in
    let y = c.build_passed.ensures in
    rw s at y
