-- What the build refuses is refused, and what it leaves in the row is reported.
use Rattle.std.proofs.Common.{sym, ◌∙◌, arith}
use Rattle.base.proofs.Refusals.{numbered}
use Rattle.calls.specs.Report.{figures}
use Rattle.front.proofs.Answer.{list-answer, front-is, front_fits}
use Rattle.figures.proofs.Answered.{costs-left, says-accepted, says-refused}
use Rattle.figures.proofs.report_in_rows.Goals as goal

pub report_built-requires : goal.report_built-requires
report_built-requires c =
    let w = c.args.words.now in
    let area = c.args.area.now in
    let out = c.args.out.now in
    let p = sym c.in-Ok.ensures.value in
    let a = list-answer w area out c.requires.most_cells_in_bounds.0 c.requires.most_cells_in_bounds.1 in
    let costs = costs-left w area out c.requires.most_cells_in_bounds.0 c.requires.most_cells_in_bounds.1 c.build.ensures.area_after p in
    record { words_value = sym a ∙ p; row_in_bounds = (front_fits w area out _ c.build.ensures.out_after p, front-is w area out _ c.build.ensures.out_after p); costs = costs; place_lt_number_limit = c.requires.place_lt_number_limit; marks_len = c.requires.marks_len; sheet_room_in_bounds = c.requires.sheet_room_in_bounds }

pub returns-in-Ok : goal.returns-in-Ok
unfolding figures
returns-in-Ok c =
    let w = c.args.words.now in
    let p = sym c.in-Ok.ensures.value in
    let a = list-answer w c.args.area.now c.args.out.now c.requires.most_cells_in_bounds.0 c.requires.most_cells_in_bounds.1 in
    (says-accepted w (sym a ∙ p) c.report_built.ensures.0, c.report_built.ensures.1)

pub returns-in-Err : goal.returns-in-Err
unfolding figures
returns-in-Err c =
    let w = c.args.words.now in
    let a = list-answer w c.args.area.now c.args.out.now c.requires.most_cells_in_bounds.0 c.requires.most_cells_in_bounds.1 in (
      says-refused w (sym a ∙ sym c.in-Err.ensures.value ∙ sym c.number.ensures)
          (λ e. omega (arith, e, c.number.ensures, numbered c.in-Err.refusal)) c.report_refused.ensures.0,
      c.report_refused.ensures.1,
    )
