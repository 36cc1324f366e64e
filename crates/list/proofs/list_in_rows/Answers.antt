-- `list::list_in_rows` meets its contract: what the build refuses is refused, and what it leaves in the row is listed.
use Rattle.std.proofs.Common.{sym, ap, ◌∙◌}
use Rattle.base.proofs.Refusals.{is-refused}
use Rattle.formats.specs.Listing.{listing_of, refusal_of}
use Rattle.digits.proofs.Due.{wrote_as}
use Rattle.front.proofs.Answer.{list-answer, front-is, front_fits, front_kept}
use Rattle.list.proofs.Files.{sheet-refused, sheet-listed}
use Rattle.list.proofs.list_in_rows.Goals as goal

pub list_built-requires : goal.list_built-requires
list_built-requires c =
    let w = c.args.words.now in
    let area = c.args.area.now in
    let out = c.args.output.now in
    let p = sym c.in-Ok.ensures.value in
    record { row_in_bounds = front_fits w area out _ c.build.ensures.out_after p; row_value = front_kept w area out _ c.build.ensures.out_after p; listing_room_in_bounds = c.requires.listing_room_in_bounds }

pub returns-in-Ok : goal.returns-in-Ok
returns-in-Ok c =
    let w = c.args.words.now in
    let area = c.args.area.now in
    let out = c.args.output.now in
    let p = sym c.in-Ok.ensures.value in
    let a = list-answer w area out c.requires.rooms.0 c.requires.rooms.1 in
    let r = c.list_built.ensures in
    (wrote_as r.0 (ap listing_of (front-is w area out _ c.build.ensures.out_after p) ∙ sym (sheet-listed w (sym a ∙ p))), r.1)

pub returns-in-Err : goal.returns-in-Err
returns-in-Err c =
    let w = c.args.words.now in
    let a = list-answer w c.args.area.now c.args.output.now c.requires.rooms.0 c.requires.rooms.1 in
    let r = c.write_refusal.ensures in
    (wrote_as r.0 (ap refusal_of c.number.ensures ∙ sym (sheet-refused w _ (sym a ∙ sym c.in-Err.ensures.value) (is-refused c.in-Err.refusal))), r.1)
