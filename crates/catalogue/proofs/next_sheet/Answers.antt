-- What is said of the sheet goes into the tally and into its part of the marks.
use Rattle.std.proofs.Common.{◌∙◌, ◌+◌, ◌*◌, ◌≤◌, ◌&&◌, Bool, ltb, ap, arith, rules, length}
use Rattle.base.proofs.Lists.{part_length}
use Rattle.formats.specs.Limits.{most_blocks, most_sheets}
use Rattle.catalogue.proofs.Stands.{cut-of, next_of}
use Rattle.catalogue.proofs.next_sheet.Goals as goal

pub returns : goal.returns
returns c =
    let t = c.args.tally in
    let old = c.args.marks.now in
    let R = c.requires.ready.0 in
    let l = c.requires.ready.1 in
    let inside : t.place * most_blocks + most_blocks ≤ length old = omega (arith, R.room, l) in
    record {
      ready_2 = (
        record { most = omega (arith, c.with_sheet-next.ensures.tallied.place, l); fits = c.with_sheet-next.ensures.fits; room = (search rules) ∙ R.room },
        c.report_item-said.ensures.size_in_bounds.0,
        omega (arith, c.with_sheet-next.ensures.tallied.place),
      );
      next = next_of t _ c.report_item-said.result old _ _ c.with_sheet-next.ensures.tallied (omega (arith, inside))
          (c.report_item-said.auto.marks ∙ part_length (t.place * most_blocks) most_blocks old inside) c.report_item-said.ensures.reports
          (c.may_come-more.ensures ∙ ap (λ (b : Bool). b && ltb c.with_sheet-next.result.place most_sheets) (cut-of _ c.args.bytes _ c.is_none-cut.ensures));
    }
