-- The bounded sheet with which the row begins gives the marks and the figures.
use Rattle.std.proofs.Common.{ap, ◌∙◌, arith}
use Rattle.formats.specs.GraphSheet.{Header}
use Rattle.sheet_figures.proofs.Said.{sheet-long, blocks-most, rule-kept, bounded-long, accepted-small, accepted-says}
use Rattle.sheet_figures.proofs.report_built.Goals as goal

pub read_header-header-requires : goal.read_header-header-requires
read_header-header-requires c = sheet-long _ c.requires.words_value

pub mark_unused-requires : goal.mark_unused-requires
mark_unused-requires c =
    let e = c.requires.words_value in
    record {
      t_value = rule-kept _ e (c.front_sheet-sheet.ensures ∙ c.requires.row_in_bounds.1);
      n_le_most_blocks = omega (arith, blocks-most _ e, ap (λ (x : Header). x.blocks) c.read_header-header.ensures.edges_value);
      marks_len = c.requires.marks_len;
    }

pub read_heading-heading-requires : goal.read_heading-heading-requires
read_heading-heading-requires c = bounded-long _ c.requires.words_value (c.front_sheet-sheet.ensures ∙ c.requires.row_in_bounds.1)

pub write_figures-size-requires : goal.write_figures-size-requires
write_figures-size-requires c =
    let R = c.requires in
    let few = ap (λ (x : Header). x.blocks) c.read_header-header.ensures.edges_value in
    record {
      t_value = (rule-kept _ R.words_value (c.front_sheet-sheet.ensures ∙ R.row_in_bounds.1), R.costs.room);
      sheet_room_in_bounds = R.sheet_room_in_bounds;
      place_lt_number_limit = (R.place_lt_number_limit, omega (arith, blocks-most _ R.words_value, few));
    }

pub returns : goal.returns
returns c =
    let e = c.requires.words_value in
    let q = c.front_sheet-sheet.ensures ∙ c.requires.row_in_bounds.1 in
    let a = c.read_header-header.ensures.edges_value in
    let b = c.read_heading-heading.ensures.largest_value in
    (accepted-says _ e q a b c.mark_unused.ensures c.requires.costs c.write_figures-size.ensures, accepted-small _ e q a b _)
