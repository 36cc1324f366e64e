-- The front, the margins, then the newline; the header is read once.
use Rattle.std.proofs.Common.{ap, ◌∙◌, arith}
use Rattle.formats.specs.BoundedSheet.{Heading}
use Rattle.formats.specs.Report.{figures_line}
use Rattle.formats.proofs.RuleRead.{clauses, read-ruled}
use Rattle.digits.proofs.Due.{wrote_as, wrote_then}
use Rattle.report_lines.proofs.Lines.{whole-line}
use Rattle.margins.specs.Margins.{margins_at}
use Rattle.margins.proofs.Sheet.{words_are, records-kept, words-length}
use Rattle.sheet_lines.proofs.Lines.{figures-is}
use Rattle.sheet_lines.proofs.write_figures.Goals as goal

pub read_heading-heading-requires : goal.read_heading-heading-requires
read_heading-heading-requires c = (clauses _ c.requires.t_value.0).long

pub put_margins-end-requires : goal.put_margins-end-requires
put_margins-end-requires c =
    let R = c.requires in
    let e = c.read_heading-heading.ensures.largest_value in
    let kept = records-kept _ R.t_value.0 e in
    record {
      records = (kept, R.t_value.1);
      copies_in_bounds = omega (arith, (read-ruled _ R.t_value.0 e).form.copies.1, words-length kept c.args.area.now);
    }

pub put_byte-requires : goal.put_byte-requires
put_byte-requires c =
    let R = c.requires in
    let e = c.read_heading-heading.ensures.largest_value in
    omega (arith, (read-ruled _ R.t_value.0 e).form.copies.1, words-length (records-kept _ R.t_value.0 e) c.args.area.now)

pub returns : goal.returns
returns c =
    let a = c.args in
    let R = c.requires in
    let h = c.read_heading-heading.result in
    let e = c.read_heading-heading.ensures.largest_value in
    let ms = margins_at a.sheet.now a.area.now in
    whole-line (wrote_then c.put_front-front.ensures.0 (wrote_as c.put_margins-end.ensures (words_are a.sheet.now a.area.now e)))
    c.put_byte.ensures
    (figures-is a.place a.blocks h.copies h.edges ms
    ∙ ap (λ (g : Heading). figures_line a.place a.blocks g.copies g.edges ms) e)
    (omega (arith, (read-ruled _ R.t_value.0 e).form.copies.1, words-length (records-kept _ R.t_value.0 e) a.area.now))
    c.put_byte.auto.text
