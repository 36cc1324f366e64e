-- The header's line, the records' lines, the edge records' lines.
use Rattle.std.proofs.Common.{sym, arith, length-take-le}
use Rattle.digits.proofs.Due.{wrote_as, wrote_then}
use Rattle.decimal.proofs.Layouts.{total-replicate}
use Rattle.decimal.proofs.Lines.{behind-length, records_is, records-length}
use Rattle.decimal.proofs.put_records.Goals as goal

pub put_line-behind_header-requires : goal.put_line-behind_header-requires
put_line-behind_header-requires c =
    let a = c.args in
    record { in_bounds = omega (arith, c.requires.le_header.0, length-take-le a.header a.words.now (omega (arith, c.requires.edges_at_value.0, c.requires.edges_at_value.1))); words_in_bounds = omega (arith, records-length a.header a.count a.width a.edges a.edges_at a.words.now c.requires.edges_at_value.0, c.requires.words_in_bounds) }

pub put_lines-behind_records-requires : goal.put_lines-behind_records-requires
put_lines-behind_records-requires c =
    let a = c.args in
    record {
      le_width = c.requires.le_header.1;
      width_in_bounds = omega (arith, behind-length a.header a.words.now, c.requires.edges_at_value.0, c.requires.edges_at_value.1);
      words_in_bounds = omega (
        arith,
        records-length a.header a.count a.width a.edges a.edges_at a.words.now c.requires.edges_at_value.0,
        c.requires.words_in_bounds,
        c.put_line-behind_header.ensures.is-end,
        c.put_line-behind_header.auto.text,
      );
    }

pub put_lines-requires : goal.put_lines-requires
put_lines-requires c =
    let a = c.args in
    record {
      le_width = omega arith;
      width_in_bounds = omega (arith, behind-length a.edges_at a.words.now, total-replicate 2 a.edges, c.requires.edges_at_value.1);
      words_in_bounds = omega (
        arith,
        records-length a.header a.count a.width a.edges a.edges_at a.words.now c.requires.edges_at_value.0,
        c.requires.words_in_bounds,
        c.put_line-behind_header.ensures.is-end,
        c.put_line-behind_header.auto.text,
        c.put_lines-behind_records.ensures.is-end,
        c.put_lines-behind_records.auto.text,
      );
    }

pub returns : goal.returns
returns c =
    let a = c.args in
    wrote_as (wrote_then c.put_line-behind_header.ensures (wrote_then c.put_lines-behind_records.ensures c.put_lines.ensures))
    (sym (records_is a.header a.count a.width a.edges a.edges_at a.words.now c.requires.edges_at_value.0))
