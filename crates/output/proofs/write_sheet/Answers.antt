-- The header, then the records.
use Rattle.std.proofs.Common.{ap, ap₂, ◌∙◌, List, ℕ, arith, length}
use Rattle.base.specs.Copy.{Copy}
use Rattle.formats.specs.BoundedSheet.{heading_words, record_words}
use Rattle.calls.specs.SheetGraph.{rows_of}
use Rattle.put_words.specs.Put.{put_words}
use Rattle.chain_records.specs.Founds.{graph_of, task_of}
use Rattle.output.proofs.Answers.{sheet-length, records-room, written}
use Rattle.output.proofs.Served.{copies_are, edges_are, entries-are}
use Rattle.output.proofs.write_sheet.Goals as goal

pub heading_size-at-requires : goal.heading_size-at-requires
heading_size-at-requires c = c.args.found.now.claimed.0.count.1

pub write_heading-requires : goal.write_heading-requires
write_heading-requires c =
    let f = c.args.found.now in
    record {
      claimed = (f.claimed.0, f.claimed.1);
      counts = (omega (arith, c.requires.few), omega (arith, f.edges_counted.1));
      room = omega (arith, sheet-length c.args.second (task_of f), c.requires.room);
    }

pub write_records-requires : goal.write_records-requires
write_records-requires c =
    let f = c.args.found.now in
    let rs = ap (λ (cs : List Copy). length (record_words (rows_of (graph_of f.numbered) cs))) f.whole in
    record {
      counted = f.copies_counted;
      few = omega (arith, f.edges_counted);
      room = omega (arith, records-room c.args.second (task_of f), rs, c.requires.room, c.heading_size-at.ensures, c.write_heading.auto.output);
    }

pub returns : goal.returns
returns c =
    let f = c.args.found.now in
    let out = c.args.output.now in
    c.write_records.ensures
    ∙ ap₂ (λ (o : List ℕ) (cs : List Copy). put_words o c.heading_size-at.result (record_words (rows_of (graph_of f.numbered) cs)))
    (c.write_heading.ensures
    ∙ ap (λ (es : List ℕ). put_words out 0 (heading_words c.args.second f.budgets.now es f.copies f.edges)) (entries-are f)) f.whole
    ∙ written c.args.second (task_of f) out (copies_are f) (edges_are f) c.heading_size-at.ensures
