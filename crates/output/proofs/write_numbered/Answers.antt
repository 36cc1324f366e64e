-- 10 by the copies, 22 by the length, else the words.
use Rattle.std.proofs.Common.{refl, arith, length}
use Rattle.chain_records.specs.Founds.{task_of}
use Rattle.heading_words.proofs.Entries.{size-most}
use Rattle.output.specs.Answer.{output_at}
use Rattle.output.proofs.Answers.{sheet-length, many-copies, short_row, long-row}
use Rattle.output.proofs.Served.{copies_are, edges_are}
use Rattle.output.proofs.write_numbered.Goals as goal

pub returns-then-found-gt-MOST_COPIES : goal.returns-then-found-gt-MOST_COPIES
unfolding output_at
returns-then-found-gt-MOST_COPIES c =
    let f = c.args.found.now in
    record { value = many-copies c.args.second (task_of f) (length c.args.output.now) (omega (arith, copies_are f, c.if-found-gt-MOST_COPIES.true)); out_after = refl }

pub heading_size-size-requires : goal.heading_size-size-requires
heading_size-size-requires c = c.args.found.now.claimed.0.count.1

pub overflow_add-size : goal.overflow_add-size
overflow_add-size c =
    let most = size-most c.args.second (length c.args.found.now.budgets.now) c.args.found.now.claimed.0.count.1 in
    omega (arith, c.heading_size-size.ensures, most, c.if-found-gt-MOST_COPIES.false)

pub overflow_add-size-2 : goal.overflow_add-size-2
overflow_add-size-2 c =
    let f = c.args.found.now in
    let most = size-most c.args.second (length f.budgets.now) f.claimed.0.count.1 in
    omega (arith, c.heading_size-size.ensures, most, c.if-found-gt-MOST_COPIES.false, f.edges_counted.1)

pub returns-then-output-size : goal.returns-then-output-size
unfolding output_at
returns-then-output-size c =
    let f = c.args.found.now in
    let T = task_of f in
    record {
      value = short_row c.args.second T (length c.args.output.now) (omega (arith, copies_are f, c.if-found-gt-MOST_COPIES.false)) (omega (arith, edges_are f, f.edges_counted.1))
          (omega (arith, copies_are f, edges_are f, sheet-length c.args.second T, c.heading_size-size.ensures, c.if-output-size.true));
      out_after = refl;
    }

pub write_sheet-requires : goal.write_sheet-requires
write_sheet-requires c =
    let f = c.args.found.now in
    record {
      few = omega (arith, c.if-found-gt-MOST_COPIES.false);
      room = omega (arith, copies_are f, edges_are f, sheet-length c.args.second (task_of f), c.heading_size-size.ensures, c.if-output-size.false);
    }

pub returns : goal.returns
unfolding output_at
returns c =
    let f = c.args.found.now in
    let T = task_of f in
    record {
      value = long-row c.args.second T (length c.args.output.now) (omega (arith, copies_are f, c.if-found-gt-MOST_COPIES.false)) (omega (arith, edges_are f, f.edges_counted.1))
          (omega (arith, copies_are f, edges_are f, sheet-length c.args.second T, c.heading_size-size.ensures, c.if-output-size.false));
      out_after = c.write_sheet.ensures;
    }
