-- The look-up's row is filled, and the descent marks the copies: 10 by the edges, else what `write_numbered` answers.
use Rattle.std.proofs.Common.{refl, sym, ap, ◌∙◌, arith, length}
use Rattle.graph_row.specs.GraphRow.{graph_in, task_in}
use Rattle.tables.specs.Rows.{edges_of}
use Rattle.tables.proofs.Tables.{lows-of}
use Rattle.chain_records.proofs.Served.{served-in}
use Rattle.output.specs.Answer.{output_at}
use Rattle.output.proofs.Answers.{many-edges}
use Rattle.build_rows.proofs.build_weighed.Goals as goal

pub fill_lows-requires : goal.fill_lows-requires
fill_lows-requires c = record { room = (c.requires.table.room, c.requires.room.0) }

pub reach-requires-clause-lows : goal.reach-requires-clause-lows
reach-requires-clause-lows c = lows-of c.requires.table c.fill_lows.ensures.lows

pub returns-in-Err-clause-value : goal.returns-in-Err-clause-value
returns-in-Err-clause-value c =
    let a = c.args in
    many-edges a.second (task_in a.graph.row.now a.budgets.now a.layout.budget) (length a.output.now) c.in-Err.ensures.edges

pub returns-in-Err-clause-out_after : goal.returns-in-Err-clause-out_after
unfolding output_at
returns-in-Err-clause-out_after c = refl

pub invariant_of-numbered : goal.invariant_of-numbered
invariant_of-numbered c =
    let R = c.requires in
    record {
      blocks = R.blocks;
      marked = served-in c.args.graph.flat R.blocks R.claimed (omega (arith, R.room.1, c.reach.auto.marks)) c.in-Ok.ensures.marks;
      numbered = c.number-copies.ensures.by_index _ (lows-of R.table c.fill_lows.ensures.lows);
    }

pub invariant_of-found : goal.invariant_of-found
invariant_of-found c =
    let y = c.in-Ok.ensures in
    record {
      claimed = c.requires.claimed;
      whole = y.marks;
      copies_counted = c.number-copies.ensures.value;
      edges_counted = (y.edges.0 ∙ ap (edges_of (graph_in c.args.graph.row.now)) (sym y.marks), y.edges.1);
    }
