-- With the records of the copies left the row is that of all.
use Rattle.std.proofs.Common.{sym, ap, ◌∙◌, arith}
use Rattle.put_words.specs.Put.{put_words}
use Rattle.chain_records.specs.Founds.{graph_of, copies_of}
use Rattle.chain_records.proofs.Chain.{low-covers}
use Rattle.write.proofs.Records.{written_start, here-few, here-fits, here-marked, written-fits, written_on, written-end, edge_record, chains-are, edges_fit, edge-length}
use Rattle.write.proofs.write_edges.Goals as goal

pub loop-index-init : goal.loop-index-init
loop-index-init c =
    rw c.into_iter-index-iterator.ensures.into_iter_gives
    (written_start edge_record c.marked_cells-index-items.ensures c.requires.few _ _ _ (omega arith) (edges_fit _ _ _ _ c.requires.room))

pub cell_at-copy-requires : goal.cell_at-copy-requires
cell_at-copy-requires c =
    let W = rw c.in-Some.ensures.steps at c.loop-index.invariant in
    here-few edge_record W (c.args.numbered.now.layout.small.0, c.args.numbered.now.layout.small.1)

pub write_chain-edge-requires : goal.write_chain-edge-requires
write_chain-edge-requires c =
    let m = c.args.numbered.now in
    let W = rw c.in-Some.ensures.steps at c.loop-index.invariant in
    let F = here-fits edge_record W c.cell_at-copy.ensures in
    let k = written-fits edge_record W c.cell_at-copy.ensures in
    let l = low-covers m.graph.flat m.marked F.0 F.1.0 F.1.1 (here-marked edge_record W c.cell_at-copy.ensures) in
    record {
      copy = (F.0, F.1.0, l, F.1.1);
      first = (W.least, omega (arith, k.1));
      room = omega (arith, k.0, W.least, edge-length (graph_of m) (copies_of m) c.loop-index.edge c.cell_at-copy.result.block c.cell_at-copy.result.low);
    }

pub loop-index-preserved : goal.loop-index-preserved
unfolding edge_record
loop-index-preserved c =
    let m = c.args.numbered.now in
    let W = rw c.in-Some.ensures.steps at c.loop-index.invariant in
    written_on edge_record W c.cell_at-copy.ensures c.write_chain-edge.ensures.out_after
    (omega (arith, c.write_chain-edge.ensures.value, W.least, edge-length (graph_of m) (copies_of m) c.loop-index.edge c.cell_at-copy.result.block c.cell_at-copy.result.low)) c.write_chain-edge.ensures.value

pub returns : goal.returns
returns c =
    let W = rw c.in-None.ensures.steps.0 at c.loop-index.invariant in
    written-end edge_record W ∙ ap (put_words _ _) (sym (chains-are 1 _))
