-- With the records of the copies left the row is that of all.
use Rattle.tables.specs.Rest.{rest}
use Rattle.chain_records.specs.Founds.{graph_of}
use Rattle.chain_records.proofs.Chain.{place}
use Rattle.write.proofs.Records.{Written, edge_record}
use Rattle.write.proofs.write_edges.Given as goal

abbrev pub invariant-loop-index : goal.invariant-loop-index
invariant-loop-index l =
    Written edge_record (graph_of l.numbered) l.numbered.layout.blocks l.numbered.layout.budget l.numbered.marks.now l.initial.output l.at l.output (place l.at l.edge) l.edge
    (rest l.index-iterator)
