-- With the records of the copies left the row is that of all.
use Rattle.tables.specs.Rest.{rest}
use Rattle.chain_records.specs.Founds.{graph_of}
use Rattle.write.proofs.Records.{Written, copy_record}
use Rattle.write.proofs.write_copies.Given as goal

abbrev pub invariant-loop-index : goal.invariant-loop-index
invariant-loop-index l =
    Written copy_record (graph_of l.numbered) l.numbered.layout.blocks l.numbered.layout.budget l.numbered.marks.now l.initial.output l.at l.output l.place l.edge
    (rest l.index-iterator)
