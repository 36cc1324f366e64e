-- One chain is followed; each turn meets the edge that is due, and its target, and the rest decides.
use Rattle.formats.specs.BoundedSheet.{next_at}
use Rattle.bounded_records.specs.Records.{heading_in}
use Rattle.record_check.proofs.Edges.{stray, Chained}
use Rattle.record_check.proofs.chain_end.Given as goal

abbrev pub invariant-loop-edge : goal.invariant-loop-edge
invariant-loop-edge l =
    let h = heading_in l.records in
    Chained (next_at h l.records.words.now) (stray h l.records.words.now l.starts) l.records.edges l.first l.due l.met l.edge
