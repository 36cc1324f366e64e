-- With the records of the edges left the row is that of the chain.
use Rattle.chain_records.specs.Founds.{graph_of, copies_of}
use Rattle.chain_records.proofs.Chain.{Walked}
use Rattle.chain_records.proofs.Numbered.write_chain.Given as goal

abbrev pub invariant-loop-target : goal.invariant-loop-target
invariant-loop-target l = Walked (graph_of l.self) (copies_of l.self) l.cycles l.targets l.initial.output l.output l.at l.first l.target-index l.edge
