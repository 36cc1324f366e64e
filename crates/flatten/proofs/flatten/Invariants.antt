-- Each turn decodes one block.
use Rattle.graph_records.specs.Records.{header_in}
use Rattle.flatten.proofs.Decoding.{Decoding}
use Rattle.flatten.proofs.flatten.Given as goal

abbrev pub invariant-loop-block : goal.invariant-loop-block
invariant-loop-block l = Decoding (header_in l.records) l.records.words.now l.row l.place l.block
