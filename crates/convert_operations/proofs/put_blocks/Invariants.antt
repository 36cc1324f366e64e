-- Block by block: its cycles, its first edge, the two words.
use Rattle.graph_records.specs.Records.{header_in}
use Rattle.convert_operations.proofs.Blocks.{Placing}
use Rattle.convert_operations.proofs.put_blocks.Given as goal

abbrev pub invariant-loop-block : goal.invariant-loop-block
invariant-loop-block l = Placing (header_in l.sheet.records) l.sheet.records.words.now l.initial.out l.block l.out
