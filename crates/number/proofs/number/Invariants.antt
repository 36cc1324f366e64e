-- The copies of the cells that were given are numbered.
use Rattle.tables.specs.Rest.{rest}
use Rattle.number.proofs.Numbering.{Numbering}
use Rattle.number.proofs.number.Given as goal

abbrev pub invariant-loop-index : goal.invariant-loop-index
invariant-loop-index l = Numbering l.fn.layout.blocks l.fn.layout.budget l.marks l.initial.numbers l.numbers l.count (rest l.index-iterator)
