-- The number is looked up at the cell of the block and the cycles.
use Rattle.std.proofs.Common.{◌∙◌, arith}
use Rattle.base.proofs.Cells.{cell-inside}
use Rattle.number.proofs.Looking.{entry-small, number_is}
use Rattle.chain_records.proofs.Numbered.number.Goals as goal

pub number_of-requires : goal.number_of-requires
number_of-requires c =
    let f = c.args.self.now in
    let p = c.requires in
    let i = cell-inside f.layout.budget f.layout.blocks c.args.block c.args.cycles p.0 p.1 p.2 in
    record {
      cell = p;
      inside = (omega (arith, i, f.marked.room), omega (arith, i, f.numbered.room));
      small = entry-small _ f.numbered f.marked.serves c.args.block c.args.cycles p.0 p.1 p.2;
    }

pub returns : goal.returns
returns c =
    let f = c.args.self.now in
    let p = c.requires in
    record {
      value = c.number_of.ensures.0 ∙ number_is _ f.numbered f.marked.serves c.args.block c.args.cycles p.0 p.1 p.2;
      limit = c.number_of.ensures.1;
    }
