-- The copies of the cells that were given are numbered.
use Rattle.std.proofs.Common.{refl, ◌∙◌, ap, arith}
use Rattle.tables.specs.Rest.{rest}
use Rattle.tables.proofs.Places.{few-cells, count_code}
use Rattle.number.proofs.Numbering.{numbering_start, numbering-room, numbering-on, numbering-end}
use Rattle.number.proofs.number.Goals as goal

pub loop-index-init : goal.loop-index-init
loop-index-init c = numbering_start _ _ _ _ _ c.requires.room.1 (ap rest c.into_iter-index-iterator.ensures.into_iter_gives ∙ c.marked_cells-index-items.ensures)

pub overflow_cast-numbers : goal.overflow_cast-numbers
overflow_cast-numbers c =
    let r = numbering-room _ _ _ c.loop-index.invariant c.in-Some.ensures.steps in
    let n = c.args.layout.blocks in
    let b = c.args.layout.budget in
    omega (arith, r.0, few-cells n b c.args.layout.small.0 c.args.layout.small.1, count_code n b)

pub bounds-numbers-index : goal.bounds-numbers-index
bounds-numbers-index c = (numbering-room _ _ _ c.loop-index.invariant c.in-Some.ensures.steps).1

pub offset_bounds-numbers-index : goal.offset_bounds-numbers-index
offset_bounds-numbers-index c =
    let M = c.loop-index.invariant in
    let n = c.args.layout.blocks in
    let b = c.args.layout.budget in
    omega (arith, (numbering-room _ _ _ M c.in-Some.ensures.steps).1, few-cells n b c.args.layout.small.0 c.args.layout.small.1, count_code n b)

pub loop-index-preserved : goal.loop-index-preserved
loop-index-preserved c = numbering-on _ _ _ c.loop-index.invariant c.in-Some.ensures.steps refl refl

pub returns-clause-by_index : goal.returns-clause-by_index
returns-clause-by_index c = (numbering-end _ _ _ c.loop-index.invariant c.in-None.ensures.steps.0).1
