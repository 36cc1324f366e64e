-- A block's chain of operations.
use Rattle.std.proofs.Common.{sym, subst, ◌∙◌}
use Rattle.convert_operations.specs.Small.{Small}
use Rattle.convert_operations.proofs.Sums.{operations-at, operations-small}
use Rattle.convert_operations.proofs.operations.Goals as goal

pub new-requires-clause-inside : goal.new-requires-clause-inside
new-requires-clause-inside c =
    let C = c.args.sheet.counted in
    let i = c.requires.block_inside in
    (operations-at c.requires.listed _ i.0 i.1 C.place C.count c.cost-first.ensures.0).0

pub returns-clause-value : goal.returns-clause-value
returns-clause-value c =
    let C = c.args.sheet.counted in
    let i = c.requires.block_inside in
    c.new.ensures.value ∙ (operations-at c.requires.listed _ i.0 i.1 C.place C.count c.cost-first.ensures.0).1

pub returns-clause-small : goal.returns-clause-small
returns-clause-small c =
    let C = c.args.sheet.counted in
    let i = c.requires.block_inside in
    subst Small (sym (c.new.ensures.value ∙ (operations-at c.requires.listed _ i.0 i.1 C.place C.count c.cost-first.ensures.0).1))
    (operations-small c.requires.listed _ i.0 i.1)
