-- The sizes are those of the header and of the largest budget.
use Rattle.std.proofs.Common.{ap, arith}
use Rattle.formats.specs.GraphSheet.{Header}
use Rattle.formats.proofs.Handler.{accepted-with}
use Rattle.build.proofs.Local.{any-serves, most-cells, cells_are}
use Rattle.build.proofs.build_passed.Goals as goal

pub invariant_of-layout : goal.invariant_of-layout
invariant_of-layout c =
    let L = c.args.lowered in
    record { small = (omega (arith, L.sheet.sound.sound.form.blocks), omega (arith, (accepted-with _ _ L.accepted).budget, L.lowered)) }

pub build_in-requires-clause-serves : goal.build_in-requires-clause-serves
build_in-requires-clause-serves c =
    let L = c.args.lowered in
    let e = cells_are _ _ L.sheet.sound.header L.lowered c.cells-cells.ensures.value in
    let k = c.is_small.ensures c.if-is_small.true in
    let n = ap (λ (h : Header). h.blocks) L.sheet.sound.header in
    let m = ap (λ (h : Header). h.edges) L.sheet.sound.header in
    record { row = omega (arith, n, m, k); nexts = omega (arith, n, k); has = omega (arith, L.lowered, k); table = omega (arith, e, k) }

pub build_in-requires-then-cells-le-SOME_CELLS-clause-serves :
    goal.build_in-requires-then-cells-le-SOME_CELLS-clause-serves
build_in-requires-then-cells-le-SOME_CELLS-clause-serves c =
    let L = c.args.lowered in
    let e = cells_are _ _ L.sheet.sound.header L.lowered c.cells-cells.ensures.value in
    any-serves L.accepted _ _ _ _ (omega arith) (omega arith) (omega arith) (omega (arith, e, c.if-cells-le-SOME_CELLS.true))

pub build_in-requires-then-cells-le-MANY_CELLS-clause-serves :
    goal.build_in-requires-then-cells-le-MANY_CELLS-clause-serves
build_in-requires-then-cells-le-MANY_CELLS-clause-serves c =
    let L = c.args.lowered in
    let e = cells_are _ _ L.sheet.sound.header L.lowered c.cells-cells.ensures.value in
    any-serves L.accepted _ _ _ _ (omega arith) (omega arith) (omega arith) (omega (arith, e, c.if-cells-le-MANY_CELLS.true))

pub build_in-requires-2-clause-serves : goal.build_in-requires-2-clause-serves
build_in-requires-2-clause-serves c =
    let L = c.args.lowered in
    any-serves L.accepted _ _ _ _ (omega arith) (omega arith) (omega arith) (most-cells _ _ L.accepted)
