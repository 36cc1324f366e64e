-- The next marked cell, or none.
use Rattle.std.proofs.Common.{rules, ap, length}
use Rattle.tables.proofs.SetCells.{set-none, set-first}
use Rattle.tables.proofs.marked.MarkedCellsIterator.next.Goals as goal

pub returns-then-index-size-clause-steps : goal.returns-then-index-size-clause-steps
returns-then-index-size-clause-steps c = let e = set-none _ _ _ _ c.next_marked-index.ensures c.if-index-size.true in (e, e)

pub returns-clause-steps : goal.returns-clause-steps
returns-clause-steps c = set-first _ _ _ _ c.next_marked-index.ensures c.if-index-size.false

pub returns-clause-goes : goal.returns-clause-goes
returns-clause-goes c =
    let f = ap length (set-first _ _ _ _ c.next_marked-index.ensures c.if-index-size.false) in
    search (rules, f)
