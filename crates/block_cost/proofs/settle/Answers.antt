-- The cost is too small for the block, or the masks do not meet, or the cell and the bit are set.
use Rattle.block_cost.proofs.Cells.{cell}
use Rattle.block_cost.proofs.OneCost.{same-wide, wrote, wrote_it, mirror-put, met-completes, too-dear, unmet}
use Rattle.block_cost.proofs.settle.Goals as goal

pub returns-then-cost-own : goal.returns-then-cost-own
returns-then-cost-own c =
    let K = c.requires.kept in
    let p = c.requires.inside in
    record { wider = same-wide K.fair; kept_2 = K; set = λ m. absurd (too-dear K c.cost-own.ensures.value c.requires.onward (p.0, p.1, p.2) p.3 c.if-cost-own.true m) }

pub returns-then-not-meet : goal.returns-then-not-meet
returns-then-not-meet c =
    let K = c.requires.kept in
    let p = c.requires.inside in
    let n = c.meet.ensures.no c.if-not-meet.true in
    record { wider = same-wide K.fair; kept_2 = K; set = λ m. absurd (unmet K c.cost-own.ensures.value c.requires.onward (p.0, p.1, p.2) p.3 n m) }

pub set_cell-requires-clause-has_cell : goal.set_cell-requires-clause-has_cell
set_cell-requires-clause-has_cell c =
    let p = c.requires.inside in
    cell c.requires.kept.fair.ready _ _ (p.0, p.1) p.3

pub returns : goal.returns
returns c =
    let K = c.requires.kept in
    let p = c.requires.inside in
    let m = met-completes K c.cost-own.ensures.value p.3 c.if-cost-own.false (c.meet.ensures.yes c.if-not-meet.false) in
    let s = c.set_cell.ensures in
    let w = wrote K.fair (p.0, p.1) p.3 m s in
    let h = wrote_it K.fair (p.0, p.1) p.3 m s in
    record { wider = w; kept_2 = record { listed = K.listed; fair = w.fair; mirror = mirror-put K.fair.ready K.mirror (p.0, p.1) p.3 c.put.ensures s h }; set = λ _. h }
