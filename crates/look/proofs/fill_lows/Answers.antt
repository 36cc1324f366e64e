-- Each turn fills the row of one block more.
use Rattle.std.proofs.Common.{◌≤◌, arith}
use Rattle.base.proofs.Cells.{count-rises}
use Rattle.calls.proofs.Area.{fewer-blocks}
use Rattle.look.proofs.Rows.{rows_end}
use Rattle.look.proofs.fill_lows.Goals as goal

pub fill_row-requires-clause-room : goal.fill_row-requires-clause-room
fill_row-requires-clause-room c =
    let n = c.args.layout.blocks in
    let b = c.args.layout.budget in
    let l : c.loop-block.block ≤ n = omega arith in (
      omega (arith, c.requires.room.0, fewer-blocks n b c.loop-block.block l),
      omega (arith, c.requires.room.1, c.loop-block.invariant.size, count-rises b c.loop-block.block n l),
    )

pub returns-clause-lows : goal.returns-clause-lows
returns-clause-lows c = rows_end c.loop-block.invariant c.requires.room.1 (omega arith)
