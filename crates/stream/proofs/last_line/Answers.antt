-- A line for a sheet that is cut, or none.
use Rattle.std.proofs.Common.{arith}
use Rattle.stream.proofs.Ends.{none-cut, one-cut, listed-none, listed-cut}
use Rattle.stream.proofs.last_line.Goals as goal

pub returns-in-Within-clause-lists : goal.returns-in-Within-clause-lists
returns-in-Within-clause-lists c = λ xs said row H. listed-cut H c.next_sheet-step.ensures.next (one-cut H c.in-Within.is)

pub returns-in-Between : goal.returns-in-Between
returns-in-Between c = record { ready_2 = (c.requires.ready.0, omega arith); lists = λ xs said row H. listed-none H (none-cut H c.in-Between.is) }
