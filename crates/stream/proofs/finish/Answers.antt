-- The lines of all sheets, and no closing part yet.
use Rattle.std.proofs.Common.{arith}
use Rattle.stream.proofs.Ends.{closed-first}
use Rattle.stream.proofs.finish.Goals as goal

pub returns : goal.returns
returns c =
    let e = c.last_line-line.ensures in
    record { closable = (record { ready = e.ready_2.0; next = omega arith }, e.ready_2.1); finishes = λ xs said row H. closed-first (e.lists xs said row H) }
