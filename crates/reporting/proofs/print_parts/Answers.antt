-- One part more was written; behind the last, the report.
use Rattle.std.proofs.Common.{◌++◌, arith, subst}
use Rattle.std.specs.Io.KnownBytes.{Appends}
use Rattle.std.proofs.KnownBytes.{Appends-trans}
use Rattle.stream.proofs.Ends.{closed-report}
use Rattle.reporting.proofs.Parts.{closed_at}
use Rattle.reporting.proofs.print_parts.Goals as goal

pub loop-closing-init : goal.loop-closing-init
loop-closing-init g c = record { room = omega arith; closable = c.requires; so_far = λ xs said before C A. (said, C, A) }

pub loop-closing-preserved : goal.loop-closing-preserved
loop-closing-preserved g c =
    let part = c.next_part-handed.ensures in
    record {
      room = omega arith;
      closable = part.closable_2.0;
      so_far = λ xs said before C A.
          let N = c.loop-closing.invariant.so_far xs said before C A in
          (N.0 ++ _, (part.parts xs N.0 (closed_at c.in-Some.is N.1)).closed, Appends-trans _ _ _ _ _ N.2 c.in_ok-print.ensures.ok);
    }

pub returns-clause-ok : goal.returns-clause-ok
returns-clause-ok g c = λ xs said before C A.
    let N = c.loop-closing.invariant.so_far xs said before C A in
    subst (Appends before _) (closed-report N.1 c.in_default.is) N.2
