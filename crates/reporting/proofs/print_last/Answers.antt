-- What is handed back at the end, and then the closing parts.
use Rattle.std.proofs.lemmas.Result.{on_ok_weaker}
use Rattle.std.proofs.KnownBytes.{Appends-trans}
use Rattle.reporting.proofs.print_last.Goals as goal

pub returns-clause-ok : goal.returns-clause-ok
returns-clause-ok g c =
    on_ok_weaker c.print_parts.result
    (λ closes xs before row P.
    closes xs _ before (c.finish-line.ensures.finishes xs P.said row P.came).closed (Appends-trans _ _ _ P.said _ P.written c.in_ok-print.ensures.ok))
    c.print_parts.ensures.ok
