-- Each part by what stands in its place.
use Rattle.std.proofs.Common.{ap, arith}
use Rattle.digits.proofs.Due.{wrote_as}
use Rattle.catalogue.specs.Parts.{place_of}
use Rattle.catalogue.proofs.Closing.{total-part, most-part, unused-part}
use Rattle.catalogue.proofs.closing_part.Goals as goal

pub returns-in-Totals : goal.returns-in-Totals
returns-in-Totals c =
    let w = c.write_total.ensures in
    rw c.in-Totals.is (record { upper_bound = w.1; wrote = λ fs D. wrote_as w.0 (total-part D) })

pub returns-in-Greatest : goal.returns-in-Greatest
returns-in-Greatest c =
    let w = c.write_most.ensures in
    rw c.in-Greatest.is (record { upper_bound = w.1; wrote = λ fs D. wrote_as w.0 (most-part D) })

pub returns-in-Unused-clause-wrote : goal.returns-in-Unused-clause-wrote
returns-in-Unused-clause-wrote c = λ fs D.
    rw c.in-Unused.is (wrote_as c.write_unused.ensures.0 (unused-part D c.in-Unused.sheet (omega (arith, c.requires.ready.1, ap place_of c.in-Unused.is))))
