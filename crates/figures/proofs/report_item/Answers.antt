-- A cut sheet is refused with 3, of any other the first bytes are reported.
use Rattle.figures.proofs.Whole.{reports-cut}
use Rattle.figures.proofs.report_item.Goals as goal

pub returns-in-None : goal.returns-in-None
returns-in-None c =
    let S = c.report_cut.ensures in
    rw c.in-None.is (record { reports = reports-cut S.0; size_in_bounds = (S.0.inside, S.1) })
