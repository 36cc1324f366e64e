-- The sums are added, and the greatest is by its own function.
use Rattle.std.proofs.Common.{refl, arith}
use Rattle.formats.specs.Report.{plus}
use Rattle.tally.proofs.Steps.{fits, tallied}
use Rattle.tally.proofs.Tally.with_sheet.Goals as goal

pub returns-clause-fits : goal.returns-clause-fits
unfolding plus
returns-clause-fits c =
    let x = c.args in
    let b = c.requires.blocks_le_most_blocks in
    fits x.self _ x.blocks x.copies x.edges c.requires.place_lt_most_sheets.1 (omega arith) refl c.or.ensures b.0 b.1 b.2

pub returns-clause-tallied : goal.returns-clause-tallied
unfolding plus
returns-clause-tallied c =
    let x = c.args in
    tallied x.self _ x.blocks x.copies x.edges c.requires.place_lt_most_sheets.1 (omega arith) refl c.or.ensures
