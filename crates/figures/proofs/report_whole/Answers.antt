-- The words of the bytes are reported.
use Rattle.std.proofs.Common.{arith}
use Rattle.file_words.proofs.Filled.{words-first}
use Rattle.figures.proofs.Whole.{reports-whole}
use Rattle.figures.proofs.report_whole.Goals as goal

pub returns : goal.returns
returns c =
    let bytes = c.args.bytes.now in
    let S = c.report_sheet.ensures in
    let front = words-first bytes _ _ _ c.words_of-count.ensures.words_after c.words_of-count.ensures.value in
    record { reports = reports-whole bytes front (λ j. omega (arith, c.type_inv.bytes j)) S.0; size_in_bounds = (S.0.inside, S.1) }
