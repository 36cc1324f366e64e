-- Odd, too long, or the words.
use Rattle.std.proofs.Common.{ap, ◌∙◌}
use Rattle.formats.specs.Listing.{refusal_of}
use Rattle.digits.proofs.Due.{wrote_as}
use Rattle.show.proofs.Shown.{shown-odd, shown-long, shown-words}
use Rattle.show.proofs.show_kept.Goals as goal

pub returns-then-kept : goal.returns-then-kept
returns-then-kept c =
    let e = c.write_refusal.ensures in
    record { upper_bound = e.1; by_index = λ xs H. wrote_as e.0 (ap refusal_of c.number.ensures ∙ shown-odd H c.requires.row_len.0 c.if-kept.true) }

pub returns-then-row-kept : goal.returns-then-row-kept
returns-then-row-kept c =
    let e = c.write_refusal-then-row-kept.ensures in
    record { upper_bound = e.1; by_index = λ xs H. wrote_as e.0 (ap refusal_of c.number-then-row-kept.ensures ∙ shown-long H c.requires.row_len.0 c.if-kept.false c.if-row-kept.true) }

pub returns : goal.returns
returns c =
    let e = c.show_words.ensures in
    record { upper_bound = e.1; by_index = λ xs H. wrote_as e.0 (shown-words H c.requires.row_len.0 c.if-kept.false c.if-row-kept.false) }
