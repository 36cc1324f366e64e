-- `list::list_file` meets its contract: an odd file is refused with 1, of any other the words are listed.
use Rattle.std.proofs.Common.{ap, ◌∙◌}
use Rattle.formats.specs.Listing.{refusal_of}
use Rattle.calls.specs.Program.{sheet_listing}
use Rattle.digits.proofs.Due.{wrote_as}
use Rattle.file_words.proofs.Filled.{words-first}
use Rattle.list.proofs.Files.{odd-listed, even-listed}
use Rattle.list.proofs.list_file.Goals as goal

pub returns-then-odd : goal.returns-then-odd
returns-then-odd c =
    let r = c.write_refusal.ensures in
    (wrote_as r.0 (ap refusal_of c.number.ensures ∙ odd-listed c.args.bytes.now c.if-odd.true), r.1)

pub returns : goal.returns
returns c =
    let bytes = c.args.bytes.now in
    let r = c.list_words.ensures in
    let front = words-first bytes _ _ _ c.words_of-count.ensures.words_after c.words_of-count.ensures.value in
    (wrote_as r.0 (ap sheet_listing front ∙ even-listed bytes c.if-odd.false), r.1)
