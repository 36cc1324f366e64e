-- The first word, the others behind spaces, then the newline.
use Rattle.std.proofs.Common.{◌≡◌, sym, map, ◌+◌, arith, length}
use Rattle.base.specs.Lists.{each}
use Rattle.formats.specs.Listing.{decimal, line}
use Rattle.digits.specs.Spaced.{spaced}
use Rattle.digits.proofs.Due.{wrote_as, wrote_then}
use Rattle.decimal.proofs.Lines.{behind, line-is, line-length}
use Rattle.decimal.proofs.put_line.Goals as goal

pub put_decimal-behind_first-requires : goal.put_decimal-behind_first-requires
put_decimal-behind_first-requires c =
    let counted : length (line (map decimal c.args.words.now)) ≡ length (decimal c.word_at.result) + (length (each spaced (behind 1 c.args.words.now)) + 1) = line-length c.args.words.now c.word_at.result c.requires.in_bounds c.word_at.ensures.0 in
    omega (arith, counted)

pub put_numbers-behind_others-requires : goal.put_numbers-behind_others-requires
put_numbers-behind_others-requires c =
    let counted : length (line (map decimal c.args.words.now)) ≡ length (decimal c.word_at.result) + (length (each spaced (behind 1 c.args.words.now)) + 1) = line-length c.args.words.now c.word_at.result c.requires.in_bounds c.word_at.ensures.0 in
    omega (arith, c.put_decimal-behind_first.ensures.is-end, c.put_decimal-behind_first.auto.text, counted)

pub put_byte-requires : goal.put_byte-requires
put_byte-requires c =
    let counted : length (line (map decimal c.args.words.now)) ≡ length (decimal c.word_at.result) + (length (each spaced (behind 1 c.args.words.now)) + 1) = line-length c.args.words.now c.word_at.result c.requires.in_bounds c.word_at.ensures.0 in
    omega (
      arith,
      c.put_numbers-behind_others.ensures.is-end,
      c.put_numbers-behind_others.auto.text,
      c.put_decimal-behind_first.ensures.is-end,
      c.put_decimal-behind_first.auto.text,
      counted,
    )

pub returns : goal.returns
returns c =
    wrote_as (wrote_then c.put_decimal-behind_first.ensures (wrote_then c.put_numbers-behind_others.ensures c.put_byte.ensures))
    (sym (line-is c.args.words.now c.word_at.result c.requires.in_bounds c.word_at.ensures.0))
