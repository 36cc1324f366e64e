-- The copy's number, block, low and targets, then the newline.
use Rattle.std.proofs.Common.{◌≡◌, ℕ, List, sym, ap, ◌∙◌, ◌+◌, ◌*◌, arith, length}
use Rattle.formats.specs.Words.{field}
use Rattle.formats.specs.Listing.{decimal}
use Rattle.digits.specs.Spaced.{spaced}
use Rattle.copy_line.specs.Line.{copy_text, targets_text, line_at}
use Rattle.digits.proofs.Due.{wrote_as, wrote_then}
use Rattle.copy_line.proofs.Lines.{line_read, copy-length, chain-read}
use Rattle.copy_line.proofs.write_copy.Goals as goal

-- the line's length, by the numbers that were read
read : (s : List ℕ) (at c f i : ℕ) {v l x : ℕ} → v ≡ field s at 3 i 0 → l ≡ field s at 3 i 1 → x ≡ field s at 3 i 2
    → length (line_at s at c f i) ≡ length (decimal i) + (length (spaced v) + (length (spaced l) + (length (targets_text s (at + 3 * c) f x) + 1)))
read s at c f i p q r = ap length (sym (line_read s at c f i p q r)) ∙ copy-length _ _ _ _

pub put_decimal-behind_copy-requires : goal.put_decimal-behind_copy-requires
put_decimal-behind_copy-requires c =
    let a = c.args in
    omega (arith, read a.words.now a.start a.copies a.edges a.copy c.field-block.ensures.0 c.field-low.ensures.0 c.field-first.ensures.0)

pub put_number-behind_block-requires : goal.put_number-behind_block-requires
put_number-behind_block-requires c =
    let a = c.args in
    omega (arith, read a.words.now a.start a.copies a.edges a.copy c.field-block.ensures.0 c.field-low.ensures.0 c.field-first.ensures.0)

pub put_number-behind_low-requires : goal.put_number-behind_low-requires
put_number-behind_low-requires c =
    let a = c.args in
    omega (arith, read a.words.now a.start a.copies a.edges a.copy c.field-block.ensures.0 c.field-low.ensures.0 c.field-first.ensures.0)

pub write_targets-end-requires : goal.write_targets-end-requires
write_targets-end-requires c =
    let a = c.args in
    let r = c.requires in
    let chain = chain-read r.readable r.le_copy.0 r.le_copy.1 c.field-first.ensures.0 in
    record {
      edges_in_bounds = (r.readable.size, chain);
      first_in_bounds = omega (arith, read a.words.now a.start a.copies a.edges a.copy c.field-block.ensures.0 c.field-low.ensures.0 c.field-first.ensures.0);
    }

pub put_byte-requires : goal.put_byte-requires
put_byte-requires c =
    let a = c.args in
    omega (arith, read a.words.now a.start a.copies a.edges a.copy c.field-block.ensures.0 c.field-low.ensures.0 c.field-first.ensures.0)

pub returns : goal.returns
unfolding copy_text
returns c =
    let a = c.args in
    let behind = wrote_then c.put_number-behind_low.ensures (wrote_then c.write_targets-end.ensures c.put_byte.ensures) in
    wrote_as (wrote_then c.put_decimal-behind_copy.ensures (wrote_then c.put_number-behind_block.ensures behind))
    (line_read a.words.now a.start a.copies a.edges a.copy c.field-block.ensures.0 c.field-low.ensures.0 c.field-first.ensures.0)
