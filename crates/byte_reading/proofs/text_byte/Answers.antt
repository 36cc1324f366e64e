-- `byte_reading::text_byte` meets its contract, case by case.
use Rattle.std.proofs.Common.{refl, sym, ap, subst, ◌∙◌, ℕ, ◌≤◌, arith}
use Rattle.formats.specs.Limits.{word_limit}
use Rattle.text_form.specs.Reading.{between, comment, most_count, in_comment, flush}
use Rattle.text_form.proofs.Cases.{text-newline, text-comment, text-line}
use Rattle.word_bytes.proofs.Modes.{mode-between, mode-comment, comment-yes, comment-no}
use Rattle.word_reading.proofs.Turns.{holds_as, flushed, moves, lines, able-on, able-with, flush-inside, next_small}
use Rattle.byte_reading.proofs.text_byte.Goals as goal

pub returns-then-b-eq-NEWLINE : goal.returns-then-b-eq-NEWLINE
unfolding flush
returns-then-b-eq-NEWLINE c =
    let A = c.requires.0 in
    record {
      able = able-with A c.flush-p.auto.out _ word_limit (flush-inside A c.flush-p.ensures) (λ l. absurd (omega arith)) _ 1
          (subst (λ (n : ℕ). n ≤ most_count) (sym c.counted-line.ensures) (next_small _ A.small_line)) (omega arith);
      turns = λ old r H. holds_as (lines H c.requires.1 (flush r).words (flushed H c.flush-p.ensures) word_limit between mode-between c.counted-line.ensures)
          (text-newline r c.args.b c.if-b-eq-NEWLINE.true);
    }

pub returns-then-s-ge-COMMENT : goal.returns-then-s-ge-COMMENT
returns-then-s-ge-COMMENT c =
    let m = c.args.s.mode in
    let A = c.requires.0 in
    record {
      able = able-on A refl A.inside A.room c.onward.ensures;
      turns = λ old r H. holds_as (moves H c.requires.1 r.words H.wrote m comment (mode-comment m (omega (arith, c.if-s-ge-COMMENT.true))) c.onward.ensures)
          (text-comment r c.args.b c.if-b-eq-NEWLINE.false (ap in_comment (sym H.is-mode) ∙ comment-yes m (omega (arith, c.if-s-ge-COMMENT.true))));
    }

pub returns : goal.returns
returns c =
    record {
      able = c.line_byte.ensures.able;
      turns = λ old r H. holds_as (c.line_byte.ensures.turns old r H)
          (text-line r c.args.b c.if-b-eq-NEWLINE.false
          (ap in_comment (sym H.is-mode) ∙ comment-no c.args.s.mode (omega (arith, c.if-s-ge-COMMENT.false))));
    }
