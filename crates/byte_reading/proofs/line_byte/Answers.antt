-- `byte_reading::line_byte` meets its contract, case by case.
use Rattle.std.proofs.Common.{sym, ◌∙◌, arith}
use Rattle.formats.specs.Limits.{word_limit}
use Rattle.text_form.specs.Reading.{between, comment, flush}
use Rattle.text_form.proofs.Cases.{line-hash, line-blank, line_word}
use Rattle.word_bytes.proofs.Modes.{mode-between, mode-comment}
use Rattle.word_reading.proofs.Turns.{holds_as, flushed, moves, able-on, flush-inside}
use Rattle.byte_reading.proofs.line_byte.Goals as goal

pub returns-then-b-eq-HASH : goal.returns-then-b-eq-HASH
unfolding flush
returns-then-b-eq-HASH c =
    record {
      able = able-on c.requires.0 c.flush-p.auto.out (flush-inside c.requires.0 c.flush-p.ensures) (λ l. absurd (omega arith)) c.onward.ensures;
      turns = λ old r H. holds_as
          (moves H c.requires.1 (flush r).words (flushed H c.flush-p.ensures) 65537 comment (mode-comment 65537 (omega arith)) c.onward.ensures)
          (line-hash r c.args.b c.if-b-eq-HASH.true);
    }

pub returns-then-is_blank : goal.returns-then-is_blank
unfolding flush
returns-then-is_blank c =
    record {
      able = able-on c.requires.0 c.flush-p-then-is_blank.auto.out (flush-inside c.requires.0 c.flush-p-then-is_blank.ensures) (λ l. absurd (omega arith)) c.onward-then-is_blank.ensures;
      turns = λ old r H. holds_as
          (moves H c.requires.1 (flush r).words (flushed H c.flush-p-then-is_blank.ensures) word_limit between mode-between c.onward-then-is_blank.ensures)
          (line-blank r c.args.b c.if-b-eq-HASH.false (sym c.is_blank.ensures ∙ c.if-is_blank.true));
    }

pub returns : goal.returns
returns c =
    record {
      able = c.word_byte.ensures.by_index _ c.requires.0;
      turns = λ old r H. holds_as (c.word_byte.ensures.by_index_2 _ old r H)
          (line_word r c.args.b c.if-b-eq-HASH.false (sym c.is_blank.ensures ∙ c.if-is_blank.false));
    }
