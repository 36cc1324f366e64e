-- `word_reading::word_byte` meets its contract, case by case.
use Rattle.std.proofs.Common.{refl, sym, ap, ◌∙◌, arith}
use Rattle.text_form.specs.Reading.{other, large, many, within, value}
use Rattle.text_form.proofs.Cases.{below-digits, above-digits, digit-many, digit-more, digit-large}
use Rattle.fault_line.proofs.Faults.{what-other, what-large, what-many}
use Rattle.word_bytes.proofs.Modes.{mode-within}
use Rattle.word_reading.proofs.Turns.{holds_as, held-full, faults, moves, able-fault, able-on, begin-room}
use Rattle.word_reading.proofs.word_byte.Goals as goal

pub returns-then-is_full : goal.returns-then-is_full
returns-then-is_full c =
    record {
      by_index = λ row A. able-fault A _ _ (omega arith) c.fault_at-then-is_full.ensures;
      by_index_2 = λ row old r H. holds_as (faults H _ _ many (what-many _) (λ e. omega arith) c.fault_at-then-is_full.ensures)
          (digit-many r c.args.b c.if-b-lt-DIGIT_ZERO.false c.if-b-gt-DIGIT_NINE.false
          (sym (held-full H) ∙ sym c.is_full.ensures ∙ c.if-is_full.true));
    }

pub returns : goal.returns
returns c =
    record {
      by_index = λ row A. able-on A refl A.inside (λ l. begin-room A (sym c.is_full.ensures ∙ c.if-is_full.false)) c.onward.ensures;
      by_index_2 = λ row old r H. holds_as (moves H c.requires r.words H.wrote _ (within _) (mode-within _ c.if-n-ge-WORD_LIMIT.false) c.onward.ensures)
          (digit-more r c.args.b c.if-b-lt-DIGIT_ZERO.false c.if-b-gt-DIGIT_NINE.false
          (sym (held-full H) ∙ sym c.is_full.ensures ∙ c.if-is_full.false) c.value_of.result
          (c.value_of.ensures.0 ∙ ap value H.is-mode) c.if-n-ge-WORD_LIMIT.false);
    }

pub returns-then-b-lt-DIGIT_ZERO : goal.returns-then-b-lt-DIGIT_ZERO
returns-then-b-lt-DIGIT_ZERO c =
    record {
      by_index = λ row A. able-fault A _ _ (omega (arith, c.wide-x.ensures.1)) c.fault_at.ensures;
      by_index_2 = λ row old r H. holds_as (faults H _ _ (other c.args.b) (what-other c.wide-x.ensures.0) (λ e. omega arith) c.fault_at.ensures)
          (below-digits r c.args.b c.if-b-lt-DIGIT_ZERO.true);
    }

pub returns-then-b-gt-DIGIT_NINE : goal.returns-then-b-gt-DIGIT_NINE
returns-then-b-gt-DIGIT_NINE c =
    record {
      by_index = λ row A. able-fault A _ _ (omega (arith, c.wide-x.ensures.1)) c.fault_at-then-b-gt-DIGIT_NINE.ensures;
      by_index_2 = λ row old r H. holds_as (faults H _ _ (other c.args.b) (what-other c.wide-x.ensures.0) (λ e. omega arith) c.fault_at-then-b-gt-DIGIT_NINE.ensures)
          (above-digits r c.args.b c.if-b-gt-DIGIT_NINE.true);
    }

-- a digit's value is at most 10 * 65535 + 9
pub returns-then-n-ge-WORD_LIMIT : goal.returns-then-n-ge-WORD_LIMIT
returns-then-n-ge-WORD_LIMIT c =
    record {
      by_index = λ row A. able-fault A _ _ (omega (arith, c.value_of.ensures.1, c.if-b-gt-DIGIT_NINE.false)) c.fault_at-then-n-ge-WORD_LIMIT.ensures;
      by_index_2 = λ row old r H. holds_as (faults H _ _ (large _) (what-large _) (λ e. omega arith) c.fault_at-then-n-ge-WORD_LIMIT.ensures)
          (digit-large r c.args.b c.if-b-lt-DIGIT_ZERO.false c.if-b-gt-DIGIT_NINE.false
          (sym (held-full H) ∙ sym c.is_full.ensures ∙ c.if-is_full.false) c.value_of.result
          (c.value_of.ensures.0 ∙ ap value H.is-mode) c.if-n-ge-WORD_LIMIT.true);
    }
