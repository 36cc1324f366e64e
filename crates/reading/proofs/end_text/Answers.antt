-- A fault stays; else the last word is done, and without any word there is a fault.
use Rattle.std.proofs.Common.{◌∙◌, arith}
use Rattle.formats.specs.Limits.{word_limit}
use Rattle.text_form.specs.Reading.{between, nothing, flush, worded, ended}
use Rattle.text_form.proofs.Cases.{with_none, with-fault, worded-nothing, worded-words}
use Rattle.fault_line.proofs.Faults.{what-nothing}
use Rattle.word_bytes.proofs.Modes.{mode-between}
use Rattle.word_reading.proofs.Turns.{holds_as, held-size, held_none, held-fault, faults, flushed, ends, able-fault, able-with, flush-inside}
use Rattle.reading.proofs.end_text.Goals as goal

pub returns-then-s-ne0 : goal.returns-then-s-ne0
unfolding ended
returns-then-s-ne0 c = record { able = c.requires; turns = λ old r H. holds_as H (with-fault r (worded (flush r)) (held-fault H c.if-s-ne0.true)) }

pub returns-then-size-eq0 : goal.returns-then-size-eq0
unfolding ended flush
returns-then-size-eq0 c =
    let A = c.requires in
    record {
      able = able-fault (able-with A c.flush-size.auto.out _ word_limit (flush-inside A c.flush-size.ensures) (λ l. absurd (omega arith)) _ _ A.small_line A.small-column)
          _ _ (omega arith) c.fault_at.ensures;
      turns = λ old r H. let K = ends H c.if-s-ne0.false (flush r).words (flushed H c.flush-size.ensures) word_limit between mode-between in
          holds_as (faults K _ _ nothing (what-nothing _) (λ e. omega arith) c.fault_at.ensures)
          (with_none r (worded (flush r)) (held_none H c.if-s-ne0.false) ∙ worded-nothing (flush r) (omega (arith, held-size K, c.if-size-eq0.true)));
    }

pub returns : goal.returns
unfolding ended flush
returns c =
    let A = c.requires in
    record {
      able = able-with A c.flush-size.auto.out _ word_limit (flush-inside A c.flush-size.ensures) (λ l. absurd (omega arith)) _ _ A.small_line A.small-column;
      turns = λ old r H. let K = ends H c.if-s-ne0.false (flush r).words (flushed H c.flush-size.ensures) word_limit between mode-between in
          holds_as K (with_none r (worded (flush r)) (held_none H c.if-s-ne0.false) ∙ worded-words (flush r) (omega (arith, held-size K, c.if-size-eq0.false)));
    }
