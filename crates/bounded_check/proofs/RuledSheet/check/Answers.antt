-- Too short, or the two parts of rule 11, one after the other, behind the header that is read.
use Rattle.std.proofs.Common.{◌≡◌, sym}
use Rattle.formats.specs.Rule11.{bounded_refusal}
use Rattle.bounded_check.proofs.Rule.{short-refuses, form-refuses, header-there, answer-read}
use Rattle.bounded_check.proofs.Header.{budgets-inside, listed}
use Rattle.bounded_check.proofs.RuledSheet.check.Goals as goal

pub returns-then-words-lt-LEAST_WORDS-clause-answer : goal.returns-then-words-lt-LEAST_WORDS-clause-answer
returns-then-words-lt-LEAST_WORDS-clause-answer c = short-refuses _ c.if-words-lt-LEAST_WORDS.true

pub returns-then-bad_form-clause-answer : goal.returns-then-bad_form-clause-answer
returns-then-bad_form-clause-answer c =
    form-refuses _ c.if-words-lt-LEAST_WORDS.false c.read_heading-header.ensures.largest_value c.bad_form.ensures c.if-bad_form.true

pub invariant_of-records : goal.invariant_of-records
invariant_of-records c =
    record {
      formed = (header-there _ c.if-words-lt-LEAST_WORDS.false c.read_heading-header.ensures.largest_value c.bad_form.ensures c.if-bad_form.false).0;
    }

pub budgets_part-budgets-requires : goal.budgets_part-budgets-requires
budgets_part-budgets-requires c =
    let there = (header-there _ c.if-words-lt-LEAST_WORDS.false c.read_heading-header.ensures.largest_value c.bad_form.ensures c.if-bad_form.false).1 in
    (there.0, budgets-inside _ there.1)

pub all_entries-entries-requires : goal.all_entries-entries-requires
all_entries-entries-requires c =
    let there = (header-there _ c.if-words-lt-LEAST_WORDS.false c.read_heading-header.ensures.largest_value c.bad_form.ensures c.if-bad_form.false).1 in
    (there.0, there.1)

pub bad_behind-requires : goal.bad_behind-requires
bad_behind-requires c =
    let there = (header-there _ c.if-words-lt-LEAST_WORDS.false c.read_heading-header.ensures.largest_value c.bad_form.ensures c.if-bad_form.false).1 in
    record { listed = listed _ there.1 there.0 there.2 c.budgets_part-budgets.ensures c.all_entries-entries.ensures }

pub returns-then-bad_behind-clause-answer : goal.returns-then-bad_behind-clause-answer
returns-then-bad_behind-clause-answer c =
    answer-read _ c.if-words-lt-LEAST_WORDS.false c.read_heading-header.ensures.largest_value c.bad_form.ensures c.if-bad_form.false
    c.bad_behind.ensures c.if-bad_behind.true

pub returns-clause-answer : goal.returns-clause-answer
returns-clause-answer c =
    answer-read _ c.if-words-lt-LEAST_WORDS.false c.read_heading-header.ensures.largest_value c.bad_form.ensures c.if-bad_form.false
    c.bad_behind.ensures c.if-bad_behind.false

pub invariant_of-result : goal.invariant_of-result
invariant_of-result c =
    let there = (header-there _ c.if-words-lt-LEAST_WORDS.false c.read_heading-header.ensures.largest_value c.bad_form.ensures c.if-bad_form.false).1 in
    let kept : 0 ≡ bounded_refusal c.args.words.now
    = answer-read _ c.if-words-lt-LEAST_WORDS.false c.read_heading-header.ensures.largest_value c.bad_form.ensures c.if-bad_form.false
    c.bad_behind.ensures c.if-bad_behind.false in
    record {
      ruled = record {
        header = c.read_heading-header.ensures.largest_value;
        kept = sym kept;
        listed = listed _ there.1 there.0 there.2 c.budgets_part-budgets.ensures c.all_entries-entries.ensures;
      };
    }
