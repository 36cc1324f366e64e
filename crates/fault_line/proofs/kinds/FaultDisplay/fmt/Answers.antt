-- What stood where a fault is, by the kinds of faults.
use Rattle.std.proofs.Common.{rules, refl, sym, ap, ◌∙◌}
use Rattle.text_form.specs.Said.{what_text}
use Rattle.fault_line.specs.Kinds.{what_of}
use Rattle.fault_line.proofs.Told.{seen-told, unseen-told, above-told}
use Rattle.std.proofs.Output.{has_written_of_eq}
use Rattle.fault_line.proofs.kinds.FaultDisplay.fmt.Goals as goal

pub returns-then-is_ascii_graphic-clause-writes : goal.returns-then-is_ascii_graphic-clause-writes
unfolding what_text
returns-then-is_ascii_graphic-clause-writes g c =
    let p = c.if-is_ascii_graphic.ensures.cases in
    λ plain ok. has_written_of_eq _ _ _ _ _ (seen-told _ p.0 p.1 ∙ ap (λ k. what_text (what_of k)) (sym c.in-NotADigit.is)) (c.write.ensures.writes plain ok)

pub returns-else-is_ascii_graphic-clause-writes : goal.returns-else-is_ascii_graphic-clause-writes
unfolding what_text
returns-else-is_ascii_graphic-clause-writes g c =
    λ plain ok. has_written_of_eq _ _ _ _ _ (unseen-told _ c.if-is_ascii_graphic.ensures.cases (search rules) ∙ ap (λ k. what_text (what_of k)) (sym c.in-NotADigit.is))
    (c.write-else-is_ascii_graphic.ensures.writes plain ok)

pub returns-in-AboveLargest-clause-writes : goal.returns-in-AboveLargest-clause-writes
unfolding what_text
returns-in-AboveLargest-clause-writes g c = λ p ok. has_written_of_eq _ _ _ _ _ (above-told _ (search rules) ∙ ap (λ k. what_text (what_of k)) (sym c.in-AboveLargest.is)) (c.write-in-AboveLargest.ensures.writes p ok)

pub returns-in-TooManyWords-clause-writes : goal.returns-in-TooManyWords-clause-writes
unfolding what_text
returns-in-TooManyWords-clause-writes g c = λ p ok. has_written_of_eq _ _ _ _ _ (refl ∙ ap (λ k. what_text (what_of k)) (sym c.in-TooManyWords.is)) (c.write_str.ensures.writes p ok)

pub returns-in-NoWord-clause-writes : goal.returns-in-NoWord-clause-writes
unfolding what_text
returns-in-NoWord-clause-writes g c = λ p ok. has_written_of_eq _ _ _ _ _ (refl ∙ ap (λ k. what_text (what_of k)) (sym c.in-NoWord.is)) (c.write_str-in-NoWord.ensures.writes p ok)
