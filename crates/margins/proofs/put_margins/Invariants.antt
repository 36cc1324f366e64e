-- The copies one by one: each is looked up, and its margin written.
use Rattle.digits.proofs.Counted.{PartsDue}
use Rattle.margins.specs.Margins.{margin_at, margin_word}
use Rattle.margins.proofs.put_margins.Given as goal

abbrev pub invariant-loop-copy : goal.invariant-loop-copy
invariant-loop-copy l =
    PartsDue (λ i. margin_word (margin_at l.sheet l.area l.largest l.at i)) l.copies l.initial.text l.place l.text l.end l.copy
