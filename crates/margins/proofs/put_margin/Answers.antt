-- ` none` where there is no next cost, else the number.
use Rattle.std.proofs.Common.{List, ℕ, ◌+◌, ◌≤◌, length, subst, sym}
use Rattle.digits.proofs.Due.{wrote_as}
use Rattle.margins.proofs.Words.{word_none, word_some}
use Rattle.margins.proofs.put_margin.Goals as goal

pub put_bytes-requires : goal.put_bytes-requires
put_bytes-requires c =
    subst (λ (w : List ℕ). c.args.at + length w ≤ length c.args.text.now) (sym (word_none c.args.low c.in-None.is)) c.requires.next_in_bounds

pub put_number-requires : goal.put_number-requires
put_number-requires c =
    subst (λ (w : List ℕ). c.args.at + length w ≤ length c.args.text.now) (sym (word_some c.args.low c.in-Some.is)) c.requires.next_in_bounds

pub returns-in-None : goal.returns-in-None
returns-in-None c = wrote_as c.put_bytes.ensures (word_none c.args.low c.in-None.is)

pub returns-in-Some : goal.returns-in-Some
returns-in-Some c = wrote_as c.put_number.ensures (word_some c.args.low c.in-Some.is)
