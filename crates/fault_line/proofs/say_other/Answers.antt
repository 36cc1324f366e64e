-- By its number, or in quotes.
use Rattle.digits.proofs.Due.{wrote_as, wrote_then}
use Rattle.fault_line.proofs.Said.{other-below, other-above, other-seen}
use Rattle.fault_line.proofs.say_other.Goals as goal

pub returns-then-b-lt-FIRST_SEEN : goal.returns-then-b-lt-FIRST_SEEN
returns-then-b-lt-FIRST_SEEN c = wrote_as c.say_byte.ensures (other-below _ c.if-b-lt-FIRST_SEEN.true)

pub returns-then-b-gt-LAST_SEEN : goal.returns-then-b-gt-LAST_SEEN
returns-then-b-gt-LAST_SEEN c = wrote_as c.say_byte-then-b-gt-LAST_SEEN.ensures (other-above _ c.if-b-gt-LAST_SEEN.true)

pub returns : goal.returns
returns c =
    wrote_as
    (wrote_then c.put_byte-p.ensures (wrote_then c.put_byte-q.ensures (wrote_then c.put_byte-r.ensures c.put_bytes.ensures)))
    (other-seen _ c.if-b-lt-FIRST_SEEN.false c.if-b-gt-LAST_SEEN.false)
