-- The bytes, or the fault.
use Rattle.std.proofs.Common.{refl}
use Rattle.reading.proofs.Own.{quiet, told-bytes, told-line}
use Rattle.reading.proofs.keeping.Reading.finish.Goals as goal

pub returns-then-encoded-eq0 : goal.returns-then-encoded-eq0
returns-then-encoded-eq0 c = λ xs H.
    let L = c.finish-encoded.ensures.leaves _ xs H.is-read in
    ((L.0, quiet L.1 c.if-encoded-eq0.true), tt)

pub returns : goal.returns
returns c = λ xs H.
    let L = c.finish-encoded.ensures.leaves _ xs H.is-read in
    (tt, (told-bytes xs H.is-read L.1 c.if-encoded-eq0.false, told-line xs H.is-read L.1 c.if-encoded-eq0.false _ refl refl (c.fault_by.ensures H.is-byte)))
