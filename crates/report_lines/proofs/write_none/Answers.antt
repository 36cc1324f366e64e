-- `most none` and the newline.
use Rattle.std.proofs.Common.{arith, refl}
use Rattle.report_lines.proofs.Lines.{none_is, whole-line}
use Rattle.report_lines.proofs.write_none.Goals as goal

pub returns : goal.returns
returns c =
    whole-line c.put_bytes-end.ensures c.put_byte.ensures (none_is _ refl) (omega (arith, c.put_bytes-end.ensures.is-end, c.put_bytes-end.auto.text)) c.put_byte.auto.text
