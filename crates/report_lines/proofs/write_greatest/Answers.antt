-- The word and the three numbers.
use Rattle.std.proofs.Common.{◌≡◌, ◌+◌, arith}
use Rattle.std.specs.Prelude.{suc}
use Rattle.report_lines.proofs.Lines.{most-is, whole-line}
use Rattle.report_lines.proofs.Room.{last-room}
use Rattle.report_lines.proofs.write_greatest.Goals as goal

pub put_last_three-requires : goal.put_last_three-requires
put_last_three-requires c =
    last-room _ _ _ _ (omega arith) (omega arith) (omega arith) (omega (arith, c.put_bytes-p.ensures.is-end, c.put_bytes-p.auto.text))

pub returns : goal.returns
returns c =
    let e : suc c.args.most.before ≡ c.args.most.before + 1 = omega arith in
    rw e (whole-line c.put_bytes-p.ensures c.put_last_three.ensures (most-is _ (λ e. omega (arith, e)))
    (last-room _ _ _ _ (omega arith) (omega arith) (omega arith) (omega (arith, c.put_bytes-p.ensures.is-end, c.put_bytes-p.auto.text))) c.put_last_three.auto.text)
