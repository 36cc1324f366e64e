-- One byte more came, and what was handed back for it was written, or could not be.
use Rattle.std.proofs.Common.{◌+◌, arith}
use Rattle.reporting.proofs.Bytes.{takes_next, prints_next, at_err}
use Rattle.reporting.proofs.feed_piece.Goals as goal

pub loop-byte-preserved : goal.loop-byte-preserved
loop-byte-preserved g c =
    let fed = c.feed_byte-fed.ensures in
    let before = c.loop-byte.invariant in
    let bytes = c.args.bytes.now in
    record {
      room = omega arith;
      able = fed.able_2.0;
      takes = takes_next bytes c.loop-byte.byte-index c.loop-byte-test.true before.takes fed.feeds;
      prints = prints_next bytes c.loop-byte.byte-index c.loop-byte-test.true before.prints fed.feeds c.in_ok-print.ensures.ok;
    }

pub returns-in_err-print-clause-err : goal.returns-in_err-print-clause-err
returns-in_err-print-clause-err g c =
    let fed = c.feed_byte-fed.ensures in
    at_err c.from_residual.result
    (record {
      count = c.loop-byte.byte-index + 1;
      progress = c.feed_byte-fed.result.now;
      able = fed.able_2.0;
      takes = takes_next c.args.bytes.now c.loop-byte.byte-index c.loop-byte-test.true c.loop-byte.invariant.takes fed.feeds;
    })
