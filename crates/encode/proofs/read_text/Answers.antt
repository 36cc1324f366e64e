-- Nothing was read at first, then piece by piece.
use Rattle.std.proofs.Common.{[], ◌++◌}
use Rattle.std.proofs.KnownBytes.{Consumes-nil, Consumes-trans}
use Rattle.text_form.specs.Reading.{read_on}
use Rattle.encode.proofs.read_text.Goals as goal

pub loop-init : goal.loop-init
unfolding read_on
loop-init g c = record { able = c.begin-s.ensures.by_index _ c.requires; read = ([], c.begin-s.ensures.by_index_2 _, Consumes-nil _) }

pub loop-preserved : goal.loop-preserved
loop-preserved g c =
    let before = c.loop.invariant.read in
    record {
      able = c.feed-s.ensures.able;
      read = (before.0 ++ _, c.feed-s.ensures.feeds _ before.0 before.1, Consumes-trans _ _ _ _ _ before.2 c.in_ok-n.ensures.bytes.0);
    }
