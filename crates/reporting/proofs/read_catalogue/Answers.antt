-- Nothing came at first, then piece by piece; after the last sheet that may come, all that matters did.
use Rattle.std.proofs.Common.{[], ◌++◌}
use Rattle.std.proofs.KnownBytes.{Appends-nil, Consumes-nil, Consumes-trans}
use Rattle.reporting.proofs.read_catalogue.Goals as goal

pub loop-init : goal.loop-init
loop-init g c =
    let start = c.begin-progress.ensures in
    record {
      able = start.by_index_2 _ _ c.requires.0 c.requires.1;
      came = ([], record { said = []; came = start.by_index _ _; written = Appends-nil _ }, Consumes-nil _);
    }

pub loop-preserved : goal.loop-preserved
loop-preserved g c =
    let fed = c.in_ok-progress.ensures in
    let before = c.loop.invariant.came in
    record { able = fed.able; came = (before.0 ++ _, fed.prints before.0 _ before.1, Consumes-trans _ _ _ _ _ before.2 c.in_ok-count.ensures.bytes.0) }
