-- Nothing came at first, then piece by piece; at the end, all.
use Rattle.std.proofs.Common.{[], subst, sym}
use Rattle.std.proofs.KnownBytes.{Consumes-nil}
use Rattle.kept.specs.Held.{Held, held_as}
use Rattle.kept.proofs.More.{held_start}
use Rattle.input.proofs.read_to_end.Goals as goal

pub loop-init : goal.loop-init
loop-init g c =
    let start : Held [] c.args.row.now (held_as c.nothing-s.result) = subst (Held [] c.args.row.now) (sym c.nothing-s.ensures) (held_start _) in
    record { room = start.room; came = ([], start, Consumes-nil _) }
