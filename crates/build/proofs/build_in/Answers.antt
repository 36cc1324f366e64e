-- The local rows serve the sheet.
use Rattle.std.proofs.Common.{ap}
use Rattle.formats.specs.GraphSheet.{Header}
use Rattle.build.proofs.Local.{rows-serve}
use Rattle.build.proofs.build_in.Goals as goal

pub build_in_rows-requires : goal.build_in_rows-requires
build_in_rows-requires g c =
    let L = c.args.lowered in
    let n = ap (λ (h : Header). h.blocks) L.sheet.sound.header in
    let r = rows-serve g.row.WORDS g.row.BLOCKS g.row.COSTS g.row.CELLS c.requires.serves in
    record { area = c.requires.area; rows = rw L.lowered r.0; cells = rw (n, L.lowered) r.1.0; clear = r.1.1 }
