-- No sheet, no byte.
use Rattle.std.proofs.Common.{refl, arith}
use Rattle.catalogue.proofs.Stands.{stands-first}
use Rattle.framing.proofs.Steps.{came-first}
use Rattle.framing.proofs.begin.Goals as goal

pub returns : goal.returns
returns c =
    let s = c.start.ensures in
    record {
      by_index = λ row marks. came-first (stands-first s.0 s.1 s.2) refl;
      by_index_2 = λ row marks l m.
          record { ready = record { most = omega (arith, s.0); fits = s.3; room = m }; size = l; kept = omega arith; next = λ e. omega (arith, s.0) };
    }
