-- Nothing is written, nothing was read.
use Rattle.std.proofs.Common.{sym, subst}
use Rattle.text_form.specs.Reading.{start}
use Rattle.reading.proofs.Told.{Told, told-out}
use Rattle.reading.proofs.keeping.begun.Goals as goal

pub returns : goal.returns
unfolding start
returns c =
    let K = c.begin-progress.ensures.by_index_2 c.args.row in
    record {
      able = c.begin-progress.ensures.by_index _ c.requires;
      held = record { is-read = K; is-byte = told-out c.begin-progress.result (subst Told (sym K.is-fault) tt) };
    }
