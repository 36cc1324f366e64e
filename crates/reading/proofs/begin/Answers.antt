-- Nothing is written, nothing was read.
use Rattle.std.proofs.Common.{refl}
use Rattle.base.specs.Lists.{each}
use Rattle.digits.proofs.Due.{wrote_none}
use Rattle.text_form.specs.Reading.{start}
use Rattle.formats.specs.File.{bytes_of}
use Rattle.word_bytes.proofs.Modes.{mode-between}
use Rattle.word_reading.proofs.Turns.{fault-none}
use Rattle.reading.proofs.begin.Goals as goal

pub returns-clause-by_index_2 : goal.returns-clause-by_index_2
unfolding start bytes_of each
returns-clause-by_index_2 c =
    λ row. record { wrote = wrote_none row 0; is-line = refl; is-column = refl; is-mode = mode-between; is-fault = fault-none _ refl }
