-- FOR EVERY WAY OF CUTTING A TEXT into pieces, each given to `feed` with the reading as the last call left it: what `finish` answers are the bytes
-- of the whole text, or its fault. Rests on text_form Reading, specs Held and Comes.
use mathlib.Core.List.{List, [], ◌++◌}
use Prim.Native.Nat.{ℕ}
use Rattle.std.proofs.Common.{Result, Bor}
use Rattle.fault_line.specs.declared.kinds.TextFault.{TextFault}
use Rattle.text_form.specs.Reading.{start, read_on}
use Rattle.reading.specs.declared.keeping.Reading.{Reading}
use Rattle.reading.specs.Held.{Holds, Able}
use Rattle.reading.specs.Comes.{Feeds, Comes, Leaves}

-- the pieces of xs were given, first to last: `new` promised the first, and each `feed` the others
pub data Fed : List ℕ → Reading → Type 0 where
  begun : {s : Reading} → Able s → Holds start s → Fed [] s
  more : {xs : List ℕ} {s t : Reading} (text : List ℕ) → Fed xs s → Able t → Feeds text s t → Fed (xs ++ text) t

-- so that the next call may be made
pub pieces-able : {xs : List ℕ} {s : Reading} → Fed xs s → Able s
pieces-able (begun a h) = a
pieces-able (more text f a h) = a

pieces-held : {xs : List ℕ} {s : Reading} → Fed xs s → Holds (read_on start xs) s
unfolding read_on
pieces-held (begun a h) = h
pieces-held (more {xs = xs} text f a h) = h xs (pieces-held f)

pub pieces-read : {xs : List ℕ} {s : Reading} → Fed xs s → (r : Result (Bor (List ℕ)) TextFault) → Leaves s r → Comes r xs
pieces-read {xs} f r h = h xs (pieces-held f)
