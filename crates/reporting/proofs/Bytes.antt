-- What comes and what is written, byte by byte through a piece, piece by piece, and at the end.
-- Rests on kept More, framing Feeding, stream Ends, specs Taken and Printed.
use Rattle.std.proofs.Common.{◌≡◌, Some, None, IfSome, List, ℕ, ◌+◌, ◌<◌, ◌≤◌, length, get_or, take, subst, sym, append-nil}
use Rattle.std.proofs.KnownBytes.{Appends-trans}
use Rattle.std.specs.Io.KnownBytes.{Appends, Consumes}
use Rattle.std.specs.Prelude.{Option, Result, Ok, Err, OnErr}
use lib.Seq.{take_all}
use Rattle.kept.proofs.More.{bytes_next}
use Rattle.catalogue.specs.declared.Handed.{Handed}
use Rattle.framing.specs.declared.Progress.{Progress}
use Rattle.framing.specs.declared.Frame.TheVariants.{Full}
use Rattle.framing.specs.Feeding.{Feeds}
use Rattle.stream.proofs.Ends.{behind}
use Rattle.reporting.specs.Taken.{Taken, Takes}
use Rattle.reporting.specs.Printed.{Printed, Prints}
use Rattle.unused.specs.Marks.{Marks}

module _ (bytes : List ℕ) {s : Progress} {row : List ℕ} {marks : Marks} where
  -- before the first
  pub takes_none : Takes (take 0 bytes) s row marks s row marks
  takes_none xs T = subst (λ (w : List ℕ). Taken w s row marks) (sym (append-nil xs)) T

  pub prints_none : (old : Option (List ℕ)) → Prints (take 0 bytes) old s row marks old s row marks
  prints_none old xs before P = subst (λ (w : List ℕ). Printed w before old s row marks) (sym (append-nil xs)) P

  -- one more
  pub takes_next : (i : ℕ) {s' : Progress} {row' : List ℕ} {marks' : Marks} {text row'' : List ℕ} {marks'' : Marks} {text'' : List ℕ} {r : Handed Progress} → i < length bytes
      → Takes (take i bytes) s row marks s' row' marks' → Feeds (get_or bytes i 0) s' row' marks' text r row'' marks'' text''
      → Takes (take (i + 1) bytes) s row marks r.now row'' marks''
  takes_next i {row'' = row''} {marks'' = marks''} {r = r} l T F xs U =
      let N = T xs U in
      subst (λ (w : List ℕ). Taken w r.now row'' marks'') (bytes_next xs bytes i l)
      (record { said = _; came = (F _ N.said N.came).came })

  pub prints_next : (i : ℕ) {s' : Progress} {row' : List ℕ} {marks' : Marks} {text row'' : List ℕ} {marks'' : Marks} {text'' : List ℕ} {r : Handed Progress} {old now new : Option (List ℕ)} → i < length bytes
      → Prints (take i bytes) old s row marks now s' row' marks' → Feeds (get_or bytes i 0) s' row' marks' text r row'' marks'' text''
      → Appends now new (take r.size text'')
      → Prints (take (i + 1) bytes) old s row marks new r.now row'' marks''
  prints_next i {row'' = row''} {marks'' = marks''} {r = r} {new = new} l P F W xs before U =
      let N = P xs before U in
      subst (λ (w : List ℕ). Printed w before new r.now row'' marks'') (bytes_next xs bytes i l)
      (record { said = _; came = (F _ N.said N.came).came; written = Appends-trans before _ new N.said _ N.written W })

  -- behind the last
  pub takes_all : {s' : Progress} {row' : List ℕ} {marks' : Marks} (i : ℕ) → Takes (take i bytes) s row marks s' row' marks' → length bytes ≤ i
      → Takes bytes s row marks s' row' marks'
  takes_all {s'} {row'} {marks'} i T l = subst (λ (w : List ℕ). Takes w s row marks s' row' marks') (take_all i bytes l) T

-- of a failure, what holds anyway
pub at_err : {T E P : Type 0} (r : Result T E) → P → OnErr r P
at_err (Ok x) p = tt
at_err (Err e) p = p

-- where no sheet may come nothing that comes matters
pub printed_all : (a b : Option (List ℕ)) (came : List ℕ) {before now : Option (List ℕ)} {s : Progress} {row : List ℕ} {marks : Marks} → Consumes a b came
    → Printed came before now s row marks → s.frame ≡ Full → IfSome a (λ xs. Printed xs before now s row marks)
printed_all None b came c P f = tt
printed_all (Some xs) None came c P f = absurd c
printed_all (Some xs) (Some ys) came {before} {now} {s} {row} {marks} c P f =
    subst (λ (w : List ℕ). Printed w before now s row marks) (sym c)
    (record { said = P.said; came = behind P.came f ys; written = P.written })
