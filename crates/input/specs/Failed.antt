-- Which stream a failure is told of, and what an input that failed before its end leaves.
-- Rests on kept Held.
use Rattle.std.specs.Prelude.{List, ℕ, ⊤, IfErr, Option, Result}
use Rattle.std.specs.Io.KnownBytes.{Keeps, Consumes}
use Rattle.kept.specs.Held.{Held, Holding}
use Rattle.input.specs.declared.Failure.{Failure}
use Rattle.input.specs.declared.Failure.TheVariants.{Input, Output, Errors}

-- of the input
abbrev pub OfInput : Failure → Type 0
OfInput (Input e) = ⊤
OfInput (Output e) = ⊥
OfInput (Errors e) = ⊥

-- of the output
abbrev pub OfOutput : Failure → Type 0
OfOutput (Input e) = ⊥
OfOutput (Output e) = ⊤
OfOutput (Errors e) = ⊥

-- of what is said beside it
abbrev pub OfErrors : Failure → Type 0
OfErrors (Input e) = ⊥
OfErrors (Output e) = ⊥
OfErrors (Errors e) = ⊤

-- of one of the two that a program has which says nothing beside
abbrev pub OfInputOrOutput : Failure → Type 0
OfInputOrOutput (Input e) = ⊤
OfInputOrOutput (Output e) = ⊤
OfInputOrOutput (Errors e) = ⊥

-- where the input fails, what a writer holds stays as it was
abbrev pub WritesNothing : {A : Type 0} → Result A Failure → Option (List ℕ) → Option (List ℕ) → Type 0
WritesNothing r old new = IfErr r (λ e. OfInput e → Keeps old new)

-- some bytes came before the failure: they were taken from the reader, and the row has their first
pub record Front (old new : Option (List ℕ)) (row : List ℕ) : Type 0 where
  pub came : List ℕ
  pub holding : Holding
  pub held : Held came row holding
  pub taken : Consumes old new came
