-- What is said of the text that was read was written to standard error.
use Rattle.std.proofs.Common.{Option, Some, None, IfSome, subst}
use Rattle.std.specs.Io.KnownBytes.{Appends}
use Rattle.std.proofs.lemmas.Result.{on_ok_weaker}
use Rattle.encode.proofs.encode_in_rows.Goals as goal

if_some_weaker : {A : Type 0} (o : Option A) {P Q : A → Type 0} → ((x : A) → P x → Q x) → IfSome o P → IfSome o Q
if_some_weaker (Some x) f p = f x p
if_some_weaker None f p = p

pub returns-clause-fault : goal.returns-clause-fault
returns-clause-fault g c =
    on_ok_weaker c.print.result
    (λ _. if_some_weaker (g.R.Read.remaining c.args.reader.now)
    (λ xs H. subst (Appends _ _) (c.finish-encoded.ensures.leaves _ xs H).1.front c.in_ok-print_error.ensures.ok) c.in_ok-reading.ensures.held)
    c.print.ensures.ok
