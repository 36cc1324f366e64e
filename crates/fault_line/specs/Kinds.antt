-- A fault by names as the definitions have it, and the line that tells it, without its end.
-- Rests on text_form Reading and Said.
use Rattle.std.specs.Prelude.{List, ◌++◌, ℕ}
use Rattle.text_form.specs.Reading.{What, other, large, many, nothing, Fault}
use Rattle.text_form.specs.Said.{place_text, what_text}
use Rattle.fault_line.specs.declared.kinds.Fault.{Fault as Kind}
use Rattle.fault_line.specs.declared.kinds.Fault.TheVariants.{NotADigit, AboveLargest, TooManyWords, NoWord}
use Rattle.fault_line.specs.declared.kinds.TextFault.{TextFault}

-- what stood where a fault is
abbrev pub what_of : Kind → What
what_of (NotADigit b) = other b
what_of (AboveLargest n) = large n
what_of TooManyWords = many
what_of NoWord = nothing

-- a fault and its place
abbrev pub fault_of : TextFault → Fault
fault_of t = record { line = t.line; column = t.column; what = what_of t.fault }

abbrev pub line_text : TextFault → List ℕ
line_text t = place_text t.line t.column ++ what_text (what_of t.fault)
