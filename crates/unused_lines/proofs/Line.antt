-- An unused block's line, part by part as it is written; it takes at most 23 bytes.
-- Rests on formats Listing and Report, digits Spaced, NumberLine and Room, report_lines Lines.
use mathlib.Core.Path.{◌≡◌, refl, ap}
use mathlib.Core.List.{◌++◌}
use Prim.Native.Nat.{ℕ, ◌+◌, ◌≤◌, ◌<◌}
use native.Mathlib.Omega.{arith}
use lib.ListN.{length, length-append}
use Rattle.formats.specs.Listing.{line}
use Rattle.formats.specs.Report.{unused_text, unused_line}
use Rattle.digits.specs.Spaced.{spaced}
use Rattle.digits.proofs.NumberLine.{newline_text}
use Rattle.digits.proofs.Room.{spaced-7}
use Rattle.report_lines.specs.Lines.{number_limit}

pub unused-is : (p v : ℕ) → (unused_text ++ spaced p) ++ (spaced v ++ newline_text) ≡ unused_line p v
unfolding unused_line line spaced
unused-is p v = refl

pub unused-length : (p v : ℕ) → length (unused_line p v) ≡ length (unused_text ++ spaced p) + (length (spaced v) + 1)
unused-length p v =
    omega (
      arith,
      ap length (unused-is p v),
      length-append (unused_text ++ spaced p) (spaced v ++ newline_text),
      length-append (spaced v) newline_text,
    )

pub unused-fits : (p v : ℕ) → p < number_limit → v < number_limit → length (unused_line p v) ≤ 23
unused-fits p v l m = omega (arith, unused-length p v, length-append unused_text (spaced p), spaced-7 p l, spaced-7 v m)
