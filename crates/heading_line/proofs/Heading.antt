-- How long the heading is, part by part as it is written.
-- Rests on base Lists, digits Spaced and NumberLine, specs Heading.
use mathlib.Core.Path.{◌≡◌}
use mathlib.Core.List.{List, ◌++◌}
use Prim.Native.Nat.{ℕ, ◌+◌}
use native.Mathlib.Omega.{arith}
use lib.ListN.{length, length-append}
use Rattle.base.specs.Lists.{each}
use Rattle.digits.specs.Spaced.{spaced}
use Rattle.digits.proofs.NumberLine.{newline_text}
use Rattle.heading_line.specs.Heading.{copies_text, edges_text, budget_text, heading_text}

pub heading-length : (c f : ℕ) (bs : List ℕ)
    → length (heading_text c f bs)
    ≡ length (copies_text ++ spaced c) + (length (edges_text ++ spaced f) + (length budget_text + (length (each spaced bs) + 1)))
unfolding heading_text
heading-length c f bs =
    let x = copies_text ++ spaced c in
    let y = edges_text ++ spaced f in
    let z = each spaced bs in
    omega (
      arith,
      length-append x (y ++ (budget_text ++ (z ++ newline_text))),
      length-append y (budget_text ++ (z ++ newline_text)),
      length-append z newline_text,
    )
