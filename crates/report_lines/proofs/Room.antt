-- How long three numbers in a line are at most: 24 bytes, and 25 with the newline.
-- Rests on digits Spaced, NumberLine and Room, specs Lines.
use mathlib.Core.Path.{◌≡◌}
use mathlib.Core.List.{◌++◌}
use Prim.Native.Nat.{ℕ, ◌+◌, ◌≤◌, ◌<◌}
use native.Mathlib.Omega.{arith}
use lib.ListN.{length, length-append}
use Rattle.digits.specs.Spaced.{spaced}
use Rattle.digits.proofs.NumberLine.{newline_text}
use Rattle.digits.proofs.Room.{spaced-7}
use Rattle.report_lines.specs.Lines.{number_limit, three_text, last_three}

pub three-length : (x y z : ℕ) → length (three_text x y z) ≡ length (spaced x) + (length (spaced y) + length (spaced z))
unfolding three_text
three-length x y z = omega (arith, length-append (spaced x) (spaced y ++ spaced z), length-append (spaced y) (spaced z))

pub three-most : (x y z : ℕ) → x < number_limit → y < number_limit → z < number_limit → length (three_text x y z) ≤ 24
three-most x y z i j k = omega (arith, three-length x y z, spaced-7 x i, spaced-7 y j, spaced-7 z k)

pub last-length : (x y z : ℕ) → length (last_three x y z) ≡ length (three_text x y z) + 1
unfolding last_three
last-length x y z = length-append (three_text x y z) newline_text

-- at a place p with 25 bytes left
pub last-room : {n : ℕ} (p x y z : ℕ) → x < number_limit → y < number_limit → z < number_limit → p + 25 ≤ n → p + length (last_three x y z) ≤ n
last-room p x y z i j k l = omega (arith, last-length x y z, three-most x y z i j k)
