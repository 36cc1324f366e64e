-- A copy's line, part by part as it is written, and by the numbers that were read.
-- Rests on base Lists, formats Words and Listing, digits Spaced and NumberLine, specs Line.
use mathlib.Core.Path.{◌≡◌}
use mathlib.Core.List.{List, ◌++◌}
use Prim.Native.Nat.{ℕ, suc, ◌+◌, ◌*◌, ◌≤◌}
use native.Mathlib.Omega.{arith}
use lib.ListN.{length, length-append}
use Rattle.base.specs.Lists.{each}
use Rattle.formats.specs.Words.{field, targets_from, Inside, next_from}
use Rattle.formats.specs.Listing.{decimal}
use Rattle.digits.specs.Spaced.{spaced}
use Rattle.digits.proofs.NumberLine.{newline_text}
use Rattle.copy_line.specs.Line.{copy_text, line_at, Readable}

pub copy-length : (i v l : ℕ) (ts : List ℕ)
    → length (copy_text i v l ts) ≡ length (decimal i) + (length (spaced v) + (length (spaced l) + (length (each spaced ts) + 1)))
unfolding copy_text
copy-length i v l ts =
    let x = spaced v in
    let y = spaced l in
    let z = each spaced ts in
    omega (
      arith,
      length-append (decimal i) (x ++ (y ++ (z ++ newline_text))),
      length-append x (y ++ (z ++ newline_text)),
      length-append y (z ++ newline_text),
      length-append z newline_text,
    )

-- a copy's line, by the numbers that were read
pub line_read : (s : List ℕ) (at c f i : ℕ) {v l x : ℕ} → v ≡ field s at 3 i 0 → l ≡ field s at 3 i 1 → x ≡ field s at 3 i 2
    → copy_text i v l (targets_from s (at + 3 * c) (suc f) x) ≡ line_at s at c f i
line_read s at c f i p q r = rw (p, q, r)

-- the chain from a first edge that was read
pub chain-read : {s : List ℕ} {at c f i x : ℕ} → Readable s at c f → 1 ≤ i → i ≤ c → x ≡ field s at 3 i 2
    → Inside (next_from s (at + 3 * c)) f (suc f) x
chain-read {i = i} R p q e = rw e (R.inside i p q)
