-- Words as a file's bytes: one list behind another, and two bytes a word.
-- Rests on specs File.
use mathlib.Core.Path.{◌≡◌, refl, ap}
use mathlib.Core.List.{List, [], ◌∷◌, ◌++◌}
use Prim.Native.Nat.{ℕ, ◌*◌}
use native.Mathlib.Omega.{arith}
use lib.ListN.{length}
use Rattle.base.specs.Lists.{each}
use Rattle.formats.specs.File.{word_bytes, bytes_of}

pub bytes-append : (xs ys : List ℕ) → bytes_of (xs ++ ys) ≡ bytes_of xs ++ bytes_of ys
unfolding bytes_of each
bytes-append [] ys = refl
bytes-append (x ∷ xs) ys = ap (λ (w : List ℕ). word_bytes x ++ w) (bytes-append xs ys)

pub bytes-length : (ws : List ℕ) → length (bytes_of ws) ≡ 2 * length ws
unfolding bytes_of each
bytes-length [] = refl
bytes-length (w ∷ ws) = omega (arith, bytes-length ws)
