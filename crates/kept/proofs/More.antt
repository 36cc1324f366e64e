-- One byte more.
-- Rests on formats File, specs Held.
use mathlib.Core.Path.{◌≡◌, refl, sym, ap, subst, ◌∙◌}
use mathlib.Core.Bool.{Bool, not}
use mathlib.Core.List.{List, [], ◌∷◌, ◌++◌, append_assoc, append-nil}
use Prim.Native.Nat.{ℕ, zero, suc, ◌+◌, ◌%◌, ◌≤◌, ◌<◌}
use native.Mathlib.Decide.{dec_le}
use native.Mathlib.Nat.{mod-lt}
use native.Mathlib.Numerals.{add-one}
use native.Mathlib.Omega.{arith}
use lib.Dec.{eqb}
use lib.ListN.{length, get_or, take, set, length-set, length-append}
use lib.Seq.{length-take-le, take_all, take-append-le, take-suc, take-suc-set}
use Rattle.formats.specs.File.{odd_bytes}
use Rattle.kept.specs.Held.{Holding, Held, holding, none}

-- nothing came yet
pub held_start : (row : List ℕ) → Held [] row none
unfolding odd_bytes
held_start row = record { room = omega arith; bytes = sym (take_all (length row) [] (omega arith)); odd = refl }

module _ (row : List ℕ) (count : ℕ) (l : count ≤ length row) (xs : List ℕ) (e : take count row ≡ take (length row) xs) where
  counted : count ≡ length (take (length row) xs)
  counted = sym (length-take-le count row l) ∙ ap length e

  -- the row is full: the first bytes stay
  pub full : (b : ℕ) → length row ≤ count → take count row ≡ take (length row) (xs ++ (b ∷ []))
  full b k = e ∙ sym (take-append-le (length row) xs (b ∷ []) (go (dec_le (length row) (length xs))))
    where
      go : Dec (length row ≤ length xs) → length row ≤ length xs
      go (yes p) = p
      go (no p) = omega (arith, counted, ap length (take_all (length row) xs (omega arith)))

  -- there is room for one
  pub kept_more : (b : ℕ) → count < length row → take (count + 1) (set row count b) ≡ take (length (set row count b)) (xs ++ (b ∷ []))
  kept_more b k =
      let s : length xs ≡ count = go (dec_le (length row) (length xs)) in
      ap (λ (n : ℕ). take n (set row count b)) (add-one count)
      ∙ take-suc-set row count b k
      ∙ ap (λ (ys : List ℕ). ys ++ (b ∷ [])) (e ∙ take_all (length row) xs (omega arith))
      ∙ sym (take_all (length (set row count b)) (xs ++ (b ∷ [])) (omega (arith, length-append xs (b ∷ []), length-set row count b)))
    where
      go : Dec (length row ≤ length xs) → length xs ≡ count
      go (yes p) = absurd (omega (arith, counted, length-take-le (length row) xs p))
      go (no p) = sym (counted ∙ ap length (take_all (length row) xs (omega arith)))

-- the parity turns
pub odd-more : (xs : List ℕ) (b : ℕ) → not (odd_bytes xs) ≡ odd_bytes (xs ++ (b ∷ []))
unfolding odd_bytes
odd-more xs b =
    go (length xs % 2) (mod-lt (length xs) (omega arith)) refl
    ∙ ap (λ (n : ℕ). eqb (n % 2) 1) (sym (length-append xs (b ∷ [])))
  where
    go : (x : ℕ) → x < 2 → length xs % 2 ≡ x → not (eqb (length xs % 2) 1) ≡ eqb ((length xs + length (b ∷ [])) % 2) 1
    go zero l e = let p : (length xs + length (b ∷ [])) % 2 ≡ 1 = omega arith in rw (e, p)
    go (suc zero) l e = let p : (length xs + length (b ∷ [])) % 2 ≡ 0 = omega arith in rw (e, p)
    go (suc (suc x)) l e = absurd (omega arith)

-- the bytes before i and the next
pub bytes_next : (xs bytes : List ℕ) (i : ℕ) → i < length bytes → (xs ++ take i bytes) ++ (get_or bytes i 0 ∷ []) ≡ xs ++ take (i + 1) bytes
bytes_next xs bytes i l =
    append_assoc xs (take i bytes) (get_or bytes i 0 ∷ [])
    ∙ ap (λ (ys : List ℕ). xs ++ ys) (sym (take-suc bytes i 0 l) ∙ ap (λ (n : ℕ). take n bytes) (sym (add-one i)))

-- so what is held is held with the next of some bytes
pub held_next : (xs bytes : List ℕ) (i : ℕ) → i < length bytes → {row after : List ℕ} {count r : ℕ} {odd : Bool}
    → Held (xs ++ take i bytes) row (holding count odd) → r ≤ length after
    → ((ys : List ℕ) → take count row ≡ take (length row) ys → take r after ≡ take (length after) (ys ++ (get_or bytes i 0 ∷ [])))
    → Held (xs ++ take (i + 1) bytes) after (holding r (not odd))
held_next xs bytes i l {after = after} {r = r} {odd = odd} H k h =
    subst (λ (ys : List ℕ). Held ys after (holding r (not odd))) (bytes_next xs bytes i l)
    (record { room = k; bytes = h (xs ++ take i bytes) H.bytes; odd = ap not H.odd ∙ odd-more (xs ++ take i bytes) (get_or bytes i 0) })

-- before the first of them, and behind the last
pub held_none : {xs row : List ℕ} {s : Holding} (bytes : List ℕ) → Held xs row s → Held (xs ++ take 0 bytes) row s
held_none {xs} {row} {s} bytes H = subst (λ (ys : List ℕ). Held ys row s) (sym (append-nil xs)) H

pub held_all : (xs : List ℕ) {row : List ℕ} {s : Holding} (bytes : List ℕ) (i : ℕ) → length bytes ≤ i → Held (xs ++ take i bytes) row s
    → Held (xs ++ bytes) row s
held_all xs {row} {s} bytes i l H = subst (λ (ys : List ℕ). Held (xs ++ ys) row s) (take_all i bytes l) H
