-- The line that tells a fault, part by part as it is written, and its room.
-- Rests on base Checks, digits Spaced, Decimals and Room, text_form Reading and Said, specs Faults.
use mathlib.Core.Path.{◌≡◌, refl, sym, ap}
use mathlib.Core.Bool.{Bool, true, false}
use mathlib.Core.List.{List, ◌∷◌, ◌++◌}
use Prim.Native.Nat.{ℕ, ◌+◌, ◌<◌, ◌≤◌}
use native.Mathlib.Omega.{arith}
use lib.Dec.{eqb}
use lib.ListN.{length, length-append}
use borrow.Author.Tests.{lt-ltb, le-ltb, ne_eqb}
use Rattle.base.specs.Checks.{outside}
use Rattle.formats.specs.Listing.{decimal}
use Rattle.digits.specs.Spaced.{spaced}
use Rattle.digits.proofs.Decimals.{digits_7}
use Rattle.digits.proofs.Room.{spaced-7, spaced-9}
use Rattle.text_form.specs.Reading.{most_count}
use Rattle.text_form.specs.Said.{line_name, column_name, colon_text, byte_name, no_digit_text, above_text}
use Rattle.text_form.specs.Said.{many_text, nothing_text, place_text, unseen_text, other_text, what_text}
use Rattle.fault_line.specs.Faults.{found_limit, place_room, what_room, what_of}

-- THE PLACE

-- a name and a number that was counted
pub named-room : (name : List ℕ) (n : ℕ) → n ≤ most_count → length (name ++ spaced n) ≤ length name + 10
named-room name n l = omega (arith, length-append name (spaced n), spaced-9 n (omega arith))

pub place-length : (l c : ℕ) → l ≤ most_count → c ≤ most_count → length (place_text l c) ≤ place_room
unfolding place_text
place-length l c p q =
    omega (
      arith,
      length-append (line_name ++ spaced l) ((column_name ++ spaced c) ++ colon_text),
      length-append (column_name ++ spaced c) colon_text,
      named-room line_name l p,
      named-room column_name c q,
    )

-- A BYTE THAT IS NO DIGIT

module _ (b : ℕ) where
  pub other-below : b < 33 → unseen_text b ≡ other_text b
  unfolding other_text outside
  other-below l = rw (lt-ltb b 33 l, other_text)

  pub other-above : 126 < b → unseen_text b ≡ other_text b
  unfolding other_text outside
  other-above l = rw (le-ltb b 33 (omega arith), lt-ltb 126 b l, other_text)

  pub other-seen : 33 ≤ b → b ≤ 126 → 39 ∷ b ∷ 39 ∷ no_digit_text ≡ other_text b
  unfolding other_text outside
  other-seen l h = rw (le-ltb b 33 l, le-ltb 126 b h, other_text)

  pub unseen-length : b < found_limit → length (unseen_text b) ≤ what_room
  unseen-length l = omega (arith, length-append (byte_name ++ spaced b) no_digit_text, length-append byte_name (spaced b), spaced-7 b l)

  other_length : b < found_limit → length (other_text b) ≤ what_room
  unfolding other_text
  other_length l = go (outside 33 126 b) refl
    where
      go : (x : Bool) → outside 33 126 b ≡ x → length (other_text b) ≤ what_room
      go true e = rw (e, other_text) (unseen-length l)
      go false e = rw (e, other_text) (omega arith)

-- WHAT STOOD THERE, BY NUMBERS

module _ (x : ℕ) where
  abbrev text_of : ℕ → List ℕ
  text_of k = what_text (what_of k x)

  pub text-other : {k : ℕ} → k ≡ 1 → other_text x ≡ text_of k
  unfolding what_text what_of
  text-other e = ap text_of (sym e)

  pub text-large : {k : ℕ} → k ≡ 2 → decimal x ++ above_text ≡ text_of k
  unfolding what_text what_of
  text-large e = ap text_of (sym e)

  pub text-many : {k : ℕ} → k ≡ 3 → many_text ≡ text_of k
  unfolding what_text what_of
  text-many e = ap text_of (sym e)

  pub text-nothing : {k : ℕ} → (k ≡ 1 → ⊥) → (k ≡ 2 → ⊥) → (k ≡ 3 → ⊥) → nothing_text ≡ text_of k
  unfolding what_text what_of
  text-nothing {k} a b c = rw (ne_eqb k 1 a, ne_eqb k 2 b, ne_eqb k 3 c, what_of)

pub large-length : (x : ℕ) → x < found_limit → length (decimal x ++ above_text) ≤ what_room
large-length x l = omega (arith, length-append (decimal x) above_text, digits_7 x l)

pub what-length : (k x : ℕ) → x < found_limit → length (what_text (what_of k x)) ≤ what_room
unfolding what_text what_of
what-length k x l = go (eqb k 1) refl (eqb k 2) refl (eqb k 3) refl
  where
    go : (a : Bool) → eqb k 1 ≡ a → (b : Bool) → eqb k 2 ≡ b → (c : Bool) → eqb k 3 ≡ c → length (what_text (what_of k x)) ≤ what_room
    go true p b q c r = rw (p, what_of) (other_length x l)
    go false p true q c r = rw (p, q, what_of) (large-length x l)
    go false p false q true r = rw (p, q, r, what_of) (omega arith)
    go false p false q false r = rw (p, q, r, what_of) (omega arith)
