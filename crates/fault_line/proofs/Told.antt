-- The line that tells a fault, as it is written; with a newline it is what is said.
-- Rests on base Checks, formats Listing, digits Spaced and Decimals, text_form Reading and Said, specs Kinds.
use mathlib.Core.Path.{◌≡◌, sym, ap, ap₂, ◌∙◌}
use mathlib.Core.Logic.{◌⊎◌, inl, inr}
use mathlib.Core.List.{List, [], ◌∷◌, ◌++◌, append_assoc}
use Prim.Native.Nat.{ℕ, ◌<◌, ◌≤◌, ◌^◌, ◌+◌, ◌%◌}
use Rattle.std.specs.Fmt.{decimal as printed}
use Rattle.std.proofs.lemmas.Fmt.{decimal_by_steps}
use Rattle.std.proofs.lemmas.Str.{encode_ascii}
use native.Mathlib.Omega.{arith}
use lib.Utf8.{encode}
use borrow.Author.Tests.{lt-ltb, le-ltb}
use Rattle.base.specs.Checks.{outside}
use Rattle.formats.specs.Listing.{decimal}
use Rattle.digits.specs.Spaced.{spaced}
use Rattle.digits.proofs.Decimals.{decimal-one, decimal-more}
use Rattle.text_form.specs.Reading.{large}
use Rattle.text_form.specs.Said.{place_text, unseen_text, other_text, what_text, said_text, above_text, no_digit_text, column_name, colon_text, line_name}
use Rattle.fault_line.specs.Kinds.{what_of, fault_of, line_text}
use Rattle.fault_line.specs.declared.kinds.TextFault.{TextFault}

-- a number is printed as the definitions have it
pub printed-decimal : (n : ℕ) → n < 2 ^ 64 → printed n ≡ decimal n
printed-decimal n l =
    decimal_by_steps (λ m ds. ds ≡ decimal m) (λ m h. sym (decimal-one m h))
    (λ m ds h e. ap (λ (xs : List ℕ). xs ++ ((48 + m % 10) ∷ [])) e ∙ sym (decimal-more m h)) n l

-- WHAT STOOD THERE

module _ (b : ℕ) where
  -- in quotes, where it can be seen
  pub seen-told : 33 ≤ b → b ≤ 126 → 39 ∷ (encode b ++ (39 ∷ no_digit_text)) ≡ other_text b
  unfolding other_text outside
  seen-told l h = rw (encode_ascii b (omega arith), le-ltb b 33 l, le-ltb 126 b h, other_text)

  -- else by its number
  pub unseen-told : (b < 33) ⊎ (126 < b) → b < 2 ^ 64 → 98 ∷ 121 ∷ 116 ∷ 101 ∷ 32 ∷ (printed b ++ no_digit_text) ≡ other_text b
  unfolding other_text outside spaced
  unseen-told o k = ap (λ (ds : List ℕ). 98 ∷ 121 ∷ 116 ∷ 101 ∷ 32 ∷ (ds ++ no_digit_text)) (printed-decimal b k) ∙ told o
    where
      told : (b < 33) ⊎ (126 < b) → unseen_text b ≡ other_text b
      told (inl l) = rw (lt-ltb b 33 l, other_text)
      told (inr l) = rw (le-ltb b 33 (omega arith), lt-ltb 126 b l, other_text)

pub above-told : (n : ℕ) → n < 2 ^ 64 → printed n ++ above_text ≡ what_text (large n)
unfolding what_text
above-told n k = ap (λ (ds : List ℕ). ds ++ above_text) (printed-decimal n k)

-- THE PLACE, and what follows it

pub place-told : (l c : ℕ) → l < 2 ^ 64 → c < 2 ^ 64 → (what : List ℕ)
    → 108 ∷ 105 ∷ 110 ∷ 101 ∷ 32 ∷ (printed l ++ (44 ∷ 32 ∷ 99 ∷ 111 ∷ 108 ∷ 117 ∷ 109 ∷ 110 ∷ 32 ∷ (printed c ++ (58 ∷ 32 ∷ what))))
    ≡ place_text l c ++ what
unfolding place_text spaced
place-told l c p q what =
    ap₂ (λ (a b : List ℕ). 108 ∷ 105 ∷ 110 ∷ 101 ∷ 32 ∷ (a ++ (44 ∷ 32 ∷ 99 ∷ 111 ∷ 108 ∷ 117 ∷ 109 ∷ 110 ∷ 32 ∷ (b ++ (58 ∷ 32 ∷ what)))))
    (printed-decimal l p) (printed-decimal c q)
    ∙ sym (append_assoc (line_name ++ spaced l) ((column_name ++ spaced c) ++ colon_text) what
    ∙ ap (λ (ws : List ℕ). (line_name ++ spaced l) ++ ws) (append_assoc (column_name ++ spaced c) colon_text what))

-- a line and its end
pub line-said : (t : TextFault) → line_text t ++ (10 ∷ []) ≡ said_text (fault_of t)
unfolding said_text
line-said t = append_assoc (place_text t.line t.column) (what_text (what_of t.fault)) (10 ∷ [])
