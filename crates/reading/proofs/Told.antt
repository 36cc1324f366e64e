-- Where bytes were read, what a fault tells of a byte that is no digit is a byte.
-- Rests on text_form Reading, fault_line Faults, word_reading Held and Turns.
use mathlib.Core.Path.{◌≡◌, refl, sym, subst}
use mathlib.Core.Bool.{Bool, true, false}
use mathlib.Core.List.{List, [], ◌∷◌}
use mathlib.Core.Option.{Option, some, none}
use Prim.Native.Nat.{ℕ, zero, suc, ◌+◌, ◌-◌, ◌*◌, ◌<◌}
use native.Mathlib.Decide.{dec_lt}
use native.Mathlib.Omega.{arith}
use lib.Dec.{eqb, ltb}
use lib.ListN.{get_or}
use borrow.Author.Tests.{eqb-true, ne_eqb}
use Rattle.std.specs.Prelude.{⊤}
use Rattle.base.specs.Checks.{outside}
use Rattle.formats.specs.Limits.{word_limit}
use Rattle.text_form.specs.Reading.{What, other, large, many, nothing, Fault, Read, value, in_comment, flush, next_line, onward, faulty, blank, full}
use Rattle.text_form.specs.Reading.{valued, word_byte, line_byte, text_byte, unless_faulty, step, read_on, between, comment, within}
use Rattle.fault_line.specs.Faults.{what_of}
use Rattle.word_reading.specs.declared.Reading.{Reading as Numbers}
use Rattle.word_reading.specs.Held.{fault_of}
use Rattle.word_reading.proofs.Turns.{fault-none, fault-some}

abbrev pub Byte : What → Type 0
Byte (other b) = b < 256
Byte (large n) = ⊤
Byte many = ⊤
Byte nothing = ⊤

abbrev pub Told : Option Fault → Type 0
Told none = ⊤
Told (some f) = Byte f.what

-- BY THE NUMBERS

what-byte : (k x : ℕ) → (k ≡ 1 → x < 256) → Byte (what_of k x)
unfolding what_of
what-byte k x f = go (eqb k 1) refl (eqb k 2) refl (eqb k 3) refl
  where
    go : (a : Bool) → eqb k 1 ≡ a → (b : Bool) → eqb k 2 ≡ b → (c : Bool) → eqb k 3 ≡ c → Byte (what_of k x)
    go true p b q c r = rw (p, what_of) (f (eqb-true k 1 p))
    go false p true q c r = rw (p, q, what_of) tt
    go false p false q true r = rw (p, q, r, what_of) tt
    go false p false q false r = rw (p, q, r, what_of) tt

byte-found : (k x : ℕ) → Byte (what_of k x) → k ≡ 1 → x < 256
unfolding what_of
byte-found k x B e = subst (λ (n : ℕ). Byte (what_of n x)) e B

module _ (s : Numbers) where
  pub told-in : (s.fault ≡ 1 → s.found < 256) → Told (fault_of s)
  told-in f = go (dec_lt 0 s.fault)
    where
      go : Dec (0 < s.fault) → Told (fault_of s)
      go (yes l) = subst Told (sym (fault-some s (λ z. omega (arith, l, z)))) (what-byte s.fault s.found f)
      go (no n) = subst Told (sym (fault-none s (omega (arith, n)))) tt

  pub told-out : Told (fault_of s) → s.fault ≡ 1 → s.found < 256
  told-out T e =
      byte-found s.fault s.found (subst Told (fault-some s (λ z. omega (arith, e, z))) T) e

-- BYTE BY BYTE

abbrev pick : Bool → Read → Read → Read
pick x p q = elim x [ true ↦ p | false ↦ q ]

abbrev unless : Option Fault → Read → Read → Read
unless o r q = elim o [ none ↦ q | some f ↦ r ]

choose : (x : Bool) (p q : Read) → Told p.fault → Told q.fault → Told (pick x p q).fault
choose true p q a b = a
choose false p q a b = b

module _ (r : Read) (T : Told r.fault) (b : ℕ) (l : b < 256) where
  word-told : Told (word_byte r b).fault
  unfolding word_byte valued
  word-told =
      let n : ℕ = 10 * value r.mode + (b - 48) in
      choose (outside 48 57 b) (faulty (other b) r) _ l
      (choose (full r) (faulty many r) _ tt (choose (ltb n word_limit) (onward (within n) r) (faulty (large n) r) T tt))

  line-told : Told (line_byte r b).fault
  unfolding line_byte flush
  line-told =
      choose (eqb b 35) (onward comment (flush r)) _ T (choose (blank b) (onward between (flush r)) (word_byte r b) T word-told)

  text-told : Told (text_byte r b).fault
  unfolding text_byte flush
  text-told =
      choose (eqb b 10) (next_line (flush r)) _ T (choose (in_comment r.mode) (onward comment r) (line_byte r b) T line-told)

  step-told : Told (step r b).fault
  unfolding step unless_faulty
  step-told = go r.fault
    where
      go : (o : Option Fault) → Told (unless o r (text_byte r b)).fault
      go none = text-told
      go (some f) = T

pub read-told : (r : Read) → Told r.fault → (xs : List ℕ) → ((i : ℕ) → get_or xs i 0 < 256) → Told (read_on r xs).fault
unfolding read_on
read-told r T [] f = T
read-told r T (x ∷ xs) f = read-told (step r x) (step-told r T x (f zero)) xs (λ i. f (suc i))

-- A NUMBER THAT IS NONE OF THE FAULTS

pub what-none : (k x : ℕ) → (k ≡ 1 → ⊥) → (k ≡ 2 → ⊥) → (k ≡ 3 → ⊥) → nothing ≡ what_of k x
unfolding what_of
what-none k x a b c = rw (ne_eqb k 1 a, ne_eqb k 2 b, ne_eqb k 3 c, what_of)
