-- What a reading that keeps its bytes holds, of its row as it stands; the end of a text.
-- Rests on digits Wrote, text_form Reading, Said, Cases and Encoded, fault_line Faults, Kinds and Told, word_reading Held and Turns, specs Fed and
-- Comes, Told.
use mathlib.Core.Path.{◌≡◌, refl, sym, ap, subst, ◌∙◌}
use mathlib.Core.List.{List, [], ◌∷◌, ◌++◌}
use mathlib.Core.Option.{Option, some, none}
use Prim.Native.Nat.{ℕ, ◌<◌}
use native.Mathlib.Omega.{arith}
use native.Mathlib.Decide.{dec_lt}
use lib.ListN.{length, get_or}
use Rattle.digits.specs.Wrote.{Wrote}
use Rattle.text_form.specs.Reading.{What, nothing, Fault, Read, start, flush, worded, ended, read_on, read_words}
use Rattle.text_form.specs.Said.{said_text, encoded_bytes, encoded_said}
use Rattle.text_form.proofs.Cases.{with_none, with-fault, worded-nothing, worded-words}
use Rattle.text_form.proofs.Encoded.{read-append, encoded-quiet, encoded-nothing, encoded-told}
use Rattle.fault_line.specs.Faults.{what_of as what_by}
use Rattle.word_reading.specs.declared.Reading.{Reading as Numbers}
use Rattle.word_reading.specs.Held.{fault_at, Holds as Holding}
use Rattle.word_reading.proofs.Turns.{held_none, held-fault}
use Rattle.reading.specs.Fed.{Feeds as Feeding}
use Rattle.fault_line.specs.Kinds.{what_of, fault_of, line_text}
use Rattle.fault_line.specs.declared.kinds.TextFault.{TextFault}
use Rattle.fault_line.proofs.Told.{line-said}
use Rattle.reading.specs.declared.keeping.Reading.{Reading}
use Rattle.reading.specs.Comes.{Feeds}
use Rattle.reading.proofs.Told.{Told, told-in, told-out, read-told}

-- what was written from the beginning on does not depend on the row before
rebase : {old row : List ℕ} {r : Read} {s : Numbers} → Holding old r row s → Holding row r row s
rebase H =
    record {
      wrote = record { front = H.wrote.front; is-end = H.wrote.is-end; behind = refl };
      is-line = H.is-line;
      is-column = H.is-column;
      is-mode = H.is-mode;
      is-fault = H.is-fault;
    }

-- A PIECE, whose bytes are below 256

pub feeds-own : (text : List ℕ) → ((i : ℕ) → get_or text i 0 < 256) → (s t : Reading) → Feeding text s.row s.progress t.row t.progress → Feeds text s t
feeds-own text bytes s t F xs H =
    let K = F s.row xs H.is-read in
    let before : Told (read_on start xs).fault = subst Told H.is-read.is-fault (told-in s.progress H.is-byte) in
    let after : Told (read_on start (xs ++ text)).fault =
    subst (λ (r : Read). Told r.fault) (sym (read-append start xs text)) (read-told (read_on start xs) before text bytes) in
    record { is-read = rebase K; is-byte = told-out t.progress (subst Told (sym K.is-fault) after) }

-- THE END

pub quiet : {old new xs : List ℕ} {n : ℕ} → Wrote old 0 xs new n → n ≡ 0 → [] ≡ xs
quiet {xs = xs} W z = go xs (omega (arith, W.is-end, z))
  where
    go : (ys : List ℕ) → length ys ≡ 0 → [] ≡ ys
    go [] e = refl
    go (y ∷ ys) e = absurd (omega (arith, e))

-- a fault by names is that of the numbers, where its line, its column and its kind are theirs
by-parts : (t : TextFault) (s : Numbers) → t.line ≡ s.line → t.column ≡ s.column → what_of t.fault ≡ what_by s.fault s.found → fault_of t ≡ fault_at s
by-parts t s p q e =
    ap (λ (l : ℕ). record { line = l; column = t.column; what = what_of t.fault }) p
    ∙ ap (λ (c : ℕ). record { line = s.line; column = c; what = what_of t.fault }) q
    ∙ ap (λ (w : What). record { line = s.line; column = s.column; what = w }) e

module _ (xs : List ℕ) {row : List ℕ} {s : Numbers} (H : Holding row (read_on start xs) row s) where
  -- where something is said, the fault is that of the numbers, and without any it is that there is no word
  told-fault : {old new : List ℕ} {n : ℕ} → Wrote old 0 (encoded_said xs) new n → (n ≡ 0 → ⊥) → (read_words xs).fault ≡ some (fault_at s)
  unfolding read_words ended flush what_by
  told-fault {n = n} W said = go (dec_lt 0 s.fault)
    where
      r : Read
      r = read_on start xs

      none-now : s.fault ≡ 0 → read_words xs ≡ worded (flush r)
      none-now z = with_none r (worded (flush r)) (held_none H z)

      over : s.fault ≡ 0 → Dec (0 < length (flush r).words) → (read_words xs).fault ≡ some (fault_at s)
      over z (no e) =
          ap (λ (q : Read). q.fault) (none-now z ∙ worded-nothing (flush r) (omega (arith, e)))
          ∙ ap {B = Option Fault} (λ (l : ℕ). some (record { line = l; column = r.column; what = nothing })) (sym H.is-line)
          ∙ ap {B = Option Fault} (λ (c : ℕ). some (record { line = s.line; column = c; what = nothing })) (sym H.is-column)
          ∙ ap {B = Option Fault} (λ (k : ℕ). some (record { line = s.line; column = s.column; what = what_by k s.found })) (sym z)
      over z (yes e) =
          let still : (read_words xs).fault ≡ none =
          ap (λ (q : Read). q.fault) (none-now z ∙ worded-words (flush r) e) ∙ held_none H z in
          absurd (said (omega (arith, W.is-end, ap length (encoded-quiet xs still))))

      go : Dec (0 < s.fault) → (read_words xs).fault ≡ some (fault_at s)
      go (no n) = over (omega (arith, n)) (dec_lt 0 (length (flush r).words))
      go (yes l) =
          let e = held-fault H (λ z. omega (arith, l, z)) in
          ap (λ (q : Read). q.fault) (with-fault r (worded (flush r)) e) ∙ e

  module _ {old new : List ℕ} {n : ℕ} (W : Wrote old 0 (encoded_said xs) new n) (said : n ≡ 0 → ⊥) where
    pub told-bytes : [] ≡ encoded_bytes xs
    told-bytes = encoded-nothing xs (told-fault W said)

    pub told-line : (t : TextFault) → t.line ≡ s.line → t.column ≡ s.column → what_of t.fault ≡ what_by s.fault s.found
        → line_text t ++ (10 ∷ []) ≡ encoded_said xs
    told-line t p q e = line-said t ∙ ap said_text (by-parts t s p q e) ∙ encoded-told xs (told-fault W said)
