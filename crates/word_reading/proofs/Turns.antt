-- One byte more: what each case of the reading leaves in the numbers and in the row.
-- Rests on formats Limits, File and Files, digits Wrote and Due, text_form Reading and Cases, fault_line Faults, word_bytes Modes, specs Held.
use mathlib.Core.Path.{◌≡◌, refl, sym, ap, subst, ◌∙◌}
use mathlib.Core.Bool.{false, ◌&&◌}
use mathlib.Core.List.{List, ◌++◌}
use mathlib.Core.Option.{Option, some, none}
use Prim.Native.Nat.{ℕ, suc, ◌+◌, ◌*◌, ◌<◌, ◌≤◌}
use native.Mathlib.Omega.{arith}
use native.Mathlib.Decide.{dec_lt}
use lib.Dec.{ltb}
use lib.ListN.{length}
use borrow.Author.Tests.{ltb-false, eq-eqb, ne_eqb}
use Rattle.formats.specs.Limits.{word_limit}
use Rattle.digits.specs.Wrote.{Wrote}
use Rattle.digits.proofs.Due.{wrote_as, wrote_then}
use Rattle.text_form.specs.Reading.{most_words, most_count, next, Mode, What, Fault, Read, pending, outside_word, flush, faulty, full}
use Rattle.formats.specs.File.{bytes_of}
use Rattle.text_form.proofs.Cases.{next_more, next-same}
use Rattle.formats.proofs.Files.{bytes-append, bytes-length}
use Rattle.fault_line.specs.Faults.{found_limit, what_of}
use Rattle.word_bytes.specs.Modes.{bytes_size, mode_of}
use Rattle.word_bytes.proofs.Modes.{same-order, pending-two, pending-no, outside-yes}
use Rattle.word_reading.specs.declared.Reading.{Reading}
use Rattle.word_reading.specs.Held.{fault_at, fault_of, Holds, Able}

module _ (s : Reading) where
  pub fault-none : s.fault ≡ 0 → fault_of s ≡ none
  unfolding fault_of
  fault-none e = rw (eq-eqb s.fault 0 e, fault_of)

  pub fault-some : (s.fault ≡ 0 → ⊥) → fault_of s ≡ some (fault_at s)
  unfolding fault_of
  fault-some n = rw (ne_eqb s.fault 0 n, fault_of)

pub holds_as : {old : List ℕ} {r q : Read} {row : List ℕ} {s : Reading} → Holds old r row s → q ≡ r → Holds old q row s
holds_as {old} {row = row} {s} H e = subst (λ (x : Read). Holds old x row s) (sym e) H

-- WHAT IS READ

module _ {old : List ℕ} {r : Read} {row : List ℕ} {s : Reading} (H : Holds old r row s) where
  -- two bytes a word
  pub held-size : s.size ≡ 2 * length r.words
  held-size = omega (arith, H.wrote.is-end, bytes-length r.words)

  -- the row is full where a word more is too many
  pub held-full : outside_word (mode_of s.mode) && ltb bytes_size (s.size + 2) ≡ full r
  unfolding full
  held-full =
      ap (λ (m : Mode). outside_word m && ltb bytes_size (s.size + 2)) H.is-mode
      ∙ ap (λ b. outside_word r.mode && b)
      (same-order bytes_size (s.size + 2) most_words (suc (length r.words)) (λ l. omega (arith, held-size)) (λ l. omega (arith, held-size)))

  pub held-fault : (s.fault ≡ 0 → ⊥) → r.fault ≡ some (fault_at s)
  held-fault n = sym H.is-fault ∙ fault-some s n

  -- a fault, here
  pub faults : (k x : ℕ) (w : What) → what_of k x ≡ w → (k ≡ 0 → ⊥) → {t : Reading}
      → t ≡ record { size = s.size; line = s.line; column = s.column; mode = s.mode; fault = k; found = x } → Holds old (faulty w r) row t
  faults k x w e n {t} q =
      let u : Reading = record { size = s.size; line = s.line; column = s.column; mode = s.mode; fault = k; found = x } in
      subst (λ (y : Reading). Holds old (faulty w r) row y) (sym q)
      (record {
        wrote = H.wrote;
        is-line = H.is-line;
        is-column = H.is-column;
        is-mode = H.is-mode;
        is-fault = fault-some u n
            ∙ ap {B = Option Fault} (λ (l : ℕ). some (record { line = l; column = s.column; what = what_of k x })) H.is-line
            ∙ ap {B = Option Fault} (λ (c : ℕ). some (record { line = r.line; column = c; what = what_of k x })) H.is-column
            ∙ ap {B = Option Fault} (λ (v : What). some (record { line = r.line; column = r.column; what = v })) e;
      })

  -- a word is done
  pub flushed : {new : List ℕ} {p : ℕ} → Wrote row s.size (bytes_of (pending (mode_of s.mode))) new p → Wrote old 0 (bytes_of (flush r).words) new p
  unfolding flush
  flushed W =
      wrote_as (wrote_then H.wrote W)
      (ap (λ (m : Mode). bytes_of r.words ++ bytes_of (pending m)) H.is-mode ∙ sym (bytes-append r.words (pending r.mode)))

  module _ (z : s.fault ≡ 0) where
    pub held_none : r.fault ≡ none
    held_none = sym H.is-fault ∙ fault-none s z

    still : (t : Reading) → t.fault ≡ s.fault → fault_of t ≡ r.fault
    still t e = fault-none t (e ∙ z) ∙ sym held_none

    -- the words may be more; then the column, the line and the mode are others
    module _ {new : List ℕ} {p : ℕ} (ws : List ℕ) (W : Wrote old 0 (bytes_of ws) new p) (m : ℕ) (mode : Mode) (e : mode_of m ≡ mode) where
      pub moves : {t : Reading} → t ≡ record { size = p; line = s.line; column = next s.column; mode = m; fault = s.fault; found = s.found }
          → Holds old (record { words = ws; line = r.line; column = next r.column; mode = mode; fault = r.fault }) new t
      moves {t} h =
          subst (λ (y : Reading). Holds old (record { words = ws; line = r.line; column = next r.column; mode = mode; fault = r.fault }) new y) (sym h)
          (record { wrote = W; is-line = H.is-line; is-column = ap next H.is-column; is-mode = e; is-fault = still _ refl })

      pub lines : {l : ℕ} → l ≡ next s.line
          → Holds old (record { words = ws; line = next r.line; column = 1; mode = mode; fault = r.fault }) new
          (record { size = p; line = l; column = 1; mode = m; fault = s.fault; found = s.found })
      lines h = record { wrote = W; is-line = h ∙ ap next H.is-line; is-column = refl; is-mode = e; is-fault = still _ refl }

      pub ends : Holds old (record { words = ws; line = r.line; column = r.column; mode = mode; fault = r.fault }) new
          (record { size = p; line = s.line; column = s.column; mode = m; fault = s.fault; found = s.found })
      ends = record { wrote = W; is-line = H.is-line; is-column = H.is-column; is-mode = e; is-fault = still _ refl }

-- THE NUMBERS STAY SMALL

pub next_small : (n : ℕ) → n ≤ most_count → next n ≤ most_count
next_small n l = go (dec_lt n most_count)
  where
    go : Dec (n < most_count) → next n ≤ most_count
    go (yes k) = omega (arith, next_more n k)
    go (no k) = omega (arith, next-same n (omega arith))

module _ {s : Reading} {row : List ℕ} (A : Able s row) where
  pub able-fault : (k x : ℕ) → x < found_limit → {t : Reading}
      → t ≡ record { size = s.size; line = s.line; column = s.column; mode = s.mode; fault = k; found = x } → Able t row
  able-fault k x l q =
      subst (λ (y : Reading). Able y row) (sym q)
      (record { all = A.all; inside = A.inside; room = A.room; small_line = A.small_line; small-column = A.small-column; small-found = l })

  pub able-with : {new : List ℕ} → length new ≡ length row → (p m : ℕ) → p ≤ bytes_size → (m < word_limit → p + 2 ≤ bytes_size)
      → (l c : ℕ) → l ≤ most_count → c ≤ most_count
      → Able (record { size = p; line = l; column = c; mode = m; fault = s.fault; found = s.found }) new
  able-with e p m i r l c u v =
      record { all = e ∙ A.all; inside = i; room = r; small_line = u; small-column = v; small-found = A.small-found }

  pub able-on : {new : List ℕ} → length new ≡ length row → {p m : ℕ} → p ≤ bytes_size → (m < word_limit → p + 2 ≤ bytes_size) → {t : Reading}
      → t ≡ record { size = p; line = s.line; column = next s.column; mode = m; fault = s.fault; found = s.found } → Able t new
  able-on {new} e {p} {m} i r q =
      subst (λ (y : Reading). Able y new) (sym q) (able-with e p m i r s.line (next s.column) A.small_line (next_small s.column A.small-column))

  -- what is written by a flush is inside
  pub flush-room : s.mode < word_limit → s.size + 2 ≤ length row
  flush-room l = omega (arith, A.room l, A.all)

  pub flush-inside : {new : List ℕ} {p : ℕ} → Wrote row s.size (bytes_of (pending (mode_of s.mode))) new p → p ≤ bytes_size
  flush-inside {p = p} W = go (dec_lt s.mode word_limit)
    where
      go : Dec (s.mode < word_limit) → p ≤ bytes_size
      go (yes l) = omega (arith, W.is-end, pending-two s.mode l, A.room l)
      go (no l) = omega (arith, W.is-end, pending-no s.mode (omega arith), A.inside)

  -- a word that begins where the row is not full has room
  pub begin-room : outside_word (mode_of s.mode) && ltb bytes_size (s.size + 2) ≡ false → s.size + 2 ≤ bytes_size
  begin-room e = go (dec_lt s.mode word_limit)
    where
      go : Dec (s.mode < word_limit) → s.size + 2 ≤ bytes_size
      go (yes l) = A.room l
      go (no l) =
          ltb-false bytes_size (s.size + 2)
          (ap (λ b. b && ltb bytes_size (s.size + 2)) (sym (outside-yes s.mode (omega arith))) ∙ e)
