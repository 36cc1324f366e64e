-- THE PROMISE OF THE TEXT: reading back what was written gives the words, with no fault; so encoding it gives the bytes of the words.
-- Rests on formats File, digits Decimals, decimal Writing, All, Layouts and Rooms, specs Reading and Said, Cases, Encoded.
use mathlib.Core.Path.{◌≡◌, refl, sym, ap, ◌∙◌}
use mathlib.Core.Bool.{false}
use mathlib.Core.List.{List, [], ◌∷◌, ◌++◌, map, append_assoc, append-nil}
use mathlib.Core.Option.{none}
use Prim.Native.Nat.{ℕ, zero, suc, ◌+◌, ◌-◌, ◌*◌, ◌/◌, ◌%◌, ◌≤◌, ◌<◌}
use native.Mathlib.Omega.{arith}
use native.Mathlib.Decide.{dec_lt}
use lib.ListN.{length, take, drop, length-append, length-drop, take-append-drop}
use lib.Seq.{length-take-le}
use borrow.Author.Tests.{le-ltb, ne_eqb}
use Rattle.formats.specs.Limits.{word_limit}
use Rattle.formats.specs.Listing.{decimal, line}
use Rattle.digits.proofs.Decimals.{decimal-one, decimal-more}
use Rattle.decimal.specs.Writing.{layout, lines_text, sheet_text, total}
use Rattle.decimal.proofs.All.{AllOf, all_take, all_drop}
use Rattle.decimal.proofs.Layouts.{Filled, layout-total, layout-filled}
use Rattle.decimal.proofs.All.{Words}
use Rattle.text_form.specs.Reading.{most_words, next, Mode, between, within, Read, value, pending, outside_word, in_comment, flush}
use Rattle.text_form.specs.Reading.{blank, full, line_byte, text_byte, unless_faulty, step, start, read_on, worded, ended, read_words}
use Rattle.formats.specs.File.{bytes_of}
use Rattle.text_form.specs.Said.{encoded_bytes, encoded_said}
use Rattle.text_form.proofs.Cases.{blank-last, digit-more, line_word, text-line, with_none, worded-words}
use Rattle.text_form.proofs.Encoded.{read-append, encoded-bytes, encoded-quiet}

-- these words, at this line and column, in this mode, and no fault
abbrev reading : List ℕ → ℕ → ℕ → Mode → Read
reading ws l c m = record { words = ws; line = l; column = c; mode = m; fault = none }

-- ONE WORD

module _ (ws : List ℕ) (l : ℕ) where
  step-digit : (c : ℕ) (m : Mode) (b : ℕ) → in_comment m ≡ false → full (reading ws l c m) ≡ false → 48 ≤ b → b ≤ 57
      → 10 * value m + (b - 48) < word_limit → step (reading ws l c m) b ≡ reading ws l (next c) (within (10 * value m + (b - 48)))
  unfolding step
  step-digit c m b k f p q h =
      let r = reading ws l c m in
      let no : blank b ≡ false = sym (blank-last b (λ e. omega arith) (λ e. omega arith)) ∙ ne_eqb b 13 (λ e. omega arith) in
      with_none r (text_byte r b) refl ∙ text-line r b (λ e. omega arith) k ∙ line_word r b (λ e. omega arith) no
      ∙ digit-more r b p q f (value m) refl h

  -- one digit more
  digit-next : (d c n : ℕ) → 10 ≤ n → n < word_limit → read_on (reading ws l d between) (decimal (n / 10)) ≡ reading ws l c (within (n / 10))
      → read_on (reading ws l d between) (decimal n) ≡ reading ws l (next c) (within n)
  unfolding read_on in_comment value full outside_word
  digit-next d c n t h below =
      let e : 10 * (n / 10) + (48 + n % 10 - 48) ≡ n = omega arith in
      ap (read_on (reading ws l d between)) (decimal-more n t)
      ∙ read-append (reading ws l d between) (decimal (n / 10)) ((48 + n % 10) ∷ [])
      ∙ ap (λ (x : Read). step x (48 + n % 10)) below
      ∙ step-digit c (within (n / 10)) (48 + n % 10) refl refl (omega arith) (omega arith) (omega arith)
      ∙ ap {B = Read} (λ (x : ℕ). reading ws l (next c) (within x)) e

  module _ (d : ℕ) (room : length ws < most_words) where
    -- its digits end at some column
    digits-read : (k n : ℕ) → n < k → n < word_limit → (c : ℕ) × (read_on (reading ws l d between) (decimal n) ≡ reading ws l c (within n))
    unfolding read_on in_comment value full outside_word
    digits-read zero n p h = absurd (omega arith)
    digits-read (suc k) n p h = go (dec_lt n 10) (digits-read k (n / 10))
      where
        go : Dec (n < 10)
            → (n / 10 < k → n / 10 < word_limit → (c : ℕ) × (read_on (reading ws l d between) (decimal (n / 10)) ≡ reading ws l c (within (n / 10))))
            → (c : ℕ) × (read_on (reading ws l d between) (decimal n) ≡ reading ws l c (within n))
        go (yes t) below =
            let e : 10 * 0 + (48 + n - 48) ≡ n = omega arith in (
              next d,
              ap (read_on (reading ws l d between)) (decimal-one n t)
                  ∙ step-digit d between (48 + n) refl (le-ltb most_words (suc (length ws)) (omega arith)) (omega arith) (omega arith) (omega arith)
                  ∙ ap {B = Read} (λ (x : ℕ). reading ws l (next d) (within x)) e,
            )
        go (no t) below = let r = below (omega arith) (omega arith) in (next r.0, digit-next d r.0 n (omega arith) h r.1)

    -- a word and what follows it
    word_read : (n : ℕ) → n < word_limit → (bs : List ℕ)
        → (c : ℕ) × (read_on (reading ws l d between) (decimal n ++ bs) ≡ read_on (reading ws l c (within n)) bs)
    word_read n h bs =
        let r = digits-read (suc n) n (omega arith) h in
        (r.0, read-append (reading ws l d between) (decimal n) bs ∙ ap (λ (x : Read). read_on x bs) r.1)

-- LINES

line_read : (xs : List ℕ) → 1 ≤ length xs → Words xs → (ws : List ℕ) (l d : ℕ) → length ws + length xs ≤ most_words
    → read_on (reading ws l d between) (line (map decimal xs)) ≡ reading (ws ++ xs) (next l) 1 between
unfolding read_on step unless_faulty text_byte line_byte blank flush pending in_comment line AllOf
line_read [] p h ws l d m = absurd (omega arith)
line_read (x ∷ []) p h ws l d m = (word_read ws l d (omega arith) x h.0 (10 ∷ [])).1
line_read (x ∷ y ∷ ys) p h ws l d m =
    let r = word_read ws l d (omega arith) x h.0 (32 ∷ line (map decimal (y ∷ ys))) in
    r.1
    ∙ line_read (y ∷ ys) (omega arith) h.1 (ws ++ (x ∷ [])) l (next r.0) (omega (arith, length-append ws (x ∷ [])))
    ∙ ap {B = Read} (λ (v : List ℕ). reading v (next l) 1 between) (append_assoc ws (x ∷ []) (y ∷ ys))

-- a line, then the others
lines_next : (k : ℕ) (ks xs ws : List ℕ) (l m : ℕ)
    → read_on (reading ws l 1 between) (line (map decimal (take k xs))) ≡ reading (ws ++ take k xs) (next l) 1 between
    → read_on (reading (ws ++ take k xs) (next l) 1 between) (lines_text ks (drop k xs)) ≡ reading ((ws ++ take k xs) ++ drop k xs) m 1 between
    → read_on (reading ws l 1 between) (lines_text (k ∷ ks) xs) ≡ reading (ws ++ xs) m 1 between
unfolding lines_text
lines_next k ks xs ws l m first rest =
    read-append (reading ws l 1 between) (line (map decimal (take k xs))) (lines_text ks (drop k xs))
    ∙ ap (λ (r : Read). read_on r (lines_text ks (drop k xs))) first
    ∙ rest
    ∙ ap {B = Read} (λ (v : List ℕ). reading v m 1 between)
    (append_assoc ws (take k xs) (drop k xs) ∙ ap (λ (v : List ℕ). ws ++ v) (take-append-drop k xs))

lines-read : (ks xs : List ℕ) → Filled ks → total ks ≡ length xs → Words xs → (ws : List ℕ) (l : ℕ) → length ws + length xs ≤ most_words
    → (m : ℕ) × (read_on (reading ws l 1 between) (lines_text ks xs) ≡ reading (ws ++ xs) m 1 between)
unfolding read_on lines_text total AllOf
lines-read [] [] f e h ws l m = (l, ap {B = Read} (λ (v : List ℕ). reading v l 1 between) (sym (append-nil ws)))
lines-read [] (x ∷ xs) f e h ws l m = absurd (omega arith)
lines-read (k ∷ ks) xs f e h ws l m =
    let t = length-take-le k xs (omega arith) in
    let first = line_read (take k xs) (omega (arith, t, f.0)) (all_take (λ w. w < word_limit) k xs h) ws l 1 (omega (arith, t)) in
    let rest = lines-read ks (drop k xs) f.1 (omega (arith, length-drop k xs)) (all_drop (λ w. w < word_limit) k xs h)
    (ws ++ take k xs) (next l) (omega (arith, t, length-drop k xs, length-append ws (take k xs))) in
    (rest.0, lines_next k ks xs ws l rest.0 first rest.1)

module _ (ws : List ℕ) (some_words : 1 ≤ length ws) (few : length ws ≤ most_words) (h : Words ws) where
  text-read : (m : ℕ) × (read_words (sheet_text ws) ≡ reading ws m 1 between)
  unfolding read_words sheet_text start flush pending ended
  text-read =
      let r = lines-read (layout ws) ws (layout-filled ws) (layout-total ws) h [] 1 (omega (arith, few)) in
      let e : flush (reading ws r.0 1 between) ≡ reading ws r.0 1 between
      = ap {B = Read} (λ (v : List ℕ). reading v r.0 1 between) (append-nil ws) in (
        r.0,
        ap ended r.1 ∙ with_none (reading ws r.0 1 between) (worded (flush (reading ws r.0 1 between))) refl ∙ ap worded e
            ∙ worded-words (reading ws r.0 1 between) some_words,
      )

  pub round_trip : ((read_words (sheet_text ws)).words ≡ ws) × ((read_words (sheet_text ws)).fault ≡ none)
  round_trip = (ap (λ (r : Read). r.words) text-read.1, ap (λ (r : Read). r.fault) text-read.1)

  pub round-encoded : (encoded_bytes (sheet_text ws) ≡ bytes_of ws) × (encoded_said (sheet_text ws) ≡ [])
  round-encoded = (
    sym (encoded-bytes (sheet_text ws) round_trip.1) ∙ ap bytes_of round_trip.0,
    sym (encoded-quiet (sheet_text ws) round_trip.1),
  )
