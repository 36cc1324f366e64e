-- The bytes of a piece, one after the other; the end of a text.
-- Rests on digits Wrote and Due, text_form Reading, Said and Encoded, word_reading Held and Turns, specs Fed.
use mathlib.Core.Path.{◌≡◌, sym, ap, ◌∙◌}
use mathlib.Core.List.{List, [], ◌∷◌, ◌++◌, append_assoc, append-nil}
use Prim.Native.Nat.{ℕ, ◌+◌, ◌<◌, ◌≤◌}
use native.Mathlib.Numerals.{add-one}
use lib.ListN.{length, get_or, take}
use lib.Seq.{take-suc, take_all}
use Rattle.digits.specs.Wrote.{Wrote}
use Rattle.digits.proofs.Due.{wrote_as, wrote_none}
use Rattle.text_form.specs.Reading.{step, start, read_on, read_words}
use Rattle.text_form.specs.Said.{said_text, encoded_bytes, encoded_said}
use Rattle.text_form.proofs.Encoded.{read-append, encoded-bytes, encoded-quiet, encoded-nothing, encoded-told}
use Rattle.word_reading.specs.declared.Reading.{Reading}
use Rattle.word_reading.specs.Held.{fault_at, Holds, Turns}
use Rattle.word_reading.proofs.Turns.{holds_as, held_none, held-fault}
use Rattle.reading.specs.Fed.{Feeds}

-- A PIECE

pub feeds-none : (row : List ℕ) (s : Reading) (text : List ℕ) → Feeds (take 0 text) row s row s
feeds-none row s text old xs H = holds_as H (ap (read_on start) (append-nil xs))

pub feeds-next : (text : List ℕ) (i : ℕ) → i < length text → {row out new : List ℕ} {s t u : Reading} → Feeds (take i text) row s out t
    → Turns (λ x. step x (get_or text i 0)) out t new u → Feeds (take (i + 1) text) row s new u
unfolding read_on
feeds-next text i l F T old xs H = holds_as (T old _ (F old xs H)) more
  where
    more : read_on start (xs ++ take (i + 1) text) ≡ step (read_on start (xs ++ take i text)) (get_or text i 0)
    more =
        ap (λ (n : ℕ). read_on start (xs ++ take n text)) (add-one i)
        ∙ ap (λ (ys : List ℕ). read_on start (xs ++ ys)) (take-suc text i 0 l)
        ∙ ap (read_on start) (sym (append_assoc xs (take i text) (get_or text i 0 ∷ [])))
        ∙ read-append start (xs ++ take i text) (get_or text i 0 ∷ [])

pub feeds-all : (text : List ℕ) (i : ℕ) → length text ≤ i → {row out : List ℕ} {s t : Reading} → Feeds (take i text) row s out t → Feeds text row s out t
feeds-all text i l F old xs H = holds_as (F old xs H) (ap (λ (ys : List ℕ). read_on start (xs ++ ys)) (sym (take_all i text l)))

-- THE END

module _ (xs : List ℕ) {old new : List ℕ} {t : Reading} (H : Holds old (read_words xs) new t) where
  module _ (z : t.fault ≡ 0) where
    pub done-bytes : take t.size new ≡ encoded_bytes xs
    done-bytes = H.wrote.front ∙ encoded-bytes xs (held_none H z)

    pub done-said : (said : List ℕ) → Wrote said 0 (encoded_said xs) said 0
    done-said said = wrote_as (wrote_none said 0) (encoded-quiet xs (held_none H z))

  module _ (n : t.fault ≡ 0 → ⊥) where
    pub told-bytes : take 0 new ≡ encoded_bytes xs
    told-bytes = encoded-nothing xs (held-fault H n)

    pub told-said : {said saying : List ℕ} {r : ℕ} → Wrote said 0 (said_text (fault_at t)) saying r → Wrote said 0 (encoded_said xs) saying r
    told-said W = wrote_as W (encoded-told xs (held-fault H n))
