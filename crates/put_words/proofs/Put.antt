-- Words put into a row: none, more behind them, the stores that put one, two or three, and word by word.
-- Rests on specs Put.
use mathlib.Core.Path.{◌≡◌, sym, ap, ap₂, ◌∙◌}
use mathlib.Core.List.{List, [], ◌∷◌, ◌++◌, append_assoc, append-nil}
use Prim.Native.Nat.{ℕ, suc, ◌+◌, ◌≤◌, ◌<◌}
use native.Mathlib.Omega.{arith}
use lib.ListN.{length, get_or, take, drop, set, length-append, length-drop, take-append-drop}
use lib.Seq.{sets, sets-eq, length-take-le, take_all, take-suc, take_at, drop-append-add, drop-drop}
use Rattle.put_words.specs.Put.{put_words}

module _ (row : List ℕ) (at : ℕ) where
  pub put-none : put_words row at [] ≡ row
  unfolding put_words
  put-none = let e : at + 0 ≡ at = omega arith in rw (e, append-nil) (take-append-drop at row)

  pub put-length : (ws : List ℕ) → at + length ws ≤ length row → length (put_words row at ws) ≡ length row
  unfolding put_words
  put-length ws l =
      length-append (take at row ++ ws) (drop (at + length ws) row)
      ∙ omega (arith, length-append (take at row) ws, length-take-le at row (omega arith), length-drop (at + length ws) row)

  -- words behind words
  pub put-more : (xs ys : List ℕ) (n : ℕ) → at ≤ length row → n ≡ at + length xs
      → put_words (put_words row at xs) n ys ≡ put_words row at (xs ++ ys)
  unfolding put_words
  put-more xs ys n l e =
      let back = drop (at + length xs) row in
      let front = take at row ++ xs in
      let f : length front ≡ n = omega (arith, length-append (take at row) xs, length-take-le at row l) in
      let n₂ : n + length ys ≡ length front + length ys = omega arith in
      let n₃ : at + length xs + length ys ≡ at + length (xs ++ ys) = omega (arith, length-append xs ys) in
      ap₂ (λ (a c : List ℕ). a ++ ys ++ c) (take_at front back n f)
      (ap (λ (k : ℕ). drop k (front ++ back)) n₂ ∙ drop-append-add front back (length ys) ∙ drop-drop (length ys) (at + length xs) row
      ∙ ap (λ (k : ℕ). drop k row) n₃)
      ∙ ap (λ (a : List ℕ). a ++ drop (at + length (xs ++ ys)) row) (append_assoc (take at row) xs ys)

  -- by stores
  stores : (ws : List ℕ) → at + length ws ≤ length row → sets row at ws ≡ put_words row at ws
  unfolding put_words
  stores ws l = sets-eq ws row at l

  pub one : (x : ℕ) → at < length row → set row at x ≡ put_words row at (x ∷ [])
  one x l = stores (x ∷ []) (omega arith)

  pub two : (x y : ℕ) → at + 2 ≤ length row → set (set row at x) (at + 1) y ≡ put_words row at (x ∷ y ∷ [])
  two x y l =
      let p : at + 1 ≡ suc at = omega arith in
      ap (λ (k : ℕ). set (set row at x) k y) p ∙ stores (x ∷ y ∷ []) l

  pub three : (x y z : ℕ) → at + 3 ≤ length row → set (set (set row at x) (at + 1) y) (at + 2) z ≡ put_words row at (x ∷ y ∷ z ∷ [])
  three x y z l =
      let p : at + 1 ≡ suc at = omega arith in
      let q : at + 2 ≡ suc (suc at) = omega arith in
      ap₂ (λ (j k : ℕ). set (set (set row at x) j y) k z) p q ∙ stores (x ∷ y ∷ z ∷ []) l

-- WORD BY WORD: the first i of the words ws are put
pub record Putting (row : List ℕ) (at : ℕ) (ws : List ℕ) (i : ℕ) (out : List ℕ) : Type 0 where
  pub room : at + length ws ≤ length row
  pub upto : i ≤ length ws
  pub is : out ≡ put_words row at (take i ws)

module _ {row : List ℕ} {at : ℕ} {ws : List ℕ} where
  pub putting : at + length ws ≤ length row → Putting row at ws 0 row
  putting l = record { room = l; upto = omega arith; is = sym (put-none row at) }

  module _ {i : ℕ} {out : List ℕ} (P : Putting row at ws i out) where
    first-length : length (take i ws) ≡ i
    first-length = length-take-le i ws P.upto

    pub putting-length : length out ≡ length row
    putting-length = ap length P.is ∙ put-length row at (take i ws) (omega (arith, first-length, P.room, P.upto))

    pub putting-on : i < length ws → {x : ℕ} → x ≡ get_or ws i 0 → {out' : List ℕ} → out' ≡ put_words out (at + i) (x ∷ [])
        → Putting row at ws (i + 1) out'
    putting-on l {x} e o = record {
      room = P.room;
      upto = omega arith;
      is = o ∙ ap₂ (λ (r : List ℕ) (y : ℕ). put_words r (at + i) (y ∷ [])) P.is e
          ∙ put-more row at (take i ws) (get_or ws i 0 ∷ []) (at + i) (omega (arith, P.room)) (omega (arith, first-length))
          ∙ ap (put_words row at) (sym (take-suc ws i 0 l) ∙ (let n : suc i ≡ i + 1 = omega arith in ap (λ (k : ℕ). take k ws) n));
    }

    pub put_all : length ws ≤ i → out ≡ put_words row at ws
    put_all l = P.is ∙ ap (put_words row at) (take_all i ws l)
