-- What is written so far, then the rest, is the whole: the invariant of every function that writes, and its turns.
-- Rests on specs Wrote.
use mathlib.Core.Path.{◌≡◌, refl, sym, ap, ◌∙◌}
use mathlib.Core.List.{List, [], ◌∷◌, ◌++◌, append_assoc, append-nil}
use Prim.Native.Nat.{ℕ, suc, ◌+◌, ◌≤◌, ◌<◌}
use native.Mathlib.Omega.{arith}
use lib.ListN.{length, get_or, set, take, drop, length-append}
use lib.Seq.{take-suc-set, drop-cons, drop-set-lt, drop-drop}
use Rattle.digits.specs.Wrote.{Wrote}

-- ONE PIECE

pub wrote-byte : (old : List ℕ) (at x : ℕ) → at < length old → Wrote old at (x ∷ []) (set old at x) (at + 1)
wrote-byte old at x l =
    let p : at + 1 ≡ suc at = omega arith in
    record {
      front = ap (λ (n : ℕ). take n (set old at x)) p ∙ take-suc-set old at x l;
      is-end = refl;
      behind = drop-set-lt (at + 1) old at x (omega arith);
    }

-- nothing is written
pub wrote_none : (old : List ℕ) (at : ℕ) → Wrote old at [] old at
wrote_none old at = record { front = sym (append-nil (take at old)); is-end = omega arith; behind = refl }

-- the bytes may be said in another way
pub wrote_as : {old new xs ys : List ℕ} {at p : ℕ} → Wrote old at xs new p → xs ≡ ys → Wrote old at ys new p
wrote_as {old} {new} {at = at} {p} W e =
    record {
      front = W.front ∙ ap (λ (w : List ℕ). take at old ++ w) e;
      is-end = W.is-end ∙ ap (λ (w : List ℕ). at + length w) e;
      behind = W.behind;
    }

-- what stood behind the place in an older row stands behind the end
pub since : {mid new xs : List ℕ} {p r : ℕ} (old : List ℕ) → Wrote mid p xs new r → drop p mid ≡ drop p old → drop r new ≡ drop r old
since {mid} {xs = xs} {p} old W e =
    let n = length xs in
    W.behind ∙ ap (λ (k : ℕ). drop k mid) W.is-end ∙ sym (drop-drop n p mid) ∙ ap (drop n) e ∙ drop-drop n p old
    ∙ ap (λ (k : ℕ). drop k old) (sym W.is-end)

-- a piece behind another
pub wrote_then : {old mid new xs ys : List ℕ} {at p r : ℕ} → Wrote old at xs mid p → Wrote mid p ys new r → Wrote old at (xs ++ ys) new r
wrote_then {old} {xs = xs} {ys} {at} U W =
    record {
      front = W.front ∙ ap (λ (w : List ℕ). w ++ ys) U.front ∙ append_assoc (take at old) xs ys;
      is-end = omega (arith, U.is-end, W.is-end, length-append xs ys);
      behind = since old W U.behind;
    }

-- MANY PIECES

-- of the whole, to be written into the row old from the place at on, the rest is due at p in the row new; behind p nothing has changed
pub record Due (old : List ℕ) (at : ℕ) (whole new : List ℕ) (p : ℕ) (rest : List ℕ) : Type 0 where
  pub room : at + length whole ≤ length old
  pub same : length new ≡ length old
  pub bytes : take p new ++ rest ≡ take at old ++ whole
  pub count : p + length rest ≡ at + length whole
  pub behind : drop p new ≡ drop p old

pub due-start : {old : List ℕ} {at : ℕ} (whole rest : List ℕ) → at + length whole ≤ length old → whole ≡ rest → Due old at whole old at rest
due-start {old} {at} whole rest l e =
    record {
      room = l;
      same = refl;
      bytes = ap (λ (w : List ℕ). take at old ++ w) (sym e);
      count = ap (λ (w : List ℕ). at + length w) (sym e);
      behind = refl;
    }

module _ {old : List ℕ} {at : ℕ} {whole new : List ℕ} {p : ℕ} where
  -- the rest may be said in another way
  pub due-as : {rest : List ℕ} (rest' : List ℕ) → Due old at whole new p rest → rest ≡ rest' → Due old at whole new p rest'
  due-as rest' D e =
      record {
        room = D.room;
        same = D.same;
        bytes = ap (λ (w : List ℕ). take p new ++ w) (sym e) ∙ D.bytes;
        count = ap (λ (w : List ℕ). p + length w) (sym e) ∙ D.count;
        behind = D.behind;
      }

  pub due-room : (xs ys : List ℕ) → Due old at whole new p (xs ++ ys) → p + length xs ≤ length new
  due-room xs ys D = omega (arith, D.room, D.same, D.count, length-append xs ys)

  pub due-step : {new' : List ℕ} {p' : ℕ} (xs ys : List ℕ) → Due old at whole new p (xs ++ ys)
      → Wrote new p xs new' p' → length new' ≡ length new → Due old at whole new' p' ys
  due-step xs ys D W e =
      record {
        room = D.room;
        same = e ∙ D.same;
        bytes = ap (λ (w : List ℕ). w ++ ys) W.front ∙ append_assoc (take p new) xs ys ∙ D.bytes;
        count = omega (arith, D.count, W.is-end, length-append xs ys);
        behind = since old W D.behind;
      }

  -- one byte of a row more
  pub due-byte : (bs : List ℕ) (i : ℕ) → Due old at whole new p (drop i bs) → i < length bs
      → Due old at whole new p ((get_or bs i 0 ∷ []) ++ drop (i + 1) bs)
  due-byte bs i D l =
      let q : i + 1 ≡ suc i = omega arith in
      due-as _ D (drop-cons bs i 0 l ∙ ap (λ (n : ℕ). get_or bs i 0 ∷ drop n bs) (sym q))

  pub due-end : {rest : List ℕ} → Due old at whole new p rest → rest ≡ [] → Wrote old at whole new p
  due-end E e =
      let D = due-as [] E e in
      record { front = sym (append-nil (take p new)) ∙ D.bytes; is-end = omega (arith, D.count); behind = D.behind }
