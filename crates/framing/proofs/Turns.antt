-- The next byte, by how far the catalogue came: ignored, the first or the second of a length, one of a sheet, the last of a sheet.
-- Rests on base Truth, file_words Longer, specs Came and Feeding, Steps.
use mathlib.Core.Path.{◌≡◌, refl, sym, ap, subst, ◌∙◌}
use mathlib.Core.Bool.{true}
use mathlib.Core.List.{List, [], ◌∷◌, ◌++◌, append_assoc, append-nil}
use Prim.Native.Nat.{ℕ, ◌+◌, ◌-◌, ◌*◌, ◌≤◌, ◌<◌}
use native.Mathlib.Omega.{arith}
use lib.ListN.{length, take, length-append}
use lib.Seq.{take-nil}
use Rattle.base.proofs.Truth.{not-both}
use Rattle.file_words.specs.Longer.{longer_file}
use Rattle.tally.specs.declared.Tally.{Tally}
use Rattle.catalogue.specs.declared.Handed.{Handed}
use Rattle.framing.specs.declared.Progress.{Progress}
use Rattle.framing.specs.declared.Frame.{Frame}
use Rattle.framing.specs.declared.Frame.TheVariants.{Between, Half, Within, Full}
use Rattle.framing.specs.Came.{may_come, Rest, between, half, within, Came}
use Rattle.framing.specs.Feeding.{half_of, within_of, Able, Closes, Handing, Feeds}
use Rattle.framing.proofs.Steps.{closed}
use Rattle.unused.specs.Marks.{Marks}

-- nothing is handed back
pub silent : {xs said text row : List ℕ} {marks : Marks} {p : Progress} → Came xs said p row marks
    → Handing xs said text (record { now = p; size = 0 }) row marks text
silent {xs} {said} {row = row} {marks} {p} H =
    record { came = subst (λ (w : List ℕ). Came xs w p row marks) (sym (append-nil said)) H; behind = refl }

-- by what came behind the last whole sheet
abbrev at : Tally → Frame → Progress
at t f = record { tally = t; frame = f }

pub able_by : {p : Progress} {f : Frame} {row : List ℕ} {marks : Marks} → p.frame ≡ f → Able p row marks → Able (at p.tally f) row marks
able_by {p} {row = row} {marks} e A = subst (λ (f : Frame). Able (at p.tally f) row marks) e A

pub feeds_by : {b : ℕ} {p : Progress} {f : Frame} {row : List ℕ} {marks : Marks} {text : List ℕ} {r : Handed Progress} {row' : List ℕ} {marks' : Marks} {text' : List ℕ} → p.frame ≡ f
    → Feeds b (at p.tally f) row marks text r row' marks' text' → Feeds b p row marks text r row' marks' text'
feeds_by {b} {p} {row = row} {marks} {text} {r} {row'} {marks'} {text'} e F =
    subst (λ (f : Frame). Feeds b (at p.tally f) row marks text r row' marks' text') (sym e) F

-- one byte behind a rest
behind : {xs : List ℕ} (front rest : List ℕ) (b : ℕ) → xs ≡ front ++ rest → xs ++ (b ∷ []) ≡ front ++ (rest ++ (b ∷ []))
behind front rest b e = ap (λ (w : List ℕ). w ++ (b ∷ [])) e ∙ append_assoc front rest (b ∷ [])

-- the same sheets, with another rest
module _ {xs said : List ℕ} {t : Tally} {f : Frame} {row : List ℕ} {marks : Marks} (H : Came xs said (at t f) row marks) (b : ℕ) (m : may_come f ≡ true) where
  rests : (rest rest' : List ℕ) {f' : Frame} {row' : List ℕ} → xs ≡ H.front ++ rest → rest ++ (b ∷ []) ≡ rest' → may_come f' ≡ true
      → Rest row' f' rest' → Came (xs ++ (b ∷ [])) said (at t f') row' marks
  rests rest rest' e q m' R =
      record {
        front = H.front;
        rest = rest';
        bodies = H.bodies;
        cut = behind H.front rest b e ∙ ap (λ (w : List ℕ). H.front ++ w) q;
        sheets = H.sheets;
        going = λ g. ((H.going m).0, R);
        full = λ g. absurd (not-both m' g);
      }

module _ {xs said : List ℕ} {t : Tally} {row : List ℕ} {marks : Marks} (b : ℕ) where
  pub ignored : Came xs said (at t Full) row marks → Came (xs ++ (b ∷ [])) said (at t Full) row marks
  ignored H =
      record {
        front = H.front;
        rest = H.rest ++ (b ∷ []);
        bodies = H.bodies;
        cut = behind H.front H.rest b H.cut;
        sheets = H.sheets;
        going = λ g. absurd (not-both g refl);
        full = H.full;
      }

  pub first_byte : Came xs said (at t Between) row marks → Came (xs ++ (b ∷ [])) said (at t (Half b)) row marks
  first_byte H = go H.rest (H.going refl).1 H.cut
    where
      go : (rest : List ℕ) → Rest row Between rest → xs ≡ H.front ++ rest → Came (xs ++ (b ∷ [])) said (at t (Half b)) row marks
      go rest between e = rests H b refl [] (b ∷ []) e refl refl (half b)

half-rest : {row : List ℕ} {low : ℕ} (rest : List ℕ) → Rest row (Half low) rest → rest ≡ low ∷ []
half-rest rest (half low) = refl

-- a length of n words
pub second-byte : {xs said : List ℕ} {t : Tally} {low : ℕ} {row : List ℕ} {marks : Marks} (b : ℕ) → Came xs said (half_of t low) row marks → (n : ℕ)
    → n ≡ low + 256 * b → (n ≡ 0 → ⊥) → Came (xs ++ (b ∷ [])) said (within_of t (2 * n) 0) row marks
second-byte {low = low} {row} b H n is k =
    rests H b refl H.rest (low ∷ b ∷ []) H.cut (ap (λ (w : List ℕ). w ++ (b ∷ [])) (half-rest H.rest (H.going refl).1)) refl
    (within (2 * n) 0 low b [] (omega (arith, is)) (omega arith) (sym (take-nil (length row))))

-- a byte of a sheet; the row keeps it where it has room
module _ {xs said : List ℕ} {t : Tally} {left count : ℕ} {row : List ℕ} {marks : Marks} (b : ℕ) (H : Came xs said (within_of t left count) row marks)
    (count' : ℕ) {row' : List ℕ}
    (k : (ys : List ℕ) → take count row ≡ take (length row) ys → take count' row' ≡ take (length row') (ys ++ (b ∷ []))) where
  pub sheet-byte : 1 < left → Came (xs ++ (b ∷ [])) said (within_of t (left - 1) count') row' marks
  sheet-byte l = go H.rest (H.going refl).1 H.cut
    where
      go : (rest : List ℕ) → Rest row (Within left count) rest → xs ≡ H.front ++ rest
          → Came (xs ++ (b ∷ [])) said (within_of t (left - 1) count') row' marks
      go rest (within left count x y body v w q) e =
          rests H b refl (x ∷ y ∷ body) (x ∷ y ∷ (body ++ (b ∷ []))) e refl refl
          (within (left - 1) count' x y (body ++ (b ∷ [])) (omega (arith, v, l, length-append body (b ∷ []))) (omega (arith, l)) (k body q))

  -- the last byte of one
  pub last_byte : {bs text : List ℕ} {r : Handed Progress} {marks' : Marks} {text' : List ℕ} → Closes bs t marks text r marks' text' → left ≤ 1
      → bs ≡ take count' row' → length row' ≡ longer_file → Handing (xs ++ (b ∷ [])) said text r row' marks' text'
  last_byte {text = text} {r} {marks'} {text'} C l e n = go H.rest (H.going refl).1 H.cut
    where
      go : (rest : List ℕ) → Rest row (Within left count) rest → xs ≡ H.front ++ rest → Handing (xs ++ (b ∷ [])) said text r row' marks' text'
      go rest (within left count x y body v w q) c =
          closed C _ said H.front H.bodies x y (body ++ (b ∷ [])) row' H.sheets (omega (arith, v, w, l, length-append body (b ∷ [])))
          (e ∙ k body q ∙ ap (λ (j : ℕ). take j (body ++ (b ∷ []))) n) (H.going refl).0 (behind H.front (x ∷ y ∷ body) b c)

-- A SHEET IS WHOLE: one of no words, with its length
pub empty-sheet : {xs said : List ℕ} {t : Tally} {low : ℕ} {row : List ℕ} {marks : Marks} (b : ℕ) → Came xs said (half_of t low) row marks
    → {bs text : List ℕ} {r : Handed Progress} {marks' : Marks} {text' : List ℕ} → Closes bs t marks text r marks' text'
    → low + 256 * b ≡ 0 → bs ≡ [] → Handing (xs ++ (b ∷ [])) said text r row marks' text'
empty-sheet {xs} {said} {low = low} {row} b H C n e =
    closed C _ said H.front H.bodies low b [] row H.sheets (omega (arith, n)) (e ∙ sym (take-nil longer_file)) (H.going refl).0
    (behind H.front H.rest b H.cut ∙ ap (λ (w : List ℕ). H.front ++ (w ++ (b ∷ []))) (half-rest H.rest (H.going refl).1))
