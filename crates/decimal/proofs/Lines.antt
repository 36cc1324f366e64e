-- Lines of decimal words, part by part as they are written, and the loops that write them.
-- Rests on base Lists, formats Listing, digits Spaced, NumberLine and Due, specs Writing.
use mathlib.Core.Path.{◌≡◌, refl, sym, ap, ap₂, ◌∙◌}
use mathlib.Core.List.{List, [], ◌∷◌, ◌++◌, map, append_assoc}
use Prim.Native.Nat.{ℕ, suc, ◌+◌, ◌-◌, ◌≤◌, ◌<◌}
use native.Mathlib.Omega.{arith}
use lib.ListN.{length, get_or, take, drop, replicate, length-drop, length-append}
use lib.Seq.{drop-drop, take_all}
use Rattle.base.proofs.Lists.{part_length as length-of-part}
use Rattle.base.specs.Lists.{each}
use Rattle.formats.specs.Listing.{decimal, line}
use Rattle.digits.specs.Wrote.{Wrote}
use Rattle.digits.specs.Spaced.{spaced}
use Rattle.digits.proofs.NumberLine.{newline_text, numbers-line}
use Rattle.digits.proofs.Due.{Due, due-start, due-as, due-room, due-step, due-end}
use Rattle.decimal.specs.Writing.{records, lines_text, total}

-- the words from n on, as a part of a row is taken
abbrev pub behind : ℕ → List ℕ → List ℕ
behind n ws = take (length ws - n) (drop n ws)

pub behind-all : (n : ℕ) (ws : List ℕ) → behind n ws ≡ drop n ws
behind-all n ws = take_all (length ws - n) (drop n ws) (omega (arith, length-drop n ws))

pub behind-length : (n : ℕ) (ws : List ℕ) → length (behind n ws) ≡ length ws - n
behind-length n ws = ap length (behind-all n ws) ∙ length-drop n ws

-- ONE LINE

-- the first word, the others, the newline
pub line-is : (ws : List ℕ) (x : ℕ) → 1 ≤ length ws → x ≡ get_or ws 0 0
    → line (map decimal ws) ≡ decimal x ++ (each spaced (behind 1 ws) ++ newline_text)
line-is [] x l e = absurd (omega arith)
line-is (w ∷ ws) x l e =
    numbers-line (decimal w) ws
    ∙ ap₂ (λ (y : ℕ) (v : List ℕ). decimal y ++ (each spaced v ++ newline_text)) (sym e) (sym (behind-all 1 (w ∷ ws)))

pub line-length : (ws : List ℕ) (x : ℕ) → 1 ≤ length ws → x ≡ get_or ws 0 0
    → length (line (map decimal ws)) ≡ length (decimal x) + (length (each spaced (behind 1 ws)) + 1)
line-length ws x l e =
    omega (
      arith,
      ap length (line-is ws x l e),
      length-append (decimal x) (each spaced (behind 1 ws) ++ newline_text),
      length-append (each spaced (behind 1 ws)) newline_text,
    )

-- MANY LINES

pub lines-append : (xs ys ws : List ℕ) → lines_text (xs ++ ys) ws ≡ lines_text xs ws ++ lines_text ys (drop (total xs) ws)
unfolding lines_text total
lines-append [] ys ws = refl
lines-append (k ∷ xs) ys ws =
    let first = line (map decimal (take k ws)) in
    ap (λ (w : List ℕ). first ++ w)
    (lines-append xs ys (drop k ws) ∙ ap (λ (w : List ℕ). lines_text xs (drop k ws) ++ lines_text ys w) (drop-drop (total xs) k ws))
    ∙ sym (append_assoc first (lines_text xs (drop k ws)) (lines_text ys (drop (k + total xs) ws)))

-- the header, the records, the edge records
pub records_is : (h n k e at : ℕ) (ws : List ℕ) → at ≡ h + total (replicate n k)
    → lines_text (records h n k e) ws
    ≡ line (map decimal (take h ws)) ++ (lines_text (replicate n k) (behind h ws) ++ lines_text (replicate e 2) (behind at ws))
unfolding lines_text records
records_is h n k e at ws q =
    ap (λ (w : List ℕ). line (map decimal (take h ws)) ++ w)
    (lines-append (replicate n k) (replicate e 2) (drop h ws)
    ∙ ap₂ (λ (v w : List ℕ). lines_text (replicate n k) v ++ lines_text (replicate e 2) w) (sym (behind-all h ws))
    (drop-drop (total (replicate n k)) h ws ∙ ap (λ (m : ℕ). drop m ws) (sym q) ∙ sym (behind-all at ws)))

pub records-length : (h n k e at : ℕ) (ws : List ℕ) → at ≡ h + total (replicate n k)
    → length (lines_text (records h n k e) ws)
    ≡ length (line (map decimal (take h ws)))
    + (length (lines_text (replicate n k) (behind h ws)) + length (lines_text (replicate e 2) (behind at ws)))
records-length h n k e at ws q =
    let x = line (map decimal (take h ws)) in
    let y = lines_text (replicate n k) (behind h ws) in
    let z = lines_text (replicate e 2) (behind at ws) in
    omega (arith, ap length (records_is h n k e at ws q), length-append x (y ++ z), length-append y z)

module _ (ws : List ℕ) (n k : ℕ) where
  -- i lines are due, of the words from w on
  pub record LinesDue (old : List ℕ) (at : ℕ) (new : List ℕ) (p w i : ℕ) : Type 0 where
    pub inside : w + total (replicate i k) ≤ length ws
    pub due : Due old at (lines_text (replicate n k) ws) new p (lines_text (replicate i k) (drop w ws))

  pub lines-begin : {old : List ℕ} {at : ℕ} → total (replicate n k) ≤ length ws → at + length (lines_text (replicate n k) ws) ≤ length old
      → LinesDue old at old at 0 n
  lines-begin l r = record { inside = omega arith; due = due-start (lines_text (replicate n k) ws) _ r refl }

  module _ {old : List ℕ} {at : ℕ} {new : List ℕ} {p w i : ℕ} (L : LinesDue old at new p w i) where
    module _ (l : 0 < i) where
      one_more : i ≡ suc (i - 1)
      one_more = omega arith

      counted : total (replicate i k) ≡ k + total (replicate (i - 1) k)
      unfolding total
      counted = ap (λ (j : ℕ). total (replicate j k)) one_more

      pub part-inside : w + k ≤ length ws
      part-inside = omega (arith, counted, L.inside)

      -- the words of the next line
      abbrev part : List ℕ
      part = take (w + k - w) (drop w ws)

      pub part_length : length part ≡ k
      part_length = length-of-part w k ws part-inside

      abbrev later : List ℕ
      later = lines_text (replicate (i - 1) k) (drop (w + k) ws)

      next-due : Due old at (lines_text (replicate n k) ws) new p (line (map decimal part) ++ later)
      unfolding lines_text
      next-due =
          let q : w + k - w ≡ k = omega arith in
          due-as _ L.due
          (ap (λ (j : ℕ). lines_text (replicate j k) (drop w ws)) one_more
          ∙ ap₂ (λ (j : ℕ) (v : List ℕ). line (map decimal (take j (drop w ws))) ++ lines_text (replicate (i - 1) k) v)
          (sym q) (drop-drop k w ws))

      pub line-room : p + length (line (map decimal part)) ≤ length new
      line-room = due-room (line (map decimal part)) later next-due

      pub lines-on : {new' : List ℕ} {p' : ℕ} → Wrote new p (line (map decimal part)) new' p' → length new' ≡ length new
          → LinesDue old at new' p' (w + k) (i - 1)
      lines-on W e =
          record {
            inside = omega (arith, counted, L.inside);
            due = due-step (line (map decimal part)) later next-due W e;
          }

    pub lines_end : i ≤ 0 → Wrote old at (lines_text (replicate n k) ws) new p
    unfolding lines_text
    lines_end l =
        let z : i ≡ 0 = omega arith in
        due-end L.due (ap (λ (j : ℕ). lines_text (replicate j k) (drop w ws)) z)
