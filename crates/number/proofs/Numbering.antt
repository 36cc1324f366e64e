-- Numbering the marked cells in order: each gets the number of its copy, and no other cell is touched.
-- Rests on base Lists and Copies, theory Order, tables Tables and SetCells.
use mathlib.Core.Path.{◌≡◌, refl, sym, ap, ap₂, subst, ◌∙◌}
use mathlib.Core.Bool.{Bool, true, false}
use mathlib.Core.List.{List, [], ◌∷◌, Memᴰ, map}
use mathlib.Core.Option.{Option, some, none}
use Prim.Native.Nat.{ℕ, suc, ◌+◌, ◌≤◌, ◌<◌}
use native.Mathlib.Decide.{ℕ_discrete}
use native.Mathlib.Omega.{arith}
use lib.ListN.{length, get_or, set, drop, length-drop, length-set}
use lib.Seq.{get_or-set_same, get_or-set_other}
use Rattle.base.specs.Lists.{chosen, from, keep, option_of}
use Rattle.base.specs.Cells.{cell_of, cell_count, is_set}
use Rattle.base.specs.Copy.{Copy, copy_of, number_from}
use Rattle.base.proofs.Truth.{not-both}
use Rattle.base.proofs.Lists.{chosen-mem, chosen-le, drop_here, from-e, from-length, keep-i, keep-e, one_place}
use Rattle.base.proofs.Cells.{one_cell}
use Rattle.base.proofs.Copies.{rising-keep, rising-distinct, number-place, number-chosen}
use Rattle.theory.specs.Copies.{candidates}
use Rattle.theory.proofs.Order.{candidates-rise}
use Rattle.theory.proofs.Reach.{candidate}
use Rattle.tables.specs.Tables.{marked, marked_copies, Lows, Numbers}
use Rattle.tables.specs.Scan.{set_from, copy_at}
use Rattle.tables.proofs.Places.{code-cell}
use Rattle.tables.proofs.Rest.{keep-yes, keep-no}
use Rattle.tables.proofs.SetCells.{copies-set}

-- no more are kept than there are
keep-short : {A : Type 0} (f : A → Bool) (xs : List A) → length (keep f xs) ≤ length xs
unfolding keep
keep-short f [] = omega arith
keep-short f (x ∷ xs) = go (f x) refl (keep-short f xs)
  where
    go : (t : Bool) → f x ≡ t → length (keep f xs) ≤ length xs → length (keep f (x ∷ xs)) ≤ suc (length xs)
    go true e h = let p = ap length (keep-yes f x xs e) in omega (arith, p, h)
    go false e h = let p = ap length (keep-no f x xs e) in omega (arith, p, h)

module _ (n b : ℕ) (marks : List ℕ) where
  abbrev cs : List Copy
  cs = marked_copies n b marks

  -- the copy behind the first k has the number k + 1
  numbered : (k : ℕ) (c : Copy) → chosen cs (suc k) ≡ some c → number_from 1 c cs ≡ suc k
  unfolding marked_copies
  numbered k c e =
      let apart = rising-distinct cs (rising-keep _ (candidates n b) (candidates-rise n b)) in
      one_place cs apart (number_from 1 c cs) (suc k) c (number-chosen c cs (chosen-mem cs (suc k) c e)) e

  -- a marked copy is one of them
  is-one : (v l : ℕ) → 1 ≤ v → v ≤ n → l ≤ b → marked b marks v l ≡ true → Memᴰ (copy_of v l) cs
  unfolding marked_copies
  is-one v l p q o t = keep-i _ (candidates n b) (candidate n b (copy_of v l) (p, q) o) t

  -- the cell of the one that was chosen
  same_cell : (c d : Copy) → some c ≡ some d → cell_of b c.block c.low ≡ cell_of b d.block d.low
  same_cell c d e = ap (λ (o : Option Copy). elim o [ some c ↦ cell_of b c.block c.low | none ↦ 0 ]) e

  -- THE LOOP: the cells js are left; the copies before theirs, count of them, are numbered in a, which was a₀
  pub record Numbering (a₀ a : List ℕ) (count : ℕ) (js : List ℕ) : Type 0 where
    pub few : count ≤ length cs
    pub fits : count + length js ≤ cell_count n b
    pub same : length a ≡ length a₀
    pub room : cell_count n b ≤ length a
    pub inside : (j : ℕ) → Memᴰ j js → (j < cell_count n b) × (is_set marks j ≡ true)
    pub ahead : drop count cs ≡ map (copy_at b) js
    pub done : (v l : ℕ) → 1 ≤ v → v ≤ n → l ≤ b → marked b marks v l ≡ true → number_from 1 (copy_of v l) cs ≤ count
        → get_or a (cell_of b v l) 0 ≡ number_from 1 (copy_of v l) cs
    pub others : (v r : ℕ) → 1 ≤ v → v ≤ n → r ≤ b → marked b marks v r ≡ false → get_or a (cell_of b v r) 0 ≡ get_or a₀ (cell_of b v r) 0

  pub numbering_start : (a js : List ℕ) → cell_count n b ≤ length a → js ≡ set_from marks 0 (cell_count n b) → Numbering a a 0 js
  unfolding set_from
  numbering_start a js room e = record {
    few = omega arith;
    fits = omega (arith, ap length e, keep-short (is_set marks) (from 0 (cell_count n b)), from-length (cell_count n b) 0);
    same = refl;
    room = room;
    inside = λ j m. let k = keep-e (is_set marks) (from 0 (cell_count n b)) (subst (Memᴰ j) e m) in (omega (arith, (from-e (cell_count n b) 0 j k.0).1), k.1);
    ahead = copies-set n b marks ∙ ap (map (copy_at b)) (sym e);
    done = λ v l p q o t h. absurd (omega (arith, (number-place (copy_of v l) cs (is-one v l p q o t)).1));
    others = λ v r p q m t. refl;
  }

  module _ {a₀ a : List ℕ} {count i : ℕ} {js ks : List ℕ} (M : Numbering a₀ a count ks) (f : ks ≡ i ∷ js) where
    N : Numbering a₀ a count (i ∷ js)
    N = subst (Numbering a₀ a count) f M

    next : (count < length cs) × (chosen cs (suc count) ≡ some (copy_at b i)) × (drop (suc count) cs ≡ map (copy_at b) js)
    next = drop_here cs count _ _ N.ahead

    pub numbering-room : (count < cell_count n b) × (i < length a)
    numbering-room = (omega (arith, N.fits), omega (arith, (N.inside i (Memᴰ.head refl)).0, N.room))

    pub numbering-on : {m : ℕ} {a' : List ℕ} → m ≡ count + 1 → a' ≡ set a i m → Numbering a₀ a' m js
    unfolding marked
    numbering-on {m} {a'} e g =
        let d = next in
        let z : m ≡ suc count = omega arith in
        record {
          few = omega (arith, d.0);
          fits = omega (arith, N.fits);
          same = ap length g ∙ length-set a i m ∙ N.same;
          room = omega (arith, ap length g, length-set a i m, N.room);
          inside = λ j k. N.inside j (Memᴰ.tail k);
          ahead = ap (λ (x : ℕ). drop x cs) z ∙ d.2;
          done = λ v l p q o t h. settled z v l p q o t h (ℕ_discrete (cell_of b v l) i);
          others = λ v l p q o t.
              ap (λ (a : List ℕ). get_or a (cell_of b v l) 0) g
              ∙ get_or-set_other a i (cell_of b v l) m 0 (λ y. not-both (ap (is_set marks) y ∙ (N.inside i (Memᴰ.head refl)).1) t)
              ∙ N.others v l p q o t;
        }
      where
        settled : m ≡ suc count → (v l : ℕ) → 1 ≤ v → v ≤ n → l ≤ b → marked b marks v l ≡ true → number_from 1 (copy_of v l) cs ≤ m
            → Dec (cell_of b v l ≡ i) → get_or a' (cell_of b v l) 0 ≡ number_from 1 (copy_of v l) cs
        settled z v l p q o t h (yes y) =
            let C = code-cell b i in
            let s = one_cell b v l _ _ p C.block o C.low (y ∙ C.place) in
            let k : number_from 1 (copy_of v l) cs ≡ suc count
            = ap₂ (λ (x y : ℕ). number_from 1 (copy_of x y) cs) s.0 s.1 ∙ numbered count (copy_at b i) next.1 in
            ap₂ (λ (a : List ℕ) (j : ℕ). get_or a j 0) g y
            ∙ get_or-set_same a i m 0 (numbering-room.1) ∙ z ∙ sym k
        settled z v l p q o t h (no y) =
            let other : number_from 1 (copy_of v l) cs ≡ suc count → ⊥
            = λ w. y (same_cell (copy_of v l) (copy_at b i) (sym (number-chosen (copy_of v l) cs (is-one v l p q o t)) ∙ ap (chosen cs) w ∙ next.1)
            ∙ sym (code-cell b i).place) in
            ap (λ (a : List ℕ). get_or a (cell_of b v l) 0) g ∙ get_or-set_other a i (cell_of b v l) m 0 y ∙ N.done v l p q o t (omega arith)

  pub numbering-end : {a₀ a : List ℕ} {count : ℕ} {js : List ℕ} → Numbering a₀ a count js → js ≡ []
      → (count ≡ length cs) × ((f : ℕ → ℕ → Option ℕ) → Lows f n b a₀ → Numbers f n b marks a)
  numbering-end {a₀} {a} {count} {js} N h =
      let k : length (drop count cs) ≡ 0 = ap length (N.ahead ∙ ap (map (copy_at b)) h) in
      let c : count ≡ length cs = omega (arith, length-drop count cs, N.few) in (
        c,
        λ f L. record {
          room = N.room;
          copies = λ v l p q o t.
              N.done v l p q o t (omega (arith, chosen-le cs _ _ (number-chosen (copy_of v l) cs (is-one v l p q o t))));
          others = λ v r p q o t. ap option_of (N.others v r p q o t) ∙ L.cells v r p q o;
        },
      )
