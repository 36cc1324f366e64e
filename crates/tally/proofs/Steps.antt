-- The greatest is small; one sheet more.
-- Rests on formats Limits and Report, specs Tallies.
use mathlib.Core.Path.{◌≡◌, refl, sym, ap, subst, ◌∙◌}
use mathlib.Core.Bool.{Bool, true, false}
use Prim.Native.Nat.{ℕ, suc, ◌*◌, ◌≤◌}
use native.Mathlib.Omega.{arith}
use lib.Dec.{ltb}
use Rattle.formats.specs.Limits.{most_blocks, most_copies, most_bounded_edges}
use Rattle.formats.specs.Report.{Figures, Sums, plus, Most, no_most, greater, most_of}
use Rattle.tally.specs.declared.Tally.{Tally}
use Rattle.tally.specs.Tallies.{sums_of, most_from, figured, Fits, Tallied}

-- any copy is above none
pub above_none : (n c : ℕ) → ltb 0 c ≡ greater (figured n c 0) no_most
unfolding greater
above_none n c =
    let l : 0 * n ≡ 0 = omega arith in
    let r : c * 1 ≡ c = omega arith in
    rw (l, r) refl

-- the edges are not compared
pub by-copies : (m : Most) (p n c e : ℕ) → most_of m p (figured n c 0) ≡ most_of m p (figured n c e)
unfolding greater most_of
by-copies m p n c e = refl

-- the greater of two small ones is small
pub record Small (p : ℕ) (m : Most) : Type 0 where
  pub place : m.place ≤ p
  pub copies : m.copies ≤ most_copies
  pub blocks : m.blocks ≤ most_blocks

pub small-most : (m : Most) (p : ℕ) (f : Figures) → Small p m → f.copies ≤ most_copies → f.blocks ≤ most_blocks → Small p (most_of m p f)
unfolding most_of
small-most m p f S q r = go (greater f m) refl
  where
    go : (b : Bool) → greater f m ≡ b → Small p (most_of m p f)
    go true e = rw (e, most_of) (record { place = omega arith; copies = q; blocks = r })
    go false e = rw (e, most_of) S

-- ONE SHEET MORE
module _ (t t' : Tally) (n c e : ℕ) (F : Fits t) (p : t'.place ≡ suc t.place)
    (q : sums_of t' ≡ plus (sums_of t) (figured n c e)) (m : most_from t'.most ≡ most_of (most_from t.most) (suc t.place) (figured n c 0)) where
  pub tallied : Tallied (figured n c e) t t'
  tallied = record {
    place = p;
    sums = q;
    most = m ∙ by-copies (most_from t.most) (suc t.place) n c e;
  }

  pub fits : n ≤ most_blocks → c ≤ most_copies → e ≤ most_bounded_edges → Fits t'
  unfolding plus
  fits i j k =
      let l = F.most-place in
      let S : Small t'.place (most_from t.most) =
      record { place = omega (arith, p, l); copies = F.most-copies; blocks = F.most-blocks } in
      let M = subst (Small t'.place) (ap (λ (x : ℕ). most_of (most_from t.most) x (figured n c 0)) p ∙ sym m) (small-most (most_from t.most) t'.place (figured n c 0) S j i) in
      record {
        blocks = omega (arith, F.blocks, p, ap (λ (s : Sums). s.blocks) q);
        copies = omega (arith, F.copies, p, ap (λ (s : Sums). s.copies) q);
        edges = omega (arith, F.edges, p, ap (λ (s : Sums). s.edges) q);
        most-place = M.place;
        most-copies = M.copies;
        most-blocks = M.blocks;
      }
