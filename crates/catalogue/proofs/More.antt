-- One sheet more behind those so far: the lines, the sums, the greatest, and the k-th of them.
-- Rests on base Lists, formats Report.
use mathlib.Core.Path.{◌≡◌, refl, sym, ap, ◌∙◌}
use mathlib.Core.Logic.{◌⊎◌, inl, inr}
use mathlib.Core.List.{List, [], ◌∷◌, ◌++◌, append_assoc, append-nil}
use mathlib.Core.Option.{some, none-ne-some, some-injective}
use Prim.Native.Nat.{ℕ, zero, suc, ◌+◌, ◌<◌}
use native.Mathlib.Omega.{arith}
use lib.ListN.{length}
use Rattle.base.specs.Lists.{chosen}
use Rattle.formats.specs.Report.{Figures, Sums, plus, sums, Most, most_of, most, each_sheet}

pub lines_more : (g : ℕ → Figures → List ℕ) (p : ℕ) (fs : List Figures) (f : Figures)
    → each_sheet g p (fs ++ (f ∷ [])) ≡ each_sheet g p fs ++ g (p + length fs) f
unfolding each_sheet
lines_more g p [] f = let e : p ≡ p + 0 = omega arith in append-nil (g p f) ∙ ap (λ (q : ℕ). g q f) e
lines_more g p (h ∷ fs) f =
    let e : suc p + length fs ≡ p + suc (length fs) = omega arith in
    ap (λ (xs : List ℕ). g p h ++ xs) (lines_more g (suc p) fs f ∙ ap (λ (q : ℕ). each_sheet g (suc p) fs ++ g q f) e)
    ∙ sym (append_assoc (g p h) (each_sheet g (suc p) fs) (g (p + suc (length fs)) f))

pub sums-more : (s : Sums) (fs : List Figures) (f : Figures) → sums s (fs ++ (f ∷ [])) ≡ plus (sums s fs) f
unfolding sums
sums-more s [] f = refl
sums-more s (g ∷ fs) f = sums-more (plus s g) fs f

pub most-more : (m : Most) (p : ℕ) (fs : List Figures) (f : Figures) → most m p (fs ++ (f ∷ [])) ≡ most_of (most m p fs) (p + length fs) f
unfolding most
most-more m p [] f = let e : p ≡ p + 0 = omega arith in ap (λ (q : ℕ). most_of m q f) e
most-more m p (g ∷ fs) f =
    let e : suc p + length fs ≡ p + suc (length fs) = omega arith in
    most-more (most_of m p g) (suc p) fs f ∙ ap (λ (q : ℕ). most_of (most (most_of m p g) (suc p) fs) q f) e

-- it is one of those, or the last
pub chosen_more : (fs : List Figures) (f g : Figures) (i : ℕ) → chosen (fs ++ (f ∷ [])) (suc i) ≡ some g
    → ((i < length fs) × (chosen fs (suc i) ≡ some g)) ⊎ ((i ≡ length fs) × (f ≡ g))
unfolding chosen
chosen_more [] f g zero e = inr (refl, some-injective f g e)
chosen_more [] f g (suc i) e = absurd (none-ne-some g e)
chosen_more (h ∷ fs) f g zero e = inl (omega arith, e)
chosen_more (h ∷ fs) f g (suc i) e = go (chosen_more fs f g i e)
  where
    go : ((i < length fs) × (chosen fs (suc i) ≡ some g)) ⊎ ((i ≡ length fs) × (f ≡ g))
        → ((suc i < suc (length fs)) × (chosen fs (suc i) ≡ some g)) ⊎ ((suc i ≡ suc (length fs)) × (f ≡ g))
    go (inl x) = inl (omega (arith, x.0), x.1)
    go (inr x) = inr (ap suc x.0, x.1)
