-- Of the blocks 1 to n, those that kept their marks are the unused ones.
-- Rests on base Lists, formats Limits, BoundedSheet, Rule11, RuleRead and Report, specs Marks.
use mathlib.Core.Path.{◌≡◌, refl, ap, subst, ◌∙◌}
use mathlib.Core.Bool.{Bool, true, false, ◌&&◌, not}
use mathlib.Core.List.{List, [], ◌∷◌}
use Prim.Native.Nat.{ℕ, zero, suc, ◌+◌, ◌≤◌, ◌<◌}
use native.Mathlib.Omega.{arith}
use borrow.Author.Tests.{le-leb, lt-leb}
use Rattle.base.specs.Lists.{keep, from, member}
use Rattle.base.proofs.Lists.{from-i}
use Rattle.formats.specs.Limits.{most_blocks}
use Rattle.formats.specs.BoundedSheet.{Heading, heading, copy_at}
use Rattle.formats.specs.Rule11.{Ruled}
use Rattle.formats.specs.Report.{copy_blocks, unused_blocks}
use Rattle.formats.proofs.RuleWords.{row_at}
use Rattle.formats.proofs.RuleRead.{row_fits}
use Rattle.unused.specs.Marks.{marked, marked_blocks, First, Unmarked, blocks_at, Blocks}

-- a test that fails from a + n on keeps what another keeps of the n numbers before
keep-front : (f g : ℕ → Bool) (n m a : ℕ) → n ≤ m → ((v : ℕ) → a ≤ v → v < a + n → g v ≡ f v)
    → ((v : ℕ) → a + n ≤ v → v < a + m → g v ≡ false) → keep g (from a m) ≡ keep f (from a n)
unfolding keep from
keep-front f g zero zero a l p q = refl
keep-front f g zero (suc m) a l p q =
    rw (q a (omega arith) (omega arith), keep)
    (keep-front f g zero m (suc a) (omega arith) (λ v i j. absurd (omega arith)) (λ v i j. q v (omega arith) (omega arith)))
keep-front f g (suc n) zero a l p q = absurd (omega arith)
keep-front f g (suc n) (suc m) a l p q =
    go (f a) refl
    (keep-front f g n m (suc a) (omega arith) (λ v i j. p v (omega arith) (omega arith)) (λ v i j. q v (omega arith) (omega arith)))
  where
    go : (b : Bool) → f a ≡ b → keep g (from (suc a) m) ≡ keep f (from (suc a) n) → keep g (from a (suc m)) ≡ keep f (from a (suc n))
    go true e below = rw (p a (omega arith) (omega arith) ∙ e, e, keep) (ap (λ (xs : List ℕ). a ∷ xs) below)
    go false e below = rw (p a (omega arith) (omega arith) ∙ e, e, keep) below

module _ (n : ℕ) (t : List ℕ) {old new : List ℕ} (F : First n old) (U : Unmarked (copy_blocks t) old new) where
  abbrev free : ℕ → Bool
  free v = not (member v (copy_blocks t))

  inside : (v : ℕ) → 1 ≤ v → v < 1 + n → n ≤ most_blocks → marked new v ≡ free v
  inside v p q l =
      U.is v p (omega arith)
      ∙ ap (λ (b : Bool). b && free v) (F.is v p (omega arith) ∙ le-leb v n (omega arith))

  outside : (v : ℕ) → 1 + n ≤ v → v < 1 + most_blocks → marked new v ≡ false
  outside v p q =
      U.is v (omega arith) (omega arith)
      ∙ ap (λ (b : Bool). b && free v) (F.is v (omega arith) (omega arith) ∙ lt-leb v n (omega arith))

  pub names-unused : n ≤ most_blocks → marked_blocks new ≡ unused_blocks n t
  unfolding marked_blocks unused_blocks
  names-unused l = keep-front free (marked new) n most_blocks 1 l (λ v p q. inside v p q l) outside

-- THE COPIES' BLOCKS, by what the header was read as

-- rule 11 gives blocks that have marks
pub blocks-kept : (h : Heading) (t : List ℕ) → Ruled h t → Blocks t h.records h.copies
unfolding row_at copy_at
blocks-kept h t R = record {
  size = omega (arith, R.form.size);
  inside = λ i p q. (row_fits h t R i (from-i h.copies 1 i p (omega arith))).block;
}

pub blocks-read : (t : List ℕ) {old new : List ℕ} {g : Heading} → g ≡ heading t → Unmarked (blocks_at t g.records g.copies) old new
    → Unmarked (copy_blocks t) old new
blocks-read t {old} {new} q U = subst (λ (h : Heading). Unmarked (blocks_at t h.records h.copies) old new) q U

-- where no block is marked, none is named
pub names-none : {ms : List ℕ} → First 0 ms → marked_blocks ms ≡ []
unfolding marked_blocks keep from
names-none {ms} F =
    keep-front (marked ms) (marked ms) 0 most_blocks 1 (omega arith) (λ v p q. refl)
    (λ v p q. F.is v (omega arith) (omega arith) ∙ lt-leb v 0 (omega arith))
