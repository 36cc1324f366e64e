-- Four words and the walk that they stand for: read, written, each the inverse of the other.
-- Rests on theory Machines, calls Moves, specs WalkWords.
use mathlib.Core.Path.{◌≡◌, refl, sym, ap, ◌∙◌}
use mathlib.Core.List.{List, [], ◌∷◌, map}
use Prim.Native.Nat.{ℕ, zero, suc, ◌≤◌}
use native.Mathlib.Omega.{arith}
use borrow.Author.Tests.{le-ltb}
use lib.ListN.{get_or}
use Rattle.theory.specs.Machines.{End, going, exit, diverted}
use Rattle.calls.specs.Moves.{Budgeted, budgeted}
use Rattle.walk.specs.WalkWords.{end_in, end_word, state_in, walk_in, walk_words}

module _ (row : List ℕ) where
  pub its-walk : (s : Budgeted) → get_or row 2 0 ≤ 2 → s.number ≡ get_or row 3 0
      → s.walk.place ≡ get_or row 0 0 → s.walk.count ≡ get_or row 1 0 → s.walk.end ≡ end_in (get_or row 2 0)
      → s ≡ walk_in row
  unfolding state_in
  its-walk s l n p c e =
      rw (le-ltb 2 (get_or row 2 0) l, state_in) (λ i. budgeted (n i) (record { place = p i; count = c i; end = e i }))

-- READING AND WRITING are inverse to each other
end_back : (e : End) → end_in (end_word e) ≡ e
unfolding end_in end_word
end_back going = refl
end_back exit = refl
end_back diverted = refl

end-word-most : (e : End) → end_word e ≤ 2
unfolding end_word
end-word-most going = omega arith
end-word-most exit = omega arith
end-word-most diverted = omega arith

pub walk-back : (s : Budgeted) → walk_in (walk_words s) ≡ s
walk-back s =
    let e = s.walk.end in sym (its-walk (walk_words s) s (end-word-most e) refl refl refl (sym (end_back e)))

word_back : (n : ℕ) → n ≤ 2 → end_word (end_in n) ≡ n
unfolding end_in end_word
word_back zero l = refl
word_back (suc zero) l = refl
word_back (suc (suc zero)) l = refl
word_back (suc (suc (suc n))) l = absurd (omega arith)

pub words_back : (p c e n : ℕ) → e ≤ 2 → walk_words (walk_in (p ∷ c ∷ e ∷ n ∷ [])) ≡ p ∷ c ∷ e ∷ n ∷ []
words_back p c e n l =
    let s : Budgeted = budgeted n (record { place = p; count = c; end = end_in e }) in
    ap walk_words (sym (its-walk (p ∷ c ∷ e ∷ n ∷ []) s l refl refl refl refl)) ∙ ap (λ (x : ℕ). p ∷ c ∷ x ∷ n ∷ []) (word_back e l)

-- each end's word
pub end-words : map end_word (going ∷ exit ∷ diverted ∷ []) ≡ 0 ∷ 1 ∷ 2 ∷ []
unfolding end_word
end-words = refl
