-- The clauses on the entries, by what their parts say.
-- Rests on base Truth, formats Rule11, specs Entries.
use mathlib.Core.Path.{◌≡◌, refl, sym, ap, ◌∙◌}
use mathlib.Core.Bool.{Bool, true, false, ◌&&◌, ◌||◌, not}
use mathlib.Core.List.{List}
use Prim.Native.Nat.{ℕ}
use lib.Dec.{eqb, ltb, leb}
use borrow.Author.Tests.{eq-eqb, ne_eqb, ltb-true, ltb-false, le-leb, lt-leb}
use Rattle.std.specs.List.{list_any, zip}
use lib.ListN.{length}
use Rattle.base.specs.Lists.{any, from, member, last_of}
use Rattle.base.specs.Checks.{outside}
use Rattle.base.proofs.Truth.{or_l}
use Rattle.formats.specs.BoundedSheet.{Heading, block_at, low_at}
use Rattle.formats.specs.Rule11.{copies_of, entry_fits, bad_entries, no_last_entry, unnamed_start}
use Rattle.entry_check.specs.Entries.{bad_entry_words}
use Rattle.entry_check.proofs.Places.{zipped}

at_most : (l b : ℕ) → leb l b ≡ not (ltb b l)
at_most l b = go (ltb b l) refl
  where
    go : (x : Bool) → ltb b l ≡ x → leb l b ≡ not x
    go true e = lt-leb l b (ltb-true b l e)
    go false e = le-leb l b (ltb-false b l e)

module _ (h : Heading) (s : List ℕ) where
  -- AN ENTRY e of a budget b
  module _ (b e : ℕ) where
    pub zero-fits : e ≡ 0 → true ≡ entry_fits h s b e
    unfolding entry_fits
    zero-fits z = sym (or_l _ (eq-eqb e 0 z))

    module _ (n : e ≡ 0 → ⊥) where
      fit_is : (p q r : Bool) → outside 1 h.copies e ≡ p → eqb (block_at h s e) 1 ≡ q → ltb b (low_at h s e) ≡ r
          → (not p && (q && not r)) ≡ entry_fits h s b e
      unfolding entry_fits
      fit_is p q r x y z = rw (ne_eqb e 0 n) (λ i. not (sym x i) && (sym y i && not (sym z i)))

      pub no_copy : outside 1 h.copies e ≡ true → false ≡ entry_fits h s b e
      no_copy x = fit_is true _ _ x refl refl

      -- the block v and the low l of the copy, as they were read
      module _ (x : outside 1 h.copies e ≡ false) {v : ℕ} (q : v ≡ block_at h s e) where
        pub other_block : (v ≡ 1 → ⊥) → eqb v 1 ≡ entry_fits h s b e
        other_block y = ne_eqb v 1 y ∙ fit_is false false _ x (ne_eqb _ 1 (λ z. y (q ∙ z))) refl

        pub low-tells : v ≡ 1 → {l : ℕ} → l ≡ low_at h s e → leb l b ≡ entry_fits h s b e
        low-tells y {l} r = at_most l b ∙ ap (λ (l : ℕ). not (ltb b l)) r ∙ fit_is false true _ x (eq-eqb _ 1 (sym q ∙ y)) refl

-- ALL THREE CLAUSES, by their tests
module _ (h : Heading) (s bs es : List ℕ) (l : length es ≡ length bs) {p : Bool}
    (P : p ≡ list_any (λ p. not (entry_fits h s p.0 p.1)) (zip bs es)) where
  words_are : (a b c : Bool) → p ≡ a → eqb (last_of es) 0 ≡ b → unnamed_start h s bs es ≡ c → (a || (b || c)) ≡ bad_entry_words h s bs es
  unfolding bad_entry_words no_last_entry bad_entries
  words_are a b c x y z = λ i. (sym x ∙ P ∙ zipped (λ b e. not (entry_fits h s b e)) bs es l) i || (sym y i || sym z i)

  pub entries-bad : p ≡ true → true ≡ bad_entry_words h s bs es
  entries-bad e = words_are true _ _ e refl refl

  module _ (e : p ≡ false) where
    pub last-bad : eqb (last_of es) 0 ≡ true → true ≡ bad_entry_words h s bs es
    last-bad f = words_are false true _ e f refl

    -- the start copies are the first k
    pub starts-left : {r : Bool} (k : ℕ) → eqb (last_of es) 0 ≡ false → copies_of h s 1 ≡ from 1 k → r ≡ any (λ i. not (member i es)) (from 1 k)
        → r ≡ bad_entry_words h s bs es
    unfolding unnamed_start
    starts-left k f C R = words_are false false _ e f (ap (any (λ i. not (member i es))) C ∙ sym R)
