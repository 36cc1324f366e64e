-- A sheet of the first version keeps the rule of document 01: its entries keep their clauses exactly where it has one copy of block 1, and
-- its targets are then 0 or 2 to C. Rests on base Truth, Lists and Numbers, Headings, RuleRead.
use mathlib.Core.Path.{◌≡◌, refl, sym, ap, subst}
use mathlib.Core.Logic.{◌↔◌}
use mathlib.Core.Bool.{true, false, ◌&&◌, not}
use mathlib.Core.List.Memᴰ
use mathlib.Core.List.{List, [], ◌∷◌, Memᴰ}
use Prim.Native.Nat.{ℕ, ◌≤◌}
use native.Mathlib.Omega.{arith}
use borrow.Author.Tests.{eq-eqb, eqb-true, ltb-false, le-ltb, not-false}
use lib.Dec.{eqb, ltb}
use lib.ListN.{length}
use Rattle.base.specs.Lists.{any, from, member, last_of, nth}
use Rattle.base.specs.Checks.{outside}
use Rattle.base.proofs.Truth.{and_i, or_r, any_false, none_any}
use Rattle.base.proofs.Lists.{member-i, from-i, from-e}
use Rattle.base.proofs.Numbers.{one_last}
use Rattle.base.proofs.Orders.{not-outside}
use Rattle.formats.specs.Versions.{is_second, budgets_in}
use Rattle.formats.specs.BoundedSheet.{heading, entries_in, low_at, target_at}
use Rattle.formats.specs.Rule11.{copies_of, not_one_of, start_count, bad_lows, bad_target_words, entry_fits, bad_entries, no_last_entry, unnamed_start}
use Rattle.formats.specs.Rule11.{Ruled, Entered}
use Rattle.formats.proofs.Headings.{read-proper, largest-is}
use Rattle.formats.proofs.RuleRead.{starts-front, ordered-out, entry-names, start-named}

module _ (s : List ℕ) (R : Ruled (heading s) s) (long : 3 ≤ length s) (first : is_second s ≡ false) where
  there : (heading s).records ≤ length s
  there = omega (arith, R.form.size)

  one : (length (budgets_in s) ≡ 1) × (entries_in s ≡ 1 ∷ [])
  one = (read-proper s long there).first first

  -- "one copy .. of block 1", counted
  abbrev k : ℕ
  k = start_count (heading s) s

  entered-one : Entered (heading s) s (budgets_in s) (entries_in s) → k ≡ 1
  entered-one E =
      let n : nth (entries_in s) 1 ≡ 1 = ap (λ (l : List ℕ). nth l 1) one.1 in
      let e = entry-names (heading s) s R (budgets_in s) (entries_in s) E 1 (omega arith) (omega (arith, one.0)) (λ z. omega (arith, n)) in
      let m = start-named (heading s) s R (budgets_in s) (entries_in s) E k (omega (arith, e.1, n)) (omega arith) in
      Memᴰ.eq_of_singleton (subst (Memᴰ k) one.1 m)

  one-entered : k ≡ 1 → Entered (heading s) s (budgets_in s) (entries_in s)
  unfolding bad_entries no_last_entry unnamed_start entry_fits bad_lows last_of
  one-entered e =
      let h = heading s in
      let o = ordered-out h s R.blocks R.order 1 (omega arith) (omega arith) in
      let low : low_at h s 1 ≤ nth (budgets_in s) 1
      = omega (
        arith,
        ltb-false h.largest (low_at h s 1)
            (any_false (λ i. ltb h.largest (low_at h s i)) (from 1 h.copies) R.lows (from-i h.copies 1 1 (omega arith) (omega (arith, o.0)))),
        largest-is s,
        one_last (budgets_in s) one.0,
      ) in
      let fit : entry_fits h s (nth (budgets_in s) 1) 1 ≡ true
      = or_r (eqb 1 0) (and_i (ap not (not-outside 1 h.copies 1 (omega arith) o.0))
      (and_i (eq-eqb _ 1 o.1) (ap not (le-ltb (nth (budgets_in s) 1) _ low)))) in
      let entry : nth (entries_in s) 1 ≡ 1 = ap (λ (l : List ℕ). nth l 1) one.1 in
      record {
        fit = none_any (λ j. not (entry_fits h s (nth (budgets_in s) j) (nth (entries_in s) j))) (from 1 (length (budgets_in s))) (λ j m.
            let l = from-e (length (budgets_in s)) 1 j m in
            let j-is : j ≡ 1 = omega (arith, one.0) in
            rw (j-is, entry) (ap not fit));
        last = rw one.1 refl;
        named = none_any (λ i. not (member i (entries_in s))) (copies_of h s 1) (λ i m.
            let l = from-e k 1 i (subst (Memᴰ i) (starts-front h s R) m) in
            let i-is : i ≡ 1 = omega arith in
            ap not (member-i (subst (Memᴰ i) (sym one.1) (Memᴰ.head i-is))));
      }

  -- THE OLD CLAUSE: "one copy each of blocks 1 and 2"
  pub one-start : Entered (heading s) s (budgets_in s) (entries_in s) ↔ (not_one_of (heading s) s 1 ≡ false)
  unfolding not_one_of start_count
  one-start = (
    λ E. ap not (eq-eqb k 1 (entered-one E)),
    λ e. one-entered (eqb-true k 1 (not-false (eqb k 1) e)),
  )

  -- and "targets 0 or 2 to C"
  pub targets-behind-one : Entered (heading s) s (budgets_in s) (entries_in s)
      → bad_target_words (heading s) s
      ≡ any (λ e. not (eqb (target_at (heading s) s e) 0) && outside 2 (heading s).copies (target_at (heading s) s e)) (from 1 (heading s).edges)
  unfolding bad_target_words
  targets-behind-one E = rw (entered-one E)
