-- DEMAND 2 of every graph sheet that a build accepts.
-- Rests on theory Reach, formats Handler, Reading and RuleRead, SettingRows, Built.
use mathlib.Core.Path.{◌≡◌, refl, sym, ap, subst, ◌∙◌}
use mathlib.Core.Logic.{◌≢◌}
use mathlib.Core.Bool.{false}
use mathlib.Core.List.{List, map, Memᴰ}
use mathlib.Core.Option
use mathlib.Core.Option.{Option, some, none}
use Prim.Native.Nat.{ℕ, suc, ◌+◌, ◌-◌, ◌<◌}
use native.Mathlib.Omega.{arith}
use lib.ListN.{length, length-map}
use Rattle.base.specs.Lists.{chosen, nth}
use Rattle.base.specs.Copy.{Copy, copy_of, number_from}
use Rattle.base.proofs.Lists.{chosen-map, chosen-mem, chosen-le, chosen-some, choice-of, one_place}
use Rattle.base.proofs.Numbers.{nth_in, nth_of, nth-map, one_last}
use Rattle.base.proofs.Copies.{rising-chosen, number-chosen}
use Rattle.theory.specs.Completions.{Graph, Completion, IsLow, NoLow, low_of}
use Rattle.theory.specs.Copies.{targets, copy_for, target_number}
use Rattle.theory.specs.Setting.{Setting, starts, copies, exit_copy}
use Rattle.theory.proofs.Completions.{low-some, is-low, no-low, exit-cost, covers, serves}
use Rattle.theory.proofs.Reach.{target-mem, edge-target, start-i, targets-in, reached-in, in-reached, copy-sound, entry_of, exit-only}
use Rattle.formats.specs.Versions.{is_second, budgets_in}
use Rattle.formats.specs.BoundedSheet.{heading, bounded_length, copy_at, targets_at}
use Rattle.formats.proofs.Handler.{lowered-count, lowered-exactly, accepted-with}
use Rattle.formats.proofs.Reading.{Reads, reads}
use Rattle.formats.proofs.RuleRead.{clauses}
use Rattle.calls.specs.SheetGraph.{task, graph, row_of, rows_of, entry_for, sheet_copies, bounded_sheet, read_bounded}
use Rattle.calls.specs.Construction.{IsBudget, entry, IsPlace, Demand2}
use Rattle.calls.proofs.SettingRows.{row_at, rises, apart, its-target, exit-here, entry-some, entry-none}
use Rattle.calls.proofs.Built.{Buildable, setting, first-starts, exit-behind, first-version, sheet-laid, version-back, budgets-back}
use Rattle.calls.proofs.Built.{entries-back, last-is, keeps-rule, words-fit-16}

module _ (w : List ℕ) (h : ℕ) (K : Buildable w h) where
  abbrev g : Graph
  g = graph w

  abbrev S : Setting
  S = setting w h K

  -- the records of the bounded sheet are the copies, in order, and their chains the copies' targets
  pub record Copied (t : List ℕ) : Type 0 where
    pub copies : (heading t).copies ≡ length (sheet_copies w h)
    pub record_is : (i : ℕ) (c : Copy) → chosen (sheet_copies w h) i ≡ some c → copy_at (heading t) t i ≡ c
    pub edges_are : (i : ℕ) (c : Copy) → chosen (sheet_copies w h) i ≡ some c
        → targets_at (heading t) t i ≡ map (target_number (sheet_copies w h)) (targets (graph w) c)

  pub copied : Copied (bounded_sheet w h)
  unfolding sheet_copies row_of rows_of copy_at
  copied =
      let t = bounded_sheet w h in
      let rs = rows_of g (copies S) in
      let row : (i : ℕ) (c : Copy) → chosen (copies S) i ≡ some c → Reads (heading t) t rs i (row_of g (copies S) c)
      = λ i c q. reads (heading t) t rs (sheet-laid w h K) i (row_of g (copies S) c) (row_at S i c q) in
      record {
        copies = (sheet-laid w h K).copies ∙ length-map (copies S) (row_of g (copies S));
        record_is = λ i c q. let r = row i c q in λ j. record { block = r.block j; low = r.low j };
        edges_are = λ i c q. (row i c q).targets;
      }

  abbrev t : List ℕ
  t = bounded_sheet w h

  abbrev cs : List Copy
  cs = copies S

  -- the copy with a number
  pub record At (i : ℕ) : Type 0 where
    pub copy : Copy
    pub chosen_is : chosen (copies S) i ≡ some copy
    pub member : Memᴰ copy (copies S)
    pub read : copy_at (heading t) t i ≡ copy
    pub edges : targets_at (heading t) t i ≡ map (target_number (copies S)) (targets g copy)

  read_at : (i : ℕ) (c : Copy) → chosen cs i ≡ some c → copy_at (heading t) t i ≡ c
  unfolding sheet_copies
  read_at i c q = copied.record_is i c q

  count-is : (heading t).copies ≡ length cs
  unfolding sheet_copies
  count-is = copied.copies

  at : (i : ℕ) → IsPlace w h t i → At i
  unfolding sheet_copies
  at i p =
      let x = chosen-some cs i p.0 (omega (arith, p.1, count-is)) in
      record {
        copy = x.0;
        chosen_is = x.1;
        member = chosen-mem cs i x.0 x.1;
        read = read_at i x.0 x.1;
        edges = copied.edges_are i x.0 x.1;
      }

  place_of : (i : ℕ) (c : Copy) → chosen cs i ≡ some c → IsPlace w h t i
  place_of i c q = let l = chosen-le cs i c q in (l.0, omega (arith, l.1, count-is))

  -- a choice's target, by the look-up
  target_at_lem : (c : Copy) (k v : ℕ) (o : Option ℕ) (r : ℕ) → chosen (g.next c.block) k ≡ some v → c.low ≡ g.cost c.block + r
      → low_of g v r ≡ o
      → chosen (map (target_number cs) (targets g c)) k ≡ some (target_number cs (Option.map (copy_of v) o))
  unfolding targets copy_for
  target_at_lem c k v o r q e f =
      let x : c.low - g.cost c.block ≡ r = omega arith in
      let y : low_of g v (c.low - g.cost c.block) ≡ o = rw x f in
      chosen-map (target_number cs) (targets g c) k
      ∙ ap (Option.map (target_number cs)) (chosen-map (copy_for g (c.low - g.cost c.block)) (g.next c.block) k)
      ∙ ap (λ (p : Option ℕ). Option.map (target_number cs) (Option.map (copy_for g (c.low - g.cost c.block)) p)) q
      ∙ ap (λ (p : Option ℕ). some (target_number cs (Option.map (copy_of v) p))) y

  -- DEMAND 2, of the copy that a record is
  diverted-at : (i k v r : ℕ) (A : At i) → chosen (g.next A.copy.block) k ≡ some v → A.copy.low ≡ g.cost A.copy.block + r
      → NoLow g v r → chosen (targets_at (heading t) t i) k ≡ some 0
  unfolding target_number
  diverted-at i k v r A q e n =
      ap (λ (l : List ℕ). chosen l k) A.edges ∙ target_at_lem A.copy k v none r q e (no-low g S.laws n)

  goes_at : (i k v r a : ℕ) (A : At i) → chosen (g.next A.copy.block) k ≡ some v → A.copy.low ≡ g.cost A.copy.block + r
      → IsLow g v r a
      → (n : ℕ) × IsPlace w h t n × (chosen (targets_at (heading t) t i) k ≡ some n) × (copy_at (heading t) t n ≡ copy_of v a)
  unfolding target_number
  goes_at i k v r a A q e is =
      let m = edge-target g S.laws A.copy (copy_of v a) (chosen-mem (g.next A.copy.block) k v q) e is in
      let n = number_from 1 (copy_of v a) cs in
      let x : chosen cs n ≡ some (copy_of v a) = number-chosen (copy_of v a) cs (targets-in S A.copy (copy_of v a) A.member m) in (
        n,
        place_of n (copy_of v a) x,
        ap (λ (l : List ℕ). chosen l k) A.edges ∙ target_at_lem A.copy k v (some a) r q e (is-low g S.laws is),
        read_at n (copy_of v a) x,
      )

  falls_at : (i n : ℕ) (A : At i) → Memᴰ n (targets_at (heading t) t i) → n ≢ 0 → A.copy.block ≢ 1
      → (copy_at (heading t) t n).low < A.copy.low
  falls_at i n A m z o =
      let d = its-target S A.copy A.member n (subst (Memᴰ n) A.edges m) z in
      let e = target-mem g A.copy d.0 d.1 in
      let l = low-some g S.laws d.0.block _ d.0.low e.1 in
      let p = S.laws.paid A.copy.block d.0.block e.0 o in
      let q = covers g S.laws (copy-sound S A.copy A.member).1.cost in
      omega (arith, l.below, ap (λ (c : Copy). c.low) (read_at n d.0 d.2))

  length_at : (i : ℕ) (A : At i) → length (targets_at (heading t) t i) ≡ length (g.next A.copy.block)
  unfolding targets
  length_at i A =
      ap length A.edges ∙ length-map (targets g A.copy) (target_number cs)
      ∙ length-map (g.next A.copy.block) (copy_for g (A.copy.low - g.cost A.copy.block))

  -- THE ENTRIES
  abbrev bs : List ℕ
  bs = (task w h).budgets

  entry-is : (k : ℕ) → IsBudget w h t k → entry w h t k ≡ entry_for (task w h) (nth bs k)
  entry-is k p = ap (λ (l : List ℕ). nth l k) (entries-back w h K) ∙ nth-map (entry_for (task w h)) bs k p.0 p.1

  names : (k a : ℕ) → IsBudget w h t k → IsLow g 1 (nth bs k) a
      → IsPlace w h t (entry w h t k) × (copy_at (heading t) t (entry w h t k) ≡ copy_of 1 a)
  names k a p is =
      let e = entry-some S (nth bs k) a (nth_in bs k p.0 p.1) (is-low g S.laws is) in
      let here : chosen cs (entry w h t k) ≡ some (copy_of 1 a) = ap (chosen cs) (entry-is k p) ∙ e.1 in
      (place_of _ _ here, read_at _ _ here)

  -- the start copies are those of the budgets
  its-budget : (c : Copy) → Memᴰ c (starts S) → (c.block ≡ 1) × ((k : ℕ) × IsBudget w h t k × IsLow g 1 (nth bs k) c.low)
  its-budget c m =
      let E = entry_of S c m in
      let k = nth_of E.0.budget E.0.named in
      let low : IsLow g 1 E.0.budget E.0.low = low-some g S.laws 1 E.0.budget E.0.low E.0.fits in (
        sym (ap (λ (c : Copy). c.block) E.1),
        (
          k.0,
          (k.1, k.2),
          subst (λ (b : ℕ). IsLow g 1 b c.low) (sym k.3) (subst (IsLow g 1 E.0.budget) (ap (λ (c : Copy). c.low) E.1) low),
        ),
      )

  of-budget : (c : Copy) → c.block ≡ 1 → (k : ℕ) → IsBudget w h t k → IsLow g 1 (nth bs k) c.low → Memᴰ c (starts S)
  of-budget c e k p is =
      subst (λ (d : Copy). Memᴰ d (starts S)) (λ i. record { block = sym e i; low = c.low })
      (start-i g bs (nth bs k) c.low (nth_in bs k p.0 p.1) (is-low g S.laws is))

  -- THE EXIT
  last-at : chosen cs (read_bounded t).last ≡ some (exit_copy S)
  last-at = ap (chosen cs) (last-is w h K) ∙ exit-here S

  last-alone : (i : ℕ) (A : At i) → A.copy.block ≡ 2 → i ≡ (read_bounded t).last
  last-alone i A e = one_place cs (apart S) i _ (exit_copy S) (A.chosen_is ∙ ap some (exit-only S A.copy A.member e)) last-at

  -- in the first version the one start copy stands first, and the exit second
  in_order : is_second w ≡ false → (copy_at (heading t) t 1 ≡ copy_of 1 K.start) × ((read_bounded t).last ≡ 2)
  in_order v =
      let f = first-version w h K v in
      let low : IsLow g 1 (nth bs 1) K.start = low-some g S.laws 1 _ K.start (ap (low_of g 1) (one_last bs f.0) ∙ K.opens) in
      let e : entry w h t 1 ≡ 1 = ap (λ (l : List ℕ). nth l 1) (entries-back w h K ∙ f.1) in (
        subst (λ (x : ℕ). copy_at (heading t) t x ≡ copy_of 1 K.start) e (names 1 K.start (omega arith, omega (arith, f.0)) low).1,
        last-is w h K ∙ f.2,
      )

  -- what is said of a record's copy holds of the copy that it is
  module _ {i : ℕ} (A : At i) where
    next-at : (k : ℕ) {v : ℕ} → chosen (g.next (copy_at (heading t) t i).block) k ≡ some v → chosen (g.next A.copy.block) k ≡ some v
    next-at k q = sym (ap (λ (c : Copy). chosen (g.next c.block) k) A.read) ∙ q

    cost-at : (r : ℕ) → (copy_at (heading t) t i).low ≡ g.cost (copy_at (heading t) t i).block + r
        → A.copy.low ≡ g.cost A.copy.block + r
    cost-at r e =
        sym (ap (λ (c : Copy). c.low) A.read) ∙ e ∙ ap (λ (c : Copy). g.cost c.block + r) A.read

  size_is : length t ≡ bounded_length (heading t)
  size_is = (clauses t (keeps-rule w h K)).ruled.form.size

  pub demand2 : Demand2 w h (bounded_sheet w h)
  demand2 =
      record {
        low = λ i p.
            let A = at i p in
            subst (λ (c : Copy). Completion g c.block c.low) (sym A.read) (copy-sound S A.copy A.member).1.cost;
        serves = λ i r v x y a p is m e f.
            serves g S.laws (copy_at (heading t) t i).block v r (copy_at (heading t) t i).low m is e f a;
        entry-fits = names;
        entry-none = λ k p n. entry-is k p ∙ entry-none S (nth bs k) (no-low g S.laws n);
        start = K.start;
        start-low = low-some g S.laws 1 (task w h).largest K.start K.opens;
        starts = starts S;
        starts-are = λ c. (its-budget c, λ p. of-budget c p.0 p.1.0 p.1.1 p.1.2);
        choices = λ i p.
            let A = at i p in
            length_at i A ∙ sym (ap (λ (c : Copy). length (g.next c.block)) A.read);
        diverted = λ i k v r p q e n.
            let A = at i p in
            diverted-at i k v r A (next-at A k q) (cost-at A r e) n;
        goes = λ i k v r a p q e is.
            let A = at i p in
            goes_at i k v r a A (next-at A k q) (cost-at A r e) is;
        reached = λ c. (
          λ r.
              let A = at r.0 r.1 in
              in-reached S c (subst (λ (d : Copy). Memᴰ d cs) (sym A.read ∙ r.2) A.member),
          λ r.
              let m = reached-in S r.0 c r.1 in
              let k = choice-of m in
              (suc k.0, place_of (suc k.0) c k.1, read_at (suc k.0) c k.1),
        );
        falls = λ i n p m z o.
            let A = at i p in
            let x : (copy_at (heading t) t n).low < A.copy.low = falls_at i n A m z (rw A.read at o) in
            omega (arith, ap (λ (c : Copy). c.low) A.read);
        behind = λ i n p m z e.
            let A = at i p in
            let d = its-target S A.copy A.member n (subst (Memᴰ n) A.edges m) z in
            let two = S.laws.above A.copy.block d.0.block (target-mem g A.copy d.0 d.1).0 in
            absurd (omega (arith, ap (λ (c : Copy). c.block) (read_at n d.0 d.2), e));
        exit = λ c d. exit-cost g S.laws d refl;
        version = version-back w h K;
        budgets = budgets-back w h K;
        entries = ap length (entries-back w h K) ∙ length-map bs (entry_for (task w h));
        claims = lowered-count h (budgets_in w);
        lowered = λ k p.
            let A = accepted-with w h K.ok in
            ap (λ (l : List ℕ). nth l k + h) (budgets-back w h K)
            ∙ lowered-exactly h A.sheet.claims A.fair k p.0 (omega (arith, p.1, lowered-count h (budgets_in w)));
        size = size_is;
        rising = λ i j p l q.
            let A = at i (p, omega arith) in
            let C = at j (omega arith, q) in
            rw (A.read, C.read) (rising-chosen cs (rises S) i j A.copy C.copy l A.chosen_is C.chosen_is);
        two = let p = place_of _ _ last-at in omega (arith, p.1, last-is w h K, exit-behind w h K, first-starts w h K);
        last = (place_of _ _ last-at, read_at _ _ last-at);
        last-only = λ i p e. let A = at i p in last-alone i A (sym (ap (λ (c : Copy). c.block) A.read) ∙ e);
        first = in_order;
        rule = keeps-rule w h K;
        words-fit = words-fit-16 w h K;
      }
