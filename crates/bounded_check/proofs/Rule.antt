-- Rule 11 in its parts, as functions that return early find them.
-- Rests on base Numbers, Orders and Truth, formats Budgets, Headings and RuleRead, record_check Records, entry_check Entries, specs, Starts.
use mathlib.Core.Path.{◌≡◌, refl, sym, ap, ◌∙◌}
use mathlib.Core.Bool.{Bool, true, false, ◌||◌, not, or_assoc, or-false, or-true}
use mathlib.Core.List.{List, [], ◌∷◌, map}
use Prim.Native.Nat.{ℕ, ◌+◌, ◌*◌, ◌≤◌, ◌<◌}
use native.Mathlib.Omega.{arith}
use lib.ListN.{length}
use lib.Dec.{ltb}
use borrow.Author.Tests.{lt-ltb, le-ltb, eq-eqb, ne_eqb, not-false}
use Rattle.base.specs.Lists.{any, rising}
use Rattle.base.specs.Checks.{refused, outside}
use Rattle.base.proofs.Truth as truth
use Rattle.base.proofs.Numbers.{last-above}
use Rattle.base.proofs.Orders.{pick, inside_of}
use Rattle.formats.specs.Limits.{least_words, most_budget, least_budgets, most_budgets}
use Rattle.formats.specs.Versions.{budgets_at, budget_count, budgets_in, bad_budget, bad_budgets}
use Rattle.formats.specs.BoundedSheet.{Heading, heading, entries_in}
use Rattle.formats.specs.Rule11.{too_short, bad_limits, wrong_length, bad_blocks, bad_lows, bad_copy_order, not_one_of, bad_exit, bad_edge_order}
use Rattle.formats.specs.Rule11.{bad_target_words, bad_entries, no_last_entry, unnamed_start, bounded_order, bounded_refusal, Formed}
use Rattle.formats.proofs.Budgets.{bounded-records}
use Rattle.formats.proofs.Headings.{largest-is}
use Rattle.formats.proofs.RuleRead.{formed}
use Rattle.record_check.specs.Records.{is_stray, bad_edges, bad_records}
use Rattle.entry_check.specs.Entries.{bad_entry_words}
use Rattle.bounded_check.specs.Form.{bad_form}
use Rattle.bounded_check.specs.Behind.{bad_exits, bad_behind}
use Rattle.bounded_check.specs.Starts.{Leading}
use Rattle.bounded_check.proofs.Starts.{records-lead}

-- conditions that all have one number: it is answered where some condition holds
one_number : {I : Type 0} (k : ℕ) (fs : List (I → Bool)) (i : I) → refused (map (λ f. (k, f)) fs) i ≡ pick (any (λ f. f i) fs) k 0
unfolding refused any
one_number k [] i = refl
one_number {I} k (f ∷ fs) i = go (f i) refl (one_number k fs i)
  where
    go : (b : Bool) → f i ≡ b → refused (map (λ f. (k, f)) fs) i ≡ pick (any (λ f. f i) fs) k 0
        → refused (map (λ f. (k, f)) (f ∷ fs)) i ≡ pick (f i || any (λ f. f i) fs) k 0
    go true e below = rw (e, refused)
    go false e below = rw (e, refused) below

-- the edges are tested before the exit
moved : (a b c d x : Bool) → (a || (b || (c || (d || x)))) ≡ ((c || d) || ((a || b) || x))
moved true b true d x = refl
moved true b false true x = refl
moved true b false false x = refl
moved false true true d x = refl
moved false true false true x = refl
moved false true false false x = refl
moved false false true d x = refl
moved false false false d x = refl

-- THE FIRST PART, for any header
module _ (h : Heading) (s : List ℕ) where
  pub form-is : (a b c d : Bool) → bad_limits h s ≡ a → wrong_length h s ≡ b → ltb most_budget h.largest ≡ c → bad_budgets s ≡ d
      → (a || (b || (c || d))) ≡ bad_form h s
  unfolding bad_form
  form-is a b c d p q r t = λ i. sym p i || (sym q i || (sym r i || sym t i))

  pub length-differs : (length s ≡ h.records + 3 * h.copies + 2 * h.edges → ⊥) → wrong_length h s ≡ true
  unfolding wrong_length
  length-differs e = ap not (ne_eqb (length s) _ e)

  pub length-fits : length s ≡ h.records + 3 * h.copies + 2 * h.edges → wrong_length h s ≡ false
  unfolding wrong_length
  length-fits e = ap not (eq-eqb (length s) _ e)

  -- passed: a row of the length that it says, and a number of budgets
  module _ (e : bad_form h s ≡ false) where
    pub passed : Formed h s × (1 ≤ budget_count s)
    unfolding bad_form bad_budgets
    passed =
        let a = truth.or-false (bad_limits h s) _ e in
        let b = truth.or-false (wrong_length h s) _ a.1 in
        let c = truth.or-false (ltb most_budget h.largest) _ b.1 in
        let d = truth.or-false (outside least_budgets most_budgets (budget_count s)) _ c.1 in
        (formed h s a.0 b.0, (inside_of least_budgets most_budgets (budget_count s) d.0).0)

-- the budgets stand in a row of the length that its header says
pub budgets-stand : {h : Heading} (s : List ℕ) → h ≡ heading s → length s ≡ h.records + 3 * h.copies + 2 * h.edges
    → budgets_at s + budget_count s ≤ length s
budgets-stand s q e = let z = ap (λ (x : Heading). x.records) q in omega (arith, bounded-records s)

-- THE ANSWER, by what the parts say of the header that was read
module _ (s : List ℕ) where
  abbrev h : Heading
  h = heading s

  abbrev in_header : (Heading → List ℕ → Bool) → List ℕ → Bool
  in_header f s = f (heading s) s

  abbrev of_entries : (Heading → List ℕ → List ℕ → List ℕ → Bool) → List ℕ → Bool
  of_entries f s = f (heading s) s (budgets_in s) (entries_in s)

  clauses : List (List ℕ → Bool)
  clauses =
      too_short ∷ in_header bad_limits ∷ in_header wrong_length ∷ bad_budget ∷ bad_budgets
      ∷ in_header bad_blocks ∷ in_header bad_lows ∷ in_header bad_copy_order
      ∷ in_header (λ h s. not_one_of h s 2) ∷ in_header bad_exit ∷ in_header bad_edge_order ∷ in_header bad_target_words
      ∷ of_entries bad_entries ∷ of_entries no_last_entry ∷ of_entries unnamed_start ∷ []

  rises : bad_budgets s ≡ false → rising (budgets_in s) ≡ true
  unfolding bad_budgets
  rises e = not-false _ (truth.or-false (outside least_budgets most_budgets (budget_count s)) _ e).1

  -- where the budgets rise, the test of the last serves for the test of each
  last-serves : (x : Bool) → (bad_budget s || (bad_budgets s || x)) ≡ (ltb most_budget h.largest || (bad_budgets s || x))
  unfolding bad_budget
  last-serves x = go (bad_budgets s) refl
    where
      go : (b : Bool) → bad_budgets s ≡ b → (bad_budget s || (b || x)) ≡ (ltb most_budget h.largest || (b || x))
      go true e = or-true (bad_budget s) ∙ sym (or-true (ltb most_budget h.largest))
      go false e = ap (λ (b : Bool). b || x) (last-above most_budget (budgets_in s) (rises e) ∙ ap (ltb most_budget) (sym (largest-is s)))

  -- behind a part that holds the others may say anything
  answer-is : (a b c : Bool) → too_short s ≡ a → bad_form h s ≡ b → bad_behind h s ≡ c → bounded_refusal s ≡ pick (a || (b || c)) 11 0
  unfolding bounded_refusal bounded_order clauses bad_form bad_behind bad_records bad_edges bad_target_words is_stray bad_exits bad_entry_words any
  answer-is a b c p q r =
      let budgets : (bad_budget s || (bad_budgets s || bad_behind h s)) ≡ (ltb most_budget h.largest || (bad_budgets s || bad_behind h s)) =
      last-serves (bad_behind h s) in
      let entries : Bool = bad_entry_words h s (budgets_in s) (entries_in s) in
      let behind : (bad_blocks h s || (bad_lows h s || (bad_copy_order h s
      || (not_one_of h s 2 || (bad_exit h s || (bad_edge_order h s || (bad_target_words h s || entries))))))) ≡ bad_behind h s =
      ap (λ (b : Bool). bad_blocks h s || (bad_lows h s || (bad_copy_order h s || b)))
      (moved (not_one_of h s 2) (bad_exit h s) (bad_edge_order h s) (bad_target_words h s) entries)
      ∙ simp or_assoc in
      let listed : any (λ f. f s) clauses ≡ (too_short s || (bad_limits h s || (wrong_length h s || (bad_budget s || (bad_budgets s
      || (bad_blocks h s || (bad_lows h s || (bad_copy_order h s
      || (not_one_of h s 2 || (bad_exit h s || (bad_edge_order h s || (bad_target_words h s || entries)))))))))))) =
      simp or-false in
      let parts : any (λ f. f s) clauses ≡ (too_short s || (bad_limits h s || (wrong_length h s || (bad_budget s || (bad_budgets s || bad_behind h s))))) =
      listed ∙ ap (λ (b : Bool). too_short s || (bad_limits h s || (wrong_length h s || (bad_budget s || (bad_budgets s || b))))) behind in
      let whole : (too_short s || (bad_limits h s || (wrong_length h s || (ltb most_budget h.largest || (bad_budgets s || bad_behind h s)))))
      ≡ (too_short s || (bad_form h s || bad_behind h s)) =
      simp or_assoc in
      let both = parts ∙ ap (λ (b : Bool). too_short s || (bad_limits h s || (wrong_length h s || b))) budgets ∙ whole in
      one_number 11 clauses s ∙ ap (λ (b : Bool). pick b 11 0) both ∙ (λ i. pick (p i || (q i || r i)) 11 0)

  pub short-refuses : length s < least_words → 11 ≡ bounded_refusal s
  unfolding too_short
  short-refuses l = sym (answer-is true _ _ (lt-ltb (length s) least_words l) refl refl)

  module _ (l : least_words ≤ length s) {x : Heading} (q : x ≡ heading s) where
    long : too_short s ≡ false
    unfolding too_short
    long = le-ltb (length s) least_words l

    module _ {a : Bool} (p : a ≡ bad_form x s) where
      said : bad_form h s ≡ a
      said = ap (λ (x : Heading). bad_form x s) (sym q) ∙ sym p

      pub form-refuses : a ≡ true → 11 ≡ bounded_refusal s
      form-refuses e = sym (answer-is false true _ long (said ∙ e) refl)

      module _ (e : a ≡ false) where
        pub header-there : Formed x s × ((least_words ≤ length s) × ((heading s).records ≤ length s) × (1 ≤ budget_count s))
        header-there =
            let P = passed x s (sym p ∙ e) in
            let z = ap (λ (x : Heading). x.records) q in
            (P.0, (l, omega (arith, P.0.size), P.1))

        pub answer-read : {b r : Bool} → r ≡ bad_behind x s → r ≡ b → pick b 11 0 ≡ bounded_refusal s
        answer-read {b} r t =
            sym (answer-is false false b long (said ∙ e) (ap (λ (x : Heading). bad_behind x s) (sym q) ∙ sym r ∙ t))

-- BEHIND THE HEADER, by the tests of the records, the exit and the entries
module _ (h : Heading) (s : List ℕ) {k : ℕ} {p : Bool} (L : Leading h s k) (P : p ≡ bad_records h s k) where
  behind-is : (a x c : Bool) → p ≡ a → bad_exits h s ≡ x → bad_entry_words h s (budgets_in s) (entries_in s) ≡ c → (a || (x || c)) ≡ bad_behind h s
  unfolding bad_behind
  behind-is a x c f g z = λ i. (sym f ∙ P ∙ records-lead h s k L) i || (sym g i || sym z i)

  pub records-bad : p ≡ true → true ≡ bad_behind h s
  records-bad e = behind-is true _ _ e refl refl

  module _ (e : p ≡ false) {x : Bool} (X : x ≡ bad_exits h s) where
    pub exits-bad : x ≡ true → true ≡ bad_behind h s
    exits-bad g = behind-is false true _ e (sym X ∙ g) refl

    pub entries-left : {r : Bool} → x ≡ false → r ≡ bad_entry_words h s (budgets_in s) (entries_in s) → r ≡ bad_behind h s
    entries-left g R = behind-is false false _ e (sym X ∙ g) (sym R)
