-- WHAT THE CONVERTER IS FOR: the graph sheet that an accepted operation sheet says passes the check, and its costs are the sums of the listed
-- cycles. Rests on base Truth, Lists and Orders, formats Chains, SoundChains and Accepted, specs Operations, GraphWords, CycleSums, SameHeader.
use mathlib.Core.Path.{◌≡◌, refl, sym, ap, ap₂, subst, ◌∙◌}
use mathlib.Core.Bool.{Bool, true, false, ◌||◌, not}
use mathlib.Core.List.{List, ◌++◌, Memᴰ}
use Prim.Native.Nat.{ℕ, suc, ◌≤◌, ◌<◌}
use native.Mathlib.Omega.{arith}
use borrow.Author.Tests.{ltb-true, ltb-false, lt-ltb, le-ltb, eqb-true, eq-eqb, not-false}
use lib.Dec.{ltb, eqb}
use lib.ListN.{length, drop}
use Rattle.base.specs.Lists.{any, all, from, rising}
use Rattle.base.specs.Checks.{refused, outside, lent_after}
use Rattle.base.proofs.Truth.{or-false, any_false, none_any, all-e, all-i}
use Rattle.base.proofs.Lists.{from-e, each_same}
use Rattle.base.proofs.Orders.{Numbered, unrefused, passed, none_left, inside_of, not-outside, over-e}
use Rattle.formats.specs.Limits.{least_words, least_blocks, most_blocks, least_edges, most_edges, least_budgets, most_budgets, most_budget}
use Rattle.formats.specs.Limits.{most_operations}
use Rattle.formats.specs.Words.{word, follow, unsound}
use Rattle.formats.specs.Versions.{budgets_in, bad_budget, bad_budgets}
use Rattle.formats.specs.GraphSheet.{Header, header, sheet_length, cost_word, first_word, target_word, next_word, chain, met}
use Rattle.formats.specs.GraphSheet.{short, bad_counts, bad_length, cost_fits, bad_costs, bad_targets, bad_chains, exit_chain}
use Rattle.formats.specs.GraphSheet.{sheet_order, sheet_refusal}
use Rattle.formats.proofs.Chains.{follow-above, follow-same}
use Rattle.formats.proofs.SoundChains.{record-inside, record-short}
use Rattle.formats.proofs.Accepted.{cost-word, chain-edge}
use Rattle.operation_sheet.specs.Operations.{operation_count, operation_length, operation_word, next_operation, first_operation}
use Rattle.operation_sheet.specs.Operations.{operations_of, cycle_sum, wrong_size, many_records, large_operation, bad_records, bad_operations}
use Rattle.operation_sheet.specs.Operations.{graph_words, converted_sheet, Converting, operation_order, convert_order, convert}
use Rattle.operation_sheet.specs.Operations.{Listed, most_cycles, CycleSum, Converts, ConversionKeeps}
use Rattle.operation_sheet.proofs.GraphWords.{words-length, header-word, header-words, cost-is, first-is, edge-is}
use Rattle.operation_sheet.proofs.CycleSums.{sum-most, chain-sum, sum-none, sum-some}
use Rattle.operation_sheet.proofs.SameHeader.{header-same, count_same, budgets-same}

-- WHAT THE CONDITIONS LEAVE
pub record Accepted (w : List ℕ) : Type 0 where
  pub long : least_words ≤ length w
  pub budget : bad_budget w ≡ false
  pub budgets : bad_budgets w ≡ false
  pub listed : Listed (header w) w

pub accepted : (w : List ℕ) → refused operation_order w ≡ 0 → Accepted w
unfolding operation_order short bad_counts wrong_size many_records bad_operations
accepted w e =
    let h = header w in
    let a₁ = unrefused 0 short _ w e in
    let a₂ = unrefused 1 _ _ w a₁.1 in
    let a₃ = unrefused 2 _ _ w a₂.1 in
    let a₄ = unrefused 3 _ _ w a₃.1 in
    let a₄₁ = unrefused 40 _ _ w a₄.1 in
    let a₆ = unrefused 5 _ _ w a₄₁.1 in
    let a₇ = unrefused 6 _ _ w a₆.1 in
    let a₈ = unrefused 7 _ _ w a₇.1 in
    let a₄₂ = unrefused 41 _ _ w a₈.1 in
    let counts = or-false (outside least_blocks most_blocks h.blocks) _ a₂.0 in
    let size : length w ≡ operation_length h w = eqb-true (length w) _ (not-false _ a₃.0) in
    let many = or-false (many_records h w) _ a₄₂.0 in
    let large = or-false (large_operation h w) _ many.1 in
    let bad = or-false (bad_records h w) _ large.1 in
    record {
      long = ltb-false (length w) least_words a₁.0;
      budget = a₄.0;
      budgets = a₄₁.0;
      listed = record {
        recorded = record {
          blocks = inside_of least_blocks most_blocks h.blocks counts.0;
          edges = inside_of least_edges most_edges h.edges counts.1;
          room = omega (arith, size);
        };
        size = size;
        targets = a₆.0;
        chains = a₇.0;
        exit = a₈.0;
        few = ltb-false most_operations _ many.0;
        operations = large.0;
        records = bad.0;
        firsts = bad.1;
      };
    }

module _ {h : Header} {w : List ℕ} (L : Listed h w) where
  -- a record of a chain is a record of the sheet
  pub operation-inside : (v e : ℕ) → 1 ≤ v → v ≤ h.blocks → Memᴰ e (operations_of h w v) → (1 ≤ e) × (e ≤ operation_count h w)
  unfolding bad_records operations_of
  operation-inside =
      record-inside (operations_of h w) (operation_count h w) h.blocks
      (λ v e m. follow-above (next_operation h w) (suc (operation_count h w)) (first_operation h w v) e m) L.records

  operations-short : (v : ℕ) → 1 ≤ v → v ≤ h.blocks → length (operations_of h w v) ≤ operation_count h w
  unfolding bad_records operations_of
  operations-short =
      record-short (operations_of h w) (operation_count h w) h.blocks
      (λ v e m. follow-above (next_operation h w) (suc (operation_count h w)) (first_operation h w v) e m) L.records

  -- A CHAIN'S SUM, and that it fits a word
  sum_is : (v : ℕ) → 1 ≤ v → v ≤ h.blocks
      → CycleSum (operation_word h w) (next_operation h w) (first_operation h w v) (cycle_sum h w v)
  unfolding cycle_sum operations_of
  sum_is v p q =
      chain-sum (operation_word h w) (next_operation h w) (suc (operation_count h w)) (first_operation h w v) (omega (arith, operations-short v p q))

  pub sum-small : (v : ℕ) → 1 ≤ v → v ≤ h.blocks → cycle_sum h w v ≤ most_cycles
  unfolding cycle_sum
  sum-small v p q =
      omega (arith, sum-most (operation_word h w) (operations_of h w v), operations-short v p q, L.few)

  -- THE GRAPH SHEET, condition by condition
  abbrev g : List ℕ
  g = graph_words h w

  abbrev room : sheet_length h ≤ length w
  room = L.recorded.room

  targets-pass : bad_targets h g ≡ false
  unfolding bad_targets
  targets-pass =
      none_any (λ e. outside 2 h.blocks (target_word h g e)) (from 1 h.edges)
      (λ e m.
      let i = from-e h.edges 1 e m in
      ap (outside 2 h.blocks) (edge-is h w room e 0 i.0 (omega arith) (omega arith))
      ∙ any_false (λ e. outside 2 h.blocks (target_word h w e)) (from 1 h.edges) L.targets m)

  chain-stays : (v : ℕ) → 1 ≤ v → v ≤ h.blocks → chain h g v ≡ chain h w v
  unfolding chain
  chain-stays v p q =
      ap (follow (next_word h g) (suc h.edges)) (first-is h w room v p q)
      ∙ follow-same (next_word h w) (next_word h g) (suc h.edges) (first_word h w v)
      (λ x m. let i = chain-edge h w L.chains v x p q m in edge-is h w room x 1 i.0 i.1 (omega arith))

  chains-pass : bad_chains h g ≡ false
  unfolding bad_chains met
  chains-pass =
      ap (unsound h.edges)
      (each_same (chain h g) (chain h w) (from 1 h.blocks)
      (λ v m. let i = from-e h.blocks 1 v m in chain-stays v i.0 (omega arith)))
      ∙ L.chains

  exit-pass : exit_chain h g ≡ false
  unfolding exit_chain
  exit-pass = ap (λ (x : ℕ). not (eqb x 0)) (first-is h w room 2 (omega arith) (omega (arith, L.recorded.blocks))) ∙ L.exit

  pub cost-stands : (v : ℕ) → 1 ≤ v → v ≤ h.blocks → cost_word h g v ≡ cycle_sum h w v
  cost-stands v p q = cost-word h g v p q ∙ cost-is h w room v p q

  -- a cost fits where the first operation does
  fits-same : (v c d : ℕ) → (c ≡ 0 → d ≡ 0) → (1 ≤ c → 1 ≤ d) → cost_fits v c ≡ true → cost_fits v d ≡ true
  unfolding cost_fits
  fits-same v c d none some e = go (ltb v 3) refl
    where
      go : (b : Bool) → ltb v 3 ≡ b → cost_fits v d ≡ true
      go true t = rw (t, cost_fits) (eq-eqb d 0 (none (eqb-true c 0 (rw (t, cost_fits) at e))))
      go false t = rw (t, cost_fits) (lt-ltb 0 d (some (ltb-true 0 c (rw (t, cost_fits) at e))))

  costs-pass : bad_costs h g ≡ false
  unfolding bad_costs cycle_sum operations_of
  costs-pass =
      ap not
      (all-i (λ v. cost_fits v (cost_word h g v)) (from 1 h.blocks)
      (λ v m.
      let i = from-e h.blocks 1 v m in
      let q : v ≤ h.blocks = omega (arith, i) in
      subst (λ (c : ℕ). cost_fits v c ≡ true) (sym (cost-stands v i.0 q))
      (fits-same v (first_operation h w v) (cycle_sum h w v)
      (λ z. sum-none (operation_word h w) (next_operation h w) (suc (operation_count h w)) (first_operation h w v) z)
      (λ z. sum-some (operation_word h w) (next_operation h w) (operation_count h w) (first_operation h w v) z)
      (ap (cost_fits v) (sym (cost-word h w v i.0 q))
      ∙ all-e (λ v. cost_fits v (cost_word h w v)) (from 1 h.blocks) (not-false _ L.firsts) m))))

  counts-pass : bad_counts h g ≡ false
  unfolding bad_counts
  counts-pass = rw (not-outside least_blocks most_blocks h.blocks L.recorded.blocks.0 L.recorded.blocks.1)
      (not-outside least_edges most_edges h.edges L.recorded.edges.0 L.recorded.edges.1)

  length-pass : bad_length h g ≡ false
  unfolding bad_length
  length-pass = ap not (eq-eqb (length g) (sheet_length h) (words-length h w room))

-- THE CONVERTED SHEET of one that the conditions leave
module _ {w : List ℕ} (A : Accepted w) where
  abbrev h : Header
  h = header w

  abbrev said : List ℕ
  said = converted_sheet w

  abbrev L : Listed h w
  L = A.listed

  said-length : length said ≡ sheet_length h
  unfolding converted_sheet
  said-length = words-length h w L.recorded.room

  same-words : (i : ℕ) → i < h.records → word said i ≡ word w i
  unfolding converted_sheet
  same-words = header-word h w L.recorded.room

  said-header : header said ≡ h
  said-header = header-same w said same-words

  said-budgets : budgets_in said ≡ budgets_in w
  unfolding converted_sheet
  said-budgets =
      budgets-same w said same-words (omega (arith, L.recorded.room)) (omega (arith, said-length)) (header-words h w L.recorded.room)

  -- what holds behind the sheet's header holds behind that of the graph sheet
  behind : (f : Header → List ℕ → Bool) → f h said ≡ false → f (header said) said ≡ false
  behind f e = ap (λ (x : Header). f x said) said-header ∙ e

  pub passes : sheet_refusal said ≡ 0
  unfolding sheet_refusal sheet_order short converted_sheet bad_budget bad_budgets
  passes =
      passed 1 _ _ said (le-ltb (length said) least_words (omega (arith, said-length, L.recorded.blocks, L.recorded.edges)))
      (passed 2 _ _ said (behind bad_counts (counts-pass L))
      (passed 3 _ _ said (behind bad_length (length-pass L))
      (passed 4 _ _ said (ap (any (λ b. ltb most_budget b)) said-budgets ∙ A.budget)
      (passed 41 _ _ said
      (ap₂ (λ (c : ℕ) (bs : List ℕ). outside least_budgets most_budgets c || not (rising bs)) (count_same w said same-words) said-budgets ∙ A.budgets)
      (passed 5 _ _ said (behind bad_costs (costs-pass L))
      (passed 6 _ _ said (behind bad_targets (targets-pass L))
      (passed 7 _ _ said (behind bad_chains (chains-pass L))
      (passed 8 _ _ said (behind exit_chain (exit-pass L)) (none_left said)))))))))

  -- a cost of the graph sheet
  cost-said : (v : ℕ) → 1 ≤ v → v ≤ h.blocks → cost_word (header said) said v ≡ cycle_sum h w v
  unfolding converted_sheet
  cost-said v p q = ap (λ (x : Header). cost_word x said v) said-header ∙ cost-stands L v p q

  cost-small : (v : ℕ) → cost_word (header said) said v ≤ most_cycles
  unfolding cost_word
  cost-small v = go (outside 1 (header said).blocks v) refl
    where
      go : (b : Bool) → outside 1 (header said).blocks v ≡ b → cost_word (header said) said v ≤ most_cycles
      go true e = rw (e, cost_word) (let r : 0 ≤ most_cycles = omega arith in r)
      go false e =
          let i = inside_of 1 (header said).blocks v e in
          let n : (header said).blocks ≡ h.blocks = ap (λ (x : Header). x.blocks) said-header in
          omega (arith, i, n, cost-said v i.0 (omega (arith, i, n)), sum-small L v i.0 (omega (arith, i, n)))

  converts : Converts w said
  unfolding converted_sheet
  converts = record {
    passes = passes;
    size = said-length;
    head = (said-header, said-budgets);
    sums = λ v p q. subst (CycleSum (operation_word h w) (next_operation h w) (first_operation h w v)) (sym (cost-said v p q)) (sum_is L v p q);
    small = cost-small;
    others = (
      λ v p q. ap (λ (x : Header). first_word x said v) said-header ∙ first-is h w L.recorded.room v p q,
      λ e p q. (
        ap (λ (x : Header). target_word x said e) said-header ∙ edge-is h w L.recorded.room e 0 p q (omega arith),
        ap (λ (x : Header). next_word x said e) said-header ∙ edge-is h w L.recorded.room e 1 p q (omega arith),
      ),
    );
  }

-- no condition is numbered 0
pub operation-numbered : Numbered operation_order
unfolding all operation_order
operation-numbered = refl

pub conversion-keeps : ConversionKeeps
unfolding convert convert_order lent_after
conversion-keeps w output e =
    let i : Converting = record { sheet = w; output = output } in
    let A = accepted w (over-e (λ i. i.sheet) operation_order _ i operation-numbered e).0 in
    (rw e (ap (λ (n : ℕ). converted_sheet w ++ drop n output) (said-length A)), converts A)
