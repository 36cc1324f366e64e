-- What the conditions 1 to 8 give of a graph sheet that is answered 0, behind any header: one law for each fact.
-- Rests on base Truth, Lists and Orders, Chains, SoundChains, Budgets.
use mathlib.Core.Path.{◌≡◌, refl, sym, ap, subst, ◌∙◌}
use mathlib.Core.Bool.{Bool, true, false}
use mathlib.Core.List.Memᴰ
use mathlib.Core.List.{List, [], map, Memᴰ}
use Prim.Native.Nat.{ℕ, suc, ◌+◌, ◌≤◌}
use native.Mathlib.Omega.{arith}
use borrow.Author.Tests.{ltb-true, ltb-false, eqb-true, not-false, lt-ltb, le-ltb}
use lib.Dec.{ltb}
use lib.ListN.{length, length-map}
use Rattle.base.specs.Lists.{all, from}
use Rattle.base.specs.Checks.{outside}
use Rattle.base.proofs.Truth.{or-false, all-e, any_false}
use Rattle.base.proofs.Lists.{from-i}
use Rattle.base.proofs.Orders.{Numbered, unrefused, inside_of, not-outside}
use Rattle.formats.specs.Words.{field, follow, Inside}
use Rattle.formats.specs.Limits.{least_words, least_blocks, most_blocks, least_edges, most_edges, most_budget}
use Rattle.formats.specs.Versions.{budgets_at, budget_count, budgets_in, largest_in, Claimed}
use Rattle.formats.specs.GraphSheet.{Header, header, sheet_length, cost_word, first_word, target_word, next_word, chain, met, successors}
use Rattle.formats.specs.GraphSheet.{short, bad_counts, bad_length, cost_fits, bad_costs, bad_targets, bad_chains, exit_chain}
use Rattle.formats.specs.GraphSheet.{sheet_order, sheet_refusal, successor_count, Recorded, Formed, Sound}
use Rattle.formats.proofs.Chains.{follow-above, chain-length-is, follow-ends}
use Rattle.formats.proofs.SoundChains.{record-inside, record-short, all_short}
use Rattle.formats.proofs.Budgets.{graph-records, claimed, largest-small}

-- a block's cost stands in its record
pub cost-word : (h : Header) (w : List ℕ) (v : ℕ) → 1 ≤ v → v ≤ h.blocks → cost_word h w v ≡ field w h.records 2 v 0
unfolding cost_word
cost-word h w v p q = rw (not-outside 1 h.blocks v p q, cost_word)

-- 2 and 3 give the form
pub formed : (h : Header) (w : List ℕ) → bad_counts h w ≡ false → bad_length h w ≡ false → Formed h w
unfolding bad_counts bad_length
formed h w c l = record {
  blocks = inside_of least_blocks most_blocks h.blocks (or-false _ _ c).0;
  edges = inside_of least_edges most_edges h.edges (or-false (outside least_blocks most_blocks h.blocks) _ c).1;
  size = eqb-true (length w) (sheet_length h) (not-false _ l);
}

-- a row of its length has room for its records
pub recorded : {h : Header} {w : List ℕ} → Formed h w → Recorded h w
recorded {h} {w} F = record { blocks = F.blocks; edges = F.edges; room = omega (arith, F.size) }

-- A SHEET THAT IS ACCEPTED: a header that is there, one to four rising budgets within their limit, and sound records
pub record Accepted (w : List ℕ) : Type 0 where
  pub long : least_words ≤ length w
  pub there : budgets_at w + budget_count w ≤ length w
  pub claims : Claimed (budgets_in w)
  pub budget : largest_in w ≤ most_budget
  pub sound : Sound (header w) w

-- the budgets stand before the records
pub budgets-inside : (w : List ℕ) → Formed (header w) w → budgets_at w + budget_count w ≤ length w
budgets-inside w F = omega (arith, graph-records w, F.size)

pub accepted : (w : List ℕ) → sheet_refusal w ≡ 0 → Accepted w
unfolding sheet_refusal sheet_order short
accepted w e =
    let a₁ = unrefused 0 short _ w e in
    let a₂ = unrefused 1 _ _ w a₁.1 in
    let a₃ = unrefused 2 _ _ w a₂.1 in
    let a₄ = unrefused 3 _ _ w a₃.1 in
    let a₄₁ = unrefused 40 _ _ w a₄.1 in
    let a₅ = unrefused 4 _ _ w a₄₁.1 in
    let a₆ = unrefused 5 _ _ w a₅.1 in
    let a₇ = unrefused 6 _ _ w a₆.1 in
    let a₈ = unrefused 7 _ _ w a₇.1 in
    let form = formed (header w) w a₂.0 a₃.0 in
    let there = budgets-inside w form in
    let claims : Claimed (budgets_in w) = claimed w there a₄.0 a₄₁.0 in
    record {
      long = ltb-false (length w) least_words a₁.0;
      there = there;
      claims = claims;
      budget = largest-small claims;
      sound = record {
        form = form;
        costs = a₅.0;
        targets = a₆.0;
        chains = a₇.0;
        exit = a₈.0;
      };
    }

-- 7: an edge of a chain is an edge of the sheet
module _ (h : Header) (w : List ℕ) (sound : bad_chains h w ≡ false) where
  above : (v e : ℕ) → Memᴰ e (chain h w v) → 1 ≤ e
  unfolding chain
  above v e m = follow-above (next_word h w) (suc h.edges) (first_word h w v) e m

  pub chain-edge : (v e : ℕ) → 1 ≤ v → v ≤ h.blocks → Memᴰ e (chain h w v) → (1 ≤ e) × (e ≤ h.edges)
  unfolding bad_chains met
  chain-edge = record-inside (chain h w) h.edges h.blocks above sound

  -- a chain has at most E edges
  chain-short : (v : ℕ) → 1 ≤ v → v ≤ h.blocks → length (chain h w v) ≤ h.edges
  unfolding bad_chains met
  chain-short = record-short (chain h w) h.edges h.blocks above sound

  -- and all chains together have
  all-chains-short : length (met h w) ≤ h.edges
  unfolding bad_chains met
  all-chains-short = all_short (chain h w) h.edges h.blocks above sound

module _ (h : Header) (w : List ℕ) (A : Sound h w) where
  -- 5
  cost-fits : (v : ℕ) → 1 ≤ v → v ≤ h.blocks → cost_fits v (cost_word h w v) ≡ true
  unfolding bad_costs
  cost-fits v p q =
      all-e (λ v. cost_fits v (cost_word h w v)) (from 1 h.blocks) (not-false _ A.costs) (from-i h.blocks 1 v p (omega arith))

  pub free : (v : ℕ) → 1 ≤ v → v ≤ 2 → cost_word h w v ≡ 0
  unfolding cost_fits
  free v p q =
      let s : ltb v 3 ≡ true = below in eqb-true _ 0 (rw (s, cost_fits) at (cost-fits v p (omega (arith, A.form.blocks))))
    where
      below : ltb v 3 ≡ true
      below = lt-ltb v 3 (omega arith)

  pub paid : (v : ℕ) → 3 ≤ v → v ≤ h.blocks → 1 ≤ cost_word h w v
  unfolding cost_fits
  paid v p q = ltb-true 0 _ (rw (le-ltb v 3 p, cost_fits) at (cost-fits v (omega arith) q))

  -- 6
  target_fits : (e : ℕ) → 1 ≤ e → e ≤ h.edges → (2 ≤ target_word h w e) × (target_word h w e ≤ h.blocks)
  unfolding bad_targets
  target_fits e p q =
      inside_of 2 h.blocks _ (any_false (λ e. outside 2 h.blocks (target_word h w e)) (from 1 h.edges) A.targets
      (from-i h.edges 1 e p (omega arith)))

  -- 7: a chain stays inside
  pub chain-inside : {v e : ℕ} → 1 ≤ v → v ≤ h.blocks → e ≡ first_word h w v → Inside (next_word h w) h.edges (suc h.edges) e
  unfolding chain
  chain-inside {v} p q f = rw f (record { is-inside = λ x m. (chain-edge h w A.chains v x p q m).1 })

  -- all chains together have at most E edges
  pub met-short : length (met h w) ≤ h.edges
  met-short = all-chains-short h w A.chains

  -- and each has, so that its fuel of E + 1 never cuts it
  pub chain-ends : (v j : ℕ) → 1 ≤ v → v ≤ h.blocks → follow (next_word h w) (suc h.edges + j) (first_word h w v) ≡ chain h w v
  unfolding chain
  chain-ends v j p q = follow-ends (next_word h w) (suc h.edges) j (first_word h w v) (omega (arith, chain-short h w A.chains v p q))

  -- 8
  pub exit-ends : first_word h w 2 ≡ 0
  unfolding exit_chain
  exit-ends = eqb-true _ 0 (not-false _ A.exit)

  -- A BLOCK WITH A SUCCESSOR is a block, and the successor the target of an edge
  edge : (v t : ℕ) → Memᴰ t (successors h w v)
      → (1 ≤ v) × (v ≤ h.blocks) × ((e : ℕ) × Memᴰ e (chain h w v) × (target_word h w e ≡ t))
  unfolding successors
  edge v t m = go (outside 1 h.blocks v) refl
    where
      go : (b : Bool) → outside 1 h.blocks v ≡ b
          → (1 ≤ v) × (v ≤ h.blocks) × ((e : ℕ) × Memᴰ e (chain h w v) × (target_word h w e ≡ t))
      go true e = absurd (Memᴰ.not-nil {a = t} (rw (e, successors) at m))
      go false e = let p = inside_of 1 h.blocks v e in (p.0, p.1, Memᴰ.of_map (target_word h w) (chain h w v) (rw (e, successors) at m))

  pub source-inside : (v t : ℕ) → Memᴰ t (successors h w v) → (1 ≤ v) × (v ≤ h.blocks)
  source-inside v t m = let r = edge v t m in (r.0, r.1)

  pub target-inside : (v t : ℕ) → Memᴰ t (successors h w v) → (2 ≤ t) × (t ≤ h.blocks)
  target-inside v t m =
      let r = edge v t m in
      let i = chain-edge h w A.chains v r.2.0 r.0 r.1 r.2.1 in
      subst (λ (x : ℕ). (2 ≤ x) × (x ≤ h.blocks)) r.2.2 (target_fits r.2.0 i.0 i.1)

  pub no-successor : successors h w 2 ≡ []
  unfolding successors chain follow
  no-successor = go (outside 1 h.blocks 2) refl
    where
      go : (b : Bool) → outside 1 h.blocks 2 ≡ b → successors h w 2 ≡ []
      go true e = rw (e, successors)
      go false e = rw (e, successors) (ap (λ (x : ℕ). map (target_word h w) (follow (next_word h w) (suc h.edges) x)) exit-ends)

  -- counting down a block's chain gives the number of its successors
  pub successors-counted : (v : ℕ) → 1 ≤ v → v ≤ h.blocks → successor_count h w v ≡ length (successors h w v)
  unfolding successor_count successors chain
  successors-counted v p q =
      rw (not-outside 1 h.blocks v p q, successors)
      (chain-length-is (next_word h w) (suc h.edges) (first_word h w v) ∙ sym (length-map (chain h w v) (target_word h w)))

-- no condition is numbered 0
pub graph-numbered : Numbered sheet_order
unfolding all sheet_order
graph-numbered = refl
