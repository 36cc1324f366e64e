-- The place of a copy's edge records in a sheet that keeps rule 11, behind any header.
-- Rests on formats Chains, Reading, RuleRead and Parts, specs Placed.
use mathlib.Core.Path.{◌≡◌, sym, ap, ◌∙◌}
use mathlib.Core.List.{List, [], map}
use Prim.Native.Nat.{ℕ, suc, ◌+◌, ◌*◌, ◌-◌, ◌≤◌}
use native.Mathlib.Omega.{arith}
use lib.ListN.{length, take, drop, length-take, length-drop, length-map}
use Rattle.formats.specs.Words.{follow, chain_length}
use Rattle.formats.specs.BoundedSheet.{Heading, edges_at, first_at, next_at, target_at, chain_at, targets_at, edge_records}
use Rattle.formats.specs.Rule11.{Ruled}
use Rattle.formats.proofs.Chains.{chain-length-is, follow-end, follow-more}
use Rattle.formats.proofs.Reading.{edge_records-length}
use Rattle.formats.proofs.Parts.{records-stand}
use Rattle.reader.specs.Placed.{PlacedRecords}

module _ (h : Heading) (s : List ℕ) (C : Ruled h s) (i : ℕ) (l : (1 ≤ i) × (i ≤ h.copies)) {x : ℕ} (q : x ≡ first_at h s i) where
  -- a copy without edges
  pub no_edges : x ≡ 0 → PlacedRecords h s i (edges_at h) 0
  unfolding edge_records targets_at chain_at
  no_edges z =
      let none : edge_records (first_at h s i) (targets_at h s i) ≡ []
      = ap (λ (es : List ℕ). edge_records (first_at h s i) (map (target_at h s) es))
      (follow-end (next_at h s) (suc h.edges) (first_at h s i) (sym q ∙ z)) in
      record {
        is-start = omega arith;
        is-size = sym (ap length none);
        inside = omega (arith, C.form.size);
        are_words = sym none;
      }

  -- a copy with k edges from the edge x on
  pub some_edges : {k : ℕ} → k ≡ chain_length (next_at h s) (suc h.edges) x → (x ≡ 0 → ⊥)
      → PlacedRecords h s i (edges_at h + 2 * (x - 1)) (2 * k)
  unfolding targets_at chain_at
  some_edges {k} r z =
      let n : k ≡ length (chain_at h s i) = r ∙ chain-length-is (next_at h s) (suc h.edges) x
      ∙ ap (λ (y : ℕ). length (follow (next_at h s) (suc h.edges) y)) q in
      let stand : take (2 * k) (drop (edges_at h + 2 * (x - 1)) s) ≡ edge_records (first_at h s i) (targets_at h s i)
      = rw (q, n) (records-stand h s C i l.0 l.1) in
      let size : 2 * k ≡ length (edge_records (first_at h s i) (targets_at h s i))
      = omega (
        arith,
        n,
        edge_records-length (first_at h s i) (targets_at h s i),
        length-map (chain_at h s i) (target_at h s),
      ) in
      let one = ap length (follow-more (next_at h s) (suc h.edges) (first_at h s i) (omega arith) (λ y. z (q ∙ y))) in
      record {
        is-start = rw q;
        is-size = size;
        inside = omega (
          arith,
          size,
          n,
          ap length stand,
          length-take (2 * k) (drop (edges_at h + 2 * (x - 1)) s),
          length-drop (edges_at h + 2 * (x - 1)) s,
          one,
        );
        are_words = stand;
      }
