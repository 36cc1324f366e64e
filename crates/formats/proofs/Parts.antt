-- The part of a sheet that is handed out for a copy holds its edge records, and is empty where it has none.
-- Rests on base Orders, Reading, RuleKept, RuleWords, RuleRead.
use mathlib.Core.Path.{◌≡◌, ap}
use mathlib.Core.List.{List}
use Prim.Native.Nat.{ℕ, ◌+◌, ◌-◌, ◌*◌, ◌≤◌}
use native.Mathlib.Omega.{arith}
use lib.ListN.{length, take, drop}
use Rattle.base.proofs.Lists.{chosen-some}
use Rattle.base.specs.Checks.{refused}
use Rattle.formats.specs.BoundedSheet.{Heading, heading, edge_records, edges_at, first_at, chain_at, targets_at, part_start, edge_part}
use Rattle.formats.specs.Rule11.{bounded_order, bounded_refusal, Ruled, CopyIn, part_order, hand_out}
use Rattle.base.proofs.Orders.{passed, none_left, over-i, not-outside}
use Rattle.formats.proofs.Reading.{part-reads}
use Rattle.formats.proofs.RuleKept.{bounded-numbered}
use Rattle.formats.proofs.RuleWords.{rows}
use Rattle.formats.proofs.RuleRead.{clauses, rows-length, laid_out}

-- behind any header the edge records of a copy stand together, from its first edge on
pub records-stand : (h : Heading) (s : List ℕ) → Ruled h s → (i : ℕ) → 1 ≤ i → i ≤ h.copies
    → take (2 * length (chain_at h s i)) (drop (edges_at h + 2 * (first_at h s i - 1)) s) ≡ edge_records (first_at h s i) (targets_at h s i)
records-stand h s C i p l =
    let r = chosen-some (rows h s) i p (omega (arith, rows-length h s C)) in
    part-reads h s (rows h s) (laid_out h s C) i r.0 r.1

-- on a sheet that keeps rule 11
pub part_of : (t : List ℕ) → bounded_refusal t ≡ 0 → (i : ℕ) → 1 ≤ i → i ≤ (heading t).copies
    → edge_part t i ≡ edge_records (first_at (heading t) t i) (targets_at (heading t) t i)
unfolding edge_part
part_of t ok i p l = records-stand (heading t) t (clauses t ok).ruled i p l

pub handed_out : (t : List ℕ) → bounded_refusal t ≡ 0 → (i : ℕ) → 1 ≤ i → i ≤ (heading t).copies
    → hand_out t i
    ≡ record { answer = 0; start = part_start t i; words = edge_records (first_at (heading t) t i) (targets_at (heading t) t i) }
unfolding hand_out part_order bounded_refusal
handed_out t ok i p l =
    let x : CopyIn = record { sheet = t; copy = i } in
    let e : refused part_order x ≡ 0
    = over-i (λ i. i.sheet) bounded_order _ x bounded-numbered ok
    (passed 33 _ _ x (not-outside 1 (heading t).copies i p l) (none_left x)) in
    rw (e, hand_out) (ap (λ (l : List ℕ). record { answer = 0; start = part_start t i; words = l }) (part_of t ok i p l))
