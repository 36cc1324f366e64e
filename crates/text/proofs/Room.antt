-- How long the texts are at most: a heading 30 bytes and 4 for each budget, a copy's line 13 and 5 for each target, a refusal 14.
-- Rests on base Lists, formats Listing and RuleRead, digits Spaced, Decimals and Room, heading_line Heading, copy_line Lines, specs Texts, Lines, Kept.
use mathlib.Core.Path.{◌≡◌, refl, sym, ap, subst}
use mathlib.Core.List.{List, [], ◌∷◌, Memᴰ}
use Prim.Native.Nat.{ℕ, ◌+◌, ◌*◌, ◌≤◌, ◌<◌}
use native.Mathlib.Omega.{arith}
use lib.ListN.{length, length-append, length-map}
use Rattle.base.specs.Lists.{each, from}
use Rattle.base.proofs.Lists.{from-e, from-length}
use Rattle.formats.specs.Limits.{most_budget, most_budgets, most_copies}
use Rattle.formats.specs.Versions.{budgets_in, Claimed}
use Rattle.formats.specs.BoundedSheet.{Heading, heading, block_at, low_at, target_at, chain_at, targets_at}
use Rattle.formats.specs.Rule11.{bounded_refusal, Ruled}
use Rattle.formats.specs.Listing.{refusal_of}
use Rattle.formats.proofs.RuleRead.{clauses, read-ruled}
use Rattle.digits.specs.Spaced.{spaced}
use Rattle.heading_line.specs.Heading.{copies_text, edges_text, heading_text}
use Rattle.heading_line.proofs.Heading.{heading-length}
use Rattle.copy_line.specs.Line.{line_at}
use Rattle.copy_line.proofs.Lines.{copy-length}
use Rattle.text.specs.Texts.{listing_room, refusal_room, copy_lines}
use Rattle.digits.proofs.Decimals.{digits_4}
use Rattle.digits.proofs.Room.{spaced-3, spaced-4, spaced-5, each-room}
use Rattle.text.proofs.Lines.{refused_text, refusal-length}
use Rattle.text.proofs.Kept.{all_edges, block-most, low-most, target-most}

targets-room : (ts : List ℕ) → ((t : ℕ) → Memᴰ t ts → t ≤ most_copies) → length (each spaced ts) ≤ 5 * length ts
targets-room ts f = each-room spaced 5 ts (λ t m. spaced-4 t (omega (arith, f t m)))

-- lines, each with a bound
module _ (f g : ℕ → List ℕ) where
  lines-room : (is : List ℕ) → ((i : ℕ) → Memᴰ i is → length (f i) ≤ 13 + 5 * length (g i))
      → length (each f is) ≤ 13 * length is + 5 * length (each g is)
  unfolding each
  lines-room [] r = omega arith
  lines-room (i ∷ is) r =
      omega (
        arith,
        length-append (f i) (each f is),
        length-append (g i) (each g is),
        r i (Memᴰ.head refl),
        lines-room is (λ x m. r x (Memᴰ.tail m)),
      )

pub refusal-fits : (n : ℕ) → n < 100000 → length (refusal_of n) ≤ refusal_room
refusal-fits n l =
    omega (arith, refusal-length n, length-append refused_text (spaced n), spaced-5 n l)

module _ (h : Heading) (s : List ℕ) (R : Ruled h s) (most : h.largest ≤ most_budget) (bs : List ℕ) (claims : Claimed bs) where
  heading-room : length (heading_text h.copies h.edges bs) ≤ 30 + 4 * most_budgets
  heading-room =
      let c = R.form.copies.1 in
      let f = R.form.edges.1 in
      omega (
        arith,
        heading-length h.copies h.edges bs,
        length-append copies_text (spaced h.copies),
        length-append edges_text (spaced h.edges),
        spaced-4 h.copies (omega arith),
        spaced-4 h.edges (omega arith),
        each-room spaced 4 bs (λ b m. spaced-3 b (omega (arith, claims.small b m))),
        claims.count,
      )

  copy-room : (i : ℕ) → 1 ≤ i → i ≤ h.copies → length (line_at s h.records h.copies h.edges i) ≤ 13 + 5 * length (chain_at h s i)
  unfolding targets_at chain_at
  copy-room i p q =
      let c = R.form.copies.1 in
      let v = block-most h s R i p q in
      let a = low-most h s R i p q in
      omega (
        arith,
        copy-length i (block_at h s i) (low_at h s i) (targets_at h s i),
        digits_4 i (omega arith),
        spaced-3 (block_at h s i) (omega arith),
        spaced-3 (low_at h s i) (omega arith),
        targets-room (targets_at h s i) (target-most h s R i p q),
        length-map (chain_at h s i) (target_at h s),
      )

  -- the heading and the copies' lines together
  all_fit : length (heading_text h.copies h.edges bs) + length (copy_lines s h.records h.copies h.edges) ≤ listing_room
  all_fit =
      let is = from 1 h.copies in
      let c = R.form.copies.1 in
      let f = R.form.edges.1 in
      let r = lines-room (line_at s h.records h.copies h.edges) (chain_at h s) is
      (λ i m. let b = from-e h.copies 1 i m in copy-room i b.0 (omega arith)) in
      omega (arith, heading-room, r, from-length h.copies 1, all_edges h s R)

-- behind what the header and the budgets were read as
pub listing-fits : (s : List ℕ) → bounded_refusal s ≡ 0 → {h : Heading} {bs : List ℕ} → h ≡ heading s → bs ≡ budgets_in s
    → length (heading_text h.copies h.edges bs) + length (copy_lines s h.records h.copies h.edges) ≤ listing_room
listing-fits s ok {h} {bs} q r =
    let C = clauses s ok in
    all_fit h s (read-ruled s ok q) (omega (arith, ap (λ (x : Heading). x.largest) q, C.budget)) bs (subst Claimed (sym r) C.claims)
