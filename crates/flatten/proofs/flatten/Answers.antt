-- Each turn decodes one block.
use Rattle.std.proofs.Common.{◌≡◌, refl, sym, ap, ◌∙◌, List, ℕ, ◌+◌, ◌≤◌, arith, length, length-set}
use Rattle.formats.specs.Words.{field}
use Rattle.formats.specs.GraphSheet.{Header, successors}
use Rattle.formats.proofs.Accepted.{cost-word}
use Rattle.calls.specs.SheetGraph.{graph_at}
use Rattle.flatten.proofs.Decoding.{decoding-start, copy-fits, degree-small, decoding-on, decoded}
use Rattle.flatten.proofs.flatten.Goals as goal

-- a block's successors and its cost, as they are read
next-read : (h : Header) (w : List ℕ) (v : ℕ) {ts : List ℕ} → ts ≡ successors h w v → ts ≡ (graph_at h w).next v
unfolding graph_at
next-read h w v e = e

cost-read : (h : Header) (w : List ℕ) {v c : ℕ} → 1 ≤ v → v ≤ h.blocks → c ≡ field w h.records 2 v 0 → c ≡ (graph_at h w).cost v
unfolding graph_at
cost-read h w {v} p q e = e ∙ sym (cost-word h w v p q)

pub loop-block-init : goal.loop-block-init
loop-block-init c = decoding-start _ _ c.requires.sound c.args.row.now c.requires.room refl

pub copy_targets-next-requires : goal.copy_targets-next-requires
copy_targets-next-requires c =
    let e = ap length (next-read _ _ _ c.successors_in.ensures.value) in
    omega (arith, e, (copy-fits _ _ c.requires.sound c.loop-block.invariant (omega arith)).0)

pub put_block-requires-clause-cost_lt_word_limit : goal.put_block-requires-clause-cost_lt_word_limit
put_block-requires-clause-cost_lt_word_limit c =
    let S = c.requires.sound in
    let D = c.loop-block.invariant in
    let e = ap length (next-read _ _ _ c.successors_in.ensures.value) in (
      c.cost-cost.ensures.1,
      (copy-fits _ _ S D (omega arith)).1,
      omega (arith, e, c.copy_targets-next.ensures.value, degree-small _ _ S D (omega arith)),
    )

pub loop-block-preserved : goal.loop-block-preserved
loop-block-preserved c =
    let D = c.loop-block.invariant in
    let q = next-read _ _ _ c.successors_in.ensures.value in
    let put = c.put_block.ensures in
    rw put
    (decoding-on _ _ c.requires.sound D (omega arith) (rw q at c.copy_targets-next.ensures.copied)
    (cost-read _ _ D.range.0 (omega arith) c.cost-cost.ensures.0)
    (c.copy_targets-next.ensures.value ∙ ap (λ (ts : List ℕ). c.loop-block.place + length ts) q))

pub returns : goal.returns
returns c =
    record {
      row_len_unchanged = c.loop-block.auto.row ∙ length-set c.args.row.now 0 _;
      decoded = decoded _ _ c.requires.sound c.loop-block.invariant (omega arith);
    }
