-- One byte more, as lemma `held_next` has it.
use Rattle.kept.proofs.More.{held_next}
use Rattle.kept.proofs.keep.Goals as goal

pub loop-b-preserved : goal.loop-b-preserved
loop-b-preserved c =
    let kept = c.keep_byte-count.ensures in
    record {
      room = kept.upper_bound;
      kept = λ xs H. held_next xs _ c.loop-b.b-index c.loop-b-test.true (c.loop-b.invariant.kept xs H) kept.upper_bound kept.by_index;
    }
