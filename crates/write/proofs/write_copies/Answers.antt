-- With the records of the copies left the row is that of all.
use Rattle.std.proofs.Common.{refl, sym, ap, ◌∙◌, arith, length}
use Rattle.put_words.specs.Put.{put_words}
use Rattle.tables.proofs.Rows.{row-length}
use Rattle.write.proofs.Records.{written_start, here-few, here-fits, written-fits, written_on, written-end, copy_record, copies-are, copies-fit, copy-put}
use Rattle.write.proofs.write_copies.Goals as goal

pub loop-index-init : goal.loop-index-init
loop-index-init c =
    rw c.into_iter-index-iterator.ensures.into_iter_gives
    (written_start copy_record c.marked_cells-index-items.ensures c.requires.few _ _ _ refl (copies-fit _ _ _ _ c.requires.room))

pub cell_at-copy-requires : goal.cell_at-copy-requires
cell_at-copy-requires c =
    let W = rw c.in-Some.ensures.steps at c.loop-index.invariant in
    here-few copy_record W (c.args.numbered.now.layout.small.0, c.args.numbered.now.layout.small.1)

pub successors-degree-requires : goal.successors-degree-requires
successors-degree-requires c =
    let W = rw c.in-Some.ensures.steps at c.loop-index.invariant in
    let F = here-fits copy_record W c.cell_at-copy.ensures in
    (F.0, omega (arith, F.1, c.args.numbered.now.blocks))

pub put_three-requires : goal.put_three-requires
unfolding copy_record
put_three-requires c =
    let W = rw c.in-Some.ensures.steps at c.loop-index.invariant in
    let F = here-fits copy_record W c.cell_at-copy.ensures in
    let k = written-fits copy_record W c.cell_at-copy.ensures in
    let s = c.args.numbered.now.layout.small in
    (k.0, omega (arith, F, s), omega (arith, F, s), omega (arith, c.first_edge-first.ensures.0, k.1))

pub loop-index-preserved : goal.loop-index-preserved
unfolding copy_record
loop-index-preserved c =
    let W = rw c.in-Some.ensures.steps at c.loop-index.invariant in
    let d = ap length c.successors-degree.ensures in
    written_on copy_record W c.cell_at-copy.ensures
    (copy-put _ _ _ _ _ _ _ c.put_three.ensures (c.first_edge-first.ensures.1 _ (row-length _ _ _ ∙ sym d))) refl (omega (arith, d))

pub returns : goal.returns
returns c =
    let W = rw c.in-None.ensures.steps.0 at c.loop-index.invariant in
    written-end copy_record W ∙ ap (put_words _ _) (sym (copies-are 1 _))
