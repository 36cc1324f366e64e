-- The copies one by one: each is looked up, and its margin written.
use Rattle.std.proofs.Common.{sym, subst, List, ℕ, ◌+◌, ◌≤◌, arith, length}
use Rattle.formats.specs.Limits.{most_blocks}
use Rattle.digits.proofs.Due.{wrote_as}
use Rattle.digits.proofs.Counted.{parts-begin, part_room, parts-on, parts-end}
use Rattle.margins.specs.Margins.{margin_words}
use Rattle.margins.proofs.Words.{next-above, word_at, costs-stand}
use Rattle.margins.proofs.put_margins.Goals as goal

pub loop-copy-init : goal.loop-copy-init
unfolding margin_words
loop-copy-init c = parts-begin _ _ c.requires.copies_in_bounds

pub look_up-found-requires : goal.look_up-found-requires
look_up-found-requires c =
    let R = c.requires.records.0 in
    let v = R.block c.loop-copy.copy (omega arith) (omega arith) in
    let l = R.low c.loop-copy.copy (omega arith) (omega arith) in
    let p : (1 ≤ c.field-block.result) × (c.field-block.result ≤ most_blocks) = omega (arith, v) in
    record {
      inside = (p.0, p.1, omega (arith, l));
      has_cell = costs-stand c.args.largest c.field-block.result c.args.area.now R.budget p.0 p.1 c.requires.records.1;
    }

pub put_margin-end-requires : goal.put_margin-end-requires
put_margin-end-requires c =
    let a = c.args in
    let n = c.look_up-found.ensures.next_value in
    let is = word_at a.sheet.now a.area.now a.largest a.at c.loop-copy.copy _ c.field-block.ensures.0 c.field-low.ensures.0 n in
    record {
      low_lt_next = next-above _ _ _ _ c.look_up-found.result.next n;
      next_in_bounds = subst (λ (w : List ℕ). c.loop-copy.end + length w ≤ length c.loop-copy.text) (sym is)
          (part_room _ _ c.loop-copy.invariant (omega arith));
    }

pub loop-copy-preserved : goal.loop-copy-preserved
loop-copy-preserved c =
    let a = c.args in
    let is =
    word_at a.sheet.now a.area.now a.largest a.at c.loop-copy.copy _ c.field-block.ensures.0 c.field-low.ensures.0 c.look_up-found.ensures.next_value in
    parts-on _ _ c.loop-copy.invariant (omega arith) (wrote_as c.put_margin-end.ensures is) c.put_margin-end.auto.text

pub returns : goal.returns
unfolding margin_words
returns c = parts-end _ _ c.loop-copy.invariant (omega arith)
