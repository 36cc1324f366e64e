-- A bounded move of the walk that the words stand for.
use Rattle.std.proofs.Common.{◌∙◌}
use Rattle.walk.specs.WalkWords.{walk_in}
use Rattle.gilstavo.specs.Steps.{in_words, bounded_step}
use Rattle.gilstavo.proofs.Steps.{words-after}
use Rattle.gilstavo.proofs.gilstavo_bounded_move.Goals as goal

pub returns : goal.returns
unfolding bounded_step in_words
returns c =
    let s = walk_in c.args.walk.now in
    let e = rw c.from.ensures at c.bounded_move-moved.ensures.answer_value in
    let f = rw c.from.ensures at c.bounded_move-moved.ensures.walk_value in
    record {
      value = c.set_words.ensures.value ∙ e;
      walk_after = c.set_words.ensures.words ∙ words-after _ _ s _ e f;
    }
