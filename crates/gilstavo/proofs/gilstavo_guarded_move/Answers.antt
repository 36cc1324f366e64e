-- A guarded move of the walk that the words stand for.
use Rattle.std.proofs.Common.{◌∙◌}
use Rattle.calls.specs.Moves.{guarded_move}
use Rattle.walk.specs.WalkWords.{walk_in}
use Rattle.gilstavo.specs.Steps.{in_words, guarded_step}
use Rattle.gilstavo.proofs.Steps.{words-after}
use Rattle.gilstavo.proofs.gilstavo_guarded_move.Goals as goal

pub returns : goal.returns
unfolding guarded_step guarded_move in_words
returns c =
    let s = walk_in c.args.walk.now in
    let e = rw c.from.ensures at c.guarded_move-moved.ensures.answer_value in
    let f = rw c.from.ensures at c.guarded_move-moved.ensures.walk_value in
    record {
      value = c.set_words.ensures.value ∙ e;
      walk_after = c.set_words.ensures.words ∙ words-after _ _ s _ e f;
      area_after = rw c.from.ensures at c.guarded_move-moved.ensures.area_after;
    }
