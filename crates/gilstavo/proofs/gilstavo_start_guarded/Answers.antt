-- A guarded start of the walk that the words stand for.
use Rattle.std.proofs.Common.{◌∙◌}
use Rattle.walk.specs.WalkWords.{walk_in}
use Rattle.gilstavo.specs.Steps.{in_words, guarded_outset}
use Rattle.gilstavo.proofs.Steps.{words-after}
use Rattle.gilstavo.proofs.gilstavo_start_guarded.Goals as goal

pub returns : goal.returns
unfolding guarded_outset in_words
returns c =
    let s = walk_in c.args.walk.now in
    let e = c.start_guarded-started.ensures in
    record {
      value = c.set_words.ensures.value ∙ e.answer_value s;
      walk_after = c.set_words.ensures.words ∙ words-after _ _ s _ (e.answer_value s) (e.walk_value s);
      area_after = e.area_after s;
    }
