-- `put_words::put_two` meets its contract.
use Rattle.put_words.proofs.Put.{two}
use Rattle.put_words.proofs.put_two.Goals as goal

pub returns : goal.returns
returns c = two _ _ _ _ c.requires.0
