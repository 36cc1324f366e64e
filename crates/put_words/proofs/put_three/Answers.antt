-- `put_words::put_three` meets its contract.
use Rattle.put_words.proofs.Put.{three}
use Rattle.put_words.proofs.put_three.Goals as goal

pub returns : goal.returns
returns c = three _ _ _ _ _ c.requires.0
