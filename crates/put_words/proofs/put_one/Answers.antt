-- `put_words::put_one` meets its contract.
use Rattle.put_words.proofs.Put.{one}
use Rattle.put_words.proofs.put_one.Goals as goal

pub returns : goal.returns
returns c = one _ _ _ c.requires.0
