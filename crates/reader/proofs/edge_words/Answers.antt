-- Under a refusal the part is empty, and at the sheet's start.
use Rattle.std.proofs.Common.{◌≡◌, sym, ◌+◌, ◌*◌, arith}
use Rattle.formats.specs.Rule11.{hand_out}
use Rattle.reader.proofs.Answers.{no_words}
use Rattle.reader.proofs.edge_words.Goals as goal

pub returns-in-Err-clause-result_value : goal.returns-in-Err-clause-result_value
returns-in-Err-clause-result_value c = sym (no_words _ _ _ c.in-Err.ensures.answer).1

pub returns-in-Err-clause-ref_ptr_value : goal.returns-in-Err-clause-ref_ptr_value
returns-in-Err-clause-ref_ptr_value c =
    let p = c.args.words.ref_ptr in
    let z = (no_words _ _ _ c.in-Err.ensures.answer).0 in
    let e : p.1 ≡ (hand_out c.args.words.now c.args.copy).start * 2 + p.1 = omega (arith, z) in
    λ i. (p.0, e i)
