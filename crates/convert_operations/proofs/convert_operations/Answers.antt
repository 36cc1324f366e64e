-- The conditions first, then the row's length, then the graph sheet.
use Rattle.std.proofs.Common.{sym, ap, ap₂, ◌∙◌, List, ℕ, arith}
use Rattle.std.proofs.lemmas.Result.{err_from_is_err_and}
use Rattle.formats.specs.GraphSheet.{Header, header, sheet_length}
use Rattle.operation_sheet.specs.Operations.{graph_words}
use Rattle.put_words.specs.Put.{put_words}
use Rattle.convert_operations.proofs.Graph.{read-listed, sheet-refuses, row-refuses, row-serves}
use Rattle.convert_operations.proofs.convert_operations.Goals as goal

pub returns-in_err-sheet-clause-value : goal.returns-in_err-sheet-clause-value
returns-in_err-sheet-clause-value c =
    let p = err_from_is_err_and c.from_residual.result c.from_residual.ensures.1 in
    rw (p.1, p.2) (sheet-refuses c.args.words.now c.args.out.now _ c.in_err-sheet.ensures.answer).0

pub returns-in_err-sheet-clause-out_after : goal.returns-in_err-sheet-clause-out_after
returns-in_err-sheet-clause-out_after c =
    (sheet-refuses c.args.words.now c.args.out.now _ c.in_err-sheet.ensures.answer).1

pub returns-then-out-records-clause-value : goal.returns-then-out-records-clause-value
returns-then-out-records-clause-value c =
    let s = c.in_ok-sheet.ensures.words in
    let q = c.in_ok-sheet.sheet.read ∙ ap header s in
    (row-refuses c.args.words.now c.args.out.now (sym c.in_ok-sheet.ensures.answer) (omega (arith, c.if-out-records.true, ap sheet_length q))).0

pub returns-then-out-records-clause-out_after : goal.returns-then-out-records-clause-out_after
returns-then-out-records-clause-out_after c =
    let s = c.in_ok-sheet.ensures.words in
    let q = c.in_ok-sheet.sheet.read ∙ ap header s in
    (row-refuses c.args.words.now c.args.out.now (sym c.in_ok-sheet.ensures.answer) (omega (arith, c.if-out-records.true, ap sheet_length q))).1

pub put_graph-requires-clause-listed : goal.put_graph-requires-clause-listed
put_graph-requires-clause-listed c = read-listed c.in_ok-sheet.ensures.words c.in_ok-sheet.sheet.read c.in_ok-sheet.ensures.answer

pub returns-clause-value : goal.returns-clause-value
returns-clause-value c =
    let s = c.in_ok-sheet.ensures.words in
    let q = c.in_ok-sheet.sheet.read ∙ ap header s in
    let put = c.put_graph.ensures ∙ ap₂ (λ (h : Header) (w : List ℕ). put_words c.args.out.now 0 (graph_words h w)) q s in
    (row-serves c.args.words.now c.args.out.now (sym c.in_ok-sheet.ensures.answer) (omega (arith, c.if-out-records.false, ap sheet_length q)) put).0

pub returns-clause-out_after : goal.returns-clause-out_after
returns-clause-out_after c =
    let s = c.in_ok-sheet.ensures.words in
    let q = c.in_ok-sheet.sheet.read ∙ ap header s in
    let put = c.put_graph.ensures ∙ ap₂ (λ (h : Header) (w : List ℕ). put_words c.args.out.now 0 (graph_words h w)) q s in
    (row-serves c.args.words.now c.args.out.now (sym c.in_ok-sheet.ensures.answer) (omega (arith, c.if-out-records.false, ap sheet_length q)) put).1
