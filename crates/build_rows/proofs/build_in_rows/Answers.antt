-- The sheet is decoded and weighed; 9, or the build of the weighed graph with the sheet's budgets, lowered, in its version.
use Rattle.std.proofs.Common.{◌≡◌, sym, ap, ap₂, ◌∙◌, Bool, List, ℕ, ◌≤◌, arith, length, take, replicate, length-take-le}
use Rattle.std.proofs.lemmas.Result.{err_from_is_err_and}
use Rattle.base.specs.Refusals.{answer_of}
use Rattle.theory.specs.Tasks.{Task}
use Rattle.formats.specs.Limits.{most_budgets}
use Rattle.formats.specs.Versions.{budget_count, budgets_in}
use Rattle.formats.specs.GraphSheet.{Header}
use Rattle.formats.proofs.Budgets.{budgets-there}
use Rattle.formats.proofs.Handler.{lowered-count, AcceptedWith, accepted-with}
use Rattle.calls.specs.SheetGraph.{task}
use Rattle.put_words.specs.Put.{put_words}
use Rattle.put_words.proofs.Put.{put-length}
use Rattle.lowered.proofs.Fronts.{front-is}
use Rattle.weigh_sheet.proofs.Answers.{front-leaves}
use Rattle.output.specs.Answer.{answer_at, output_at}
use Rattle.build_rows.proofs.Front.{fits_not, fits}
use Rattle.build_rows.proofs.Ready.{front-passes, claims-hold, same-task, something-fits, row-table}
use Rattle.build_rows.proofs.build_in_rows.Goals as goal

module _ (w : List ℕ) (h : ℕ) (A : AcceptedWith w h) where
  few : budget_count w ≤ most_budgets
  few = omega (arith, A.sheet.claims.count, budgets-there w A.sheet.there)

  -- they stand at the front of a row of four words
  room : {x : List ℕ} → x ≡ put_words (replicate 4 0) 0 (task w h).budgets → length x ≡ 4
  room e =
      ap length e
      ∙ put-length (replicate 4 0) 0 (task w h).budgets (omega (arith, lowered-count h (budgets_in w), budgets-there w A.sheet.there, few))

-- so many of them as there are budgets
front-budgets : (w : List ℕ) (h : ℕ) {x bs : List ℕ} → bs ≡ budgets_in w → x ≡ put_words (replicate 4 0) 0 (task w h).budgets
    → take (length bs) x ≡ (task w h).budgets
front-budgets w h {x} {bs} e q =
    ap (take (length bs)) q ∙ front-is (replicate 4 0) (task w h).budgets (length bs) (lowered-count h (budgets_in w) ∙ sym (ap length e))

pub weigh_into-requires : goal.weigh_into-requires
weigh_into-requires c =
    let L = c.args.lowered in
    record { room = front-leaves _ _ _ (sym (front-passes _ _ _ L.accepted c.requires.area)) L.lowered; rows = c.requires.rows }

pub returns-in_err-weigh_into : goal.returns-in_err-weigh_into
returns-in_err-weigh_into c =
    let L = c.args.lowered in
    let y = c.in_err-weigh_into.ensures in
    let p = err_from_is_err_and c.from_residual.result c.from_residual.ensures.1 in
    let whole = fits_not _ _ _ c.args.output.now (front-passes _ _ _ L.accepted c.requires.area) L.lowered y.area_after _ y.value in
    rw (p.1, p.2) (record { value = whole.0; area_after = whole.1.0; out_after = whole.1.1 })

pub is_second-second-requires : goal.is_second-second-requires
is_second-second-requires c = (accepted-with _ _ c.args.lowered.accepted).sheet.long

pub put_lowered-requires : goal.put_lowered-requires
put_lowered-requires c =
    let A = accepted-with _ _ c.args.lowered.accepted in
    record { least_words_in_bounds = (A.sheet.long, A.sheet.there); words_in_bounds = few _ _ A }

pub slice_bounds-four-end : goal.slice_bounds-four-end
slice_bounds-four-end c =
    let L = c.args.lowered in
    omega (arith, L.sheet.sound.claims.count.1, room _ _ (accepted-with _ _ L.accepted) c.put_lowered.ensures)

pub slice_bounds-build_weighed-end : goal.slice_bounds-build_weighed-end
slice_bounds-build_weighed-end c =
    let L = c.args.lowered in
    sym (length-take-le _ _ (omega (arith, L.sheet.sound.claims.count.1, room _ _ (accepted-with _ _ L.accepted) c.put_lowered.ensures)))

pub build_weighed-requires : goal.build_weighed-requires
build_weighed-requires c =
    let L = c.args.lowered in
    let y = c.in_ok-weigh_into.ensures in
    let budgets = front-budgets _ _ L.sheet.sound.budgets c.put_lowered.ensures in
    let C = claims-hold _ _ _ L.accepted c.requires.area budgets L.lowered in
    let blocks = ap (λ (h : Header). h.blocks) L.sheet.sound.header ∙ sym y.decoded.blocks in
    record {
      blocks = blocks;
      claimed = (C.0, C.1, something-fits _ _ _ L.accepted c.requires.area y.decoded L.lowered y.value);
      table = rw blocks (row-table _ _ _ L.accepted c.requires.area y.decoded L.lowered y.area_after);
      room = c.requires.cells;
      clear = c.requires.clear;
    }

pub invariant_of-graph : goal.invariant_of-graph
invariant_of-graph c = record { flat = c.in_ok-weigh_into.ensures.decoded.flat }

pub invariant_of-layout : goal.invariant_of-layout
invariant_of-layout c =
    let L = c.args.lowered in
    record { small = (omega (arith, L.sheet.sound.sound.form.blocks), omega (arith, (accepted-with _ _ L.accepted).budget, L.lowered)) }

pub returns : goal.returns
returns c =
    let L = c.args.lowered in
    let y = c.in_ok-weigh_into.ensures in
    let budgets = front-budgets _ _ L.sheet.sound.budgets c.put_lowered.ensures in
    let T = same-task _ _ _ L.accepted c.requires.area y.decoded L.lowered budgets in
    let out = c.args.output.now in
    let version = c.is_second-second.ensures in
    let whole = fits _ _ _ out (front-passes _ _ _ L.accepted c.requires.area) L.lowered y.area_after y.value
    (c.build_weighed.ensures.value ∙ ap₂ (λ (x : Bool) (t : Task). answer_at x t (length out)) version T)
    (c.build_weighed.ensures.out_after ∙ ap₂ (λ (x : Bool) (t : Task). output_at x t (answer_of c.build_weighed.result) out) version T) in
    record { value = whole.0; area_after = whole.1.0; out_after = whole.1.1 }
