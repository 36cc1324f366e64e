-- DEMANDS 2 AND 3, from the build's answer 0 alone.
-- Rests on theory Agreement, Shape and Stopped, Weigh, SettingRows, Built, Construction, Moves, Area.
use mathlib.Core.Path.{◌≡◌, refl, sym, ap, subst, ◌∙◌}
use mathlib.Core.Logic.{◌↔◌}
use mathlib.Core.Bool.{false}
use mathlib.Core.List.{List, [], map, map-id, Memᴰ}
use mathlib.Core.Option.{Option, some, none}
use Prim.Native.Nat.{ℕ, suc, ◌+◌, ◌≤◌}
use native.Mathlib.Omega.{arith}
use borrow.Author.Tests.{ltb-false}
use lib.ListN.{length, take}
use Rattle.base.specs.Lists.{chosen, nth}
use Rattle.base.specs.Checks.{refused, lent_after}
use Rattle.base.proofs.Truth.{or-false}
use Rattle.base.proofs.Numbers.{nth_in, nth-map, one_last}
use Rattle.base.proofs.Copies.{number-place}
use Rattle.base.proofs.Orders.{unrefused, passed, none_left, over-i, over-e, not-outside}
use Rattle.theory.specs.Completions.{low_of}
use Rattle.theory.specs.Machines.{End, going, exit, diverted, Reply, reply, answers, final, cycles, zeros, Unchanged}
use Rattle.theory.specs.Walks.{Walk, start_at, starting, stopped, most_moves, InShape, monitor, Bounded, bounded_walk, Path}
use Rattle.theory.specs.Setting.{Setting, Entry, copies, start_copy, entry_place, LaysOut, Agrees, PathsKept}
use Rattle.theory.proofs.Runs.{RunsAs, runs_as, unchanged-as, keeps-all}
use Rattle.theory.proofs.Reach.{start-in}
use Rattle.theory.proofs.Agreement.{agrees, paths-kept}
use Rattle.theory.proofs.Monitor.{monitor-acts}
use Rattle.theory.proofs.Shape.{most-fits, monitor-kept, monitor-start, Held, held-shape, held_kept, held_start}
use Rattle.theory.proofs.Stopped.{monitor-stopped, bounded-stopped, stopped-agrees, stopped-paths}
use Rattle.formats.specs.Limits.{most_copies, most_bounded_edges}
use Rattle.formats.specs.Versions.{is_second, budgets_in}
use Rattle.formats.specs.GraphSheet.{header}
use Rattle.formats.specs.BoundedSheet.{entries_in}
use Rattle.formats.specs.Rule11.{bounded_order, bounded_refusal}
use Rattle.formats.proofs.Handler.{lowered-count, lowered-exactly, accepted-with}
use Rattle.formats.proofs.RuleKept.{bounded-numbered}
use Rattle.calls.specs.SheetGraph.{task, graph, entry_for, bounded_sheet, read_bounded}
use Rattle.calls.specs.Weigh.{task_area, weigh_order}
use Rattle.calls.specs.Build.{too_many, Lent, weighing, build_order, output_after, build}
use Rattle.calls.specs.Moves.{Budgeted, budgeted, starting_walk, reply_with, Move, guarded_reply, bounded_move}
use Rattle.calls.specs.Starts.{sets_out, graph_start, enters_at, OutsetOn, weighing as start-weighing, guarded_start_order, guarded_start}
use Rattle.calls.specs.Starts.{NumberOn, bounded_start_order, bounded_start}
use Rattle.calls.specs.Demand.{start_reply, by_value, bounded_block, Demand3, RoomFor, StartsAndKeeps, KeepsDemand3, KeepsFromStart}
use Rattle.calls.specs.Construction.{built_words, Demand2, KeepsDemand2}
use Rattle.calls.proofs.Weigh.{weigh-numbered, weighs, weighs-e}
use Rattle.calls.proofs.SettingRows.{entry-some, entry-none}
use Rattle.calls.proofs.Built.{Buildable, setting, first-version, budgets-back, entries-back, sheet-lays-out, keeps-rule}
use Rattle.calls.proofs.Construction.{demand2}
use Rattle.calls.proofs.Moves.{guarded-as, bounded-as}
use Rattle.calls.proofs.Area.{output-words}

-- an accepted build
pub buildable : (i : Lent) → (build i).answer ≡ 0 → Buildable i.sheet i.handler
unfolding build build_order too_many
buildable i e =
    let o = over-e weighing weigh_order _ i weigh-numbered e in
    let p = weighs-e (weighing i) o.0 in
    let m = or-false _ _ (unrefused 9 _ _ i o.1).0 in
    record { ok = p.ok; start = p.start; opens = p.opens; few = ltb-false most_copies _ m.0; edges = ltb-false most_bounded_edges _ m.1 }

module _ (w : List ℕ) (h : ℕ) (K : Buildable w h) where
  abbrev N : ℕ
  N = (header w).blocks

  abbrev bs : List ℕ
  bs = (task w h).budgets

  abbrev t : List ℕ
  t = bounded_sheet w h

  abbrev m : Bounded
  m = read_bounded (bounded_sheet w h)

  abbrev S : Setting
  S = setting w h K

  abbrev Y : LaysOut (setting w h K) (read_bounded (bounded_sheet w h))
  Y = sheet-lays-out w h K

  -- WITH ONE BUDGET NUMBER n, from a monitor's start z and a bounded walk's start v that keep the promises; H holds of a bounded walk all along
  module _ (n : ℕ) (p : 1 ≤ n) (q : n ≤ length bs) (z v : Walk) (fair : InShape N 2 (nth bs n) z) (H : Walk → Type 0)
      (shape : (s : Walk) → H s → InShape m.size m.last (most_moves (nth bs n) s.end) s)
      (kept : (s : Walk) → H s → (bounded_walk m).stands s ≡ going → (k x : ℕ) → chosen ((bounded_walk m).targets s) k ≡ some x
      → H ((bounded_walk m).take s x))
      (begins : H v) (home : z.place ≡ 1) (agreed : (ks : List ℕ) → Agrees S m (nth bs n) z v ks) (paths : PathsKept S m (nth bs n) v) where
    abbrev B : ℕ
    B = nth bs n

    abbrev with : Walk → Budgeted
    with = budgeted n

    monitor-shape : (ks : List ℕ) → InShape N 2 B (final (reply (monitor (graph w) B)) z ks)
    monitor-shape ks = keeps-all (monitor (graph w) B) (InShape N 2 B) (monitor-kept S B) ks z fair

    guarded-run : (ms : List Move) → RoomFor w h ms
        → RunsAs with (guarded_reply w h) (reply (monitor (graph w) B)) z ms (map (λ i. i.choice) ms)
    guarded-run ms room =
        runs_as (monitor (graph w) B) with (guarded_reply w h) (λ i. i.choice) (InShape N 2 B) (λ i. task_area (task w h) ≤ length i.area)
        (monitor-kept S B) (λ s is i room. guarded-as w h i (with s) K.start K.ok room K.opens p q is) ms room z fair

    -- the sheet's own budgets are those of the graph
    abbrev Shaped : List ℕ → Walk → Type 0
    Shaped l s = InShape m.size m.last (most_moves (nth l n) s.end) s

    bounded-step : (s : Walk) → H s → (k : ℕ) → bounded_move t (with s) k ≡ reply_with n (reply (bounded_walk m) s k)
    bounded-step s held k =
        bounded-as t (with s) k (keeps-rule w h K) p (omega (arith, ap length (budgets-back w h K)))
        (subst (λ (l : List ℕ). Shaped l s) (sym (budgets-back w h K)) (shape s held))

    bounded-run : (ks : List ℕ) → RunsAs with (bounded_move t) (reply (bounded_walk m)) v ks ks
    bounded-run ks =
        subst (λ (l : List ℕ). RunsAs with (bounded_move t) (reply (bounded_walk m)) v ks l) (map-id ks)
        (runs_as (bounded_walk m) with (bounded_move t) (λ k. k) H (λ k. Unit {0}) kept (λ s held k u. bounded-step s held k) ks (λ k i. tt) v begins)

    held-end : (ks : List ℕ) → H (final (reply (bounded_walk m)) v ks)
    held-end ks = keeps-all (bounded_walk m) H kept ks v begins

    -- while going, the choice 1 is answered 0
    guarded-next : (ks : List ℕ) (x : Budgeted) → x ≡ with (final (reply (monitor (graph w) B)) z ks) → x.walk.end ≡ going
        → (area : List ℕ) → task_area (task w h) ≤ length area → (guarded_reply w h x (record { choice = 1; area = area })).answer ≡ 0
    guarded-next ks x e g area room =
        let i : Move = record { choice = 1; area = area } in
        ap (λ (s : Budgeted). (guarded_reply w h s i).answer) e
        ∙ ap (λ (r : Reply Budgeted). r.answer) (guarded-as w h i (with _) K.start K.ok room K.opens p q (monitor-shape ks))
        ∙ (agreed ks).monitor-onward (sym (ap (λ (s : Budgeted). s.walk.end) e) ∙ g)

    bounded-next : (ks : List ℕ) (x : Budgeted) → x ≡ with (final (reply (bounded_walk m)) v ks) → x.walk.end ≡ going
        → (bounded_move t x 1).answer ≡ 0
    bounded-next ks x e g =
        ap (λ (s : Budgeted). (bounded_move t s 1).answer) e
        ∙ ap (λ (r : Reply Budgeted). r.answer) (bounded-step _ (held-end ks) 1)
        ∙ (agreed ks).bounded-onward (sym (ap (λ (s : Budgeted). s.walk.end) e) ∙ g)

    most-of : (x : Walk) (e : End) → x.end ≡ e → x.count ≤ most_moves B x.end → x.count ≤ most_moves B e
    most-of x e p l = subst (λ (y : End). x.count ≤ most_moves B y) p l

    kept-paths : (ks cs : List ℕ) (c : ℕ) → Path (graph w) 1 ks cs c
        → (c ≤ B) ↔ Unchanged (bounded_move t) (λ s. bounded_block t s.walk) (λ s. s.walk.end) (with v) ks cs
    unfolding PathsKept read_bounded
    kept-paths ks cs c r =
        let a = paths ks cs c r in
        let u = unchanged-as (bounded-run ks) (λ s. bounded_block t s.walk) (λ s. s.walk.end) cs in
        (λ l. u.0 (a.0 l), λ h. a.1 (u.1 h))

    -- "Every budget is lowered by h", and by all of it
    lowers : B + h ≡ nth (budgets_in w) n
    lowers = let A = accepted-with w h K.ok in lowered-exactly h A.sheet.claims A.fair n p (omega (arith, q, lowered-count h (budgets_in w)))

    -- the bounded run spends what the monitor counts; the block that it shows first costs nothing
    spent : (ks : List ℕ)
        → (graph w).cost (bounded_block t v)
        + cycles (bounded_move t) (graph w).cost (λ s. bounded_block t s.walk) (λ s. s.walk.end) (with v) ks
        ≡ (final (reply (monitor (graph w) B)) z ks).count
    unfolding read_bounded final
    spent ks =
        let e = (bounded-run ks).spend (graph w).cost (λ s. bounded_block t s.walk) (λ s. s.walk.end) ∙ (agreed ks).spent in
        let free : (graph w).cost (bounded_block t v) ≡ 0 = ap (graph w).cost ((agreed []).block ∙ home) ∙ S.laws.free in
        omega (arith, e, free)

    whole : (ms : List Move) → RoomFor w h ms → Demand3 by_value w h t n z (with z) (with v) ms
    unfolding read_bounded most_moves
    whole ms room =
        let ks = map (λ i. i.choice) ms in
        let x = guarded-run ms room in
        let y = bounded-run ks in
        let d = agreed ks in
        let f = final (reply (bounded_walk m)) v ks in
        let count = ap (λ (s : Budgeted). s.walk.count) y.last in
        let end = ap (λ (s : Budgeted). s.walk.end) y.last in
        let moves : f.count ≡ zeros (answers (bounded_move t) (with v) ks) = d.moves ∙ sym (ap zeros y.answer) in
        record {
          monitor-acts = monitor-acts (graph w) S.laws B;
          guarded-answers = x.answer;
          bounded-answers = y.answer ∙ d.answer;
          guarded-block = ap (λ (s : Budgeted). s.walk.place) x.last;
          bounded-block = ap (λ (s : Budgeted). bounded_block t s.walk) y.last ∙ d.block;
          guarded-end = ap (λ (s : Budgeted). s.walk.end) x.last;
          bounded-end = end ∙ d.end;
          guarded-count = ap (λ (s : Budgeted). s.walk.count) x.last;
          guarded-most = omega (arith, d.count, ap (λ (s : Budgeted). s.walk.count) x.last);
          bounded-count = count ∙ moves;
          bounded-going = λ e. omega (arith, count, most-of f going (sym end ∙ e) d.most);
          bounded-ended = omega (arith, count, d.most, most-fits B f.end);
          ends-within = λ l e. omega (arith, moves, most-of f going (sym end ∙ e) d.most);
          monitor-onward = λ e. (1, d.monitor-onward e);
          guarded-onward = λ e. (1, guarded-next ks _ x.last e);
          bounded-onward = λ e. (1, bounded-next ks _ y.last e);
          paths-kept = kept-paths;
          lowered = lowers;
          claim-kept = λ js cs c r.
              let k = kept-paths js cs c r in
              (λ l. k.0 (omega (arith, l, lowers)), λ y. omega (arith, k.1 y, lowers));
          cycles-counted = spent ks;
          cycles-within = omega (arith, spent ks, d.count, lowers);
        }

  -- THE STARTS
  module _ (n : ℕ) (p : 1 ≤ n) (q : n ≤ length bs) where
    abbrev b : ℕ
    b = nth bs n

    named-budget : Memᴰ b bs
    named-budget = nth_in bs n p q

    -- from the place of the budget's start copy, or diverted where nothing fits
    from_places : (ms : List Move) → RoomFor w h ms
        → Demand3 by_value w h t n (graph_start (graph w) b) (budgeted n (graph_start (graph w) b)) (budgeted n (enters_at (entry_for (task w h) b))) ms
    unfolding sets_out enters_at bounded_walk start_at
    from_places ms room = go (low_of (graph w) 1 b) refl
      where
        still : (s : Walk) → s ≡ stopped → s.end ≡ going → ⊥
        still s h g = let z : ◌≡◌ {A = ℕ} 0 1 = ap (λ (x : End). elim x [ going ↦ 0 | exit ↦ 2 | diverted ↦ 1 ]) (sym g ∙ ap (λ (s : Walk). s.end) h) in
            absurd (omega arith)

        go : (o : Option ℕ) → low_of (graph w) 1 b ≡ o
            → Demand3 by_value w h t n (graph_start (graph w) b) (budgeted n (graph_start (graph w) b)) (budgeted n (enters_at (entry_for (task w h) b))) ms
        go (some a) e =
            let E : Entry S = record { budget = b; named = named-budget; low = a; fits = e } in
            let x = number-place (start_copy S E) (copies S) (start-in S E) in
            let place : entry_for (task w h) b ≡ suc x.0 = (entry-some S b a named-budget e).0 ∙ x.1 in
            let at : start_at (entry_place S E) ≡ start_at (suc x.0) = ap start_at x.1 in
            let H = Held S m Y E in
            rw (e, sets_out, place, enters_at)
            (whole n p q starting (start_at (suc x.0)) (monitor-start S b) H (held-shape S m Y E) (held_kept S m Y E)
            (subst H at (held_start S m Y E)) refl
            (λ ks. subst (λ (s : Walk). Agrees S m b starting s ks) at (agrees S m Y E ks))
            (subst (PathsKept S m b) at (paths-kept S m Y E)) ms room)
        go none e =
            rw (e, sets_out, entry-none S b e, enters_at)
            (whole n p q stopped stopped (monitor-stopped S b) (λ s. s ≡ stopped)
            (λ s h. subst (λ (x : Walk). InShape m.size m.last (most_moves b x.end) x) (sym h) (bounded-stopped S b m Y))
            (λ s h g. absurd (still s h g)) refl refl
            (stopped-agrees S b m Y) (stopped-paths S b m Y e) ms room)

    -- the start calls answer 0 and leave these
    guarded-started : (area : List ℕ) → task_area (task w h) ≤ length area → (o : Budgeted)
        → ((start_reply w h o (record { number = n; area = area })).answer ≡ 0)
        × ((start_reply w h o (record { number = n; area = area })).after ≡ budgeted n (graph_start (graph w) b))
    unfolding guarded_start guarded_start_order lent_after
    guarded-started area room o =
        let x : OutsetOn = record { sheet = w; handler = h; outset = record { number = n; area = area } } in
        let a : refused guarded_start_order x ≡ 0
        = over-i start-weighing weigh_order _ x weigh-numbered (weighs w h area K.ok room K.start K.opens)
        (passed 33 _ _ x (not-outside 1 (length bs) n p q) (none_left x)) in
        (a, ap (λ (c : ℕ). lent_after c o (budgeted n (graph_start (graph w) b))) a)

    bounded-started : (o : Budgeted)
        → ((bounded_start t o n).answer ≡ 0) × ((bounded_start t o n).after ≡ budgeted n (enters_at (entry_for (task w h) b)))
    unfolding bounded_start bounded_start_order bounded_refusal lent_after
    bounded-started o =
        let x : NumberOn = record { sheet = t; number = n } in
        let a : refused bounded_start_order x ≡ 0
        = over-i (λ (i : NumberOn). i.sheet) bounded_order _ x bounded-numbered (keeps-rule w h K)
        (passed 33 _ _ x (not-outside 1 (length (budgets_in t)) n p (omega (arith, ap length (budgets-back w h K)))) (none_left x)) in
        let e : nth (entries_in t) n ≡ entry_for (task w h) b
        = ap (λ (l : List ℕ). nth l n) (entries-back w h K) ∙ nth-map (entry_for (task w h)) bs n p q in
        (a, ap (λ (c : ℕ). lent_after c o (budgeted n (enters_at (nth (entries_in t) n)))) a ∙ ap (λ (e : ℕ). budgeted n (enters_at e)) e)

    from-starts : (area : List ℕ) → task_area (task w h) ≤ length area → (o v : Budgeted) (ms : List Move) → RoomFor w h ms
        → StartsAndKeeps by_value w h t n area o v ms
    from-starts area room o v ms rooms =
        let g = guarded-started area room o in
        let b = bounded-started v in
        record {
          guarded-starts = g.0;
          bounded-starts = b.0;
          keeps = rw (g.1, b.1) (from_places ms rooms);
        }

  -- from the starting walk, on a sheet of the first version: the only budget is the largest, and its entry 1
  from-starting : is_second w ≡ false → (ms : List Move) → RoomFor w h ms → Demand3 by_value w h t 1 starting starting_walk starting_walk ms
  unfolding sets_out enters_at
  from-starting first ms room =
      let f = first-version w h K first in
      let one : 1 ≤ length bs = omega (arith, f.0) in
      let low : low_of (graph w) 1 (nth bs 1) ≡ some K.start = ap (low_of (graph w) 1) (one_last bs f.0) ∙ K.opens in
      let e : entry_for (task w h) (nth bs 1) ≡ 1
      = sym (nth-map (entry_for (task w h)) bs 1 (omega arith) one) ∙ ap (λ (l : List ℕ). nth l 1) f.1 in
      let d = from_places 1 (omega arith) one ms room in
      rw (low, sets_out, e, enters_at) at d

-- what an accepted build filled is the bounded sheet
filled-words : (i : Lent) → (build i).answer ≡ 0 → built_words i ≡ bounded_sheet i.sheet i.handler
unfolding build
filled-words i accepted =
    ap (λ (a : ℕ). take (length (bounded_sheet i.sheet i.handler)) (output_after i.sheet i.handler a i.output)) accepted
    ∙ output-words i.sheet i.handler i.output

-- THE TWO DEMANDS
pub keeps-demand2 : KeepsDemand2
keeps-demand2 i accepted = subst (Demand2 i.sheet i.handler) (sym (filled-words i accepted)) (demand2 i.sheet i.handler (buildable i accepted))

pub keeps-demand3 : KeepsDemand3 by_value
keeps-demand3 i accepted n p q area room o v ms rooms =
    subst (λ (t : List ℕ). StartsAndKeeps by_value i.sheet i.handler t n area o v ms) (sym (filled-words i accepted))
    (from-starts i.sheet i.handler (buildable i accepted) n p (omega (arith, q, lowered-count i.handler (budgets_in i.sheet))) area room
    o v ms rooms)

pub keeps-from-start : KeepsFromStart by_value
keeps-from-start i accepted first ms rooms =
    subst (λ (t : List ℕ). Demand3 by_value i.sheet i.handler t 1 starting starting_walk starting_walk ms) (sym (filled-words i accepted))
    (from-starting i.sheet i.handler (buildable i accepted) first ms rooms)
