-- Two machines that keep a relation answer alike; steps that go as a machine does run as it does.
-- Rests on base Lists, specs Machines.
use mathlib.Core.Path.{◌≡◌, refl, sym, ap, ap₂, ◌∙◌}
use mathlib.Core.Logic.{◌≢◌, ◌↔◌}
use mathlib.Core.List.{List, [], ◌∷◌, ◌++◌, map, Memᴰ}
use mathlib.Core.Option.{Option, some, none}
use Prim.Native.Nat.{ℕ, ◌+◌}
use Rattle.base.specs.Lists.{chosen}
use Rattle.theory.specs.Machines.{End, going, exit, diverted, Reply, Machine, taken, reply_at, reply, step_cycles, answers, final, shown, cycles}
use Rattle.theory.specs.Machines.{Unchanged}

module _ {S X U Y : Type 0} (m : Machine S X) (n : Machine U Y) (R : S → U → Type 0) where
  -- two targets are answered alike
  pub data Alike (s : S) (u : U) : Option X → Option Y → Type 0 where
    neither : Alike s u none none
    both : {x : X} {y : Y} → R (m.take s x) (n.take u y) → Alike s u (some x) (some y)

  pub record Keeps : Type 0 where
    pub stand : (s : S) (u : U) → R s u → m.stands s ≡ n.stands u
    pub move : (s : S) (u : U) → R s u → m.stands s ≡ going → (k : ℕ) → Alike s u (chosen (m.targets s) k) (chosen (n.targets u) k)

  pub record Agree (s : S) (u : U) (r : Reply S) (q : Reply U) : Type 0 where
    pub answer : r.answer ≡ q.answer
    pub after : R r.after q.after

  module _ (K : Keeps) where
    pub agree : (s : S) (u : U) → R s u → (k : ℕ) → Agree s u (reply m s k) (reply n u k)
    unfolding reply reply_at taken
    agree s u h k = rw (← K.stand s u h) (go (m.stands s) refl)
      where
        pair : (o : Option X) (p : Option Y) → Alike s u o p → Agree s u (taken m s o) (taken n u p)
        pair none none neither = record { answer = refl; after = h }
        pair none (some y) a = elim a [ ]
        pair (some x) none a = elim a [ ]
        pair (some x) (some y) (both q) = record { answer = refl; after = q }

        go : (e : End) → m.stands s ≡ e → Agree s u (reply_at m e s k) (reply_at n e u k)
        go going p = pair (chosen (m.targets s) k) (chosen (n.targets u) k) (K.move s u h p k)
        go exit p = record { answer = refl; after = h }
        go diverted p = record { answer = refl; after = h }

    pub agree-all : (ks : List ℕ) (s : S) (u : U) → R s u
        → (answers (reply m) s ks ≡ answers (reply n) u ks) × R (final (reply m) s ks) (final (reply n) u ks)
    unfolding answers final
    agree-all [] s u h = (refl, h)
    agree-all (k ∷ ks) s u h =
        let a = agree s u h k in
        let r = agree-all ks (reply m s k).after (reply n u k).after a.after in
        (ap₂ (λ x xs. x ∷ xs) a.answer r.0, r.1)

-- what every taken target keeps holds at the end of a run
module _ {S X : Type 0} (m : Machine S X) (P : S → Type 0)
    (kept : (s : S) → P s → m.stands s ≡ going → (k : ℕ) (x : X) → chosen (m.targets s) k ≡ some x → P (m.take s x)) where
  pub keeps : (s : S) → P s → (k : ℕ) → P (reply m s k).after
  unfolding reply reply_at taken
  keeps s h k = go (m.stands s) refl
    where
      pair : m.stands s ≡ going → (o : Option X) → chosen (m.targets s) k ≡ o → P (taken m s o).after
      pair g none e = h
      pair g (some x) e = kept s h g k x e

      go : (e : End) → m.stands s ≡ e → P (reply_at m e s k).after
      go going p = pair p (chosen (m.targets s) k) refl
      go exit p = h
      go diverted p = h

  pub keeps-all : (ks : List ℕ) (s : S) → P s → P (final (reply m) s ks)
  unfolding final
  keeps-all [] s h = h
  keeps-all (k ∷ ks) s h = keeps-all ks (reply m s k).after (keeps s h k)

pub reply-going : {S X : Type 0} (m : Machine S X) (s : S) (k : ℕ) → m.stands s ≡ going → reply m s k ≡ taken m s (chosen (m.targets s) k)
unfolding reply reply_at
reply-going {S} m s k e = ap (λ (x : End). reply_at m x s k) e

-- the blocks shown are equal too
module _ {S X U Y : Type 0} (m : Machine S X) (n : Machine U Y) (R : S → U → Type 0) (K : Keeps m n R) (view : S → ℕ) (look : U → ℕ)
    (alike : (s : S) (u : U) → R s u → view s ≡ look u) where
  pub shown-all : (ks : List ℕ) (s : S) (u : U) → R s u → shown (reply m) view s ks ≡ shown (reply n) look u ks
  unfolding shown
  shown-all [] s u h = ap (λ (x : ℕ). x ∷ []) (alike s u h)
  shown-all (k ∷ ks) s u h =
      let a = agree m n R K s u h k in
      ap₂ (λ x xs. x ∷ xs) (alike s u h) (shown-all ks (reply m s k).after (reply n u k).after a.after)

  -- and so are the cycles
  pub cycles-all : (cost : ℕ → ℕ) (ks : List ℕ) (s : S) (u : U) → R s u
      → cycles (reply m) cost view m.stands s ks ≡ cycles (reply n) cost look n.stands u ks
  unfolding cycles
  cycles-all cost [] s u h = refl
  cycles-all cost (k ∷ ks) s u h =
      let a = agree m n R K s u h k in
      ap₂ (λ (x y : ℕ). x + y)
      (λ i. step_cycles cost (a.answer i) (K.stand _ _ a.after i) (alike _ _ a.after i))
      (cycles-all cost ks (reply m s k).after (reply n u k).after a.after)

-- a machine that has ended stays
pub stays : {S X : Type 0} (m : Machine S X) (s : S) → m.stands s ≢ going → (ks : List ℕ) → final (reply m) s ks ≡ s
unfolding final reply reply_at
stays m s n [] = refl
stays {S} m s n (k ∷ ks) = ap (λ (x : S). final (reply m) x ks) (one (m.stands s) refl) ∙ stays m s n ks
  where
    one : (e : End) → m.stands s ≡ e → (reply m s k).after ≡ s
    one going p = absurd (n p)
    one exit p = ap (λ (x : End). (reply_at m x s k).after) p
    one diverted p = ap (λ (x : End). (reply_at m x s k).after) p

-- a list after another
pub final-append : {S I : Type 0} (step : S → I → Reply S) (is js : List I) (s : S)
    → final step s (is ++ js) ≡ final step (final step s is) js
unfolding final
final-append step [] js s = refl
final-append step (i ∷ is) js s = final-append step is js (step s i).after

-- steps on a form run as steps on what it is made from, over another list
pub record RunsAs {S T I J : Type 0} (form : S → T) (call : T → I → Reply T) (step : S → J → Reply S) (s : S) (is : List I) (js : List J) : Type 0 where
  pub answer : answers call (form s) is ≡ answers step s js
  pub last : final call (form s) is ≡ form (final step s js)
  pub show : (view : T → ℕ) → shown call view (form s) is ≡ shown step (λ s. view (form s)) s js
  pub spend : (cost : ℕ → ℕ) (view : T → ℕ) (stands : T → End)
      → cycles call cost view stands (form s) is ≡ cycles step cost (λ s. view (form s)) (λ s. stands (form s)) s js

pub unchanged-as : {S T I : Type 0} {form : S → T} {call : T → I → Reply T} {step : S → I → Reply S} {s : S} {is : List I}
    → RunsAs form call step s is is
    → (view : T → ℕ) (stands : T → End) (bs : List ℕ)
    → Unchanged step (λ s. view (form s)) (λ s. stands (form s)) s is bs ↔ Unchanged call view stands (form s) is bs
unchanged-as {S} r view stands bs = (
  λ u. record { answer = r.answer ∙ u.answer; blocks = r.show view ∙ u.blocks; end = ap stands r.last ∙ u.end },
  λ u. record { answer = sym r.answer ∙ u.answer; blocks = sym (r.show view) ∙ u.blocks; end = sym (ap stands r.last) ∙ u.end },
)

-- a reply in a form
abbrev pub formed : {S T : Type 0} → (S → T) → Reply S → Reply T
formed form r = record { answer = r.answer; after = form r.after }

-- steps that answer as a machine does, wherever an invariant P holds and the input passes Q, run as the machine does
module _ {S T X I : Type 0} (m : Machine S X) (form : S → T) (call : T → I → Reply T) (choice : I → ℕ) (P : S → Type 0) (Q : I → Type 0)
    (kept : (s : S) → P s → m.stands s ≡ going → (k : ℕ) (x : X) → chosen (m.targets s) k ≡ some x → P (m.take s x))
    (same : (s : S) → P s → (i : I) → Q i → call (form s) i ≡ formed form (reply m s (choice i))) where
  pub runs_as : (is : List I) → ((i : I) → Memᴰ i is → Q i) → (s : S) → P s → RunsAs form call (reply m) s is (map choice is)
  unfolding answers final shown cycles
  runs_as [] q s h = record { answer = refl; last = refl; show = λ view. refl; spend = λ cost view stands. refl }
  runs_as (i ∷ is) q s h =
      let e = same s h i (q i (Memᴰ.head refl)) in
      let r = runs_as is (λ j n. q j (Memᴰ.tail n)) (reply m s (choice i)).after (keeps m P kept s h (choice i)) in
      record {
        answer = ap₂ (λ x xs. x ∷ xs) (ap (λ (z : Reply T). z.answer) e) (ap (λ (z : Reply T). answers call z.after is) e ∙ r.answer);
        last = ap (λ (z : Reply T). final call z.after is) e ∙ r.last;
        show = λ view. ap (λ xs. view (form s) ∷ xs) (ap (λ (z : Reply T). shown call view z.after is) e ∙ r.show view);
        spend = λ cost view stands.
            ap₂ (λ (x y : ℕ). x + y)
            (ap (λ (z : Reply T). step_cycles cost z.answer (stands z.after) (view z.after)) e)
            (ap (λ (z : Reply T). cycles call cost view stands z.after is) e ∙ r.spend cost view stands);
      }

-- STEPS ON A FORM that go as steps on what it stands for run as they do
pub record SameStep {S U : Type 0} (form : S → U) (r : Reply S) (q : Reply U) : Type 0 where
  pub answer : r.answer ≡ q.answer
  pub after : form r.after ≡ q.after

module _ {S U I : Type 0} (form : S → U) (step : S → I → Reply S) (call : U → I → Reply U)
    (same : (s : S) (i : I) → SameStep form (step s i) (call (form s) i)) where
  pub answers-as : (is : List I) (s : S) → answers step s is ≡ answers call (form s) is
  unfolding answers
  answers-as [] s = refl
  answers-as (i ∷ is) s =
      let e = same s i in
      ap₂ (λ x xs. x ∷ xs) e.answer
      (answers-as is (step s i).after ∙ ap (λ (z : U). answers call z is) e.after)

  pub final-as : (is : List I) (s : S) → form (final step s is) ≡ final call (form s) is
  unfolding final
  final-as [] s = refl
  final-as (i ∷ is) s = final-as is (step s i).after ∙ ap (λ (z : U). final call z is) (same s i).after

  pub shown-as : (view : U → ℕ) (is : List I) (s : S) → shown step (λ s. view (form s)) s is ≡ shown call view (form s) is
  unfolding shown
  shown-as view [] s = refl
  shown-as view (i ∷ is) s =
      ap (λ (xs : List ℕ). view (form s) ∷ xs)
      (shown-as view is (step s i).after ∙ ap (λ (z : U). shown call view z is) (same s i).after)

  pub cycles-as : (cost : ℕ → ℕ) (view : U → ℕ) (stands : U → End) (is : List I) (s : S)
      → cycles step cost (λ s. view (form s)) (λ s. stands (form s)) s is ≡ cycles call cost view stands (form s) is
  unfolding cycles
  cycles-as cost view stands [] s = refl
  cycles-as cost view stands (i ∷ is) s =
      let e = same s i in
      ap₂ (λ (x y : ℕ). x + y)
      (λ j. step_cycles cost (e.answer j) (stands (e.after j)) (view (e.after j)))
      (cycles-as cost view stands is (step s i).after ∙ ap (λ (z : U). cycles call cost view stands z is) e.after)

  pub unchanged-form : (view : U → ℕ) (stands : U → End) (s : S) (is : List I) (bs : List ℕ)
      → Unchanged step (λ s. view (form s)) (λ s. stands (form s)) s is bs ↔ Unchanged call view stands (form s) is bs
  unchanged-form view stands s is bs =
      let a = answers-as is s in
      let v = shown-as view is s in
      let f = ap stands (final-as is s) in (
        λ u. record { answer = sym a ∙ u.answer; blocks = sym v ∙ u.blocks; end = sym f ∙ u.end },
        λ u. record { answer = a ∙ u.answer; blocks = v ∙ u.blocks; end = f ∙ u.end },
      )
