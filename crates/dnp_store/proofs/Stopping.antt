-- Where a list of statements stopped: a refusal of one of them is one of any list about it.
use Rattle.std.proofs.Common.{◌≡◌, ◌⊎◌, ℕ, ◌+◌, ◌<◌, pos, List, [], ◌∷◌, ◌++◌, true, map, drop, length, get_or, IsTrue, Ok, Err, Result, inl, inr, arith, refl, sym, ap, subst, ◌∙◌, append_assoc}
use Rattle.std.proofs.lemmas.List.{drop_more, get_or-map, length-map}
use Rattle.std.specs.Prelude.{IfErr}
use Rattle.std.specs.Borrow.{Bor}
use Rattle.sqlite_trees.specs.declared.store.Store.{Ghosts}
use Rattle.sqlite.specs.declared.types.Value.TheVariants.{Int}
use Rattle.sqlite.specs.Effect.{Database}
use Rattle.sqlite.specs.Held.{Held, state}
use Rattle.sqlite.specs.Order.{Row}
use Rattle.sqlite.specs.State.{State, Executes, ExecutesInside, Survives}
use Rattle.sqlite.specs.declared.error.Error.{Error}
use Rattle.sqlite.specs.Steps.{FailsToCommit}
use Rattle.sqlite.proofs.Callers.{survives_begin}
use Rattle.sqlite.proofs.StateLemmas.{survives_then}
use Rattle.dnp_store.specs.Added.{MakeAll, Statement, making_lanes}
use Rattle.dnp_store.specs.Refusals.{IsStopped, IsUnmade, RefusesOne, asking}
use Rattle.dnp_store.specs.steps.Making.{bare}
use Rattle.dnp_store.proofs.Running.{texts_in}
use Rattle.dnp_store.proofs.Standing.{survives_itself}

-- two lists and what stands before and behind them
two_lists : (first second third last : List Statement) → (first ++ (second ++ third)) ++ last ≡ first ++ (second ++ (third ++ last))
two_lists first second third last =
    append_assoc first (second ++ third) last ∙ ap (λ its. first ++ its) (append_assoc second third last)

module _ {S : Type 0} (g : Ghosts S) where
  -- ---- a list that stands in a longer one

  pub one_first : (first second : List Statement) (db : Database) (old new : State) (e : Error) → RefusesOne g first db old new e
      → RefusesOne g (first ++ second) db old new e
  one_first [] second db old new e refused = absurd refused
  one_first (it ∷ more) second db old new e (inl here) = inl here
  one_first (it ∷ more) second db old new e (inr later) = inr (later.0, later.1, one_first more second later.0 old new e later.2)

  pub one_later : (first second : List Statement) (db mid : Database) (old new : State) (e : Error) → MakeAll g first db mid → RefusesOne g second mid old new e
      → RefusesOne g (first ++ second) db old new e
  one_later [] second db mid old new e ran refused = subst (λ d. RefusesOne g second d old new e) ran refused
  one_later (it ∷ more) second db mid old new e ran refused = inr (ran.0, ran.1, one_later more second ran.0 mid old new e ran.2 refused)

  -- the first of these lists ran
  pub one_behind : (first second third last : List Statement) (db mid : Database) (old new : State) (e : Error) → MakeAll g first db mid
      → RefusesOne g (second ++ (third ++ last)) mid old new e → RefusesOne g ((first ++ (second ++ third)) ++ last) db old new e
  one_behind first second third last db mid old new e ran refused =
      subst (λ its. RefusesOne g its db old new e) (sym (two_lists first second third last))
      (one_later first (second ++ (third ++ last)) db mid old new e ran refused)

  -- ---- what a call tells

  pub stopped_here : (Refused : Database → State → State → Error → Type 0) (old new : Held S) (e : Error) → Refused (state g old).now (state g old) (state g new) e
      → IsStopped g Refused old new e
  stopped_here Refused old new e refused = record {
    before = old;
    after = new;
    early = survives_itself (state g old);
    refused = refused;
    late = survives_itself (state g new);
  }

  -- what came before went well
  pub stopped_after : (One All : Database → State → State → Error → Type 0) (old mid new : Held S) (e : Error) → Survives (state g old) (state g mid) (λ _. ⊥)
      → ((before after : State) → One (state g mid).now before after e → All (state g old).now before after e) → IsStopped g One mid new e
      → IsStopped g All old new e
  stopped_after One All old mid new e survives widens it = record {
    before = it.before;
    after = it.after;
    early = survives_then (state g old) (state g mid) (state g it.before) (λ _. ⊥) (λ _. ⊥) (λ _. ⊥) (λ _ db none. none) (λ _ db none. none) survives it.early;
    refused = widens (state g it.before) (state g it.after) it.refused;
    late = it.late;
  }

  -- nothing did
  pub stopped_as : (One All : Database → State → State → Error → Type 0) (old new : Held S) (e : Error)
      → ((before after : State) → One (state g old).now before after e → All (state g old).now before after e) → IsStopped g One old new e → IsStopped g All old new e
  stopped_as One All old new e = stopped_after One All old old new e (survives_itself (state g old))

  -- so does the last step, if it was refused
  pub stopped_last : (One All : Database → State → State → Error → Type 0) (old mid new : Held S) (r : Result (Unit {0}) Error) → Survives (state g old) (state g mid) (λ _. ⊥)
      → ((before after : State) (e : Error) → One (state g mid).now before after e → All (state g old).now before after e) → IfErr r (IsStopped g One mid new)
      → IfErr r (IsStopped g All old new)
  stopped_last One All old mid new (Ok _) survives widens it = tt
  stopped_last One All old mid new (Err e) survives widens it = stopped_after One All old mid new e survives (λ before after. widens before after e) it

  -- ---- a transaction that makes tables

  -- one of the statements was refused in it, and it rolled back
  pub unmade_inside : (its : List Statement) (old begun mid end last : Held S) (e : Error) → begun ≡ record old { in_transaction = true } → end ≡ last
      → IsStopped g (RefusesOne g (its ++ asking)) begun mid e → Survives (state g mid) (state g end) (λ _. ⊥) → IsUnmade g its old last e
  unmade_inside its old begun mid end last e is same one two = subst (λ h. IsUnmade g its old h e) same (record {
    before = one.before;
    after = one.after;
    early = survives_begin g old (state g one.before) (λ _. ⊥) (subst (λ h. Survives (state g h) (state g one.before) (λ _. ⊥)) is one.early);
    refused = inl (subst (λ h. RefusesOne g (its ++ asking) (state g h).now (state g one.before) (state g one.after) e) is one.refused);
    late = survives_then (state g one.after) (state g mid) (state g end) (λ _. ⊥) (λ _. ⊥) (λ _. ⊥) (λ _ db none. none) (λ _ db none. none) one.late two;
  })

  -- its commit was
  pub unmade_by_commit : (its : List Statement) (old begun mid end last : Held S) (e : Error) → begun ≡ record old { in_transaction = true } → end ≡ last
      → Survives (state g begun) (state g mid) (λ _. ⊥) → MakeAll g its (state g old).now (state g mid).now → IsTrue (state g mid).in_transaction
      → FailsToCommit (state g mid) (state g end) e → IsUnmade g its old last e
  unmade_by_commit its old begun mid end last e is same one made inside fails = subst (λ h. IsUnmade g its old h e) same (record {
    before = mid;
    after = end;
    early = survives_begin g old (state g mid) (λ _. ⊥) (subst (λ h. Survives (state g h) (state g mid) (λ _. ⊥)) is one);
    refused = inr (made, inside, fails);
    late = survives_itself (state g end);
  })

  -- ---- texts one after the other

  -- a refusal of one that is still to come is one of all of them
  abbrev pub StopsOn : List (List ℕ) → List (List ℕ) → Held S → Held S → Type 0
  StopsOn all rest old now = (before after : Held S) (e : Error) → RefusesOne g (map bare rest) (state g now).now (state g before) (state g after) e
      → RefusesOne g (map bare all) (state g old).now (state g before) (state g after) e

  module _ (all : List (List ℕ)) (texts : List (Bor (List ℕ))) (i : ℕ) (d : Bor (List ℕ)) (old now next : Held S) (low : i < length texts)
      (before : StopsOn all (drop i (texts_in texts)) old now) where
    split : drop i (texts_in texts) ≡ (get_or texts i d).now ∷ drop (i + 1) (texts_in texts)
    split =
        let mapped = texts_in texts in
        let long : i < length mapped = omega (arith, low, length-map texts (λ (t : Bor (List ℕ)). t.now)) in
        let here : get_or mapped i [] ≡ (get_or texts i d).now = get_or-map (λ (t : Bor (List ℕ)). t.now) texts i d [] low in
        drop_more mapped i [] long ∙ ap (λ (text : List ℕ). text ∷ drop (i + 1) mapped) here

    -- the next one ran, or was refused
    pub text_ran : (count : ℕ) × Executes (get_or texts i d).now [] (state g now) (state g next) (Ok count) → StopsOn all (drop (i + 1) (texts_in texts)) old next
    text_ran ran first last e rest =
        before first last e (subst (λ (xs : List (List ℕ)). RefusesOne g (map bare xs) (state g now).now (state g first) (state g last) e) (sym split)
        (inr ((state g next).now, (now, next, ran.0, refl, refl, ran.1), rest)))

    pub text_refused : (e : Error) → IsTrue (state g now).in_transaction × ExecutesInside 0 (get_or texts i d).now [] (state g now) (state g next) (Err e)
        → RefusesOne g (map bare all) (state g old).now (state g now) (state g next) e
    text_refused e refused =
        before now next e (subst (λ (xs : List (List ℕ)). RefusesOne g (map bare xs) (state g now).now (state g now) (state g next) e) (sym split)
        (inl (refl, refused.0, refused.1)))

  -- ---- lanes one after the other

  -- a refusal of one that is still to come is one of all of them
  abbrev pub StopsLanes : List ℕ → List ℕ → ℕ → Database → Database → Type 0
  StopsLanes text all number old now = (before after : Held S) (e : Error)
      → RefusesOne g (making_lanes text number (drop number all)) now (state g before) (state g after) e
      → RefusesOne g (making_lanes text 0 all) old (state g before) (state g after) e

  module _ (text all : List ℕ) (number : ℕ) (old : Database) (now next : Held S) (low : number < length all)
      (before : StopsLanes text all number old (state g now).now) where
    pub lane_ran : (count : ℕ) → Executes text (Int (pos number) ∷ Int (pos (get_or all number 0)) ∷ []) (state g now) (state g next) (Ok count)
        → StopsLanes text all (number + 1) old (state g next).now
    lane_ran count ran first last e rest =
        before first last e (subst (λ xs. RefusesOne g (making_lanes text number xs) (state g now).now (state g first) (state g last) e) (sym (drop_more all number 0 low))
        (inr ((state g next).now, (now, next, count, refl, refl, ran), rest)))

    pub lane_refused : (params : Row) (e : Error) → params ≡ Int (pos number) ∷ Int (pos (get_or all number 0)) ∷ [] → IsTrue (state g now).in_transaction
        → ExecutesInside 0 text params (state g now) (state g next) (Err e) → RefusesOne g (making_lanes text 0 all) old (state g now) (state g next) e
    lane_refused params e given inside refused =
        before now next e
        (subst (λ xs. RefusesOne g (making_lanes text number xs) (state g now).now (state g now) (state g next) e) (sym (drop_more all number 0 low))
        (inl (refl, inside, subst (λ ps. ExecutesInside 0 text ps (state g now) (state g next) (Err e)) given refused)))
