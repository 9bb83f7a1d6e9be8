-- How a store begins: what each way out of such a call leaves.
use Rattle.std.proofs.Common.{◌≡◌, ◌↔◌, List, cond, Bool, true, false, Ok, Err, Result, IsTrue, inl, inr, arith, refl, sym, subst, ◌∙◌}
use Rattle.std.specs.Prelude.{◌≢◌, IfErr, IfOk, IsOk, OnErr, OnOk}
use Rattle.sqlite_trees.specs.declared.store.Store.{Ghosts}
use Rattle.sqlite.specs.Held.{Held, state}
use Rattle.sqlite.specs.State.{State, HasCleanDisk, Survives}
use Rattle.sqlite.specs.Effect.{Database}
use Rattle.sqlite.specs.Tree.{Trees}
use Rattle.sqlite.specs.declared.error.Error.{Error}
use Rattle.dnp_store.specs.declared.fault.Unread.{Unread}
use Rattle.dnp_store.specs.declared.open.OpenFault.{OpenFault}
use Rattle.dnp_store.specs.declared.open.OpenFault.TheVariants.{Device, Memory, OldForm, WrongForm}
use Rattle.dnp_store.specs.Added.{LeavesMade, MakeAll, Statement}
use Rattle.dnp_store.specs.Refusals.{IsUnmade}
use Rattle.dnp_store.specs.steps.Beginning.{Begins, IsFound, IsMade, IsServed, IsTold, TellsTaken}
use Rattle.dnp_store.specs.Tables.{no_schema}
use Rattle.dnp_store.proofs.Statements.{survives_on}
use Rattle.dnp_store.proofs.Standing.{survives_itself}
use Rattle.dnp_store.proofs.Refusing.{same_err}
use Rattle.dnp_store.proofs.Outcomes.{at_ok}

idle_not : (b : Bool) → b ≡ false → IsTrue b → ⊥
idle_not true is so = absurd (let no = is in cc)
idle_not false is so = absurd (let no = so in cc)

ok_of : (X : Type 0) (r : Result (Unit {0}) Error) → IsOk r → OnOk r X → X
ok_of X (Ok _) is h = h
ok_of X (Err e) is h = absurd cc

-- ---- each way out

module _ {S A : Type 0} (g : Ghosts S) (Makes : Trees → Type 0) where
  -- inside a transaction
  pub begins_inside : (old : Held S) → IsTrue old.in_transaction → Begins {A = A} g Makes old old (Err WrongForm)
  begins_inside old inside = record {
    inside = λ _. (refl, refl);
    kept = refl;
    idle = tt;
    same = λ clean opened. refl;
    survives = survives_itself (state g old);
  }

  -- where nothing was done yet
  pub begins_before : (old : Held S) (fault : OpenFault) → old.in_transaction ≡ false → Begins {A = A} g Makes old old (Err fault)
  begins_before old fault idle = record {
    inside = λ inside. absurd (idle_not old.in_transaction idle inside);
    kept = refl;
    idle = tt;
    same = λ clean opened. refl;
    survives = survives_itself (state g old);
  }

  pub begins_refused : (old new : Held S) (fault : OpenFault) → old.in_transaction ≡ false → new.in_transaction ≡ false
      → (HasCleanDisk (state g new) → IsTrue (state g new).is_open → (state g new).committed ≡ (state g old).committed)
      → Survives (state g old) (state g new) Makes → Begins {A = A} g Makes old new (Err fault)
  begins_refused old new fault idle late same survives = record {
    inside = λ inside. absurd (idle_not old.in_transaction idle inside);
    kept = late ∙ sym idle;
    idle = tt;
    same = same;
    survives = survives;
  }

  pub begins_well : (old new : Held S) (found : A) → old.in_transaction ≡ false → new.in_transaction ≡ false → Survives (state g old) (state g new) Makes
      → Begins g Makes old new (Ok found)
  begins_well old new found idle late survives = record {
    inside = λ inside. absurd (idle_not old.in_transaction idle inside);
    kept = late ∙ sym idle;
    idle = late;
    same = λ clean opened. tt;
    survives = survives;
  }

-- ---- where a store was found

module _ {S A : Type 0} (g : Ghosts S) (Finds : Database → State → A → Type 0) where
  pub found_inside : (old : Held S) → IsTrue old.in_transaction → IsFound g Finds old old (Err WrongForm)
  found_inside old inside = record {
    begins = begins_inside g _ old inside;
    current = λ is. absurd (let no = is in cc);
    found = λ clean. tt;
  }

  pub found_read : (old mid new : Held S) (P : Database → A → Type 0) (read : Result A Unread) (result : Result A OpenFault) → old.in_transaction ≡ false
      → (HasCleanDisk (state g mid) → IsTrue (state g mid).is_open → IsTrue (state g old).is_open × ((state g mid).committed ≡ (state g old).committed))
      → (HasCleanDisk (state g mid) → IfOk read (P (state g old).committed)) → Survives (state g old) (state g mid) (λ _. ⊥)
      → ((found : A) → IsTrue (state g new).is_open → (state g new).committed ≡ (state g old).committed → P (state g old).committed found
      → Finds (state g old).committed (state g new) found)
      → IsServed g mid new read result → IsFound g Finds old new result
  found_read old mid new P read (Ok found) idle same reads first makes served = record {
    begins = begins_well g _ old new found idle served.idle (survives_on (state g old) (state g mid) (state g new) _ first served.survives);
    current = tt;
    found = λ clean.
        let early : HasCleanDisk (state g mid) = omega (arith, clean, served.survives.clean) in
        let is_open = served.opened clean in
        let late = served.same clean is_open in
        makes found is_open (late.1 ∙ (same early late.0).1) (at_ok (P (state g old).committed) read found served.handed (reads early));
  }
  found_read old mid new P read (Err fault) idle same reads first makes served = record {
    begins = begins_refused g _ old new fault idle served.idle
        (λ clean opened.
        let early : HasCleanDisk (state g mid) = omega (arith, clean, served.survives.clean) in
        let late = served.same clean opened in
        late.1 ∙ (same early late.0).1)
        (survives_on (state g old) (state g mid) (state g new) _ first served.survives);
    current = served.current;
    found = λ clean. tt;
  }

-- ---- where tables are made

module _ {S A : Type 0} (g : Ghosts S) (its : List Statement) (Fresh : Trees → Type 0) (Made : State → Type 0) (owned : A → Bool) where
  pub made_inside : (old : Held S) → IsTrue old.in_transaction → IsMade g its Fresh Made owned old old (Err WrongForm)
  made_inside old inside = record {
    begins = begins_inside g _ old inside;
    added = λ clean. tt;
    alone = tt;
    made = λ clean bare. tt;
    device = λ clean told. absurd (let no = told in cc);
    taken = λ clean told. inl inside;
    current = λ is. absurd (let no = is in cc);
  }

  pub made_memory : (old : Held S) → old.in_transaction ≡ false → IsMade g its Fresh Made owned old old (Err Memory)
  made_memory old idle = record {
    begins = begins_before g _ old Memory idle;
    added = λ clean. tt;
    alone = tt;
    made = λ clean bare. tt;
    device = λ clean told. absurd (let no = told in cc);
    taken = λ clean told. absurd (let no = told in cc);
    current = λ is. absurd (let no = is in cc);
  }

  module _ (old mid new : Held S) (done : Result (Unit {0}) Error) (idle : old.in_transaction ≡ false)
      (err : HasCleanDisk (state g mid) → IsTrue (state g mid).is_open
      → OnErr done (IsTrue (state g old).is_open × ((state g mid).committed ≡ (state g old).committed)))
      (refused : HasCleanDisk (state g mid) → IfErr done (IsUnmade g its old mid))
      (made : Survives (state g old) (state g mid) (LeavesMade g its Fresh (state g old).now)) where
    pub made_not : (told : Result (Unit {0}) OpenFault) (fault : OpenFault) → told ≡ Err fault → IsTold g mid new done told → TellsTaken done told
        → IsMade g its Fresh Made owned old new (Err fault)
    made_not (Ok _) fault is told free = absurd cc
    made_not (Err f) fault is told free = subst (λ x. IsMade g its Fresh Made owned old new (Err x)) (same_err is) (record {
      begins = begins_refused g _ old new f idle told.idle
          (λ clean opened.
          let back = told.same clean opened in
          back.1 ∙ (on_err (err (early clean) back.0)).1)
          (survives_on (state g old) (state g mid) (state g new) _ made told.survives);
      added = λ clean. tt;
      alone = tt;
      made = λ clean bare. tt;
      device = λ clean is_device. record {
        between = mid;
        error = told.err.error;
        unmade = if_err (refused (early clean));
        free = free (same_err is_device) told.err.error told.err.failed;
        lost = told.err.lost clean (same_err is_device);
      };
      taken = λ clean is_wrong. inr (record {
        between = mid;
        error = told.err.error;
        unmade = if_err (refused (early clean));
        taken = told.err.taken (same_err is_wrong);
        late = told.survives;
      });
      current = told.err.current;
    })
      where
        early : HasCleanDisk (state g new) → HasCleanDisk (state g mid)
        early clean = omega (arith, clean, told.survives.clean)

        on_err : {X : Type 0} → OnErr done X → X
        on_err {X} h = subst (λ r. OnErr r X) told.err.failed h

        if_err : IfErr done (IsUnmade g its old mid) → IsUnmade g its old mid told.err.error
        if_err h = subst (λ r. IfErr r (IsUnmade g its old mid)) told.err.failed h

    pub made_well : (found : A) → (IsTrue (owned found) ↔ ((state g old).now.schema ≡ no_schema)) → IsTold g mid new done (Ok tt)
        → (HasCleanDisk (state g mid) → OnOk done (MakeAll g its (state g old).now (state g mid).committed))
        → (HasCleanDisk (state g mid) → (state g old).now.schema ≡ no_schema → OnOk done (Made (state g mid))) → IsMade g its Fresh Made owned old new (Ok found)
    made_well found alone told adds makes = subst (λ h. IsMade g its Fresh Made owned old h (Ok found)) (sym told.ok.1) (record {
      begins = begins_well g _ old mid found idle (subst (λ h. h.in_transaction ≡ false) told.ok.1 told.idle) made;
      added = λ clean. ok_of _ done told.ok.0 (adds clean);
      alone = alone;
      made = λ clean bare. ok_of _ done told.ok.0 (makes clean bare);
      device = λ clean is. absurd (let no = is in cc);
      taken = λ clean is. absurd (let no = is in cc);
      current = tt;
    })

-- who tells why tables were not made doesn't say that they are of an old form
pub not_old : (wrong lost : Bool) (f : OpenFault) → f ≡ cond wrong WrongForm (cond lost Device Memory) → f ≡ OldForm → ⊥
not_old true lost f is old = absurd cc
not_old false true f is old = absurd cc
not_old false false f is old = absurd cc

-- nor is it told as Device that a name is taken
pub not_device : (wrong lost : Bool) (f : OpenFault) → f ≡ cond wrong WrongForm (cond lost Device Memory) → f ≡ Device → wrong ≡ false
not_device true lost f is told = absurd cc
not_device false lost f is told = refl

-- ---- what follows of what was told

module _ {S : Type 0} (g : Ghosts S) (old mid new : Held S) (done : Result (Unit {0}) Error) where
  pub told_ok : (P : Held S → Type 0) (told : Result (Unit {0}) OpenFault) → IsTold g mid new done told
      → (HasCleanDisk (state g mid) → OnOk done (P mid)) → HasCleanDisk (state g new) → OnOk told (P new)
  told_ok P (Ok _) is h clean =
      let early : HasCleanDisk (state g mid) = omega (arith, clean, is.survives.clean) in
      subst P (sym is.ok.1) (ok_of _ done is.ok.0 (h early))
  told_ok P (Err f) is h clean = tt

  pub told_current : (told : Result (Unit {0}) OpenFault) → IsTold g mid new done told → IfErr told (λ fault. fault ≢ OldForm)
  told_current (Ok _) is = tt
  told_current (Err f) is = is.err.current

  pub told_err : (told : Result (Unit {0}) OpenFault) → IsTold g mid new done told
      → (HasCleanDisk (state g mid) → IsTrue (state g mid).is_open
      → OnErr done (IsTrue (state g old).is_open × ((state g mid).committed ≡ (state g old).committed)))
      → HasCleanDisk (state g new) → IsTrue (state g new).is_open
      → OnErr told (IsTrue (state g old).is_open × ((state g new).committed ≡ (state g old).committed))
  told_err (Ok _) is h clean opened = tt
  told_err (Err f) is h clean opened =
      let early : HasCleanDisk (state g mid) = omega (arith, clean, is.survives.clean) in
      let back = is.same clean opened in
      let was = on_err (h early back.0) in
      (was.0, back.1 ∙ was.1)
    where
      on_err : {X : Type 0} → OnErr done X → X
      on_err {X} e = subst (λ r. OnErr r X) is.err.failed e

-- ---- what a call that begins a store hands on

module _ {S A : Type 0} (g : Ghosts S) (Makes : Trees → Type 0) (old new : Held S) where
  pub inside_not : (found : A) → Begins g Makes old new (Ok found) → IsTrue old.in_transaction → ⊥
  inside_not found begins inside = absurd (let no = (begins.inside inside).0 in cc)

  pub inside_wrong : (fault : OpenFault) → Begins {A = A} g Makes old new (Err fault) → IsTrue old.in_transaction → (fault ≡ WrongForm) × (new ≡ old)
  inside_wrong fault begins inside = let h = begins.inside inside in (same_err h.0, h.1)

pub no_fault : {A : Type 0} (found : A) (fault : OpenFault) → ◌≡◌ {A = Result A OpenFault} (Ok found) (Err fault) → ⊥
no_fault found fault is = cc
