-- What a call that writes does to its store's database, way out by way out.
use Rattle.std.proofs.Common.{◌≡◌, ◌⊎◌, arith, Bool, false, true, ap, inl, inr, IsTrue, Ok, Err, Result, refl, subst, sym, ◌∙◌}
use Rattle.std.specs.Prelude.{IsErr, IsErrAnd}
use Rattle.sqlite_trees.specs.declared.store.Store.{Ghosts}
use Rattle.sqlite.specs.Effect.{Database}
use Rattle.sqlite.specs.Held.{Held, state}
use Rattle.sqlite.specs.State.{State, HasCleanDisk, Survives}
use Rattle.sqlite.specs.Tree.{Trees}
use Rattle.sqlite.specs.declared.error.Error.{Error}
use Rattle.dnp_store.specs.declared.store_kind.StoreKind.{StoreKind}
use Rattle.dnp_store.specs.Commits.{LeavesAs, StandsAs}
use Rattle.dnp_store.specs.Faults.{RefusesNothing, is_memory}
use Rattle.dnp_store.specs.Refusals.{IsRefused}
use Rattle.dnp_store.specs.steps.Writing.{IsWritten}
use Rattle.dnp_store.proofs.Refusing.{same_err}
use Rattle.dnp_store.proofs.Statements.{leaves_committed, leaves_either}

-- what an open connection may leave is its last commit
abbrev pub Settled : State → Type 0
Settled s = (db : Trees) → IsTrue s.is_open → s.may_leave db → db ≡ s.committed.trees

-- where a call failed and the store is not lost, what stood stands
pub standing_still : {X : Type 0} (Is : Database → X → Type 0) (old mid new : State) (x : X) → IsTrue new.is_open
    → (IsTrue new.is_open → IsTrue mid.is_open × (new.committed ≡ mid.committed))
    → (IsTrue mid.is_open → IsTrue old.is_open × (mid.committed ≡ old.committed)) → StandsAs Is old x → StandsAs Is new x
standing_still Is old mid new x is_open late early stood =
    let two = late is_open in
    let one = early two.0 in
    record { is_open = is_open; holds = subst (λ d. Is d x) (sym (two.1 ∙ one.1)) stood.holds }

-- which fault it is tells whether the store is lost
told_lost : {E : Type 0} (device f : E) (lost : Bool) → (lost ≡ false → f ≡ device → ⊥) → f ≡ device → lost ≡ true
told_lost device f true serves told = refl
told_lost device f false serves told = absurd (serves refl told)

not_lost : {E : Type 0} (device f : E) (lost : Bool) → (IsTrue lost → f ≡ device) → (f ≡ device → ⊥) → lost ≡ false
not_lost device f true stops other = absurd (other (stops refl))
not_lost device f false stops other = refl

pub leaves_now : {X : Type 0} (Is : Database → X → Type 0) (Holds : Trees → X → Type 0) → ((db : Database) (x : X) → Is db x → Holds db.trees x) → (s : State) (x : X)
    → Settled s → StandsAs Is s x → LeavesAs Holds s x
leaves_now Is Holds holding s x settled stands = leaves_committed s (λ db. Holds db x) settled stands.is_open (holding s.committed x stands.holds)

module _ {S A E X I : Type 0} (g : Ghosts S) (kind : StoreKind) (device : E) (Is : Database → X → Type 0) (Holds : Trees → X → Type 0)
    (holding : (db : Database) (x : X) → Is db x → Holds db.trees x) (before next : I → X) where
  -- a refusal before anything was written
  pub refused_first : (conn : Held S) (f : E) → (f ≡ device → ⊥) → Settled (state g conn) → conn.in_transaction ≡ false
      → IsWritten {A = A} g kind device Is Holds before next before conn conn (Err f)
  refused_first conn f other settled idle = record {
    idle = idle;
    limit = refl;
    clean = λ clean. clean;
    stands = λ _ i stood _. stood;
    either = λ _ i stood db may. inl (leaves_now Is Holds holding (state g conn) (before i) settled stood db may);
    after = λ _ _ _. tt;
    device = λ _ told. absurd (other (same_err told));
  }

  -- and what `?` hands on of one
  pub refused_too : (conn : Held S) (e : E) (r : Result A E) → IsErr r × IsErrAnd r (λ f. f ≡ e) → (e ≡ device → ⊥) → Settled (state g conn)
      → conn.in_transaction ≡ false → IsWritten g kind device Is Holds before next before conn conn r
  refused_too conn e (Ok a) is other settled idle = absurd (let no = is.0 in cc)
  refused_too conn e (Err f) is other settled idle = refused_first conn f (λ told. other (sym is.1 ∙ told)) settled idle

  -- what was to be written was refused, and the connection was asked whether it still serves
  pub refused_write : (old mid new : Held S) (P : Trees → Type 0) (lost : Bool) (f : E) (e : Error) → Settled (state g old)
      → ((i : I) → StandsAs Is (state g old) (before i) → (db : Trees) → P db → Holds db (next i)) → Survives (state g old) (state g mid) P
      → (HasCleanDisk (state g mid) → IsTrue (state g mid).is_open
      → IsTrue (state g old).is_open × ((state g mid).committed ≡ (state g old).committed))
      → (HasCleanDisk (state g mid) → IsRefused g kind old mid e) → Survives (state g mid) (state g new) (λ _. ⊥) → new.in_transaction ≡ false
      → (HasCleanDisk (state g new) → IsTrue (state g new).is_open
      → IsTrue (state g mid).is_open × ((state g new).committed ≡ (state g mid).committed))
      → (HasCleanDisk (state g new) → lost ≡ false → IsTrue (state g new).is_open)
      → (HasCleanDisk (state g new) → IsTrue lost → (is_memory e ≡ false) ⊎ RefusesNothing (state g mid) (state g new))
      → (IsTrue lost → f ≡ device) → (lost ≡ false → f ≡ device → ⊥) → IsWritten {A = A} g kind device Is Holds before next before old new (Err f)
  refused_write old mid new P lost f e settled commits first kept refused late idle same opens loses stops serves =
      let early : HasCleanDisk (state g new) → HasCleanDisk (state g mid) = λ clean. omega (arith, clean, late.clean) in
      record {
        idle = idle;
        limit = late.limit ∙ first.limit;
        clean = λ clean. (let now = early clean in omega (arith, now, first.clean));
        stands = λ clean i stood other.
            standing_still Is (state g old) (state g mid) (state g new) (before i) (opens clean (not_lost device f lost stops (λ is. other (ap Err is))))
            (same clean) (kept (early clean)) stood;
        either = λ clean i stood.
            leaves_either (state g old) (state g mid) (state g new) (λ db. Holds db (before i)) (λ db. Holds db (next i)) P (commits i stood) clean (early clean)
            settled stood.is_open (holding (state g old).committed (before i) stood.holds) first late;
        after = λ _ _ _. tt;
        device = λ clean told.
            record { between = mid; error = e; refused = refused (early clean); lost = loses clean (told_lost device f lost serves (same_err told)) };
      }

  -- it was written
  pub was_written : (now : I → X) (old new : Held S) (P : Trees → Type 0) (answer : A) → Settled (state g new) → ((i : I) → next i ≡ now i)
      → new.in_transaction ≡ false → Survives (state g old) (state g new) P
      → (HasCleanDisk (state g new) → (i : I) → StandsAs Is (state g old) (before i) → StandsAs Is (state g new) (next i))
      → IsWritten g kind device Is Holds before next now old new (Ok answer)
  was_written now old new P answer settled is idle survives did = record {
    idle = idle;
    limit = survives.limit;
    clean = λ clean. omega (arith, clean, survives.clean);
    stands = λ clean i stood _. subst (StandsAs Is (state g new)) (is i) (did clean i stood);
    either = λ clean i stood db may. inr (leaves_now Is Holds holding (state g new) (next i) settled (did clean i stood) db may);
    after = λ clean i stood. subst (LeavesAs Holds (state g new)) (is i) (leaves_now Is Holds holding (state g new) (next i) settled (did clean i stood));
    device = λ _ told. absurd cc;
  }
