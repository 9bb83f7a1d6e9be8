-- How a transaction ends: it is undone, or committed, or not committed after all.
use Rattle.std.proofs.Common.{◌≡◌, ◌⊎◌, ◌++◌, List, true, false, Ok, Err, Result, IsTrue, inl, inr, refl, sym, arith, subst, ◌∙◌}
use Rattle.std.specs.Borrow.{MutBor}
use Rattle.std.specs.Prelude.{IfErr, IsOk, OnErr, OnOk}
use Rattle.sqlite_trees.specs.declared.store.Store.{Ghosts}
use Rattle.sqlite.specs.declared.error.Error.{Error}
use Rattle.sqlite.specs.Tree.{Trees}
use Rattle.sqlite.specs.Held.{Held, state}
use Rattle.sqlite.specs.Effect.{Database}
use Rattle.sqlite.specs.State.{State, HasCleanDisk, IsRolledBack, KeepsCommit, Shows, Survives}
use Rattle.sqlite.specs.Steps.{FailsToCommit}
use Rattle.sqlite.proofs.Callers.{survives_begin}
use Rattle.sqlite.proofs.StateLemmas.{survives_then}
use Rattle.dnp_store.specs.declared.store_kind.StoreKind.{StoreKind}
use Rattle.dnp_store.specs.Added.{MakeAll, Statement}
use Rattle.dnp_store.specs.Refusals.{IsRefused, IsStopped, IsUnmade, RefusesOne, asking}
use Rattle.dnp_store.specs.steps.Inside.{IsEnded, IsStep}
use Rattle.dnp_store.proofs.Refusing.{by_commit, refused_inside, same_err}
use Rattle.dnp_store.proofs.Statements.{survives_as}
use Rattle.dnp_store.proofs.Stopping.{unmade_by_commit, unmade_inside}

-- what was open is open, and holds the last commit
abbrev pub IsAsBefore : State → State → Type 0
IsAsBefore old new = IsTrue old.is_open × (new.committed ≡ old.committed)

module _ {S : Type 0} (g : Ghosts S) (old begun mid end last : Held S) (is : begun ≡ record old { in_transaction = true }) (same : end ≡ last) where
  -- one that was undone leaves no more than what was left before it
  pub survives_undone : (P : Trees → Type 0) → Survives (state g begun) (state g mid) (λ _. ⊥) → Survives (state g mid) (state g end) (λ _. ⊥)
      → Survives (state g old) (state g last) P
  survives_undone P one two =
      subst (λ h. Survives (state g old) (state g h) P) same
      (survives_then (state g old) (state g mid) (state g end) (λ _. ⊥) (λ _. ⊥) P (λ _ db none. absurd none) (λ _ db none. absurd none)
      (survives_begin g old (state g mid) (λ _. ⊥) (subst (λ h. Survives (state g h) (state g mid) (λ _. ⊥)) is one)) two)

  keeps_old : (HasCleanDisk (state g mid) → KeepsCommit (state g begun) (state g mid)) → HasCleanDisk (state g mid) → IsTrue (state g mid).is_open
      → IsAsBefore (state g old) (state g mid)
  keeps_old kept early opened =
      let one = subst (λ h. KeepsCommit (state g h) (state g mid)) is (kept early) in
      (one.was_open opened, one.committed opened)

  rolled : IsAsBefore (state g old) (state g mid) → (state g end).committed ≡ (state g mid).committed → IsAsBefore (state g old) (state g end)
  rolled was so = (was.0, so ∙ was.1)

  -- and keeps the last commit
  pub kept_undone : (P : Trees → Type 0) → (HasCleanDisk (state g mid) → KeepsCommit (state g begun) (state g mid))
      → (HasCleanDisk (state g end) → IsRolledBack (state g mid) (state g end)) → Survives (state g mid) (state g end) P
      → HasCleanDisk (state g last) → IsTrue (state g last).is_open → IsAsBefore (state g old) (state g last)
  kept_undone P kept undone survives =
      subst (λ h. HasCleanDisk (state g h) → IsTrue (state g h).is_open → IsAsBefore (state g old) (state g h)) same
      (λ clean opened.
      let early : HasCleanDisk (state g mid) = omega (arith, clean, survives.clean) in
      let back = undone clean in
      rolled (keeps_old kept early (back.was_open opened)) (back.undone opened).1)

-- ---- the call that ends one

module _ {S : Type 0} (g : Ghosts S) (old new : Held S) where
  not_committed : (e : Error) → IsTrue (state g new).is_open → FailsToCommit (state g old) (state g new) e → IsAsBefore (state g old) (state g new)
  not_committed e opened (inl fails) = let back = fails.3 in (back.was_open opened, (back.undone opened).1)
  not_committed e opened (inr not_in) = let shows = not_in.2.0 in (shows.was_open, shows.committed_is)

  pub ended_by_commit : (X Y : Type 0) (r : Result (Unit {0}) Error) → new.in_transaction ≡ false
      → (HasCleanDisk (state g new) → OnOk r (IsTrue (state g old).in_transaction × Shows (state g old) (state g new) (state g old).now (state g old).now false × X × Y))
      → (HasCleanDisk (state g new) → IfErr r (FailsToCommit (state g old) (state g new)))
      → Survives (state g old) (state g new) (λ db. db ≡ (state g old).now.trees) → IsEnded g old new (Ok tt) r
  ended_by_commit X Y (Ok _) idle ok err survives = record {
    idle = idle;
    ok = λ clean. let h = ok clean in (refl, h.1.is_open, h.1.committed_is);
    err = λ clean opened. tt;
    refused = λ clean. tt;
    survives = survives_as (state g old) (state g new) _ _ (λ db is. (refl, is)) survives;
  }
  ended_by_commit X Y (Err e) idle ok err survives = record {
    idle = idle;
    ok = λ clean. tt;
    err = λ clean opened. not_committed e opened (err clean);
    refused = λ clean. inr (refl, err clean);
    survives = survives_as (state g old) (state g new) _ _ (λ db is. (refl, is)) survives;
  }

  pub ended_undone : (e : Error) → new.in_transaction ≡ false → (HasCleanDisk (state g new) → IsRolledBack (state g old) (state g new))
      → Survives (state g old) (state g new) (λ _. ⊥) → IsEnded g old new (Err e) (Err e)
  ended_undone e idle undone survives = record {
    idle = idle;
    ok = λ clean. tt;
    err = λ clean opened. let back = undone clean in (back.was_open opened, (back.undone opened).1);
    refused = λ clean. inl refl;
    survives = survives_as (state g old) (state g new) _ _ (λ db none. absurd none) survives;
  }

-- what a call leaves that does something in a transaction, and ends it
module _ {S : Type 0} (g : Ghosts S) (old last : Held S) (begun mid : MutBor (Held S)) (end : Held S) (done result : Result (Unit {0}) Error)
    (is : begun.now ≡ record old { in_transaction = true }) (same : end ≡ last) (step : IsStep g begun mid done) (ended : IsEnded g mid.now end done result) where
  early : HasCleanDisk (state g last) → HasCleanDisk (state g mid.now)
  early clean =
      let late : HasCleanDisk (state g end) = subst (λ h. HasCleanDisk (state g h)) (sym same) clean in
      omega (arith, late, ended.survives.clean)

  pub end_ok : (P : Database → Type 0) → (HasCleanDisk (state g mid.now) → OnOk done (P (state g mid.now).now)) → HasCleanDisk (state g last)
      → OnOk result (IsTrue (state g last).is_open × P (state g last).committed)
  end_ok P holds clean =
      subst (λ h. OnOk result (IsTrue (state g h).is_open × P (state g h).committed)) same
      (go done result (holds (early clean)) (ended.ok (subst (λ h. HasCleanDisk (state g h)) (sym same) clean)))
    where
      go : (d r : Result (Unit {0}) Error) → OnOk d (P (state g mid.now).now)
          → OnOk r (IsOk d × IsTrue (state g end).is_open × ((state g end).committed ≡ (state g mid.now).now))
          → OnOk r (IsTrue (state g end).is_open × P (state g end).committed)
      go (Ok _) (Ok _) holds h = (h.1, subst P (sym h.2) holds)
      go (Err e) (Ok _) holds h = absurd (let no = h.0 in cc)
      go d (Err e) holds h = tt

  pub end_survives : (P : Trees → Type 0) → (HasCleanDisk (state g mid.now) → OnOk done (P (state g mid.now).now.trees)) → Survives (state g old) (state g last) P
  end_survives P holds =
      subst (λ h. Survives (state g old) (state g h) P) same
      (survives_then (state g old) (state g mid.now) (state g end) (λ _. ⊥) (λ db. IsOk done × (db ≡ (state g mid.now).now.trees)) P (λ _ db none. absurd none)
      (λ clean db did. go done db (holds (early (subst (λ h. HasCleanDisk (state g h)) same clean))) did)
      (survives_begin g old (state g mid.now) (λ _. ⊥) (subst (λ h. Survives (state g h) (state g mid.now) (λ _. ⊥)) is step.survives)) ended.survives)
    where
      go : (d : Result (Unit {0}) Error) (db : Trees) → OnOk d (P (state g mid.now).now.trees) → IsOk d × (db ≡ (state g mid.now).now.trees) → P db
      go (Ok _) db holds did = subst P (sym did.1) holds
      go (Err e) db holds did = absurd (let no = did.0 in cc)

  pub end_err : HasCleanDisk (state g last) → IsTrue (state g last).is_open → OnErr result (IsAsBefore (state g old) (state g last))
  end_err clean opened =
      subst (λ h. OnErr result (IsAsBefore (state g old) (state g h))) same
      (go result (ended.err (subst (λ h. HasCleanDisk (state g h)) (sym same) clean) (subst (λ h. IsTrue (state g h).is_open) (sym same) opened)))
    where
      was : IsTrue (state g mid.now).is_open → IsAsBefore (state g old) (state g mid.now)
      was = keeps_old g old begun.now mid.now end last is same step.kept (early clean)

      go : (r : Result (Unit {0}) Error) → OnErr r (IsAsBefore (state g mid.now) (state g end)) → OnErr r (IsAsBefore (state g old) (state g end))
      go (Ok _) h = tt
      go (Err e) h = let old_is = was h.0 in (old_is.0, h.1 ∙ old_is.1)

  pub end_refused : (kind : StoreKind) → (HasCleanDisk (state g mid.now) → IfErr done (IsRefused g kind begun.now mid.now)) → HasCleanDisk (state g last)
      → IfErr result (IsRefused g kind old last)
  end_refused kind refuses clean =
      go done result (refuses (early clean)) (step.inside (early clean)) ended.survives
      (ended.refused (subst (λ h. HasCleanDisk (state g h)) (sym same) clean))
    where
      go : (d r : Result (Unit {0}) Error) → IfErr d (IsRefused g kind begun.now mid.now) → OnOk d (IsTrue (state g mid.now).in_transaction)
          → Survives (state g mid.now) (state g end) (λ db. IsOk d × (db ≡ (state g mid.now).now.trees))
          → IfErr r (λ e. (d ≡ Err e) ⊎ (IsOk d × FailsToCommit (state g mid.now) (state g end) e)) → IfErr r (IsRefused g kind old last)
      go d (Ok _) refuses inside survives why = tt
      go (Ok _) (Err e) refuses inside survives (inl other) = absurd cc
      go (Ok _) (Err e) refuses inside survives (inr fails) = by_commit g kind old begun.now mid.now end last (Err e) is same step.survives inside fails.1
      go (Err d) (Err e) refuses inside survives (inl is_that) =
          subst (IsRefused g kind old last) (same_err is_that)
          (refused_inside g kind old begun.now mid.now end last d is same refuses
          (survives_as (state g mid.now) (state g end) _ _ (λ db did. absurd (let no = did.0 in cc)) survives))
      go (Err d) (Err e) refuses inside survives (inr fails) = absurd (let no = fails.0 in cc)

  -- where tables were to be made
  pub end_unmade : (its : List Statement) → (HasCleanDisk (state g mid.now) → IfErr done (IsStopped g (RefusesOne g (its ++ asking)) begun.now mid.now))
      → (HasCleanDisk (state g mid.now) → OnOk done (MakeAll g its (state g old).now (state g mid.now).now)) → HasCleanDisk (state g last)
      → IfErr result (IsUnmade g its old last)
  end_unmade its refuses makes clean =
      go done result (refuses (early clean)) (makes (early clean)) (step.inside (early clean)) ended.survives
      (ended.refused (subst (λ h. HasCleanDisk (state g h)) (sym same) clean))
    where
      go : (d r : Result (Unit {0}) Error) → IfErr d (IsStopped g (RefusesOne g (its ++ asking)) begun.now mid.now)
          → OnOk d (MakeAll g its (state g old).now (state g mid.now).now) → OnOk d (IsTrue (state g mid.now).in_transaction)
          → Survives (state g mid.now) (state g end) (λ db. IsOk d × (db ≡ (state g mid.now).now.trees))
          → IfErr r (λ e. (d ≡ Err e) ⊎ (IsOk d × FailsToCommit (state g mid.now) (state g end) e)) → IfErr r (IsUnmade g its old last)
      go d (Ok _) refuses makes inside survives why = tt
      go (Ok _) (Err e) refuses makes inside survives (inl other) = absurd cc
      go (Ok _) (Err e) refuses makes inside survives (inr fails) =
          unmade_by_commit g its old begun.now mid.now end last e is same step.survives makes inside fails.1
      go (Err d) (Err e) refuses makes inside survives (inl is_that) =
          subst (IsUnmade g its old last) (same_err is_that)
          (unmade_inside g its old begun.now mid.now end last d is same refuses
          (survives_as (state g mid.now) (state g end) _ _ (λ db did. absurd (let no = did.0 in cc)) survives))
      go (Err d) (Err e) refuses makes inside survives (inr fails) = absurd (let no = fails.0 in cc)
