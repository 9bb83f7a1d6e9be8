-- A refusal of one step is one of all steps about it, and a store that answers Device is lost.
use Rattle.std.proofs.Common.{◌≡◌, ◌⊎◌, ℕ, List, Bool, true, false, IsTrue, Ok, Err, Result, inl, inr, refl, subst, cond, not, Option, Some, [], length, ap, sym, arith}
use Rattle.std.specs.Prelude.{IfErr, IfOk}
use Rattle.sqlite_trees.specs.declared.store.Store.{Ghosts}
use Rattle.sqlite.specs.Held.{Held, state}
use Rattle.sqlite.specs.Order.{Row}
use Rattle.sqlite.specs.State.{State, Survives, ExecutesInside, FailsToQuery, Shown, IsNotRun, IsNoStatement, HasCause, store_error}
use Rattle.sqlite.specs.Listing.{understood}
use Rattle.sqlite_tied.specs.Compute.{everything}
use Rattle.sqlite_trees.specs.declared.error.StoreError.{StoreError}
use Rattle.sqlite_trees.specs.declared.error.StoreError.TheVariants.{OutOfMemory, Io, Corrupt, Full, Broken, Unstorable}
use Rattle.sqlite_resolve.specs.declared.compiled.Compiled.{Compiled}
use Rattle.sqlite.specs.Steps.{FailsToCommit}
use Rattle.sqlite.specs.declared.error.Error.{Error}
use Rattle.sqlite.proofs.Callers.{survives_begin}
use Rattle.sqlite.proofs.StateLemmas.{survives_then}
use Rattle.dnp_objects.specs.declared.store.StoreFault.{StoreFault}
use Rattle.dnp_objects.specs.declared.store.StoreFault.TheVariants as store
use Rattle.dnp_store.specs.declared.open.OpenFault.{OpenFault}
use Rattle.dnp_store.specs.declared.open.OpenFault.TheVariants as opening
use Rattle.dnp_store.specs.declared.store_kind.StoreKind.{StoreKind}
use Rattle.dnp_store.specs.Faults.{IsCut, is_memory}
use Rattle.dnp_store.specs.declared.fault.Unread.{Unread}
use Rattle.dnp_store.specs.declared.fault.Unread.TheVariants.{Form, Memory, Failed}
use Rattle.dnp_store.specs.declared.queue_side.QueueSide.{QueueSide}
use Rattle.dnp_store.specs.declared.queue_side.QueueSide.TheVariants.{First, Second}
use Rattle.dnp_store.specs.declared.store_kind.StoreKind.TheVariants.{Queue, Journal}
use Rattle.dnp_store.specs.steps.JournalShown.{HasNoEvent}
use Rattle.dnp_store.specs.Refusals.{IsRefused, IsUnread}
use Rattle.dnp_store.specs.Texts.{IsOwn, lanes_update, rows_delete, rows_insert, rows_insert_16}
use Rattle.dnp_store.proofs.Statements.{same_value}
use Rattle.dnp_store.proofs.Standing.{survives_itself}

pub same_err : {A E : Type 0} {a b : E} → ◌≡◌ {A = Result A E} (Err a) (Err b) → a ≡ b
same_err e = cc

pub other_if : {X : Type 0} (b : Bool) → b ≡ false → IsTrue b ⊎ X → X
other_if b is (inl so) = absurd cc
other_if b is (inr x) = x

-- the statements of each side are a queue's own
pub own_insert : (side : QueueSide) → IsOwn Queue (rows_insert side)
own_insert First = (0, refl)
own_insert Second = (4, refl)

pub own_insert_16 : (side : QueueSide) → IsOwn Queue (rows_insert_16 side)
own_insert_16 First = (1, refl)
own_insert_16 Second = (5, refl)

pub own_delete : (side : QueueSide) → IsOwn Queue (rows_delete side)
own_delete First = (2, refl)
own_delete Second = (6, refl)

pub own_update : (side : QueueSide) → IsOwn Queue (lanes_update side)
own_update First = (3, refl)
own_update Second = (7, refl)

module _ {S : Type 0} (g : Ghosts S) (kind : StoreKind) where
  -- a statement
  pub by_statement : (old new : Held S) (sql : List ℕ) (params : Row) (e : Error) → IsOwn kind sql → IsTrue (state g old).in_transaction
      → ExecutesInside 0 sql params (state g old) (state g new) (Err e) → IsRefused g kind old new e
  by_statement old new sql params e own inside ran = record {
    before = old;
    after = new;
    early = survives_itself (state g old);
    refused = inl (inside, inl (sql, params, own, ran));
    late = survives_itself (state g new);
  }

  -- what came before it went well
  pub refused_after : (old mid new : Held S) (e : Error) → Survives (state g old) (state g mid) (λ _. ⊥) → IsRefused g kind mid new e
      → IsRefused g kind old new e
  refused_after old mid new e one two = record {
    before = two.before;
    after = two.after;
    early = survives_then (state g old) (state g mid) (state g two.before) (λ _. ⊥) (λ _. ⊥) (λ _. ⊥) (λ _ db none. none) (λ _ db none. none) one two.early;
    refused = two.refused;
    late = two.late;
  }

  -- in a transaction, which then rolled back
  pub refused_inside : (old begun mid end last : Held S) (e : Error) → begun ≡ record old { in_transaction = true } → end ≡ last
      → IsRefused g kind begun mid e → Survives (state g mid) (state g end) (λ _. ⊥) → IsRefused g kind old last e
  refused_inside old begun mid end last e is same one two = subst (λ h. IsRefused g kind old h e) same (record {
    before = one.before;
    after = one.after;
    early = survives_begin g old (state g one.before) (λ _. ⊥) (subst (λ h. Survives (state g h) (state g one.before) (λ _. ⊥)) is one.early);
    refused = one.refused;
    late = survives_then (state g one.after) (state g mid) (state g end) (λ _. ⊥) (λ _. ⊥) (λ _. ⊥) (λ _ db none. none) (λ _ db none. none) one.late two;
  })

  -- the commit of one
  pub by_commit : (old begun mid end last : Held S) (r : Result (Unit {0}) Error) → begun ≡ record old { in_transaction = true } → end ≡ last
      → Survives (state g begun) (state g mid) (λ _. ⊥) → IsTrue (state g mid).in_transaction → IfErr r (FailsToCommit (state g mid) (state g end))
      → IfErr r (IsRefused g kind old last)
  by_commit old begun mid end last (Ok _) is same one inside fails = tt
  by_commit old begun mid end last (Err e) is same one inside fails = subst (λ h. IsRefused g kind old h e) same (record {
    before = mid;
    after = end;
    early = survives_begin g old (state g mid) (λ _. ⊥) (subst (λ h. Survives (state g h) (state g mid) (λ _. ⊥)) is one);
    refused = inl (inside, inr fails);
    late = survives_itself (state g end);
  })

-- a query
pub by_query : {S A : Type 0} (g : Ghosts S) (kind : StoreKind) (old new : Held S) (sql : List ℕ) (params : Row) (r : Result A Error) → IsOwn kind sql
    → IfErr r (FailsToQuery sql params (state g old) (state g new)) → IfErr r (IsRefused g kind old new)
by_query g kind old new sql params (Ok _) own fails = tt
by_query g kind old new sql params (Err e) own fails = record {
  before = old;
  after = new;
  early = survives_itself (state g old);
  refused = inr (sql, params, own, fails);
  late = survives_itself (state g new);
}

pub by_rows : {A : Type 0} (items : A → List Row) (kind : StoreKind) (old new : State) (sql : List ℕ) (params : Row) (r : Result A Error) → IsOwn kind sql
    → IfOk r (λ rows. Shown sql params old new (items rows))
    → IfOk r (λ rows. (sql : List ℕ) × (params : Row) × IsOwn kind sql × Shown sql params old new (items rows))
by_rows items kind old new sql params (Ok rows) own shown = (sql, params, own, shown)
by_rows items kind old new sql params (Err _) own shown = tt

-- events that were not read
pub unread_of : {S : Type 0} (g : Ghosts S) (old new : Held S) (rows : List Row) (u : Unread) → (u ≡ Form) ⊎ (u ≡ Memory) → (u ≡ Form → HasNoEvent rows)
    → (sql : List ℕ) × (params : Row) × IsOwn Journal sql × Shown sql params (state g old) (state g new) rows → IsUnread g old new u
unread_of g old new rows Form told wrong shown = (shown.0, shown.1, rows, shown.2, shown.3, wrong refl)
unread_of g old new rows Memory told wrong shown = tt
unread_of g old new rows (Failed e) told wrong shown = elim told [ inl is ↦ absurd cc | inr is ↦ absurd cc ]

-- what the last step answers, after others that went well
pub refused_last : {S : Type 0} (g : Ghosts S) (kind : StoreKind) (old mid new : Held S) (r : Result (Unit {0}) Error)
    → Survives (state g old) (state g mid) (λ _. ⊥) → IfErr r (IsRefused g kind mid new) → IfErr r (IsRefused g kind old new)
refused_last g kind old mid new (Ok _) one two = tt
refused_last g kind old mid new (Err e) one two = refused_after g kind old mid new e one two

pub lost_open : (wrong lost : Bool) (f : OpenFault) → f ≡ cond wrong opening.WrongForm (cond lost opening.Device opening.Memory) → f ≡ opening.Device
    → lost ≡ true
lost_open true lost f is told = absurd cc
lost_open false true f is told = refl
lost_open false false f is told = absurd cc

pub taken_open : (wrong lost : Bool) (f : OpenFault) → f ≡ cond wrong opening.WrongForm (cond lost opening.Device opening.Memory) → f ≡ opening.WrongForm
    → wrong ≡ true
taken_open true lost f is told = refl
taken_open false true f is told = absurd cc
taken_open false false f is told = absurd cc

-- who answers Device is lost
pub lost_if : {A : Type 0} (lost : Bool) (f : StoreFault) → f ≡ cond lost store.Device store.Memory → ◌≡◌ {A = Result A StoreFault} (Err f) (Err store.Device)
    → lost ≡ true
lost_if true f is told = refl
lost_if false f is told = absurd cc

-- ---- a text that asks for nothing

by_cause : (old new : State) (e : Error) (cause : StoreError) → e ≡ store_error cause → HasCause old new ⊥ cause → is_memory e ≡ false → IsCut old new
by_cause old new e OutOfMemory is has other = absurd (let same = ap is_memory is in cc)
by_cause old new e Io is has other = inl has
by_cause old new e Corrupt is has other = inl has
by_cause old new e Full is has other = inl has
by_cause old new e Broken is has other = inr has
by_cause old new e Unstorable is has other = absurd has

is_statement : (s : State) (e : Error) → IsNoStatement s [] [] e → ⊥
unfolding understood everything
is_statement s e (inl h) = absurd (let is = h.1 in cc)
is_statement s e (inr h) = elim h.2 [
  | inl long ↦ long.0 (omega arith)
  | inr (inl count) ↦ count.0 (ap (λ (c : Compiled). length c.names) (same_value h.1))
  | inr (inr clock) ↦ clock.0 (sym (ap (λ (c : Compiled). c.formats) (same_value h.1)))
]

pub not_so : (b : Bool) → not b ≡ true → b ≡ false
not_so true h = absurd cc
not_so false h = refl

pub same_some : {A : Type 0} {a b : A} → ◌≡◌ {A = Option A} (Some a) (Some b) → a ≡ b
same_some e = cc

-- it is refused for memory, or since the connection is cut off
pub cut_if : (old new : State) (e : Error) → IsNotRun old new [] [] e → is_memory e ≡ false → IsCut old new
unfolding IsNotRun
cut_if old new e (inl refused) other = absurd (is_statement old e refused.0)
cut_if old new e (inr fails) other = by_cause old new e fails.0 fails.1 fails.2 other
