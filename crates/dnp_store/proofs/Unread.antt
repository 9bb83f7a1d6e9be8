-- A query that is understood is never refused as one that can't be read.
use Rattle.std.proofs.Common.{◌≡◌, ◌⊎◌, inl, inr, ℕ, List, [], Bool, true, false, Option, None, Some, Ok, Err, Result, IsTrue, refl, sym, ap, subst, ◌∙◌}
use Rattle.sqlite_resolve.specs.declared.compiled.Compiled.{Compiled}
use Rattle.sqlite_trees.specs.declared.error.StoreError.{StoreError}
use Rattle.sqlite_trees.specs.declared.error.StoreError.TheVariants.{OutOfMemory, Io, Corrupt, Full, Broken, Unstorable}
use Rattle.sqlite_schema.specs.declared.command.Command.{Command}
use Rattle.sqlite_schema.specs.declared.command.Command.TheVariants.{Select, Rows}
use Rattle.sqlite_schema.specs.declared.command.Returning.{Returning}
use Rattle.sqlite.specs.Schema.{Schema}
use Rattle.sqlite.specs.Clock.{timed}
use Rattle.sqlite.specs.Effect.{Database, RefusesToRead}
use Rattle.sqlite.specs.Given.{IsPlain}
use Rattle.sqlite.specs.Listing.{understood}
use Rattle.sqlite.specs.Order.{Row}
use Rattle.sqlite.specs.State.{State, FailsToQuery, FailsToShow, IsNoStatement, IsNotRun, IsStatement, IsTooLate, store_error}
use Rattle.sqlite.specs.declared.error.Error.{Error}
use Rattle.std.proofs.Common.{ℤ, pos, map, ◌∷◌, IfErr, IsPermutation}
use Rattle.std.specs.Prelude.{IsErr, IsErrAnd, OnErr}
use Rattle.sqlite.specs.declared.types.Value.TheVariants.{Int, Null}
use Rattle.sqlite.specs.State.{Shown}
use Rattle.sqlite.specs.Term.{Term}
use Rattle.sqlite.proofs.Callers.{one_permutation, reads_as}
use Rattle.dnp_store.specs.Faults.{is_unread, is_wrong}
use Rattle.dnp_store.specs.declared.fault.Unread.{Unread}
use Rattle.dnp_store.specs.declared.fault.Unread.TheVariants.{Failed, Form, Memory}
use Rattle.dnp_store.specs.QueueTables.{IsForm1}
use Rattle.dnp_store.specs.declared.store_kind.StoreKind.{StoreKind}
use Rattle.dnp_store.specs.steps.Shown.{ShowsForm1}
use Rattle.dnp_store.specs.steps.Stores.{More, schema_for}
use Rattle.dnp_store.proofs.Opening.{form_is, form_plain, form_query, form_terms, listed, shown_by}

cause_read : (cause : StoreError) → is_unread (store_error cause) ≡ false
cause_read OutOfMemory = refl
cause_read Io = refl
cause_read Corrupt = refl
cause_read Full = refl
cause_read Broken = refl
cause_read Unstorable = refl

no_other : (b : Bool) → IsTrue b → b ≡ false → ⊥
no_other b is other = absurd (let e : true ≡ false = sym is ∙ other in cc)

query_read : (limit : Option ℕ) (command : Command) (db : Database) (ps : Row) (e : Error) → RefusesToRead limit command db ps e → is_unread e ≡ false
query_read limit (Select q names) db ps e (inl typed) = ap is_unread typed.0
query_read limit (Select q names) db ps e (inr (inl over)) = ap is_unread over.0
query_read limit (Select q names) db ps e (inr (inr cut)) = ap is_unread cut.0
query_read limit (Rows values width names) db ps e h = ap is_unread h.0
query_read limit _ db ps e h = ap is_unread h

-- the connection was open, and the text means nothing under the schema
pub record MeansNothing (old : State) (sql : List ℕ) : Type 0 where
  pub is_open : IsTrue old.is_open
  pub none : (schema : Schema) → old.now.schema ≡ schema → IsPlain (understood schema sql) → ⊥

module _ (old new : State) (sql : List ℕ) (ps : Row) (e : Error) (told : IsTrue (is_unread e)) where
  no_statement : IsNoStatement old sql ps e → (schema : Schema) → old.now.schema ≡ schema → IsPlain (understood schema sql) → ⊥
  no_statement (inl wrong) schema has plain = subst IsPlain (sym (ap (λ s. understood s sql) has) ∙ wrong.1) plain
  no_statement (inr h) schema has plain = elim h.2 [
    | inl more ↦ no_other (is_unread e) told (ap is_unread more.1)
    | inr (inl count) ↦ no_other (is_unread e) told (ap is_unread count.1)
    | inr (inr clock) ↦ no_other (is_unread e) told (ap is_unread clock.1)
  ]

  by_showing : (c : Compiled) (s : IsStatement old sql ps c) (r : Option Returning) → c.returning ≡ r
      → FailsToShow old new sql c (timed ps c.formats s.now) e r → MeansNothing old sql
  by_showing c s None is h = absurd (no_other (is_unread e) told (query_read old.step_limit c.command h.0 _ e h.2))
  by_showing c s (Some what) is (inl h) = record {
    is_open = h.1.0.was_open;
    none = λ schema has plain.
        let bare = subst IsPlain (sym (ap (λ s. understood s sql) has) ∙ s.is) plain in
        absurd (let no : ◌≡◌ {A = Option Returning} None (Some what) = sym bare.0 ∙ is in cc);
  }
  by_showing c s (Some what) is (inr h) = absurd (no_other (is_unread e) told (ap is_unread h.1 ∙ cause_read h.0))

  pub means_nothing : FailsToQuery sql ps old new e ⊎ IsTooLate sql ps old new e → MeansNothing old sql
  unfolding FailsToQuery IsNotRun
  means_nothing (inl (inl (inl refused))) = record { is_open = refused.1.0.was_open; none = no_statement refused.0 }
  means_nothing (inl (inl (inr fails))) = absurd (no_other (is_unread e) told (ap is_unread fails.1 ∙ cause_read fails.0))
  means_nothing (inl (inr it)) = by_showing it.0 it.1 it.0.returning refl it.2
  means_nothing (inr late) = absurd (no_other (is_unread e) told (ap is_unread late.4))

pub if_err : {A E : Type 0} (P Q : E → Type 0) (r : Result A E) → ((e : E) → P e → Q e) → IfErr r P → IfErr r Q
if_err P Q (Ok a) follows h = tt
if_err P Q (Err e) follows h = follows e h

pub err_each : {A E : Type 0} (P : E → Type 0) (r : Result A E) → ((e : E) → r ≡ Err e → P e) → IfErr r P
err_each P (Ok a) follows = tt
err_each P (Err e) follows = follows e refl

-- what is so of a refusal, which is this
pub at_err : {A E : Type 0} (P : E → Type 0) (r : Result A E) (e : E) → r ≡ Err e → IfErr r P → P e
at_err P (Ok a) e is h = absurd cc
at_err P (Err f) e is h = subst P (let same : f ≡ e = cc in same) h

-- what `?` hands on
pub err_on : {A E : Type 0} (P : E → Type 0) (r : Result A E) (e : E) → IsErr r × IsErrAnd r (λ f. f ≡ e) → P e → IfErr r P
err_on P (Ok a) e is h = tt
err_on P (Err f) e is h = subst P (sym is.1) h

pub told_of : {A E : Type 0} (r : Result A E) (e f : E) → IsErr r × IsErrAnd r (λ x. x ≡ e) → r ≡ Err f → e ≡ f
told_of (Ok a) e f is told = absurd cc
told_of (Err x) e f is told = let same : x ≡ f = cc in sym is.1 ∙ same

-- ---- `form` with the number 1 is shown so

pub form_shown : (old new : State) (rows : List Row) (kind : StoreKind) (f r : List Term) (m : More kind) → old.now.schema ≡ schema_for kind f r m
    → Shown form_query [] old new rows → IsForm1 (old.now.trees 0) → (id : ℤ) × ShowsForm1 rows id
form_shown old new rows kind f r m has shown form =
    let read = reads_as form_query [] old new (schema_for kind f r m) has _ (form_is kind f r m).0 (form_plain kind f r m) (form_is kind f r m).1 rows shown in
    let got = listed 0 form_terms old.now.trees rows refl (read.answer Null) in
    let row : Row = Int form.0 ∷ Int (pos 1) ∷ [] in
    let all : got.0 ≡ row ∷ [] = one_permutation row got.0 (subst (λ xs. IsPermutation xs got.0) form.1 got.1) in
    (form.0, subst (λ rs. ShowsForm1 rs form.0) (sym (got.2 ∙ ap (map (shown_by form_terms)) all)) (record { one = refl; id_is = refl; number = refl }))

-- what was read beside the database is wrong only where it has not the form
pub if_form : {A : Type 0} (Q : Unread → Type 0) (r : Result A Unread) → IfErr r (λ unread. (unread ≡ Form) ⊎ (unread ≡ Memory))
    → (r ≡ Err Form → Q Form) → IfErr r (λ unread. IsTrue (is_wrong unread) → Q unread)
if_form Q (Ok a) named follows = tt
if_form Q (Err Form) named follows = λ told. follows refl
if_form Q (Err Memory) named follows = λ told. absurd (let e = told in cc)
if_form Q (Err (Failed e)) named follows = λ told. elim named [ inl is ↦ absurd cc | inr is ↦ absurd cc ]

-- what is so where it is refused
pub on_err : {A E : Type 0} (P : Type 0) (r : Result A E) (e : E) → r ≡ Err e → OnErr r P → P
on_err P (Ok a) e is h = absurd cc
on_err P (Err f) e is h = h
