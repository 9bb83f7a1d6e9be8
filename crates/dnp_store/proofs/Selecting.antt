-- A SELECT changes nothing, whatever the schema is.
use Rattle.std.proofs.Common.{◌≡◌, ℕ, ◌+◌, List, [], Bool, true, false, Option, Some, None, Ok, Err, Result, cond, refl, ap, sym, subst, ◌∙◌, codes}
use Rattle.sqlite_tied.specs.Compute.{everything}
use Rattle.sqlite_ast.specs.declared.Statement.{Statement}
use Rattle.sqlite_ast.specs.declared.Statement.TheVariants as written
use Rattle.sqlite_syntax.specs.declared.statement.Parsed.{Parsed}
use Rattle.sqlite_resolve.specs.Compile.{command, compiled, first, meaning, planned, returning, small, timed as timed_in, with_command}
use Rattle.sqlite_resolve.specs.Lowering.{Checked, and_then}
use Rattle.sqlite_resolve.specs.Scope.{Name}
use Rattle.sqlite_resolve.specs.declared.compiled.Compiled.{Compiled}
use Rattle.sqlite_resolve.specs.declared.error.CompileError.{CompileError}
use Rattle.sqlite_resolve.specs.declared.error.CompileError.TheVariants.{NoSuchTable}
use Rattle.sqlite_schema.specs.declared.command.Command.{Command}
use Rattle.sqlite_schema.specs.declared.command.Returning.{Returning}
use Rattle.sqlite.specs.Schema.{Schema}
use Rattle.sqlite.specs.Effect.{Database}
use Rattle.sqlite.specs.Held.{state}
use Rattle.sqlite_trees.specs.declared.store.Store.{Ghosts}
use Rattle.dnp_controls.specs.declared.book.Entry.{Entry}
use Rattle.std.specs.Prelude.{◌≢◌}
use Rattle.sqlite.specs.Clock.{timed}
use Rattle.sqlite.specs.Listing.{if_select, is_select, listing_schema, reads_listing, understood}
use Rattle.sqlite.specs.Order.{Row}
use Rattle.sqlite.specs.State.{State, Shown, ShowsRows}
use Rattle.dnp_store.specs.Refusals.{IsNumbered}
use Rattle.dnp_store.specs.Showing.{AreShown, HasEntries, HasEvents}
use Rattle.dnp_store.specs.Tables.{no_schema}
use Rattle.dnp_store.specs.Texts.{book_select, form_select, journal_count, journal_select, lanes_select, rows_select, sequence_select}
use Rattle.dnp_store.specs.declared.queue_side.QueueSide.{QueueSide}
use Rattle.dnp_store.specs.declared.queue_side.QueueSide.TheVariants.{First, Second}
use Rattle.dnp_store.proofs.Statements.{same_value}

abbrev pub IsSelect : Statement → Type 0
IsSelect (written.Select s) = Unit {0}
IsSelect _ = ⊥

-- the text is read as a SELECT
abbrev pub Selects : Checked Parsed → Type 0
Selects (Ok p) = IsSelect p.statement
Selects (Err e) = ⊥

-- it shows nothing of a write
shows_none : (schema : Schema) (base : ℕ) (s : Statement) → IsSelect s → returning schema base s ≡ Ok None
unfolding returning
shows_none schema base (written.Select s) is = refl
shows_none schema base _ is = absurd is

by_meaning : (p : Parsed) (formats : List Name) (shown : Checked (Option Returning)) (command : Checked Command) (c : Compiled) → shown ≡ Ok None
    → and_then (and_then (and_then shown (λ r. and_then command (λ m. Ok (m, r)))) (λ found. Ok (formats, found))) (λ plan. Ok (with_command p plan)) ≡ Ok c
    → c.returning ≡ None
by_meaning p formats (Ok None) (Ok m) c is h = sym (ap (λ (x : Compiled). x.returning) (same_value h))
by_meaning p formats (Ok None) (Err e) c is h = absurd cc
by_meaning p formats (Ok (Some r)) command c is h = absurd cc
by_meaning p formats (Err e) command c is h = absurd cc

by_first : (schema : Schema) (read : Checked Parsed) (c : Compiled) → Selects read
    → and_then read (λ p. and_then (planned schema p) (λ plan. Ok (with_command p plan))) ≡ Ok c → c.returning ≡ None
unfolding planned meaning
by_first schema (Ok p) c is h =
    let formats = timed_in schema p.formats p.statement in
    let base = small p.names + small formats in
    by_meaning p formats (returning schema base p.statement) (command schema p.formats base p.statement) c (shows_none schema base p.statement is) h
by_first schema (Err e) c is h = absurd is

by_compiled : (schema : Schema) (sql : List ℕ) (c : Compiled) → Selects (first sql) → compiled schema sql ≡ Ok c → c.returning ≡ None
unfolding compiled
by_compiled schema sql c is h = by_first schema (first sql) c is h

picked : (b : Bool) (d c : Compiled) → ◌≡◌ {A = Checked Compiled} (cond b (Ok d) (Err NoSuchTable)) (Ok c) → ◌≡◌ {A = Checked Compiled} (Ok d) (Ok c)
picked true d c e = e
picked false d c e = absurd cc

only_select : (read : Checked Compiled) (c : Compiled) → if_select read ≡ Ok c → read ≡ Ok c
only_select (Ok d) c h = picked (is_select d.command) d c h
only_select (Err e) c h = absurd cc

either_way : (b : Bool) (listing own : Checked Compiled) (c : Compiled) → (listing ≡ Ok c → c.returning ≡ None) → (own ≡ Ok c → c.returning ≡ None)
    → cond b (if_select listing) own ≡ Ok c → c.returning ≡ None
either_way true listing own c one two h = one (only_select listing c h)
either_way false listing own c one two h = two h

pub bare : (schema : Schema) (sql : List ℕ) (c : Compiled) → Selects (first sql) → understood schema sql ≡ Ok c → c.returning ≡ None
unfolding understood
bare schema sql c is h =
    either_way (reads_listing schema sql) (compiled listing_schema sql) (compiled schema sql) c (by_compiled listing_schema sql c is) (by_compiled schema sql c is) h

pub stays : (sql : List ℕ) (params : Row) (old new : State) (rows : List Row) → Selects (first sql) → Shown sql params old new rows → new.now ≡ old.now
unfolding Shown
stays sql params old new rows is h =
    let none = bare old.now.schema sql h.0 is h.1.is in
    let it = subst (ShowsRows old new sql h.0 (timed params h.0.formats h.1.now) rows) none h.2 in
    it.3.0.now_is

-- ---- so are the queries of an open

pub form_selects : Selects (first form_select)
unfolding first everything
form_selects = tt

pub counts_select : Selects (first sequence_select)
unfolding first everything
counts_select = tt

pub page_selects : Selects (first journal_select)
unfolding first everything
page_selects = tt

pub lanes_selects : (side : QueueSide) → Selects (first (lanes_select side))
unfolding first everything
lanes_selects First = tt
lanes_selects Second = tt

pub rows_selects : (side : QueueSide) → Selects (first (rows_select side))
unfolding first everything
rows_selects First = tt
rows_selects Second = tt

-- ---- in a database without tables they mean nothing

abbrev pub MeansNone : Result Compiled CompileError → Type 0
MeansNone (Ok c) = ⊥
MeansNone (Err e) = Unit {0}

none_shown : (sql : List ℕ) (old new : State) (rows : List Row) → MeansNone (understood no_schema sql) → old.now.schema ≡ no_schema → Shown sql [] old new rows → ⊥
unfolding Shown
none_shown sql old new rows none has h = subst MeansNone (ap (λ s. understood s sql) (sym has) ∙ h.1.is) none

form_none : MeansNone (understood no_schema form_select)
unfolding understood listing_schema everything
form_none = tt

many_none : MeansNone (understood no_schema journal_count)
unfolding understood listing_schema everything
many_none = tt

controls_none : MeansNone (understood no_schema book_select)
unfolding understood listing_schema everything
controls_none = tt

module _ {S : Type 0} (g : Ghosts S) (db : Database) where
  none_of : (sql : List ℕ) (rows : List Row) → MeansNone (understood no_schema sql) → AreShown g sql db rows → db.schema ≡ no_schema → ⊥
  none_of sql rows none shown bare =
      none_shown sql (state g shown.old) (state g shown.new) rows none (ap (λ (d : Database). d.schema) shown.of ∙ bare) shown.shown

pub shows_no_number : {S : Type 0} (g : Ghosts S) (n : ℕ) (db : Database) → IsNumbered g n db → db.schema ≢ no_schema
shows_no_number g n db is = none_of g db form_select is.rows form_none (record { old = is.old; new = is.new; of = is.of; shown = is.shown })

pub shows_no_events : {S : Type 0} (g : Ghosts S) (count : ℕ) (db : Database) → HasEvents g count db → db.schema ≢ no_schema
shows_no_events g count db has = none_of g db journal_count has.rows many_none has.shown

pub shows_no_entries : {S : Type 0} (g : Ghosts S) (entries : List Entry) (db : Database) → HasEntries g entries db → db.schema ≢ no_schema
shows_no_entries g entries db has = none_of g db book_select has.rows controls_none has.shown
