-- What one statement of sixteen rows is to a journal's tables.
use Rattle.std.proofs.Common.{◌≡◌, ℕ, List, [], ◌∷◌, ◌≤◌, length, map, codes, Ok, refl, subst, ◌∙◌, arith}
use Rattle.std.proofs.lemmas.List.{length-map}
use Rattle.sqlite_trees.proofs.ListLemmas.{all_weaker}
use Rattle.sqlite_tied.specs.Compute.{everything}
use Rattle.sqlite.specs.Schema.{Schema}
use Rattle.sqlite.specs.Command.TheVariants.{Insert}
use Rattle.sqlite.specs.Source.TheVariants.{Values}
use Rattle.sqlite.specs.Term.{Term}
use Rattle.sqlite.specs.Tree.{Trees}
use Rattle.sqlite.specs.Listing.{understood}
use Rattle.sqlite.specs.Given.{IsPlain}
use Rattle.sqlite.specs.State.{State, Executes}
use Rattle.sqlite.proofs.Callers.{command_of}
use Rattle.dnp_objects.specs.declared.row.Row.{Row as Event}
use Rattle.dnp_eventbuf.specs.Archive.{Archive, with_events}
use Rattle.dnp_store.specs.Texts.{journal_insert_16}
use Rattle.dnp_store.specs.QueueTables.{Queued, queued_cells}
use Rattle.dnp_store.specs.JournalTables.{journal_schema, HoldsArchive, IsJournal, IsLogged}
use Rattle.dnp_store.specs.declared.store_kind.StoreKind.TheVariants.{Journal}
use Rattle.dnp_store.proofs.IdRows as id_rows
use Rattle.dnp_store.proofs.Counting.{PutsAll}
use Rattle.dnp_store.proofs.Sixteen as sixteen
use Rattle.dnp_store.proofs.Sixteen.{terms_16, params_of, rests_of}
use Rattle.dnp_store.proofs.QueueStatements.{whole_cells}
use Rattle.dnp_store.proofs.JournalStatements.{insert_casts}
use Rattle.dnp_store.proofs.JournalHolding.{logged_for, put, with-append}
use Rattle.dnp_store.proofs.Statements.{IsRead, command_read, plain_read}

abbrev pub insert_text_16 : List ℕ
insert_text_16 = journal_insert_16

insert_read_16 : (f j : List Term) (m : Schema) → IsRead (Insert 1 (Values terms_16 7)) (understood (journal_schema f j m) insert_text_16)
unfolding understood everything
insert_read_16 f j m = (refl, refl, refl)

insert_is_16 : (f j : List Term) (m : Schema) → command_of (understood (journal_schema f j m) insert_text_16) ≡ Insert 1 (Values terms_16 7)
insert_is_16 f j m = command_read _ (understood (journal_schema f j m) insert_text_16) (insert_read_16 f j m)

insert_plain_16 : (f j : List Term) (m : Schema) → IsPlain (understood (journal_schema f j m) insert_text_16)
insert_plain_16 f j m = plain_read _ (understood (journal_schema f j m) insert_text_16) (insert_read_16 f j m)

-- the events, as they are given and as they are put in
abbrev pub logged_all : List Event → List Queued
logged_all = map (logged_for 0)

all_put : (x : Event) (xs : List Event) (db now : Trees) (a : Archive) → HoldsArchive db a
    → PutsAll 3 (codes "journal") db (rests_of (logged_all (x ∷ xs))) a.last_id now → HoldsArchive now (with_events a (x ∷ xs))
all_put x [] db now a h puts = put db now a x h (record { table = puts.table; count = puts.count; others = puts.others })
all_put x (y ∷ ys) db now a h puts =
    let rest = whole_cells (logged_for 0 x) in
    let mid = sixteen.mid_of (codes "journal") db rest a.last_id in
    let one = put db mid a x h (sixteen.puts_one (codes "journal") db rest a.last_id 3) in
    let others = all_put y ys mid now (with_events a (x ∷ [])) one
    (sixteen.puts_more (codes "journal") db rest a.last_id 3 (rests_of (logged_all (y ∷ ys))) now puts) in
    subst (λ (b : Archive). HoldsArchive now b) (with-append a (x ∷ []) (y ∷ ys)) others

pub holds_16 : (old new : State) (a : Archive) (xs : List Event) (count : ℕ) → length xs ≡ 16
    → Executes insert_text_16 (params_of (logged_all xs)) old new (Ok count) → IsJournal old.now a → IsJournal new.now (with_events a xs)
holds_16 old new a [] count long ran h = absurd (omega arith)
holds_16 old new a (x ∷ xs) count long ran h =
    let f = h.form_checks in
    let j = h.journal_checks in
    let m = h.more in
    let low = all_weaker (IsLogged a.last_id) (λ (x : Queued). x.id ≤ a.last_id) (λ x l. l.up_to_last) h.holds.logged h.holds.in_range in
    let under = id_rows.are_under (λ (y : Queued). y.id) queued_cells h.holds.logged a.last_id (old.now.trees 1) low h.holds.logged_is in
    let next = id_rows.next_is (old.now.trees 1) a.last_id under in
    let did = sixteen.inserts_16 Journal f j m h.behind old new insert_text_16 (logged_all (x ∷ xs)) a.last_id next.0 count (insert_is_16 f j m)
    (insert_plain_16 f j m) (insert_casts j) (length-map (x ∷ xs) (logged_for 0) ∙ long) h.schema h.holds.counted under next.1 next.2 ran in
    record {
      form_checks = f;
      journal_checks = j;
      more = m;
      schema = did.0;
      behind = h.behind;
      holds = all_put x xs old.now.trees new.now.trees a h.holds did.1;
    }
