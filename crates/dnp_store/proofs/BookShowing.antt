-- The rows of a book's table show its entries in the order of their ids.
use Rattle.std.proofs.Common.{ℕ, zero, suc, ◌<◌, ◌≤◌, List, [], ◌∷◌, map, get_or, length, Ok, Err, Result, IfOk, refl, sym, ap, subst, arith}
use Rattle.std.specs.Prelude.{Vec}
use Rattle.std.specs.declared.alloc.Global.{Global}
use Rattle.sqlite.specs.Schema.{Schema}
use Rattle.sqlite.specs.declared.types.Value.{Value}
use Rattle.sqlite.specs.declared.types.Value.TheVariants.{Null}
use Rattle.sqlite.specs.Order.{Row}
use Rattle.sqlite.specs.State.{State, Shown}
use Rattle.sqlite.specs.Tree.{IsAscending, IsTable}
use Rattle.std.specs.List.{AllByRecursion}
use Rattle.std.proofs.lemmas.List.Elements.{recursion_from_All}
use Rattle.sqlite_trees.proofs.ListLemmas.{all_weaker}
use Rattle.sqlite.proofs.Callers.{reads_as}
use Rattle.dnp_controls.specs.declared.book.Entry.{Entry}
use Rattle.dnp_controls.specs.Book.{IsSoundLedger, Ledger}
use Rattle.dnp_store.specs.BookTables.{IsStorable, book_schema, entry_cells, entry_row}
use Rattle.dnp_store.specs.declared.store_kind.StoreKind.TheVariants.{Book}
use Rattle.dnp_store.specs.steps.BookShown.{EntriesRise, HasNoEntry, HoldsEntries, ShowEntries, ShowsEntry, no_entry}
use Rattle.dnp_store.specs.steps.Shown.{ShowIds}
use Rattle.dnp_store.specs.steps.Stores.{Reads}
use Rattle.dnp_store.proofs.BookOpening.{control_is, control_plain, control_query, control_terms, shown}
use Rattle.dnp_store.proofs.IdRows as id_rows
use Rattle.dnp_store.proofs.InOrder.{in_order}
use Rattle.dnp_store.proofs.Once.{ascending}
use Rattle.dnp_store.proofs.Opening.{unchanged}

one_more : (e : Entry) (es : List Entry) → ((k : ℕ) → k < length es → ShowsEntry (get_or (map shown (map entry_row es)) k []) (get_or es k no_entry))
    → (k : ℕ) → k < length (e ∷ es) → ShowsEntry (get_or (map shown (map entry_row (e ∷ es))) k []) (get_or (e ∷ es) k no_entry)
one_more e es rest zero low = record {
  id_is = refl;
  target = refl;
  command = record { kind = refl; index = refl; code = refl; count = refl; on = refl; off = refl; value = refl };
  control = record { number = refl; status = refl };
}
one_more e es rest (suc k) low = rest k (omega arith)

-- each row shows its entry
each : (es : List Entry) → ShowEntries (map shown (map entry_row es)) es
each [] = record { long = refl; each = λ k low. absurd (omega arith) }
each (e ∷ es) = record { long = ap suc (each es).long; each = one_more e es (each es).each }

module _ (old new : State) (rows : List Row) where
  pub shows_entries : Shown control_query [] old new rows
      → Reads Book old new (λ db. (book : Ledger) → IsSoundLedger book → HoldsEntries db book.entries → ShowEntries rows book.entries)
  shows_entries shows f c m sure has =
      let read = reads_as control_query [] old new (book_schema f c m) has _ (control_is f c m).0 (control_plain f c m) (control_is f c m).1 rows shows in (
        unchanged control_query old new (book_schema f c m) rows has (control_plain f c m) shows,
        λ book sound holds.
            let table : IsTable (map entry_row book.entries) =
            id_rows.is_table (λ (e : Entry). e.id) entry_cells book.entries (ascending book.entries sound.rising) in
            let is = in_order 1 control_terms old.now.trees rows (map entry_row book.entries) refl holds table (read.answer Null) in
            subst (λ (rs : List Row). ShowEntries rs book.entries) (sym is) (each book.entries),
      )

module _ {E : Type 0} (old new : State) where
  pub entries_if : (r : Result (Vec (List Value) Global) E) → IfOk r (λ rows. Shown control_query [] old new rows.items)
      → IfOk r (λ rows. Reads Book old new (λ db. (book : Ledger) → IsSoundLedger book → HoldsEntries db book.entries → ShowEntries rows.items book.entries))
  entries_if (Ok rows) shows = shows_entries old new rows.items shows
  entries_if (Err e) shows = tt

-- so they show ids up to the last one used
pub ids_shown : (rows : List Row) (book : Ledger) → IsSoundLedger book → ShowEntries rows book.entries → ShowIds rows book.last_id
ids_shown rows book sound shows k low =
    let within : k < length book.entries = omega (arith, low, shows.long) in
    ((get_or book.entries k no_entry).id, (shows.each k within).id_is, sound.up_to_last k no_entry within)

-- ---- a sound book's entries are in order

in_order_from : (before last : ℕ) (es : List Entry) → IsAscending (λ (x y : Entry). x.id < y.id) es → AllByRecursion (λ (x : Entry). before < x.id) es
    → AllByRecursion (λ (x : Entry). x.id ≤ last) es → EntriesRise before last es
in_order_from before last [] rise over up = tt
in_order_from before last (e ∷ es) rise over up = (over.0, up.0, in_order_from e.id last es rise.1 rise.0 up.1)

pub rises : (book : Ledger) → IsSoundLedger book → EntriesRise 0 book.last_id book.entries
rises book sound =
    in_order_from 0 book.last_id book.entries (ascending book.entries sound.rising)
    (all_weaker (λ (x : Entry). 1 ≤ x.id) (λ (x : Entry). 0 < x.id) (λ x more. omega arith) book.entries
    (recursion_from_All (λ (x : Entry). 1 ≤ x.id) book.entries sound.from_1))
    (recursion_from_All (λ (x : Entry). x.id ≤ book.last_id) book.entries sound.up_to_last)

-- each row shows an entry that fits
pub none_lacks : (rows : List Row) (book : Ledger) → IsStorable book → ShowEntries rows book.entries → HasNoEntry rows → ⊥
none_lacks rows book storable shows lacks =
    let within : lacks.0 < length book.entries = omega (arith, lacks.1, shows.long) in
    lacks.2 (get_or book.entries lacks.0 no_entry) (storable.fit lacks.0 no_entry within) (shows.each lacks.0 within)
