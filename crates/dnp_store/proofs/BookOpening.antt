-- What the queries of an open show of a book's tables.
use Rattle.std.proofs.Common.{◌≡◌, ℕ, suc, ◌<◌, ◌≤◌, ℤ, pos, false, List, [], ◌∷◌, map, length, codes, Some, Ok, Err, Result, IfOk, IsTrue, refl, sym, ap, ap₂, subst, ◌∙◌, arith, IsPermutation}
use Rattle.std.specs.Prelude.{Vec, AllPairs}
use Rattle.std.specs.declared.alloc.Global.{Global}
use Rattle.std.specs.List.{AllByRecursion}
use Rattle.std.proofs.lemmas.List.Elements.{All-from_recursion}
use Rattle.std.proofs.lemmas.List.Kept.{AllPairs-cons}
use Rattle.std.proofs.lemmas.List.Sorted.{IsPermutation-sym}
use Rattle.sqlite_tied.specs.Compute.{everything}
use Rattle.sqlite_trees.proofs.ListLemmas.{all-permutation, all_weaker}
use Rattle.sqlite.specs.Schema.{Schema}
use Rattle.sqlite.specs.Command.TheVariants.{Select}
use Rattle.sqlite.specs.declared.types.Value.{Value}
use Rattle.sqlite.specs.declared.types.Value.TheVariants.{Null, Int}
use Rattle.sqlite.specs.Order.{Row, column}
use Rattle.sqlite.specs.Term.{Term, col}
use Rattle.sqlite.specs.Effect.{Database}
use Rattle.sqlite.specs.Given.{IsPlain}
use Rattle.sqlite.specs.Listing.{understood, reads_listing}
use Rattle.sqlite.specs.State.{State, Shown}
use Rattle.sqlite.proofs.Callers.{command_of, reads_as}
use Rattle.dnp_controls.specs.declared.book.Entry.{Entry}
use Rattle.dnp_controls.specs.Book.{IsSoundLedger}
use Rattle.dnp_store.specs.Tables.{AreBehind, IsCounted}
use Rattle.dnp_store.specs.QueueTables.{IsForm1}
use Rattle.dnp_store.specs.BookTables.{book_names, book_schema, book_columns, entry_row, IsBook, status_of}
use Rattle.dnp_store.specs.steps.BookShown.{ShowsEntry, ShowEntries, EntriesRise, HoldsEntries, FindsBook, IsBookFound}
use Rattle.dnp_store.specs.declared.store_kind.StoreKind.TheVariants.{Book}
use Rattle.dnp_store.specs.steps.Stores.{Reads}
use Rattle.dnp_store.proofs.Rows.{IsTyped, typed_rows, null_is, and_left, at_most}
use Rattle.dnp_store.proofs.Opening.{query, listed, shown_by, unchanged}

-- ---- what the texts are

abbrev pub control_query : List ℕ
control_query = codes "SELECT id, target, kind, point, code, count, on_ms, off_ms, value, state, status FROM control ORDER BY id"

abbrev pub control_terms : List Term
control_terms = col 1 0 ∷ col 1 2 ∷ col 1 3 ∷ col 1 4 ∷ col 1 5 ∷ col 1 6 ∷ col 1 7 ∷ col 1 8 ∷ col 1 9 ∷ col 1 10 ∷ col 1 11 ∷ []

pub control_is : (f c : List Term) (m : Schema)
    → (command_of (understood (book_schema f c m) control_query) ≡ Select (record { lets = []; body = query 1 control_terms })
    (codes "id" ∷ codes "target" ∷ codes "kind" ∷ codes "point" ∷ codes "code" ∷ codes "count" ∷ codes "on_ms" ∷ codes "off_ms" ∷ codes "value" ∷ codes "state"
    ∷ codes "status" ∷ [])) × (reads_listing (book_schema f c m) control_query ≡ false)
unfolding understood everything
control_is f c m = (refl, refl)

pub control_plain : (f c : List Term) (m : Schema) → IsPlain (understood (book_schema f c m) control_query)
unfolding understood everything
control_plain f c m = (refl, refl)

-- ---- entries of rows

abbrev pub shown : Row → Row
shown = shown_by control_terms

-- a row that has its last value is whole
record Whole (r : Row) : Type 0 where
  pub is : r ≡ column r 0 ∷ Null ∷ column r 2 ∷ column r 3 ∷ column r 4 ∷ column r 5 ∷ column r 6 ∷ column r 7 ∷ column r 8 ∷ column r 9 ∷ column r 10 ∷ column r 11 ∷ []

null_int : (n : ℤ) → ◌≡◌ {A = Value} Null (Int n) → ⊥
null_int n e = cc

whole : (r : Row) (n : ℤ) → IsTyped (Some 0) book_columns r → column r 11 ≡ Int n → Whole r
whole [] n h last = absurd (null_int n last)
whole (a ∷ []) n h last = absurd (null_int n last)
whole (a ∷ b ∷ []) n h last = absurd (null_int n last)
whole (a ∷ b ∷ d ∷ []) n h last = absurd (null_int n last)
whole (a ∷ b ∷ d ∷ e ∷ []) n h last = absurd (null_int n last)
whole (a ∷ b ∷ d ∷ e ∷ g ∷ []) n h last = absurd (null_int n last)
whole (a ∷ b ∷ d ∷ e ∷ g ∷ i ∷ []) n h last = absurd (null_int n last)
whole (a ∷ b ∷ d ∷ e ∷ g ∷ i ∷ k ∷ []) n h last = absurd (null_int n last)
whole (a ∷ b ∷ d ∷ e ∷ g ∷ i ∷ k ∷ l ∷ []) n h last = absurd (null_int n last)
whole (a ∷ b ∷ d ∷ e ∷ g ∷ i ∷ k ∷ l ∷ m ∷ []) n h last = absurd (null_int n last)
whole (a ∷ b ∷ d ∷ e ∷ g ∷ i ∷ k ∷ l ∷ m ∷ o ∷ []) n h last = absurd (null_int n last)
whole (a ∷ b ∷ d ∷ e ∷ g ∷ i ∷ k ∷ l ∷ m ∷ o ∷ p ∷ []) n h last = absurd (null_int n last)
whole (a ∷ b ∷ d ∷ e ∷ g ∷ i ∷ k ∷ l ∷ m ∷ o ∷ p ∷ q ∷ []) n h last =
    record { is = ap (λ (v : Value). a ∷ v ∷ d ∷ e ∷ g ∷ i ∷ k ∷ l ∷ m ∷ o ∷ p ∷ q ∷ []) (null_is b (and_left _ _ h)) }
whole (a ∷ b ∷ d ∷ e ∷ g ∷ i ∷ k ∷ l ∷ m ∷ o ∷ p ∷ q ∷ s ∷ more) n h last =
    let low : length (b ∷ d ∷ e ∷ g ∷ i ∷ k ∷ l ∷ m ∷ o ∷ p ∷ q ∷ s ∷ more) ≤ 11 =
    at_most (Some 0) 0 book_columns (b ∷ d ∷ e ∷ g ∷ i ∷ k ∷ l ∷ m ∷ o ∷ p ∷ q ∷ s ∷ more) h in absurd (omega arith)

control_row : (r : Row) (e : Entry) → IsTyped (Some 0) book_columns r → ShowsEntry (shown r) e → r ≡ entry_row e
control_row r e h one =
    (whole r (pos (status_of e.state)) h one.control.status).is
    ∙ rw (
      one.id_is,
      one.target,
      one.command.kind,
      one.command.index,
      one.command.code,
      one.command.count,
      one.command.on,
      one.command.off,
      one.command.value,
      one.control.number,
      one.control.status,
    ) refl

controls : (rs : List Row) (es : List Entry) → AllByRecursion (IsTyped (Some 0) book_columns) rs → ShowEntries (map shown rs) es → rs ≡ map entry_row es
controls [] [] types h = refl
controls [] (e ∷ es) types h = absurd (let long = h.long in omega arith)
controls (r ∷ rs) [] types h = absurd (let long = h.long in omega arith)
controls (r ∷ rs) (e ∷ es) types h =
    let one : ShowsEntry (shown r) e = h.each 0 (omega arith) in
    ap₂ (λ (v : Row) vs. v ∷ vs) (control_row r e types.0 one)
    (controls rs es types.1 (record { long = (let long = h.long in omega arith); each = λ k low. h.each (suc k) (omega arith) }))

-- ---- ids that rise are a sound book's

over : (before last : ℕ) (es : List Entry) → EntriesRise before last es → AllByRecursion (λ (x : Entry). before < x.id) es
over before last [] h = tt
over before last (e ∷ es) h =
    let less = h.0 in
    (less, all_weaker (λ (x : Entry). e.id < x.id) (λ (x : Entry). before < x.id) (λ x more. omega arith) es (over e.id last es h.2))

up_to : (before last : ℕ) (es : List Entry) → EntriesRise before last es → AllByRecursion (λ (x : Entry). x.id ≤ last) es
up_to before last [] h = tt
up_to before last (e ∷ es) h = (h.1, up_to e.id last es h.2)

rising : (before last : ℕ) (es : List Entry) → EntriesRise before last es → AllPairs (λ (x y : Entry). x.id < y.id) es
rising before last [] h = λ i j d less low. absurd (omega arith)
rising before last (e ∷ es) h =
    AllPairs-cons (λ (x y : Entry). x.id < y.id) e es (All-from_recursion (λ (x : Entry). e.id < x.id) es (over e.id last es h.2)) (rising e.id last es h.2)

pub sound_of_rise : (last : ℕ) (es : List Entry) → EntriesRise 0 last es → IsSoundLedger (record { entries = es; last_id = last })
sound_of_rise last es h = record {
  rising = rising 0 last es h;
  from_1 = All-from_recursion (λ (x : Entry). 1 ≤ x.id) es
      (all_weaker (λ (x : Entry). 0 < x.id) (λ (x : Entry). 1 ≤ x.id) (λ x more. omega arith) es (over 0 last es h));
  up_to_last = All-from_recursion (λ (x : Entry). x.id ≤ last) es (up_to 0 last es h);
}

-- ---- what the queries say of the trees

module _ (old new : State) (rows : List Row) where
  pub reads_controls : Shown control_query [] old new rows
      → Reads Book old new (λ db. (entries : List Entry) → ShowEntries rows entries → HoldsEntries db entries)
  reads_controls shows f c m sound has =
      let read = reads_as control_query [] old new (book_schema f c m) has _ (control_is f c m).0 (control_plain f c m) (control_is f c m).1 rows shows in
      let got = listed 1 control_terms old.now.trees rows refl (read.answer Null) in
      let types = all-permutation (IsTyped (Some 0) book_columns) (old.now.trees 1) got.0 got.1 (typed_rows Book old.now f c m has sound) in (
        unchanged control_query old new (book_schema f c m) rows has (control_plain f c m) shows,
        λ entries each.
            let is = controls got.0 entries types (subst (λ (xs : List Row). ShowEntries xs entries) got.2 each) in
            subst (λ xs. IsPermutation xs (old.now.trees 1)) is (IsPermutation-sym (old.now.trees 1) got.0 got.1),
      )

module _ {E : Type 0} (old new : State) where
  pub controls_if : (r : Result (Vec (List Value) Global) E) → IfOk r (λ rows. Shown control_query [] old new rows.items)
      → IfOk r (λ rows. Reads Book old new (λ db. (entries : List Entry) → ShowEntries rows.items entries → HoldsEntries db entries))
  controls_if (Ok rows) shows = reads_controls old new rows.items shows
  controls_if (Err e) shows = tt

-- the entries that were read are those of the database
pub opened : (db : Database) (f c : List Term) (m : Schema) → AreBehind book_names m → (entries : List Entry) (last : ℕ) → db.schema ≡ book_schema f c m
    → IsForm1 (db.trees 0)
    → IsCounted (codes "control") (db.trees 2) last → HoldsEntries db.trees entries → FindsBook db entries last
opened db f c m behind entries last has form counted holds = record {
  form_checks = f;
  control_checks = c;
  more = m;
  schema = has;
  behind = behind;
  holds = record { form = form; entries = holds; counted = counted };
}

-- what an open found stands where the connection still serves
pub found_again : (old : Database) (new : State) (entries : List Entry) (last : ℕ) → IsTrue new.is_open → new.committed ≡ old → FindsBook old entries last
    → IsBookFound old new entries last
found_again old new entries last is_open same finds = record {
  found = finds;
  stands = record {
    is_open = is_open;
    holds = subst (λ (d : Database). IsBook d (record { entries = entries; last_id = last })) (sym same) finds;
  };
}
