-- The events that a journal's tables hold after a statement.
use Rattle.std.proofs.Common.{◌≡◌, ℕ, suc, ◌+◌, ◌<◌, ◌≤◌, ◌^◌, pos, Bool, true, false, List, [], ◌∷◌, ◌++◌, map, length, codes, Option, Some, None, Ok, refl, sym, ap, ap₂, subst, subst₂, ◌∙◌, arith, nat_cmp, IsPermutation, append_assoc, length-append, append-nil}
use Rattle.std.specs.List.{AllByRecursion}
use Rattle.std.specs.Prelude.{AllPairs, All, option_map}
use Rattle.std.proofs.lemmas.List.{map-append}
use Rattle.std.proofs.lemmas.List.Sorted.{IsPermutation-append_left, IsPermutation-map}
use Rattle.std.proofs.lemmas.List.Elements.{All-from_recursion}
use Rattle.std.proofs.lemmas.List.Kept.{AllPairs-cons}
use Rattle.sqlite_keyed.specs.Lists.{sort_by}
use Rattle.sqlite_keyed.proofs.ListLemmas.{ascending-map, all_map}
use Rattle.sqlite_trees.proofs.ListLemmas.{all_weaker}
use Rattle.sqlite.specs.declared.types.Value.{Value}
use Rattle.sqlite.specs.declared.types.Value.TheVariants.{Int}
use Rattle.sqlite.specs.Values as values
use Rattle.sqlite.specs.Values.{bound_value}
use Rattle.dnp_store.proofs.QueueSteps.{bound_time}
use Rattle.sqlite.specs.Tree.{Trees, IsAscending}
use Rattle.sqlite.specs.State.{State, Executes}
use Rattle.dnp_objects.specs.declared.row.Row.{Row as Event}
use Rattle.dnp_objects.specs.declared.row.Kind.{Kind}
use Rattle.dnp_objects.specs.declared.row.Kind.TheVariants.{Binary, Counter, Analog}
use Rattle.dnp_objects.specs.Lanes.{kind_number}
use Rattle.dnp_eventbuf.specs.declared.numbered.Numbered.{Numbered}
use Rattle.dnp_eventbuf.specs.Archive.{Archive, IsSoundArchive, numbered, with_events}
use Rattle.dnp_store.specs.QueueTables.{Queued, queued_row, queued_cells, event_of, kind_in, IsForm1}
use Rattle.dnp_store.specs.JournalTables.{HoldsArchive, IsJournal, IsLogged, archive_in, event_in}
use Rattle.dnp_store.proofs.Holding.{kind_low}
use Rattle.dnp_store.proofs.IdRows as id_rows
use Rattle.dnp_store.proofs.Counting.{PutsAt}
use Rattle.dnp_store.proofs.JournalStatements.{insert_text, inserts}
use Rattle.dnp_store.proofs.QueueStatements.{insert_params}
use Rattle.dnp_store.proofs.Rising.{in_order}

-- ---- one event more

-- a row of the table for an event
abbrev pub logged_for : ℕ → Event → Queued
logged_for id row = record { id = id; lane = kind_number row.kind; index = row.index; flags = row.flags; value = row.value; time = row.time; is_short = false }

pub kind_is : (kind : Kind) → kind_in (kind_number kind) ≡ kind
kind_is Binary = refl
kind_is Counter = refl
kind_is Analog = refl

event_is : (id : ℕ) (row : Event) → event_of (logged_for id row) ≡ record { id = id; row = row }
event_is id row =
    ap (λ (kind : Kind). record { id = id; row = record { kind = kind; index = row.index; flags = row.flags; value = row.value; time = row.time } }) (kind_is row.kind)

up_to : (last : ℕ) (xs : List Queued) → AllByRecursion (IsLogged last) xs → AllByRecursion (λ (x : Queued). x.id ≤ last) xs
up_to last xs all = all_weaker (IsLogged last) (λ (x : Queued). x.id ≤ last) (λ x h. h.up_to_last) xs all

later : (last : ℕ) (x : Queued) → IsLogged last x → IsLogged (last + 1) x
later last x h = let low = h.up_to_last in record { from_1 = h.from_1; up_to_last = omega arith; kind = h.kind }

pushed : (last : ℕ) (xs : List Queued) (y : Queued) → AllByRecursion (IsLogged last) xs → IsLogged (last + 1) y → AllByRecursion (IsLogged (last + 1)) (xs ++ y ∷ [])
pushed last [] y all h = (h, tt)
pushed last (x ∷ xs) y all h = (later last x all.0, pushed last xs y all.1 h)

pub put : (db now : Trees) (a : Archive) (row : Event) → HoldsArchive db a
    → PutsAt 3 (codes "journal") db (queued_cells (logged_for (a.last_id + 1) row)) a.last_id now → HoldsArchive now (with_events a (row ∷ []))
put db now a row h puts =
    let new = logged_for (a.last_id + 1) row in
    let id_of : Queued → ℕ = λ y. y.id in
    let low = up_to a.last_id h.logged h.in_range in
    let under = id_rows.are_under id_of queued_cells h.logged a.last_id (db 1) low h.logged_is in
    record {
      form = subst IsForm1 (sym (puts.others 0 (omega arith) (λ e. absurd (omega arith)) (λ e. absurd (omega arith)))) h.form;
      logged = h.logged ++ new ∷ [];
      logged_is = subst₂ IsPermutation (sym (map-append queued_row h.logged (new ∷ [])))
          (sym (puts.table ∙ id_rows.put_last (db 1) a.last_id (queued_cells new) under))
          (IsPermutation-append_left (queued_row new ∷ []) (map queued_row h.logged) (db 1) h.logged_is);
      counted = puts.count;
      rise = id_rows.rise-push id_of queued_cells h.logged new a.last_id h.rise low (omega arith);
      in_range = pushed a.last_id h.logged new h.in_range (record { from_1 = omega arith; up_to_last = omega arith; kind = kind_low row.kind });
      rows = ap₂ (λ (xs : List Numbered) e. xs ++ e ∷ []) h.rows (sym (event_is (a.last_id + 1) row)) ∙ sym (map-append event_of h.logged (new ∷ []));
    }

pub insert_holds : (old new : State) (a : Archive) (row : Event) (count : ℕ) → Executes insert_text (insert_params (logged_for 0 row)) old new (Ok count)
    → IsJournal old.now a → IsJournal new.now (with_events a (row ∷ []))
insert_holds old new a row count ran h =
    let low = up_to a.last_id h.holds.logged h.holds.in_range in
    let under = id_rows.are_under (λ (y : Queued). y.id) queued_cells h.holds.logged a.last_id (old.now.trees 1) low h.holds.logged_is in
    let next = id_rows.next_is (old.now.trees 1) a.last_id under in
    let did = inserts old new h.form_checks h.journal_checks h.more h.behind (logged_for (a.last_id + 1) row) a.last_id next.0 count h.schema h.holds.counted
    next.1 next.2 ran in
    record {
      form_checks = h.form_checks;
      journal_checks = h.journal_checks;
      more = h.more;
      schema = did.0;
      behind = h.behind;
      holds = put old.now.trees new.now.trees a row h.holds did.1;
    }

-- what the statement is given
pub insert_bound : (x : Event) (a b c d t : Value) → a ≡ Int (pos (kind_number x.kind)) → b ≡ Int (pos x.index) → c ≡ Int (pos x.flags) → d ≡ Int x.value
    → t ≡ values.or_null Int (option_map pos x.time)
    → (bound_value a ∷ bound_value b ∷ bound_value c ∷ bound_value d ∷ bound_value t ∷ []) ≡ insert_params (logged_for 0 x)
insert_bound x a b c d t p q r s u = rw (p, q, r, s, u, bound_time x.time) refl

-- ---- events one after another

numbered-append : (last : ℕ) (xs ys : List Event) → numbered last (xs ++ ys) ≡ numbered last xs ++ numbered (last + length xs) ys
numbered-append last [] ys = ap (λ (n : ℕ). numbered n ys) (let same : last ≡ last + 0 = omega arith in same)
numbered-append last (x ∷ xs) ys =
    ap (λ (es : List Numbered). (record { id = last + 1; row = x }) ∷ es) (numbered-append (last + 1) xs ys
    ∙ ap (λ (n : ℕ). numbered (last + 1) xs ++ numbered n ys) (let same : last + 1 + length xs ≡ last + suc (length xs) = omega arith in same))

pub with-append : (a : Archive) (xs ys : List Event) → with_events (with_events a xs) ys ≡ with_events a (xs ++ ys)
with-append a xs ys =
    ap₂ (λ (es : List Numbered) (n : ℕ). record { rows = es; last_id = n })
    (append_assoc a.rows (numbered a.last_id xs) _ ∙ ap (λ es. a.rows ++ es) (sym (numbered-append a.last_id xs ys)))
    (let longer = length-append xs ys in let same : a.last_id + length xs + length ys ≡ a.last_id + length (xs ++ ys) = omega (arith, longer) in same)

pub with-none : (a : Archive) → with_events a [] ≡ a
with-none a =
    ap₂ (λ (es : List Numbered) (n : ℕ). record { rows = es; last_id = n }) (append-nil a.rows)
    (let same : a.last_id + 0 ≡ a.last_id = omega arith in same)

-- ---- the archive that the trees hold is the one that they tell

time_in : (x : Queued) → event_in (queued_row x) ≡ event_of x
time_in x = go x.is_short x.time
  where
    go : (short : Bool) (time : Option ℕ) → event_in (queued_row (record x { is_short = short; time = time })) ≡ event_of (record x { is_short = short; time = time })
    go true time = refl
    go false None = refl
    go false (Some t) = refl

pub told : (xs : List Queued) → map event_in (map queued_row xs) ≡ map event_of xs
told [] = refl
told (x ∷ xs) = ap₂ (λ (e : Numbered) es. e ∷ es) (time_in x) (told xs)

abbrev Rise : List Numbered → Type 0
Rise = IsAscending (λ x y. x.id < y.id)

events_rise : (xs : List Queued) → IsAscending (λ x y. x.id < y.id) xs → Rise (map event_of xs)
events_rise xs rise = ascending-map (λ (x y : Numbered). x.id < y.id) event_of xs rise

pub archive_is : (db : Trees) (a : Archive) → HoldsArchive db a → archive_in db a.last_id ≡ a
archive_is db a h =
    let es = map event_of h.logged in
    let rise : Rise es = events_rise h.logged h.rise in
    let same : IsPermutation es (map event_in (db 1)) =
    subst (λ l. IsPermutation l (map event_in (db 1))) (told h.logged) (IsPermutation-map event_in (map queued_row h.logged) (db 1) h.logged_is) in
    let is : es ≡ sort_by (λ x y. nat_cmp x.id y.id) (map event_in (db 1)) = in_order (λ (x : Numbered). x.id) (map event_in (db 1)) es same rise in
    ap (λ (xs : List Numbered). record { rows = xs; last_id = a.last_id }) (sym is ∙ sym h.rows)

-- ---- it is sound

pairs : (es : List Numbered) → Rise es → AllPairs (λ (x y : Numbered). x.id < y.id) es
pairs [] rise = λ i j d less low. absurd (omega arith)
pairs (e ∷ es) rise = AllPairs-cons (λ (x y : Numbered). x.id < y.id) e es (All-from_recursion (λ (f : Numbered). e.id < f.id) es rise.0) (pairs es rise.1)

of_logged : (P : Numbered → Type 0) (last : ℕ) (xs : List Queued) → ((x : Queued) → IsLogged last x → P (event_of x)) → AllByRecursion (IsLogged last) xs
    → All P (map event_of xs)
of_logged P last xs each all =
    All-from_recursion P (map event_of xs) (all_map P event_of xs (all_weaker (IsLogged last) (λ (x : Queued). P (event_of x)) each xs all))

pub sound_of : (db : Trees) (a : Archive) → HoldsArchive db a → a.last_id ≤ 2 ^ 62 → IsSoundArchive a
sound_of db a h low =
    let es = map event_of h.logged in
    subst (λ (xs : List Numbered). IsSoundArchive (record { rows = xs; last_id = a.last_id })) (sym h.rows) (record {
      rising = pairs es (events_rise h.logged h.rise);
      from_1 = of_logged (λ (x : Numbered). 1 ≤ x.id) a.last_id h.logged (λ x l. l.from_1) h.in_range;
      up_to_last = of_logged (λ (x : Numbered). x.id ≤ a.last_id) a.last_id h.logged (λ x l. l.up_to_last) h.in_range;
      last_id_at_most = low;
    })

-- ids from 1 on that rise up to one are at most as many
few : (n : ℕ) (xs : List Queued) (last : ℕ) → IsAscending (λ x y. x.id < y.id) xs → AllByRecursion (λ (x : Queued). n < x.id) xs → AllByRecursion (IsLogged last) xs
    → n ≤ last → n + length xs ≤ last
few n [] last rise over all low = omega arith
few n (x ∷ xs) last rise over all low =
    let first = over.0 in
    let most = all.0.up_to_last in
    let rest = few x.id xs last rise.1 rise.0 all.1 (omega arith) in
    omega arith

pub count_with : (a : Archive) (rows : List Event) → length (with_events a rows).rows ≡ length a.rows + length rows
count_with a rows = length-append a.rows (numbered a.last_id rows) ∙ ap (λ (n : ℕ). length a.rows + n) (all a.last_id rows)
  where
    all : (last : ℕ) (rows : List Event) → length (numbered last rows) ≡ length rows
    all last [] = refl
    all last (r ∷ rows) = ap suc (all (last + 1) rows)
