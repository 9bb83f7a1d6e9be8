-- The events that the pages of a journal's rows show, and those that are left after them.
use Rattle.std.proofs.Common.{◌≡◌, ℕ, zero, suc, ◌+◌, ◌<◌, ◌≤◌, pos, nat_lt, Bool, true, false, cond, List, [], ◌∷◌, map, filter, take, drop, length, get_or, Option, Ok, Err, Result, IfOk, refl, sym, ap, ap₂, subst, subst₂, ◌∙◌, arith, take-append-drop, length-append}
use Rattle.std.specs.Prelude.{All, Vec}
use Rattle.std.specs.declared.alloc.Global.{Global}
use Rattle.std.specs.List.{AllByRecursion}
use Rattle.std.proofs.lemmas.List.{length-map, take-map}
use Rattle.std.proofs.lemmas.List.Elements.{All-from_recursion, recursion_from_All}
use Rattle.std.proofs.lemmas.List.Sorted.{length_permutation}
use Rattle.sqlite_keyed.proofs.ListLemmas.{all_map, filter-filter}
use Rattle.sqlite_trees.proofs.ListLemmas.{all-filter, all_weaker, ascending-filter, ascending-map, filter-map, filter_all}
use Rattle.sqlite.specs.Schema.{Schema}
use Rattle.sqlite.specs.declared.types.Value.{Value}
use Rattle.sqlite.specs.declared.types.Value.TheVariants.{Int}
use Rattle.sqlite.specs.Order.{Row, column}
use Rattle.sqlite.specs.State.{State, Shown}
use Rattle.sqlite.specs.Term.{Term}
use Rattle.sqlite.specs.Tree.{IsAscending, Trees}
use Rattle.dnp_objects.specs.Lanes.{kind_number}
use Rattle.dnp_objects.specs.declared.limits.TheConstants.{MAX_ID}
use Rattle.dnp_eventbuf.specs.Archive.{Archive, rows_over}
use Rattle.dnp_eventbuf.specs.declared.numbered.Numbered.{Numbered}
use Rattle.dnp_store.specs.JournalTables.{FitsEvent, HoldsArchive, IsLogged, IsStorableArchive, journal_schema, moment, natural, whole}
use Rattle.dnp_store.specs.QueueTables.{Queued, event_of, kind_in, queued_row}
use Rattle.dnp_store.specs.Tables.{or_null}
use Rattle.dnp_store.specs.declared.store_kind.StoreKind.TheVariants.{Journal}
use Rattle.dnp_store.specs.steps.JournalPages.{AreSeen, IsPage, ShowFirst, events_over}
use Rattle.dnp_store.specs.steps.JournalShown.{AreInOrder, HasNoEvent, ShowEvents, ShowsEvent, no_event}
use Rattle.dnp_store.specs.steps.Stores.{Reads}
use Rattle.dnp_store.proofs.JournalHolding.{kind_is}
use Rattle.dnp_store.proofs.JournalOpening.{few_in_order}
use Rattle.dnp_store.proofs.JournalPaging.{front_of}
use Rattle.dnp_store.proofs.JournalReading.{moment_is, over_params, over_plain, over_shows, over_text, overs, shown_row, unchanged_by}

-- ---- the first of a list

all_first : {X : Type 0} (P : X → Type 0) (most : ℕ) (xs : List X) → AllByRecursion P xs → AllByRecursion P (take most xs)
all_first P most xs h = front_of P (take most xs) (drop most xs) (subst (AllByRecursion P) (sym (take-append-drop most xs)) h)

took_none : {X : Type 0} (most : ℕ) (xs : List X) → 1 ≤ most → length (take most xs) ≡ 0 → length xs ≡ 0
took_none zero xs some none = absurd (omega arith)
took_none (suc n) [] some none = refl
took_none (suc n) (x ∷ xs) some none = absurd (omega arith)

-- ---- events in order

abbrev Rise : List Numbered → Type 0
Rise = IsAscending (λ x y. x.id < y.id)

first_rise : (most : ℕ) (es : List Numbered) → Rise es → Rise (take most es)
first_rise zero es h = tt
first_rise (suc n) [] h = tt
first_rise (suc n) (e ∷ es) h = (all_first (λ (x : Numbered). e.id < x.id) n es h.0, first_rise n es h.1)

-- they end with one that is no later than the top
record Ends (before top : ℕ) (es : List Numbered) : Type 0 where
  pub last : ℕ
  pub order : AreInOrder before last es
  pub low : before ≤ last
  pub up : last ≤ top

ends : (before top : ℕ) (es : List Numbered) → Rise es → AllByRecursion (λ (x : Numbered). before < x.id) es → AllByRecursion (λ (x : Numbered). x.id ≤ top) es
    → before ≤ top → Ends before top es
ends before top [] rise over under low = record { last = before; order = refl; low = omega arith; up = low }
ends before top (e ∷ es) rise over under low =
    let rest = ends e.id top es rise.1 rise.0 under.1 under.0 in
    let less : before < e.id = over.0 in
    let more : e.id ≤ rest.last = rest.low in
    record { last = rest.last; order = (less, more, rest.order); low = omega arith; up = rest.up }

-- those over an id are
kept_over : (from : ℕ) (es : List Numbered) → AllByRecursion (λ (x : Numbered). from < x.id) (filter (λ (x : Numbered). nat_lt from x.id) es)
kept_over from [] = tt
kept_over from (e ∷ es) = go (nat_lt from e.id) refl (kept_over from es)
  where
    go : (b : Bool) → nat_lt from e.id ≡ b → AllByRecursion (λ (x : Numbered). from < x.id) (filter (λ (x : Numbered). nat_lt from x.id) es)
        → AllByRecursion (λ (x : Numbered). from < x.id)
        (cond b (e ∷ filter (λ (x : Numbered). nat_lt from x.id) es) (filter (λ (x : Numbered). nat_lt from x.id) es))
    go true is rest = (grind (is, arith), rest)
    go false is rest = rest

-- those that are left follow those that were shown
after_first : (most from last : ℕ) (es : List Numbered) → Rise es → AllByRecursion (λ (x : Numbered). from < x.id) es → AreInOrder from last (take most es)
    → filter (λ (x : Numbered). nat_lt last x.id) es ≡ drop most es
after_first zero from last es rise over order =
    subst (λ (n : ℕ). filter (λ (x : Numbered). nat_lt n x.id) es ≡ es) (sym order)
    (filter_all (λ (x : Numbered). nat_lt from x.id) es
    (all_weaker (λ (x : Numbered). from < x.id) (λ (x : Numbered). nat_lt from x.id ≡ true) (λ x less. grind (less, arith)) es over))
after_first (suc n) from last [] rise over order = refl
after_first (suc n) from last (e ∷ es) rise over order =
    let low : e.id ≤ last = order.1 in
    let none : nat_lt last e.id ≡ false = grind (low, arith) in
    ap (λ (b : Bool). cond b (e ∷ filter (λ (x : Numbered). nat_lt last x.id) es) (filter (λ (x : Numbered). nat_lt last x.id) es)) none
    ∙ after_first n e.id last es rise.1 rise.0 order.2

-- ---- the events that the tables hold

module _ (db : Trees) (a : Archive) (holds : HoldsArchive db a) where
  events_rise : Rise a.rows
  events_rise = subst Rise (sym holds.rows) (ascending-map (λ (x y : Numbered). x.id < y.id) event_of holds.logged holds.rise)

  from_1 : AllByRecursion (λ (x : Numbered). 0 < x.id) a.rows
  from_1 =
      subst (AllByRecursion (λ (x : Numbered). 0 < x.id)) (sym holds.rows) (all_map (λ (x : Numbered). 0 < x.id) event_of holds.logged
      (all_weaker (IsLogged a.last_id) (λ (x : Queued). 0 < x.id) (λ x is. (let low = is.from_1 in omega arith)) holds.logged holds.in_range))

  up_to : (top : ℕ) → a.last_id ≤ top → AllByRecursion (λ (x : Numbered). x.id ≤ top) a.rows
  up_to top low =
      subst (AllByRecursion (λ (x : Numbered). x.id ≤ top)) (sym holds.rows) (all_map (λ (x : Numbered). x.id ≤ top) event_of holds.logged
      (all_weaker (IsLogged a.last_id) (λ (x : Queued). x.id ≤ top) (λ x is. (let up = is.up_to_last in omega arith)) holds.logged holds.in_range))

  -- they are no more than ids
  pub few_events : length a.rows ≤ a.last_id
  few_events =
      let all = ends 0 a.last_id a.rows events_rise from_1 (up_to a.last_id (omega arith)) (omega arith) in
      let few = few_in_order 0 all.last a.rows all.order all.low in
      let up = all.up in
      omega arith

  -- and as many as rows
  pub as_many : length (db 1) ≡ length a.rows
  as_many =
      let rows = length_permutation (map queued_row holds.logged) (db 1) holds.logged_is in
      let queued = length-map holds.logged queued_row in
      let events = length-map holds.logged event_of in
      let all = ap length holds.rows in
      omega arith

  -- ---- a page more

  over_rise : (from : ℕ) → Rise (events_over a from)
  over_rise from = ascending-filter (λ (x y : Numbered). x.id < y.id) (λ (x : Numbered). nat_lt from x.id) a.rows events_rise

  pub page_is : (rows : List Row) (from : ℕ) → IsStorableArchive a → from ≤ MAX_ID → ShowFirst rows a from → IsPage rows from
  page_is rows from storable low first =
      let over = λ (x : Numbered). nat_lt from x.id in
      let es = rows_over a from first.most in
      let under = all_first (λ (x : Numbered). x.id ≤ MAX_ID) first.most (events_over a from)
      (all-filter (λ (x : Numbered). x.id ≤ MAX_ID) over a.rows (up_to MAX_ID storable.last_in_range)) in
      let fit : All FitsEvent es = All-from_recursion FitsEvent es (all_first FitsEvent first.most (events_over a from)
      (all-filter FitsEvent over a.rows (recursion_from_All FitsEvent a.rows storable.fit))) in
      let all = ends from MAX_ID es (first_rise first.most (events_over a from) (over_rise from))
      (all_first (λ (x : Numbered). from < x.id) first.most (events_over a from) (kept_over from a.rows)) under low in
      record {
        events = es;
        last = all.last;
        long = first.shown.long;
        stored = λ k within.
            record { wide = first.wide k [] (omega (arith, within, first.shown.long)); shown = first.shown.each k within; fits = fit k no_event within };
        rise = all.order;
        low = all.up;
      }

  pub seen_more : (from last count most : ℕ) (events : List Numbered) → from ≤ last → events ≡ rows_over a from most → AreInOrder from last events
      → AreSeen a from count → AreSeen a last (count + length events)
  seen_more from last count most events low are order seen =
      let es = events_over a from in
      let again : filter (λ (x : Numbered). nat_lt last x.id) es ≡ events_over a last =
      filter-filter (λ (x : Numbered). nat_lt last x.id) (λ (x : Numbered). nat_lt from x.id) (λ x is. grind (is, low, arith)) a.rows in
      let left : events_over a last ≡ drop most es =
      sym again ∙ after_first most from last es (over_rise from) (kept_over from a.rows) (subst (AreInOrder from last) are order) in
      let parts : length (take most es) + length (drop most es) ≡ length es = sym (length-append (take most es) (drop most es)) ∙ ap length (take-append-drop most es) in
      let some : length events ≡ length (take most es) = ap length are in
      let rest : length (events_over a last) ≡ length (drop most es) = ap length left in
      omega (arith, seen, parts, some, rest)

  pub none_after : (from count most : ℕ) (events : List Numbered) → 1 ≤ most → events ≡ rows_over a from most → length events ≡ 0 → AreSeen a from count
      → count ≡ length a.rows
  none_after from count most events some are none seen =
      let left : length (events_over a from) ≡ 0 = took_none most (events_over a from) some (sym (ap length are) ∙ none) in
      omega (arith, seen, left)

-- none was looked at yet
pub none_seen : (db : Trees) (a : Archive) → HoldsArchive db a → AreSeen a 0 0
none_seen db a holds =
    let all = ap length (filter_all (λ (x : Numbered). nat_lt 0 x.id) a.rows
    (all_weaker (λ (x : Numbered). 0 < x.id) (λ (x : Numbered). nat_lt 0 x.id ≡ true) (λ x less. grind (less, arith)) a.rows (from_1 db a holds))) in
    omega (arith, all)

-- ---- a row shows one event

event_by : Row → Numbered
event_by r = record {
  id = natural (column r 0);
  row = record {
    kind = kind_in (natural (column r 1));
    index = natural (column r 2);
    flags = natural (column r 3);
    value = whole (column r 4);
    time = moment (column r 5);
  };
}

event_is : (r : Row) (e : Numbered) → ShowsEvent r e → event_by r ≡ e
unfolding event_by
event_is r e h = rw (h.id_is, h.kind, h.index, h.flags, h.value, h.time, kind_is e.row.kind, moment_is e.row.time)

events_are : (rs : List Row) (es : List Numbered) → ShowEvents rs es → es ≡ map event_by rs
events_are [] [] h = refl
events_are [] (e ∷ es) h = absurd (let long = h.long in omega arith)
events_are (r ∷ rs) [] h = absurd (let long = h.long in omega arith)
events_are (r ∷ rs) (e ∷ es) h =
    ap₂ (λ (x : Numbered) xs. x ∷ xs) (sym (event_is r e (h.each 0 (omega arith))))
    (events_are rs es (record { long = (let long = h.long in omega arith); each = λ k low. h.each (suc k) (omega arith) }))

pub one_list : (rows : List Row) (es fs : List Numbered) → ShowEvents rows es → ShowEvents rows fs → es ≡ fs
one_list rows es fs one other = events_are rows es one ∙ sym (events_are rows fs other)

-- each row of a page shows one
pub none_lacks : (rows : List Row) (from : ℕ) → IsPage rows from → HasNoEvent rows → ⊥
none_lacks rows from page lacks =
    let within : lacks.0 < length page.events = omega (arith, lacks.1, page.long) in
    lacks.2 (get_or page.events lacks.0 no_event) (page.stored lacks.0 within)

pub page_shown : (rows : List Row) (from : ℕ) (page : IsPage rows from) → ShowEvents rows page.events
page_shown rows from page = record { long = page.long; each = λ k low. (page.stored k low).shown }

-- ---- what the query shows

kind_again : (n : ℕ) → n < 3 → kind_number (kind_in n) ≡ n
kind_again zero low = refl
kind_again (suc zero) low = refl
kind_again (suc (suc zero)) low = refl
kind_again (suc (suc (suc n))) low = absurd (omega arith)

time_shown : (x : Queued) → column (shown_row (queued_row x)) 5 ≡ or_null (event_of x).row.time
time_shown x = go x.is_short x.time
  where
    go : (short : Bool) (time : Option ℕ) → column (shown_row (queued_row (record x { is_short = short; time = time }))) 5
        ≡ or_null (event_of (record x { is_short = short; time = time })).row.time
    go true time = refl
    go false time = refl

one_shown : (x : Queued) → x.lane < 3 → ShowsEvent (shown_row (queued_row x)) (event_of x)
one_shown x low =
    record { id_is = refl; kind = ap (λ (n : ℕ). Int (pos n)) (sym (kind_again x.lane low)); index = refl; flags = refl; value = refl; time = time_shown x }

one_more : (x : Queued) (xs : List Queued) → x.lane < 3
    → ((k : ℕ) → k < length (map event_of xs) → ShowsEvent (get_or (map shown_row (map queued_row xs)) k []) (get_or (map event_of xs) k no_event))
    → (k : ℕ) → k < length (map event_of (x ∷ xs))
    → ShowsEvent (get_or (map shown_row (map queued_row (x ∷ xs))) k []) (get_or (map event_of (x ∷ xs)) k no_event)
one_more x xs kind rest zero low = one_shown x kind
one_more x xs kind rest (suc k) low = rest k (omega arith)

all_shown : (xs : List Queued) → AllByRecursion (λ (x : Queued). x.lane < 3) xs → ShowEvents (map shown_row (map queued_row xs)) (map event_of xs)
all_shown [] kinds = record { long = refl; each = λ k low. absurd (omega arith) }
all_shown (x ∷ xs) kinds = record { long = ap suc (all_shown xs kinds.1).long; each = one_more x xs kinds.0 (all_shown xs kinds.1).each }

all_wide : (rs : List Row) → AllByRecursion (λ (row : Row). 5 < length row) (map shown_row rs)
all_wide [] = tt
all_wide (r ∷ rs) = (omega arith, all_wide rs)

shows_first : (old new : State) (f j : List Term) (m : Schema) (a : Archive) (from most : ℕ) (rows : List Row) → old.now.schema ≡ journal_schema f j m
    → HoldsArchive old.now.trees a → 1 ≤ most → Shown over_text (over_params from most) old new rows → ShowFirst rows a from
shows_first old new f j m a from most rows has holds some shows =
    let xs = holds.logged in
    let few = filter (λ (x : Queued). nat_lt from x.id) xs in
    let is = over_shows old new f j m xs from most rows has holds.logged_is holds.rise shows in
    let here : rows ≡ map shown_row (map queued_row (take most few)) =
    is ∙ ap (λ (rs : List Row). take most (map shown_row rs)) (overs from xs) ∙ take-map shown_row most (map queued_row few)
    ∙ ap (map shown_row) (take-map queued_row most few) in
    let there : map event_of (take most few) ≡ rows_over a from most =
    sym (take-map event_of most few) ∙ ap (take most) (sym (filter-map (λ (x : Numbered). nat_lt from x.id) event_of xs))
    ∙ ap (λ (es : List Numbered). take most (filter (λ (x : Numbered). nat_lt from x.id) es)) (sym holds.rows) in
    let kinds = all_first (λ (x : Queued). x.lane < 3) most few (all-filter (λ (x : Queued). x.lane < 3) (λ (x : Queued). nat_lt from x.id) xs
    (all_weaker (IsLogged a.last_id) (λ (x : Queued). x.lane < 3) (λ x is. is.kind) xs holds.in_range)) in
    record {
      most = most;
      some = some;
      shown = subst₂ ShowEvents (sym here) there (all_shown (take most few) kinds);
      wide = subst (All (λ (row : Row). 5 < length row)) (sym here)
          (All-from_recursion (λ (row : Row). 5 < length row) (map shown_row (map queued_row (take most few))) (all_wide (map queued_row (take most few))));
    }

module _ {E : Type 0} (old new : State) (from most : ℕ) (some : 1 ≤ most) (ps : Row) (given : ps ≡ over_params from most) where
  pub first_if : (r : Result (Vec (List Value) Global) E) → IfOk r (λ rows. Shown over_text ps old new rows.items)
      → IfOk r (λ rows. Reads Journal old new (λ db. (a : Archive) → HoldsArchive db a → ShowFirst rows.items a from))
  first_if (Ok rows) shown =
      let shows = subst (λ (p : Row). Shown over_text p old new rows.items) given shown in λ f j m sound has. (
        (unchanged_by over_text (over_params from most) old new (journal_schema f j m) rows.items has (over_plain f j m) shows).0.now_is,
        λ a holds. shows_first old new f j m a from most rows.items has holds some shows,
      )
  first_if (Err e) shown = tt
