-- A journal's rows, a page at a time: those that were looked at, and those that are left.
use Rattle.std.proofs.Common.{◌≡◌, ℕ, ◌+◌, ◌<◌, ◌≤◌, pos, negsuc, get_or, append-nil, Bool, false, not, List, [], ◌∷◌, ◌++◌, map, filter, take, drop, length, codes, Some, Ok, Err, Result, IfOk, refl, sym, ap, subst, ◌∙◌, arith, IsPermutation, append_assoc, take-append-drop, length-append}
use Rattle.std.specs.Prelude.{Vec, nat_lt, min}
use Rattle.std.specs.declared.alloc.Global.{Global}
use Rattle.std.specs.List.{AllByRecursion, AllZip, list_all}
use Rattle.std.proofs.lemmas.List.{map-append, length-map}
use Rattle.std.proofs.lemmas.List.Elements.{filter-append}
use Rattle.std.proofs.lemmas.List.Sorted.{IsPermutation-refl, IsPermutation-sym, IsPermutation-trans, IsPermutation-append_left, IsPermutation-append_right, IsPermutation-filter_both, length_permutation}
use Rattle.sqlite_trees.proofs.ListLemmas.{all-permutation, all-append, all-filter, all_weaker, ascending-append, filter_none, IsPermutation-filter}
use Rattle.sqlite.specs.Schema.{Schema}
use Rattle.sqlite.specs.declared.types.Value.{Value}
use Rattle.sqlite.specs.declared.types.Value.TheVariants.{Null, Int}
use Rattle.sqlite.specs.Order.{Row, column}
use Rattle.sqlite.specs.Tree.{Trees}
use Rattle.sqlite.specs.State.{State, Shown}
use Rattle.sqlite.specs.Command.TheVariants.{Select}
use Rattle.sqlite.specs.Program.{overlay}
use Rattle.sqlite.specs.Query.{Query, inner, end, IsAnswer, output, page, Output}
use Rattle.sqlite.specs.Term.{Term, Env, lit, col, eval, holds}
use Rattle.sqlite.specs.Given.{IsPlain}
use Rattle.sqlite.specs.Listing.{understood, reads_listing}
use Rattle.sqlite.specs.Collation.TheVariants.{Binary}
use Rattle.sqlite.proofs.Callers.{command_of, reads_as, one_permutation}
use Rattle.sqlite_sql.specs.Group.{Aggregate, Grouping, IsSummary, value_over}
use Rattle.sqlite_sql.specs.declared.aggregate.AggregateOp.TheVariants.{CountRows}
use Rattle.sqlite_tied.specs.Compute.{everything}
use Rattle.dnp_objects.specs.declared.limits.TheConstants.{MAX_ID}
use Rattle.dnp_eventbuf.specs.declared.numbered.Numbered.{Numbered}
use Rattle.dnp_store.specs.QueueTables.{queue_columns, Queued, queued_row, event_of}
use Rattle.dnp_store.specs.JournalTables.{journal_schema, IsLogged}
use Rattle.dnp_store.specs.steps.JournalShown.{ShowEvents, AreInOrder, Gathers, HasCount, LogsMany}
use Rattle.dnp_store.specs.steps.JournalPages.{ShowsNumber}
use Rattle.dnp_store.specs.declared.store_kind.StoreKind.TheVariants.{Journal}
use Rattle.dnp_store.specs.steps.Stores.{Reads}
use Rattle.dnp_store.proofs.Rows.{IsTyped}
use Rattle.dnp_store.proofs.Opening.{each_one, unchanged}
use Rattle.dnp_store.proofs.JournalReading.{over_text, over_params, over_plain, over_listed, over_holds, is_over, unchanged_by}
use Rattle.dnp_store.proofs.JournalOpening.{typed_journal, logged, Ordered, ordered}

-- ---- rows up to an id are not over it

not_over : (from : ℕ) (xs : List Queued) → AllByRecursion (IsLogged from) xs → AllByRecursion (λ r. is_over from r ≡ false) (map queued_row xs)
not_over from [] h = tt
not_over from (x ∷ xs) h = (over_holds from x ∙ low x.id from h.0.up_to_last, not_over from xs h.1)
  where
    low : (a b : ℕ) → a ≤ b → nat_lt b a ≡ false
    low a b h = grind (h, arith)

-- each of the rows up to an id is below each of those over it
below : (from : ℕ) (xs ys : List Queued) → AllByRecursion (IsLogged from) xs → AllByRecursion (λ (y : Queued). from < y.id) ys
    → AllByRecursion (λ (x : Queued). AllByRecursion (λ (y : Queued). x.id < y.id) ys) xs
below from [] ys h k = tt
below from (x ∷ xs) ys h k =
    (all_weaker (λ (y : Queued). from < y.id) (λ (y : Queued). x.id < y.id) (λ y over. (let low = h.0.up_to_last in omega arith)) ys k, below from xs ys h.1 k)

-- what holds of two lists in a row holds of each of them
pub front_of : {X : Type 0} (P : X → Type 0) (xs ys : List X) → AllByRecursion P (xs ++ ys) → AllByRecursion P xs
front_of P [] ys h = tt
front_of P (x ∷ xs) ys h = (h.0, front_of P xs ys h.1)

rest_of : {X : Type 0} (P : X → Type 0) (xs ys : List X) → AllByRecursion P (xs ++ ys) → AllByRecursion P ys
rest_of P [] ys h = h
rest_of P (x ∷ xs) ys h = rest_of P xs ys h.1

-- ---- a page more

gathered_more : (t : List Row) (from last count : ℕ) (first : List Queued) (others : List Row)
    → IsPermutation (filter (is_over from) t) (map queued_row first ++ others) → Ordered from last first → from ≤ last → Gathers t from count
    → Gathers t last (count + length first)
gathered_more t from last count first others split order low g =
    let ok = is_over from in
    let other : Row → Bool = λ r. not (is_over from r) in
    let l = map queued_row g.logged in
    let p = map queued_row first in
    let left = filter other g.others in
    let mine : filter ok (l ++ g.others) ≡ filter ok g.others =
    filter-append ok l g.others ∙ ap (λ (xs : List Row). xs ++ filter ok g.others) (filter_none ok l (not_over from g.logged g.in_range)) in
    let same : IsPermutation (filter ok g.others) (p ++ others) = IsPermutation-trans _ _ _
    (subst (λ xs. IsPermutation xs (filter ok t)) mine (IsPermutation-filter ok (l ++ g.others) t g.all)) split in
    let parts : IsPermutation g.others ((p ++ others) ++ left) = IsPermutation-trans _ _ _ (IsPermutation-filter_both ok other (λ r. refl) g.others)
    (IsPermutation-append_left left (filter ok g.others) (p ++ others) same) in
    let whole : IsPermutation (l ++ ((p ++ others) ++ left)) t =
    IsPermutation-trans _ _ _ (IsPermutation-append_right l ((p ++ others) ++ left) g.others (IsPermutation-sym g.others ((p ++ others) ++ left) parts)) g.all in
    let shape : l ++ ((p ++ others) ++ left) ≡ map queued_row (g.logged ++ first) ++ (others ++ left) =
    ap (λ (xs : List Row). l ++ xs) (append_assoc p others left) ∙ sym (append_assoc l p (others ++ left))
    ∙ ap (λ (xs : List Row). xs ++ (others ++ left)) (sym (map-append queued_row g.logged first)) in
    record {
      logged = g.logged ++ first;
      others = others ++ left;
      all = subst (λ xs. IsPermutation xs t) shape whole;
      rise = ascending-append (λ x y. x.id < y.id) g.logged first g.rise order.rise (below from g.logged first g.in_range order.over);
      in_range = all-append (IsLogged last) g.logged first
          (all_weaker (IsLogged from) (IsLogged last) (λ x h. (let up = h.up_to_last in record { from_1 = h.from_1; up_to_last = omega arith; kind = h.kind })) g.logged
          g.in_range) order.in_range;
      many = length-append g.logged first ∙ ap (λ (n : ℕ). n + length first) g.many;
      top = λ n all. order.top n (g.top n (front_of (λ (x : Queued). x.id ≤ n) g.logged first all)) (rest_of (λ (x : Queued). x.id ≤ n) g.logged first all);
    }

module _ (old new : State) (from most : ℕ) (rows : List Row) where
  pub reads_page : Shown over_text (over_params from most) old new rows → Reads Journal old new (λ db. (events : List Numbered) (last count : ℕ)
      → ShowEvents rows events → AreInOrder from last events → from ≤ last → Gathers (db 1) from count → Gathers (db 1) last (count + length events))
  reads_page shows f j m sound has =
      let t = old.now.trees 1 in
      let got = over_listed old new f j m from most rows has shows in
      let front = take most got.0 in
      let types : AllByRecursion (IsTyped (Some 0) queue_columns) (front ++ drop most got.0) =
      subst (AllByRecursion (IsTyped (Some 0) queue_columns)) (sym (take-append-drop most got.0))
      (all-permutation (IsTyped (Some 0) queue_columns) (filter (is_over from) t) got.0 got.1
      (all-filter (IsTyped (Some 0) queue_columns) (is_over from) t (typed_journal old.now f j m has sound))) in (
        (unchanged_by over_text (over_params from most) old new (journal_schema f j m) rows has (over_plain f j m) shows).0.now_is,
        λ events last count each rises low so_far.
            let did = logged front events (front_of (IsTyped (Some 0) queue_columns) front (drop most got.0) types) (subst (λ (xs : List Row). ShowEvents xs events) got.2 each) in
            let order = ordered from last did.queued (subst (AreInOrder from last) did.events_are rises) did.kinds in
            let long : length did.queued ≡ length events = sym (length-map did.queued event_of) ∙ ap length (sym did.events_are) in
            subst (λ (n : ℕ). Gathers t last (count + n)) long (gathered_more t from last count did.queued (drop most got.0)
            (subst (λ (xs : List Row). IsPermutation (filter (is_over from) t) xs)
            (sym (take-append-drop most got.0) ∙ ap (λ (xs : List Row). xs ++ drop most got.0) did.rows_are) got.1) order low so_far),
      )

module _ {E : Type 0} (old new : State) (from most : ℕ) (ps : Row) (given : ps ≡ over_params from most) where
  pub page_if : (r : Result (Vec (List Value) Global) E) → IfOk r (λ rows. Shown over_text ps old new rows.items)
      → IfOk r (λ rows. Reads Journal old new (λ db. (events : List Numbered) (last count : ℕ)
      → ShowEvents rows.items events → AreInOrder from last events → from ≤ last → Gathers (db 1) from count → Gathers (db 1) last (count + length events)))
  page_if (Ok rows) h = reads_page old new from most rows.items (subst (λ (p : Row). Shown over_text p old new rows.items) given h)
  page_if (Err e) h = tt

-- ---- none is left

nothing_more : (xs ys t : List Row) → IsPermutation (xs ++ ys) t → length xs ≡ length t → ys ≡ []
nothing_more xs [] t h many = refl
nothing_more xs (y ∷ ys) t h many =
    absurd (let long = length_permutation (xs ++ y ∷ ys) t h in let both = length-append xs (y ∷ ys) in omega arith)

pub logs_all : (db : Trees) (last count top : ℕ) → Gathers (db 1) last count → length (db 1) ≡ count → last ≤ top → LogsMany db count top
logs_all db last count top g many low =
    let t = db 1 in
    let l = map queued_row g.logged in
    let none : g.others ≡ [] = nothing_more l g.others t g.all (length-map g.logged queued_row ∙ g.many ∙ sym many) in
    record {
      events = map event_of g.logged;
      many = length-map g.logged event_of ∙ g.many;
      logs = record {
        logged = g.logged;
        logged_is = subst (λ (xs : List Row). IsPermutation xs t) (append-nil l) (subst (λ (xs : List Row). IsPermutation (l ++ xs) t) none g.all);
        rise = g.rise;
        in_range = all_weaker (IsLogged last) (IsLogged top)
            (λ x h. (let up = h.up_to_last in record { from_1 = h.from_1; up_to_last = omega arith; kind = h.kind })) g.logged g.in_range;
        rows = refl;
      };
    }

-- at first none was looked at
pub none_yet : (t : List Row) → Gathers t 0 0
none_yet t = record { logged = []; others = t; all = IsPermutation-refl t; rise = tt; in_range = tt; many = refl; top = λ n all. omega arith }

-- ---- how many there are

abbrev pub many_text : List ℕ
many_text = codes "SELECT count(*) FROM journal"

abbrev count_rows : Aggregate
count_rows = record { op = CountRows; distinct = false; collation = Binary; argument = lit Null }

abbrev all_rows : Grouping
all_rows = record { keys = []; collations = []; aggregates = count_rows ∷ []; having = [] }

abbrev many_query : Query
many_query = record {
  from = inner 1 end;
  filter = [];
  group = Some all_rows;
  project = col 1 0 ∷ [];
  distinct = false;
  collations = [];
  order = [];
  limit = lit (Int (negsuc 0));
  offset = lit (Int (pos 0));
}

many_is : (f j : List Term) (m : Schema)
    → (command_of (understood (journal_schema f j m) many_text) ≡ Select (record { lets = []; body = many_query }) (codes "count(*)" ∷ []))
    × (reads_listing (journal_schema f j m) many_text ≡ false)
unfolding understood everything
many_is f j m = (refl, refl)

pub many_plain : (f j : List Term) (m : Schema) → IsPlain (understood (journal_schema f j m) many_text)
unfolding understood everything
many_plain f j m = (refl, refl)

abbrev told : List Env → Value
told order = Int (pos (min (length (map (eval (lit Null)) order)) 9223372036854775807))

summed : (order : List Env) (row : Row) → IsSummary all_rows order row → row ≡ told order ∷ []
summed order row h = go h.0 h.1 h.2
  where
    go : (values : Row) → AllZip (λ a v. value_over order a ≡ Some v) (count_rows ∷ []) values → row ≡ values → row ≡ told order ∷ []
    go [] one is = absurd one
    go (v ∷ []) one is = let same : told order ≡ v = (let first = one.0 in cc) in is ∙ ap (λ (x : Value). x ∷ []) (sym same)
    go (v ∷ w ∷ vs) one is = absurd one.1

one_sum : (order : List Env) (rows : List Row) → AllZip (IsSummary all_rows) (order ∷ []) rows → rows ≡ (told order ∷ []) ∷ []
one_sum order [] h = absurd h
one_sum order (row ∷ []) h = ap (λ (r : Row). r ∷ []) (summed order row h.0)
one_sum order (row ∷ more ∷ rows) h = absurd h.1

small : (a n : ℕ) → min a 9223372036854775807 ≡ n → n ≤ MAX_ID → a ≡ n
small a n h low = omega (arith, h)

told_whole : (a n : ℕ) → a ≡ n → n ≤ MAX_ID → min a 9223372036854775807 ≡ n
told_whole a n h low = omega (arith, h, low)

-- one row is shown, with the number of rows
pub record Sums (rows t : List Row) : Type 0 where
  pub order : List Env
  pub shown : rows ≡ (told order ∷ []) ∷ []
  pub matched : length order ≡ length t

sums_up : (old new : State) (rows : List Row) (f j : List Term) (m : Schema) → old.now.schema ≡ journal_schema f j m → Shown many_text [] old new rows
    → Sums rows (old.now.trees 1)
sums_up old new rows f j m has shows =
    let t = old.now.trees 1 in
    let got = reads_as many_text [] old new (journal_schema f j m) has _ (many_is f j m).0 (many_plain f j m) (many_is f j m).1 rows shows in
    let a : IsAnswer many_query (overlay old.now.trees []) [] rows = got.answer Null in
    let s = a.grouped in
    let order = s.grouping.0 in
    let sums : s.rows ≡ (told order ∷ []) ∷ [] =
    one_sum order s.rows (subst (λ (gs : List (List Env)). AllZip (IsSummary all_rows) gs s.rows) s.grouping.2 s.summaries) in
    let staged : a.staged ≡ ([] ∷ (told order ∷ []) ∷ []) ∷ [] =
    s.having ∙ ap (λ (rs : List Row). filter (λ (env : Env). list_all (holds env) []) (map (λ (r : Row). [] ∷ r ∷ []) rs)) sums in
    let kept : a.kept ≡ ([], told order ∷ []) ∷ [] = a.distinct ∙ ap (map (output many_query)) staged in
    let ordered : a.ordered ≡ ([], told order ∷ []) ∷ [] =
    one_permutation ([], told order ∷ []) a.ordered (subst (λ (k : List Output). IsPermutation k a.ordered) kept a.same) in
    record {
      order = order;
      shown = a.shown ∙ ap (λ all. page many_query [] (map (λ (o : Output). o.1) all)) ordered;
      matched = length_permutation _ order s.grouping.1 ∙ ap length (each_one (λ (r : Row). [] ∷ r ∷ []) t) ∙ length-map t (λ (r : Row). [] ∷ r ∷ []);
    }

module _ (old new : State) (rows : List Row) where
  pub reads_many : Shown many_text [] old new rows → Reads Journal old new (λ db. (n : ℕ) → column (get_or rows 0 []) 0 ≡ Int (pos n) → HasCount (db 1) n)
  reads_many shows f j m sound has =
      let sums = sums_up old new rows f j m has shows in
      let order = sums.order in (
        unchanged many_text old new (journal_schema f j m) rows has (many_plain f j m) shows,
        λ n is low.
            let first : told order ≡ Int (pos n) = ap (λ (rs : List Row). column (get_or rs 0 []) 0) (sym sums.shown) ∙ is in
            let few : min (length (map (eval (lit Null)) order)) 9223372036854775807 ≡ n = cc in
            sym (length-map order (eval (lit Null)) ∙ sums.matched) ∙ small _ n few low,
      )

  pub shows_many : Shown many_text [] old new rows → Reads Journal old new (λ db. length (db 1) ≤ MAX_ID → ShowsNumber rows (length (db 1)))
  shows_many shows f j m sound has =
      let sums = sums_up old new rows f j m has shows in
      let order = sums.order in
      let many = length (old.now.trees 1) in (
        unchanged many_text old new (journal_schema f j m) rows has (many_plain f j m) shows,
        λ low.
            let is : min (length (map (eval (lit Null)) order)) 9223372036854775807 ≡ many = told_whole _ many (length-map order (eval (lit Null)) ∙ sums.matched) low in
            record {
              one = ap length sums.shown;
              number = ap (λ (rs : List Row). column (get_or rs 0 []) 0) sums.shown ∙ ap (λ (n : ℕ). Int (pos n)) is;
            },
      )

module _ {E : Type 0} (old new : State) where
  pub many_if : (r : Result (Vec (List Value) Global) E) → IfOk r (λ rows. Shown many_text [] old new rows.items)
      → IfOk r (λ rows. Reads Journal old new (λ db. (n : ℕ) → column (get_or rows.items 0 []) 0 ≡ Int (pos n) → HasCount (db 1) n))
  many_if (Ok rows) shows = reads_many old new rows.items shows
  many_if (Err e) shows = tt

  pub number_if : (r : Result (Vec (List Value) Global) E) → IfOk r (λ rows. Shown many_text [] old new rows.items)
      → IfOk r (λ rows. Reads Journal old new (λ db. length (db 1) ≤ MAX_ID → ShowsNumber rows.items (length (db 1))))
  number_if (Ok rows) shows = shows_many old new rows.items shows
  number_if (Err e) shows = tt
