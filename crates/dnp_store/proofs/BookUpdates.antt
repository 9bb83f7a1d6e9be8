-- What an UPDATE makes of a book's entries.
use Rattle.std.proofs.Common.{◌≡◌, ◌≢◌, ℕ, suc, ◌<◌, pos, negsuc, List, [], ◌∷◌, map, filter, not, cond, Bool, true, false, Option, None, Some, Ok, refl, sym, ap, subst, ◌∙◌, ◌==◌, arith}
use Rattle.std.specs.Prelude.{AllPairs}
use Rattle.std.specs.List.{list_all, AllByRecursion}
use Rattle.std.specs.List.Sorted.{IsPermutation}
use Rattle.std.proofs.lemmas.Simd.{map-map}
use Rattle.std.proofs.lemmas.List.Elements.{recursion_from_All}
use Rattle.std.proofs.lemmas.List.Sorted.{IsPermutation-refl, IsPermutation-cons, IsPermutation-middle, IsPermutation-trans}
use Rattle.sqlite_tied.specs.Compute.{everything}
use Rattle.sqlite_sql.specs.declared.ops.BinaryOp.TheVariants.{Compare}
use Rattle.sqlite_sql.specs.declared.ops.CompareOp.TheVariants.{Eq}
use Rattle.sqlite.specs.Schema.{Schema}
use Rattle.sqlite.specs.Collation.TheVariants.{Binary}
use Rattle.sqlite.specs.declared.types.Value.TheVariants.{Null, Int}
use Rattle.sqlite.specs.Query.{Query, inner, end, IsAnswer, output, Output}
use Rattle.sqlite.specs.Term.{Term, lit, col, op2, holds}
use Rattle.sqlite.specs.Command.TheVariants.{Update}
use Rattle.sqlite.specs.Listing.{understood}
use Rattle.sqlite.specs.Given.{IsPlain}
use Rattle.sqlite.specs.Order.{Row, column}
use Rattle.sqlite.specs.Ops.{binary, is_true}
use Rattle.sqlite.specs.Program.{overlay}
use Rattle.sqlite.specs.Tree.{Trees, put_row, without_rowid, has_rowid}
use Rattle.sqlite.specs.Edit.{edit_of, put_all}
use Rattle.sqlite.specs.Cast.{cast_row}
use Rattle.sqlite.specs.Rowids.TheVariants.{Given}
use Rattle.sqlite.specs.Effect.{Database}
use Rattle.sqlite.specs.Does.{Does}
use Rattle.sqlite.specs.Rows.{Task, Written, Updates}
use Rattle.sqlite.specs.State.{State, Executes, mode_of}
use Rattle.sqlite.proofs.Callers.{command_of, statement_of, runs_as, one_step, one_permutation}
use Rattle.sqlite_rules.specs.Calls.{ids_of}
use Rattle.sqlite_schema.specs.declared.schema.Keys.TheVariants.{Enforced}
use Rattle.sqlite_trees.proofs.ListLemmas.{IsPermutation-filter}
use Rattle.dnp_objects.specs.Commands.{index_of}
use Rattle.dnp_controls.specs.declared.book.Entry.{Entry}
use Rattle.dnp_controls.specs.declared.book.State.{State as Control}
use Rattle.dnp_controls.specs.Book.{entry_of, in_state}
use Rattle.dnp_store.specs.Texts.{book_update}
use Rattle.dnp_store.specs.BookTables.{book_names, book_schema, book_with, entry_row, kind_of, code_of, count_of, on_of, off_of, value_of, state_of, status_of}
use Rattle.dnp_store.proofs.Statements.{IsRead, command_read, plain_read, went, written, same_value}
use Rattle.dnp_store.proofs.Counting.{cast_int, cast_null}
use Rattle.dnp_store.proofs.IdRows.{put_apart}
use Rattle.dnp_store.proofs.QueueDeletes.{passes_on, and_true}
use Rattle.dnp_store.proofs.Recounting.{others_left}
use Rattle.dnp_store.specs.declared.store_kind.StoreKind.TheVariants.{Book}
use Rattle.dnp_store.proofs.Inserting.{quiet, trees}
use Rattle.dnp_store.proofs.Apart.{others_kept}
use Rattle.dnp_store.specs.Tables.{AreBehind}
use Rattle.dnp_store.proofs.Tests.{eq_holds, has_is, is_other}

abbrev pub update_text : List ℕ
update_text = book_update

abbrev query : Query
query = record {
  from = inner 1 end;
  filter = op2 (Compare Eq Binary) (col 1 0) (col 0 0) ∷ [];
  group = None;
  project = col 1 0 ∷ col 1 0 ∷ lit Null ∷ col 1 2 ∷ col 1 3 ∷ col 1 4 ∷ col 1 5 ∷ col 1 6 ∷ col 1 7 ∷ col 1 8 ∷ col 1 9 ∷ col 0 1 ∷ col 0 2 ∷ [];
  distinct = false;
  collations = [];
  order = [];
  limit = lit (Int (negsuc 0));
  offset = lit (Int (pos 0));
}

update_read : (f c : List Term) (m : Schema) → IsRead (Update 1 (record { lets = []; body = query })) (understood (book_schema f c m) update_text)
unfolding understood everything
update_read f c m = (refl, refl, refl)

update_is : (f c : List Term) (m : Schema) → command_of (understood (book_schema f c m) update_text) ≡ Update 1 (record { lets = []; body = query })
update_is f c m = command_read _ (understood (book_schema f c m) update_text) (update_read f c m)

update_plain : (f c : List Term) (m : Schema) → IsPlain (understood (book_schema f c m) update_text)
update_plain f c m = plain_read _ (understood (book_schema f c m) update_text) (update_read f c m)

-- ---- the entry that is found

abbrev pub update_params : ℕ → Control → Row
update_params id s = Int (pos id) ∷ Int (pos (state_of s)) ∷ Int (pos (status_of s)) ∷ []

abbrev pub in_its_state : Entry → Control → Entry
in_its_state e s = record { id = e.id; target = e.target; command = e.command; state = s }

abbrev pub Rising : List Entry → Type 0
Rising = AllPairs (λ (x y : Entry). x.id < y.id)

pub first_low : (e : Entry) (es : List Entry) → Rising (e ∷ es) → AllByRecursion (λ (x : Entry). e.id < x.id) es
first_low e es rise = recursion_from_All (λ (x : Entry). e.id < x.id) es (λ i d low. rise 0 (suc i) d (omega arith) (omega arith))

pub rest_rise : (e : Entry) (es : List Entry) → Rising (e ∷ es) → Rising es
rest_rise e es rise = λ i j d less low. rise (suc i) (suc j) d (omega arith) (omega arith)

abbrev is_found : Row → Row → Bool
is_found params row = list_all (holds (params ∷ row ∷ [])) (op2 (Compare Eq Binary) (col 1 0) (col 0 0) ∷ [])

found_is : (id : ℕ) (s : Control) (e : Entry) → is_found (update_params id s) (entry_row e) ≡ (e.id == id)
found_is id s e = and_true (is_true (binary (Compare Eq Binary) (Int (pos e.id)) (Int (pos id)))) ∙ eq_holds e.id id

none_over : (id : ℕ) (s : Control) (es : List Entry) → AllByRecursion (λ (x : Entry). id < x.id) es → filter (is_found (update_params id s)) (map entry_row es) ≡ []
none_over id s [] low = refl
none_over id s (e ∷ es) low = rw (found_is id s e, is_other e.id id (λ same. absurd (let less = low.0 in omega arith))) (none_over id s es low.1)

some_is : (a b : Entry) → ◌≡◌ {A = Option Entry} (Some a) (Some b) → a ≡ b
some_is a b h = cc

same_id : (a b : ℕ) → (a == b) ≡ true → a ≡ b
same_id a b h = grind (h, arith)

one : (id : ℕ) (s : Control) (es : List Entry) (old : Entry) → Rising es → entry_of es id ≡ Some old
    → filter (is_found (update_params id s)) (map entry_row es) ≡ entry_row old ∷ []
one id s [] old rise h = absurd cc
one id s (e ∷ es) old rise h = rw (found_is id s e) (go (e.id == id) refl (one id s es old (rest_rise e es rise)) h)
  where
    go : (b : Bool) → (e.id == id) ≡ b → (entry_of es id ≡ Some old → filter (is_found (update_params id s)) (map entry_row es) ≡ entry_row old ∷ [])
        → cond b (Some e) (entry_of es id) ≡ Some old
        → cond b (entry_row e ∷ filter (is_found (update_params id s)) (map entry_row es)) (filter (is_found (update_params id s)) (map entry_row es))
        ≡ entry_row old ∷ []
    go true is more at =
        let here : e.id ≡ id = same_id e.id id is in
        ap (λ rows. entry_row e ∷ rows) (none_over id s es (subst (λ (n : ℕ). AllByRecursion (λ (x : Entry). n < x.id) es) here (first_low e es rise)))
        ∙ ap (λ (x : Entry). entry_row x ∷ []) (some_is e old at)
    go false is more at = more at

-- ---- and put in its new state

kept_over : (id : ℕ) (es : List Entry) → AllByRecursion (λ (x : Entry). id < x.id) es → without_rowid (pos id) (map entry_row es) ≡ map entry_row es
kept_over id [] low = refl
kept_over id (e ∷ es) low =
    rw (has_is e.id id, is_other e.id id (λ same. absurd (let less = low.0 in omega arith))) (ap (λ rows. entry_row e ∷ rows) (kept_over id es low.1))

pub same_over : (id : ℕ) (s : Control) (es : List Entry) → AllByRecursion (λ (x : Entry). id < x.id) es → in_state es id s ≡ es
same_over id s [] low = refl
same_over id s (e ∷ es) low =
    rw (is_other e.id id (λ same. absurd (let less = low.0 in omega arith))) (ap (λ (xs : List Entry). e ∷ xs) (same_over id s es low.1))

replaced : (id : ℕ) (s : Control) (es : List Entry) (old : Entry) → Rising es → entry_of es id ≡ Some old
    → IsPermutation (map entry_row (in_state es id s)) (entry_row (in_its_state old s) ∷ without_rowid (pos id) (map entry_row es))
replaced id s [] old rise h = absurd cc
replaced id s (e ∷ es) old rise h = rw (has_is e.id id) (go (e.id == id) refl (replaced id s es old (rest_rise e es rise)) h)
  where
    go : (b : Bool) → (e.id == id) ≡ b
        → (entry_of es id ≡ Some old → IsPermutation (map entry_row (in_state es id s)) (entry_row (in_its_state old s) ∷ without_rowid (pos id) (map entry_row es)))
        → cond b (Some e) (entry_of es id) ≡ Some old
        → IsPermutation (entry_row (cond b (in_its_state e s) e) ∷ map entry_row (in_state es id s))
        (entry_row (in_its_state old s) ∷ cond (not b) (entry_row e ∷ without_rowid (pos id) (map entry_row es)) (without_rowid (pos id) (map entry_row es)))
    go true is more at =
        let here : e.id ≡ id = same_id e.id id is in
        let over = subst (λ (n : ℕ). AllByRecursion (λ (x : Entry). n < x.id) es) here (first_low e es rise) in
        subst (λ (x : Entry). IsPermutation (entry_row (in_its_state e s) ∷ map entry_row (in_state es id s))
        (entry_row (in_its_state x s) ∷ without_rowid (pos id) (map entry_row es))) (some_is e old at)
        (rw (same_over id s es over, kept_over id es over) (IsPermutation-refl _))
    go false is more at =
        IsPermutation-trans _ _ _ (IsPermutation-cons (entry_row e) _ _ (more at))
        (IsPermutation-middle (entry_row e ∷ []) (entry_row (in_its_state old s)) (without_rowid (pos id) (map entry_row es)))

-- ---- the statement

made : Row → Row → Output
made params r = (
  [],
  column r 0 ∷ column r 0 ∷ Null ∷ column r 2 ∷ column r 3 ∷ column r 4 ∷ column r 5 ∷ column r 6 ∷ column r 7 ∷ column r 8 ∷ column r 9
      ∷ column params 1 ∷ column params 2 ∷ [],
)

-- the outputs of the query, in some order
matched : (params : Row) (db : Trees) (rows : List Row) → IsAnswer query (overlay db []) params rows
    → (ordered : List Output) × IsPermutation (map (made params) (filter (is_found params) (db 1))) ordered × (rows ≡ map (λ (o : Output). o.1) ordered)
unfolding made
matched params db rows a =
    let few = filter (is_found params) (db 1) in
    let staged : a.staged ≡ map (λ r. params ∷ r ∷ []) few = a.grouped ∙ passes_on (is_found params) (λ r. params ∷ r ∷ []) (db 1) in
    let kept : a.kept ≡ map (made params) few = a.distinct ∙ ap (map (output query)) staged ∙ map-map (output query) (λ r. params ∷ r ∷ []) few in
    (a.ordered, subst (λ k. IsPermutation k a.ordered) kept a.same, a.shown)

-- one entry comes into a state, and no other tree changes
pub record Turns (db : Trees) (id : ℕ) (s : Control) (es : List Entry) (now : Trees) : Type 0 where
  pub table : IsPermutation (map entry_row (in_state es id s)) (now 1)
  pub others : (t : ℕ) → t < 3 → t ≢ 1 → now t ≡ db t

abbrev task : List Term → List Term → Schema → Option ℕ → Row → Task
task f c m limit params = record { limit = limit; keys = Enforced; schema = book_schema f c m; table = book_with c; params = params }

casts : (c : List Term) (e : Entry) → cast_row (book_with c) (entry_row e) ≡ entry_row e
casts c e =
    rw (
      cast_int (pos e.id),
      cast_null,
      cast_int (pos e.target),
      cast_int (pos (kind_of e.command)),
      cast_int (pos (index_of e.command)),
      cast_int (pos (code_of e.command)),
      cast_int (pos (count_of e.command)),
      cast_int (pos (on_of e.command)),
      cast_int (pos (off_of e.command)),
      cast_int (value_of e.command),
      cast_int (pos (state_of e.state)),
      cast_int (pos (status_of e.state)),
    ) refl

turns : (f c : List Term) (m : Schema) → AreBehind book_names m
    → (limit : Option ℕ) (id : ℕ) (s : Control) (es : List Entry) (old : Entry) (db : Trees) (a : Written)
    → IsPermutation (map entry_row es) (db 1) → Rising es → entry_of es id ≡ Some old → old.id ≡ id
    → Updates (task f c m limit (update_params id s)) (record { lets = []; body = query }) (update_params id s) db (Ok a)
    → Turns db id s es a.trees
unfolding everything made
turns f c m behind limit id s es old db a is rise at named h =
    let params = update_params id s in
    let new = in_its_state old s in
    let queried = went h in
    let found = matched params db queried.0 (queried.1.answer Null) in
    let few : filter (is_found params) (db 1) ≡ entry_row old ∷ [] = one_permutation _ (filter (is_found params) (db 1))
    (subst (λ rs. IsPermutation rs (filter (is_found params) (db 1))) (one id s es old rise at)
    (IsPermutation-filter (is_found params) (map entry_row es) (db 1) is)) in
    let ordered : found.0 ≡ made params (entry_row old) ∷ [] = one_permutation _ found.0
    (subst (λ rows. IsPermutation (map (made params) rows) found.0) few found.1) in
    let rows : queried.0 ≡ (Int (pos old.id) ∷ entry_row new) ∷ [] = found.2 ∙ ap (map (λ (o : Output). o.1)) ordered in
    let edited_to = went queried.2 in
    let out = same_value edited_to.2 in
    let edit = λ (rs : List Row). edit_of db (book_with c) (ids_of rs) Given 1 rs in
    let step = one_step (book_schema f c m) Enforced db edited_to.0 (edit queried.0) (quiet Book f c m behind db (edit queried.0) (omega arith)) edited_to.1 in
    let row = entry_row new in
    let rest = without_rowid (pos old.id) (db 1) in
    let made_of : a.trees 1 ≡ put_row row rest = ap (λ (w : Written). w.trees 1) out ∙ step.rows
    ∙ ap (λ rs. put_all (Rattle.sqlite.specs.Edit.without_all (db 1) (edit rs).gone) (edit rs).news) rows
    ∙ ap (λ r. put_row r rest) (casts c new) in
    let kept : Row → Bool = λ r. not (has_rowid (pos old.id) r) in
    let at_old : entry_of es old.id ≡ Some old = ap (entry_of es) named ∙ at in
    let turned = IsPermutation-trans _ _ _ (replaced old.id s es old rise at_old)
    (IsPermutation-trans _ _ _ (IsPermutation-cons row _ _ (IsPermutation-filter kept (map entry_row es) (db 1) is))
    (put_apart row rest (others_left (pos old.id) (db 1)))) in
    record {
      table = subst (λ (n : ℕ). IsPermutation (map entry_row (in_state es n s)) (a.trees 1)) named
          (subst (IsPermutation (map entry_row (in_state es old.id s))) (sym made_of) turned);
      others = λ t low not_1. ap (λ (w : Written). w.trees t) out
          ∙ others_kept (book_schema f c m) 3 (trees Book f c m) db edited_to.0 (edit queried.0) step t low not_1;
    }

pub updates : (old new : State) (f c : List Term) (m : Schema) → AreBehind book_names m → (id count : ℕ) (s : Control) (es : List Entry) (e : Entry)
    → old.now.schema ≡ book_schema f c m
    → IsPermutation (map entry_row es) (old.now.trees 1) → Rising es → entry_of es id ≡ Some e → e.id ≡ id
    → Executes update_text (update_params id s) old new (Ok count)
    → (new.now.schema ≡ book_schema f c m) × Turns old.now.trees id s es new.now.trees
updates old new f c m behind id count s es e has is rise at named h =
    let params = update_params id s in
    let command = Update 1 (record { lets = []; body = query }) in
    let w = runs_as update_text params old new (book_schema f c m) has command (update_is f c m) (update_plain f c m) count h in
    let the_task = task f c m old.step_limit params in
    let does = subst (λ s. Does old.step_limit (mode_of old) params (record old.now { schema = s })
    (statement_of update_text (understood (book_schema f c m) update_text)) None command (Ok (w.tally, new.now))) has w.changed in
    let done = written the_task (mode_of old) command old.now.trees w.tally new.now does in
    let took = turns f c m behind old.step_limit id s es e old.now.trees done.0 is rise at named done.1 in
    (ap (λ (d : Database). d.schema) done.2, subst (λ (d : Database). Turns old.now.trees id s es d.trees) (sym done.2) took)
