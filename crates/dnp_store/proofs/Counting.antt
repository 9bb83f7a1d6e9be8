-- The count that AUTOINCREMENT keeps, and the id that follows it.
use Rattle.std.proofs.Common.{◌≡◌, ◌≢◌, ◌⊎◌, inl, inr, ℕ, ◌+◌, ◌<◌, ◌≤◌, ℤ, pos, List, length, map, drop, [], ◌∷◌, Bool, true, false, Option, Some, None, Ok, refl, sym, ap, subst, subst₂, ◌∙◌, arith, int_cmp}
use Rattle.std.specs.Prelude.{fold}
use Rattle.std.specs.List.{AllByRecursion}
use Rattle.std.specs.Ordering.{is_lt}
use Rattle.std.proofs.lemmas.Int.{ints}
use Rattle.sqlite_tied.specs.Compute.{everything}
use Rattle.sqlite.specs.declared.types.Value.{Value}
use Rattle.sqlite.specs.declared.types.Value.TheVariants.{Null, Int, Text}
use Rattle.sqlite_schema.specs.declared.schema.Keys.TheVariants.{Enforced}
use Rattle.sqlite_schema.specs.declared.schema.Column.{Column}
use Rattle.sqlite.specs.Table.{Table}
use Rattle.sqlite.specs.Term.{Term}
use Rattle.sqlite.specs.Schema.{Schema}
use Rattle.sqlite.specs.Order.{Row}
use Rattle.sqlite.specs.Tree.{Trees, put_row, without_rowid}
use Rattle.sqlite.specs.Edit.{Edit, next_rowid, at_least, edit_of, put_all, with_rowid, taken_by, numbered, are_fresh}
use Rattle.sqlite.specs.Rowids.TheVariants.{Above, Chosen}
use Rattle.sqlite.specs.Source.{Source}
use Rattle.sqlite.specs.Cast.{cast, cast_row}
use Rattle.sqlite.specs.Kind.TheVariants.{Integer}
use Rattle.sqlite.specs.Ops.{unary}
use Rattle.sqlite.specs.Rows.{Task, Written, Sourced, CounterIn, CountsIn, Counts, Inserts, counter_in, count_of, counting, higher, stamped, sequence as counters_of}
use Rattle.sqlite_rules.specs.Action.{works}
use Rattle.sqlite.proofs.Callers.{one_step}
use Rattle.dnp_store.specs.Tables.{sequence, table_of, count_row, counts_of, IsCounted}
use Rattle.dnp_store.proofs.Apart.{AreTrees, others_kept}
use Rattle.dnp_store.proofs.IdRows.{IsUnder}
use Rattle.dnp_store.proofs.Recounting.{Recounts, added_so, alone_so, find_is, is_named, replaced_so}
use Rattle.dnp_store.proofs.CountingMany.{ids_from, rises_to, higher_is, highest, numbered_on}
use Rattle.dnp_store.proofs.Statements.{went, same_value, picked}
use Rattle.std.proofs.Common.{cond}

-- ---- numbers and texts as INTEGER columns take them

either : (b : Bool) (x : Value) → cond b x x ≡ x
either true x = refl
either false x = refl

pub cast_int : (n : ℤ) → cast Integer (Int n) ≡ Int n
unfolding unary
cast_int n = either _ (Int n)

pub cast_null : cast Integer Null ≡ Null
unfolding unary
cast_null = either _ Null

-- where no row is above the count, the next id follows it
pub next_id : (rows : List Row) (n m : ℕ) → next_rowid rows ≡ pos m → m ≤ n + 1 → at_least (Above (pos n)) (next_rowid rows) ≡ pos (n + 1)
next_id rows n m is low = grind (is, low, arith, ints)

-- ---- the row of `sqlite_sequence`

cast_count : (name : List ℕ) (id : ℤ) (n : ℕ) → cast_row sequence (count_row name id n) ≡ count_row name id n
cast_count name id n = ap (λ (v : Value). v ∷ Text name ∷ Int (pos n) ∷ []) (cast_int id)

cast_first : (name : List ℕ) (n : ℕ) → cast_row sequence (Null ∷ Text name ∷ Int (pos n) ∷ []) ≡ Null ∷ Text name ∷ Int (pos n) ∷ []
cast_first name n = ap (λ (v : Value). v ∷ Text name ∷ Int (pos n) ∷ []) cast_null

count_is : (name : List ℕ) (id : ℤ) (n : ℕ) → count_of (Some (count_row name id n)) ≡ pos n
unfolding unary
count_is name id n = refl

none_is : count_of None ≡ pos 0
unfolding unary
none_is = refl

-- one row more, under the id that follows the count, which rises with it; the other of the first trees stay
pub record PutsAt (many : ℕ) (name : List ℕ) (db : Trees) (rest : Row) (n : ℕ) (now : Trees) : Type 0 where
  pub table : now 1 ≡ put_row (Int (pos (n + 1)) ∷ rest) (db 1)
  pub count : IsCounted name (now 2) (n + 1)
  pub others : (t : ℕ) → t < many → t ≢ 1 → t ≢ 2 → now t ≡ db t

-- several rows more, under the ids that follow the count, which rises with them
pub record PutsAll (many : ℕ) (name : List ℕ) (db : Trees) (rests : List Row) (n : ℕ) (now : Trees) : Type 0 where
  pub table : now 1 ≡ put_all (db 1) (ids_from n rests)
  pub count : IsCounted name (now 2) (n + length rests)
  pub others : (t : ℕ) → t < many → t ≢ 1 → t ≢ 2 → now t ≡ db t

-- ---- one row more, under the id that follows the count, which rises with it

pub record PutsIn (many : ℕ) (name : List ℕ) (tree : ℕ) (db : Trees) (rest : Row) (n : ℕ) (now : Trees) : Type 0 where
  pub table : now tree ≡ put_row (Int (pos (n + 1)) ∷ rest) (db tree)
  pub count : Recounts name (db 2) (n + 1) (now 2)
  pub others : (t : ℕ) → t < many → t ≢ tree → t ≢ 2 → now t ≡ db t

-- several rows more, under the ids that follow the count
pub record PutsAllIn (many : ℕ) (name : List ℕ) (tree : ℕ) (db : Trees) (rests : List Row) (n : ℕ) (now : Trees) : Type 0 where
  pub table : now tree ≡ put_all (db tree) (ids_from n rests)
  pub count : Recounts name (db 2) (n + length rests) (now 2)
  pub others : (t : ℕ) → t < many → t ≢ tree → t ≢ 2 → now t ≡ db t

-- where the table is the first that is counted, and the only one
pub puts_at : (many : ℕ) (name : List ℕ) (db : Trees) (rest : Row) (n : ℕ) (now : Trees) → IsCounted name (db 2) n → PutsIn many name 1 db rest n now
    → PutsAt many name db rest n now
puts_at many name db rest n now counted puts =
    record { table = puts.table; count = alone_so name (db 2) (now 2) n (n + 1) puts.count counted; others = puts.others }

pub puts_all_at : (many : ℕ) (name : List ℕ) (db : Trees) (rests : List Row) (n : ℕ) (now : Trees) → IsCounted name (db 2) n
    → PutsAllIn many name 1 db rests n now → PutsAll many name db rests n now
puts_all_at many name db rests n now counted puts =
    record { table = puts.table; count = alone_so name (db 2) (now 2) n (n + length rests) puts.count counted; others = puts.others }

module _ (name : List ℕ) (tree : ℕ) (columns : List Column) (checks : List Term) (schema : Schema) where
  abbrev pub table : Table
  table = table_of name tree columns true true checks

  abbrev pub task : Option ℕ → Row → Task
  task limit params = record { limit = limit; keys = Enforced; schema = schema; table = table; params = params }

  module _ (many : ℕ) (listed : counters_of schema ≡ Some sequence)
      (quiet : (db : Trees) (e : Edit) → e.table.tree < many → works schema Enforced 0 e.table.tree (taken_by db e) e.news ≡ [])
      (trees : AreTrees many schema.tables) (own : tree < many) (counts : 2 < many) (apart : tree ≢ 2) (limit : Option ℕ) (params : Row) where
    counter_is : (db : Trees) (counter : Option Row) → CounterIn (task limit params) db (counters_of schema) (Ok counter)
        → counter ≡ counter_in db table sequence
    counter_is db counter h = same_value (subst (λ s. CounterIn (task limit params) db s (Ok counter)) listed h)

    -- the count rises to a greater number
    abbrev pub Raised : ℕ → Trees → Trees → Type 0
    Raised top mid next = Recounts name (mid 2) top (next 2) × ((t : ℕ) → t < many → t ≢ 2 → next t ≡ mid t)

    counts_some : (mid next : Trees) (id : ℤ) (n top : ℕ) → n < top → counts_of name (mid 2) ≡ count_row name id n ∷ []
        → Counts (task limit params) mid (Some (count_row name id n)) (pos top) (Ok next) → Raised top mid next
    unfolding everything
    counts_some mid next id n top low is h =
        let counter = Some (count_row name id n) in
        let in_table = picked _ (is_lt (int_cmp (count_of counter) (pos top))) (ap (λ c. is_lt (int_cmp c (pos top))) (count_is name id n) ∙ rises_to n top low)
        h in
        let edits = subst (λ s. CountsIn (task limit params) mid counter (pos top) s (Ok next)) listed in_table in
        let edit = counting mid table sequence (pos top) counter in
        let step = one_step schema Enforced mid next edit (quiet mid edit counts) edits in (
          replaced_so name (mid 2) (next 2) id n top is (step.rows ∙ ap (λ (r : Row). put_row r (without_rowid id (mid 2))) (cast_count name id top)),
          λ t low other. others_kept schema many trees mid next edit step t low other,
        )

    counts_first : (mid next : Trees) (top : ℕ) → 0 < top → counts_of name (mid 2) ≡ [] → Counts (task limit params) mid None (pos top) (Ok next)
        → Raised top mid next
    unfolding everything
    counts_first mid next top low is h =
        let in_table = picked _ (is_lt (int_cmp (count_of None) (pos top))) (ap (λ c. is_lt (int_cmp c (pos top))) none_is ∙ rises_to 0 top low) h in
        let edits = subst (λ s. CountsIn (task limit params) mid None (pos top) s (Ok next)) listed in_table in
        let edit = counting mid table sequence (pos top) None in
        let step = one_step schema Enforced mid next edit (quiet mid edit counts) edits in
        let id = next_rowid (mid 2) in
        let made = cast_first name top in
        let fresh : are_fresh (mid 2) (count_row name id top ∷ []) ≡ true =
        ap (λ (r : Row). are_fresh (mid 2) (with_rowid Chosen (mid 2) r ∷ [])) (sym made) ∙ step.fresh in (
          added_so name (mid 2) (next 2) id top is fresh (step.rows ∙ ap (λ (r : Row). put_row (with_rowid Chosen (mid 2) r) (mid 2)) made),
          λ t low other. others_kept schema many trees mid next edit step t low other,
        )

    -- the row is found that counts, or there is none
    abbrev Found : Trees → Option Row → ℕ → Type 0
    Found db counter n =
        ((counter ≡ None) × (counts_of name (db 2) ≡ []) × (n ≡ 0))
        ⊎ ((id : ℤ) × (counter ≡ Some (count_row name id n)) × (counts_of name (db 2) ≡ count_row name id n ∷ []))

    found : (db : Trees) (counter : Option Row) (n : ℕ) → counter ≡ counter_in db table sequence → IsCounted name (counts_of name (db 2)) n → Found db counter n
    found db counter n is (inl none) = inl (is ∙ find_is (is_named name) (db 2) [] none.0, none.0, none.1)
    found db counter n is (inr one) = inr (one.0, is ∙ find_is (is_named name) (db 2) (count_row name one.0 n ∷ []) one.1, one.1)

    top_is : (db : Trees) (counter : Option Row) (n : ℕ) → Found db counter n → count_of counter ≡ pos n
    top_is db counter n (inl none) = ap count_of none.0 ∙ none_is ∙ ap pos (sym none.2)
    top_is db counter n (inr one) = ap count_of one.1 ∙ count_is name one.0 n

    counted_to : (db mid next : Trees) (counter : Option Row) (n top : ℕ) → n < top → Found db counter n → mid 2 ≡ db 2
        → Counts (task limit params) mid counter (pos top) (Ok next) → Raised top mid next
    counted_to db mid next counter n top low (inl none) same h =
        counts_first mid next top (omega (arith, none.2)) (ap (counts_of name) same ∙ none.1)
        (subst (λ c. Counts (task limit params) mid c (pos top) (Ok next)) none.0 h)
    counted_to db mid next counter n top low (inr one) same h =
        counts_some mid next one.0 n top low (ap (counts_of name) same ∙ one.2) (subst (λ c. Counts (task limit params) mid c (pos top) (Ok next)) one.1 h)

    news_are : (db : Trees) (source rest : Row) (t : ℤ) (n m : ℕ) → t ≡ pos n → next_rowid (db tree) ≡ pos m → m ≤ n + 1 → cast_row table source ≡ Null ∷ rest
        → (edit_of db table [] (Above t) 0 (source ∷ [])).news ≡ (Int (pos (n + 1)) ∷ rest) ∷ []
    unfolding everything
    news_are db source rest t n m t_is next_is low casts =
        ap (λ (r : Row). with_rowid (Above t) (db tree) r ∷ []) casts ∙ ap (λ (x : ℤ). (Int (at_least (Above x) (next_rowid (db tree))) ∷ rest) ∷ []) t_is
        ∙ ap (λ (x : ℤ). (Int x ∷ rest) ∷ []) (next_id (db tree) n m next_is low)

    pub inserted : (db : Trees) (a : Written) (source rest : Row) (from : Source) (n m : ℕ) → IsCounted name (counts_of name (db 2)) n → next_rowid (db tree) ≡ pos m → m ≤ n + 1
        → ((rows : List Row) → Sourced limit (record { schema = schema; trees = db }) (stamped table params) from (Ok rows) → rows ≡ source ∷ [])
        → cast_row table source ≡ Null ∷ rest → Inserts (task limit params) from db (Ok a) → PutsIn many name tree db rest n a.trees
    unfolding everything
    inserted db a source rest from n m counted next_is low sources casts h =
        let sourced = went h in
        let counter = went sourced.2 in
        let edited_to = went counter.2 in
        let next = went edited_to.2 in
        let out = same_value next.2 in
        let at : Found db counter.0 n = found db counter.0 n (counter_is db counter.0 counter.1) counted in
        let top = count_of counter.0 in
        let edit = λ (rows : List Row). edit_of db table [] (Above top) 0 rows in
        let news : (edit sourced.0).news ≡ (Int (pos (n + 1)) ∷ rest) ∷ [] =
        ap (λ rows. (edit rows).news) (sources sourced.0 sourced.1) ∙ news_are db source rest top n m (top_is db counter.0 n at) next_is low casts in
        let step = one_step schema Enforced db edited_to.0 (edit sourced.0) (quiet db (edit sourced.0) own) edited_to.1 in
        let counts_stay : edited_to.0 2 ≡ db 2 = others_kept schema many trees db edited_to.0 (edit sourced.0) step 2 counts (λ e. apart (sym e)) in
        let risen : fold higher top (edit sourced.0).news ≡ pos (n + 1) =
        ap (λ rows. fold higher top rows) news ∙ ap (λ t. higher t (Int (pos (n + 1)) ∷ rest)) (top_is db counter.0 n at) ∙ higher_is n rest in
        let last = counted_to db edited_to.0 next.0 counter.0 n (n + 1) (omega arith) at counts_stay
        (subst (λ t. Counts (task limit params) edited_to.0 counter.0 t (Ok next.0)) risen next.1) in
        record {
          table = ap (λ (w : Written). w.trees tree) out ∙ last.1 tree own apart ∙ step.rows ∙ ap (put_all (db tree)) news;
          count = subst₂ (λ (b a : List Row). Recounts name b (n + 1) a) counts_stay (sym (ap (λ (w : Written). w.trees 2) out)) last.0;
          others = λ t low not_it not_2. ap (λ (w : Written). w.trees t) out ∙ last.1 t low not_2
              ∙ others_kept schema many trees db edited_to.0 (edit sourced.0) step t low not_it;
        }

    pub inserted_all : (db : Trees) (a : Written) (rests : List Row) (from : Source) (n : ℕ) → IsCounted name (counts_of name (db 2)) n → AllByRecursion (IsUnder n) (db tree)
        → at_least (Above (pos n)) (next_rowid (db tree)) ≡ pos (n + 1) → 0 < length rests
        → ((rows : List Row) → Sourced limit (record { schema = schema; trees = db }) (stamped table params) from (Ok rows)
        → map (λ s. cast_row table (drop 0 s)) rows ≡ map (λ r. Null ∷ r) rests)
        → Inserts (task limit params) from db (Ok a) → PutsAllIn many name tree db rests n a.trees
    unfolding everything
    inserted_all db a rests from n counted under next_is some sources h =
        let sourced = went h in
        let counter = went sourced.2 in
        let edited_to = went counter.2 in
        let next = went edited_to.2 in
        let out = same_value next.2 in
        let at : Found db counter.0 n = found db counter.0 n (counter_is db counter.0 counter.1) counted in
        let top = count_of counter.0 in
        let top_same : top ≡ pos n = top_is db counter.0 n at in
        let edit = λ (rows : List Row). edit_of db table [] (Above top) 0 rows in
        let news : (edit sourced.0).news ≡ ids_from n rests =
        ap (λ (cs : List Row). numbered (Above top) (db tree) cs) (sources sourced.0 sourced.1)
        ∙ ap (λ (t : ℤ). numbered (Above t) (db tree) (map (λ r. Null ∷ r) rests)) top_same ∙ numbered_on n n (db tree) rests under next_is (omega arith) in
        let step = one_step schema Enforced db edited_to.0 (edit sourced.0) (quiet db (edit sourced.0) own) edited_to.1 in
        let counts_stay : edited_to.0 2 ≡ db 2 = others_kept schema many trees db edited_to.0 (edit sourced.0) step 2 counts (λ e. apart (sym e)) in
        let risen : fold higher top (edit sourced.0).news ≡ pos (n + length rests) =
        ap (λ rows. fold higher top rows) news ∙ ap (λ (t : ℤ). fold higher t (ids_from n rests)) top_same ∙ highest n rests in
        let last = counted_to db edited_to.0 next.0 counter.0 n (n + length rests) (omega arith) at counts_stay
        (subst (λ t. Counts (task limit params) edited_to.0 counter.0 t (Ok next.0)) risen next.1) in
        record {
          table = ap (λ (w : Written). w.trees tree) out ∙ last.1 tree own apart ∙ step.rows ∙ ap (put_all (db tree)) news;
          count = subst₂ (λ (b a : List Row). Recounts name b (n + length rests) a) counts_stay (sym (ap (λ (w : Written). w.trees 2) out)) last.0;
          others = λ t low not_it not_2. ap (λ (w : Written). w.trees t) out ∙ last.1 t low not_2
              ∙ others_kept schema many trees db edited_to.0 (edit sourced.0) step t low not_it;
        }
