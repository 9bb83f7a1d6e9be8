use Rattle.std.proofs.Common.{◌≡◌, ◌≢◌, ◌∙◌, ℕ, refl, subst, List, [], ◌∷◌, take}
use Rattle.std.specs.Prelude.{filter, nat_lt, IfOk, OnErr, Result, Ok, Err}
use Rattle.dnp_objects.specs.declared.row.Row.{Row}
use Rattle.dnp_eventbuf.specs.declared.numbered.Numbered.{Numbered}
use Rattle.dnp_eventbuf.specs.Archive.{numbered}
use Rattle.dnp_eventbuf.proofs.Archives.{numbered-over}
use Rattle.dnp_eventbuf.proofs.plain_journal.first_over.Goals as goal

shown : (c : goal.After-number)
    → numbered c.args.from c.split_at.result.0.now ≡ take c.args.most (filter (λ x. nat_lt c.args.from x.id) (numbered 0 c.args.rows.now))
shown c =
    numbered-over c.args.from c.args.most c.min-count.result c.args.rows.now c.over-rest.result.now c.split_at.result.0.now
    c.over-rest.ensures c.min-count.ensures c.split_at.ensures.front

pub returns-clause-rows : goal.returns-clause-rows
returns-clause-rows c = subst (λ (l : List Numbered). IfOk c.number.result (λ out. out.items ≡ l)) (shown c) c.number.ensures.rows

some_wanted : {A E : Type 0} (r : Result A E) (last : ℕ) (rows : List Row) (wanted : List Numbered) → numbered last rows ≡ wanted → OnErr r (rows ≢ [])
    → OnErr r (wanted ≢ [])
some_wanted (Ok x) last rows wanted is some = tt
some_wanted (Err e) last [] wanted is some = absurd (some refl)
some_wanted (Err e) last (row ∷ rows) wanted is some = λ none. let none' : numbered last (row ∷ rows) ≡ [] = is ∙ none in cc

pub returns-clause-memory : goal.returns-clause-memory
returns-clause-memory c = some_wanted c.number.result c.args.from c.split_at.result.0.now _ (shown c) c.number.ensures.memory
