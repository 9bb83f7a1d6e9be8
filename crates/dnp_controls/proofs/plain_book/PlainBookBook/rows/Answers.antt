use Rattle.std.proofs.Common.{◌≡◌, ◌∙◌, ap, take, arith}
use Rattle.std.specs.Prelude.{filter, nat_lt}
use Rattle.dnp_controls.specs.Book.{rows_of}
use Rattle.dnp_controls.proofs.Numbered.{take-at_most}
use Rattle.dnp_controls.proofs.plain_book.PlainBookBook.rows.Goals as goal
use Rattle.dnp_controls.proofs.plain_book.PlainBookBook.rows.Goals.{in-Ok, in-Err}

pub returns-clause-rows : goal.returns-clause-rows
returns-clause-rows c = λ _.
    let all : c.over-rest.result.now ≡ filter (λ entry. nat_lt c.args.from entry.id) c.args.self.now =
    c.over-rest.ensures ∙ ap (λ es. filter (λ entry. nat_lt c.args.from entry.id) es) (c.deref.ensures.value ∙ c.self.view_is) in
    let shown : c.split_at.result.0.now ≡ rows_of c.args.self.now c.args.from c.args.most =
    c.split_at.ensures.front ∙ take-at_most c.over-rest.result.now c.min-count.result c.args.most (omega arith) ∙ ap (λ es. take c.args.most es) all in
    elim c.match-from_slice.branch [ in-Ok w ↦ rw w.result-is (w.in-Ok.ensures.items ∙ shown) | in-Err w ↦ rw w.result-is tt ]
