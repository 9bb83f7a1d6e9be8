use Rattle.std.proofs.Common.{◌≡◌, ◌≤◌, ap, ◌∙◌, subst, arith, List, take, drop, length, length-drop, false}
use Rattle.std.specs.Prelude.{All}
use Rattle.dnp_controls.specs.declared.book.Entry.{Entry}
use Rattle.dnp_controls.specs.Book.{is_pending, next_of}
use Rattle.dnp_controls.proofs.Numbered.{past-more, next_of-drop}
use Rattle.dnp_controls.proofs.plain_book.PlainBookBook.next.Goals as goal

pub invariant_of-self : goal.invariant_of-self
invariant_of-self c =
    let rest : c.split_at.result.1.now ≡ drop c.self.inside.first c.self.inside.entries.items = cc in
    let P : List Entry → Type 0 = λ es. All (λ entry. is_pending entry.state ≡ false) (take c.count_past-past.result es) in
    record {
      numbered = c.self.invariant.numbered;
      within = (let bound : c.count_past-past.result ≤ length c.split_at.result.1.now = c.count_past-past.ensures.bound in
          let within = c.self.invariant.within in
          omega (arith, ap length rest, length-drop c.self.inside.first c.self.inside.entries.items));
      past = past-more c.self.inside.entries.items c.self.inside.first c.count_past-past.result c.self.invariant.past (subst P rest c.count_past-past.ensures.past);
    }

pub returns-clause-value : goal.returns-clause-value
returns-clause-value c = λ _.
    let rest : c.split_at.result.1.now ≡ drop c.self.inside.first c.self.inside.entries.items = cc in
    c.first_pending.ensures
    ∙ ap (λ es. next_of es c.args.target) c.split_at-2.ensures.back
    ∙ next_of-drop c.split_at.result.1.now c.count_past-past.result c.args.target c.count_past-past.ensures.past
    ∙ ap (λ es. next_of es c.args.target) rest
    ∙ next_of-drop c.self.inside.entries.items c.self.inside.first c.args.target c.self.invariant.past
    ∙ ap (λ es. next_of es c.args.target) c.self.view_is
