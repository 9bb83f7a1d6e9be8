use Rattle.std.proofs.Common.{◌≡◌, ◌≤◌, ap, ◌∙◌, subst, List, take, drop, length, false}
use Rattle.std.specs.Prelude.{All}
use Rattle.dnp_controls.specs.declared.book.Entry.{Entry}
use Rattle.dnp_controls.specs.Book.{is_pending, next_of}
use Rattle.dnp_store.specs.BookKept.{BookValue}
use Rattle.dnp_store.proofs.BookPlaces.{next_after, past_on}
use Rattle.dnp_store.proofs.book.ControlBookBook.next.Goals as goal

pub invariant_of-self : goal.invariant_of-self
invariant_of-self g c =
    let rest : c.split_at.result.1.now ≡ drop c.self.inside.first c.self.inside.entries.items = cc in
    let count = c.count_past-past.result in
    let kept = c.self.invariant in record {
      idle = kept.idle;
      sound = kept.sound;
      past = past_on c.self.inside.entries.items c.self.inside.first count kept.past
          (subst (λ (es : List Entry). count ≤ length es) rest c.count_past-past.ensures.bound)
          (subst (λ (es : List Entry). All (λ entry. is_pending entry.state ≡ false) (take count es)) rest c.count_past-past.ensures.past);
      last_in_range = kept.last_in_range;
      stands = kept.stands;
    }

pub returns-clause-value : goal.returns-clause-value
returns-clause-value g c =
    let rest : c.split_at.result.1.now ≡ drop c.self.inside.first c.self.inside.entries.items = cc in
    c.first_pending.ensures
    ∙ ap (λ es. next_of es c.args.target) c.split_at-2.ensures.back
    ∙ next_after c.split_at.result.1.now c.count_past-past.result c.args.target c.count_past-past.ensures.past
    ∙ ap (λ es. next_of es c.args.target) rest
    ∙ next_after c.self.inside.entries.items c.self.inside.first c.args.target c.self.invariant.past.none
    ∙ ap (λ (k : BookValue _). next_of k.ledger.entries c.args.target) c.self.view_is
