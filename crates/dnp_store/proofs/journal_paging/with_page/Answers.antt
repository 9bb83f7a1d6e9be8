use Rattle.std.proofs.Common.{rules, ◌≡◌, ◌+◌, length, Err, arith, ap, subst, sym, ◌∙◌}
use Rattle.dnp_store.specs.steps.JournalShown.{AreInOrder}
use Rattle.dnp_store.proofs.JournalOpening.{few_in_order}
use Rattle.dnp_store.proofs.JournalSeen.{none_lacks, one_list, page_shown}
use Rattle.dnp_store.proofs.Unread.{told_of}
use Rattle.dnp_store.proofs.journal_paging.with_page.Goals as goal

pub returns-clause-shown : goal.returns-clause-shown
returns-clause-shown c =
    let events = c.in_ok-events.events.items in
    let before = c.args.so_far in
    let last = c.in-Some.last in
    let long : length events ≡ c.len.result = search rules in
    record {
      events = events;
      shown = c.in_ok-events.ensures.shown;
      rise = subst (AreInOrder before.last last) c.deref.ensures.value c.in-Some.ensures.order;
      up = c.in-Some.ensures.range.0;
      many = ap (λ n. before.count + n) (sym long);
    }

pub returns-clause-range : goal.returns-clause-range
returns-clause-range c =
    let events = c.in_ok-events.events.items in
    let before = c.args.so_far in
    let last = c.in-Some.last in
    let rises : AreInOrder before.last last events = subst (AreInOrder before.last last) c.deref.ensures.value c.in-Some.ensures.order in
    let few = few_in_order before.last last events rises c.in-Some.ensures.range.0 in
    let long : length events ≡ c.len.result = search rules in
    (c.in-Some.ensures.range.1, omega (arith, c.requires.range))

-- some row shows no event that may stand there
pub returns-in_err-events-clause-wrong : goal.returns-in_err-events-clause-wrong
returns-in_err-events-clause-wrong c told page =
    none_lacks c.args.rows.now c.args.so_far.last page (c.in_err-events.ensures.wrong (ap Err (told_of _ _ _ c.from_residual.ensures told)))

-- or they are not in order
pub returns-in_default-clause-wrong : goal.returns-in_default-clause-wrong
returns-in_default-clause-wrong c told page =
    let before = c.args.so_far in
    let events = c.in_ok-events.events.items in
    let same : events ≡ page.events = one_list c.args.rows.now events page.events c.in_ok-events.ensures.shown (page_shown c.args.rows.now before.last page) in
    let order : AreInOrder before.last page.last c.deref.result.now =
    subst (AreInOrder before.last page.last) (sym (c.deref.ensures.value ∙ same)) page.rise in
    let e = c.last_in_order.ensures.found page.last order page.low in
    absurd (first_of (cc, search (rules, e)))
