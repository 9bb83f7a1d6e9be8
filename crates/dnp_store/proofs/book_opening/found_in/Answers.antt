use Rattle.std.proofs.Common.{rules, arith, ◌≡◌, ℕ, List, Err, IsTrue, true, false, ap, sym, subst, subst₂, ◌∙◌}
use Rattle.dnp_controls.specs.declared.book.Entry.{Entry}
use Rattle.dnp_store.specs.steps.BookShown.{EntriesRise}
use Rattle.dnp_store.proofs.BookDecoding.{one_list}
use Rattle.dnp_store.proofs.BookShowing.{ids_shown, none_lacks, rises}
use Rattle.dnp_store.proofs.Unread.{told_of}
use Rattle.dnp_store.proofs.book_opening.found_in.Goals as goal

pub returns-else-are_in_order-clause-wrong : goal.returns-else-are_in_order-clause-wrong
returns-else-are_in_order-clause-wrong c told book storable counts shows =
    let rows = c.args.rows.now in
    let items = c.put_entries.new.entries.items in
    let last = c.in-Some.last_id in
    let same : items ≡ book.entries = one_list rows items book.entries c.in_ok-put_entries.ensures.shown shows in
    let last_is : last ≡ book.last_id = (c.in-Some.ensures.alone book.last_id counts (ids_shown rows book storable.sound shows)).0 in
    let rise : EntriesRise 0 last items = subst₂ (λ (n : ℕ) (es : List Entry). EntriesRise 0 n es) (sym last_is) (sym same) (rises book storable.sound) in
    let yes : IsTrue c.are_in_order.result = c.are_in_order.ensures.found (subst (λ (es : List Entry). EntriesRise 0 last es) (sym c.deref.ensures.value) rise) in
    let no : true ≡ false = sym yes ∙ c.if-are_in_order.false in
    absurd cc

pub returns-in_err-put_entries-clause-wrong : goal.returns-in_err-put_entries-clause-wrong
returns-in_err-put_entries-clause-wrong c told book storable counts shows =
    none_lacks c.args.rows.now book storable shows (c.in_err-put_entries.ensures.wrong (ap Err (told_of _ _ _ c.from_residual.ensures told)))

pub returns-in_default-clause-wrong : goal.returns-in_default-clause-wrong
returns-in_default-clause-wrong c told book storable counts shows =
    let e = c.last_used.ensures.found book.last_id counts (ids_shown c.args.rows.now book storable.sound shows) storable.last_in_range in
    first_of (cc, search (rules, e), grind (arith, e))
