use Rattle.std.proofs.Common.{◌≡◌, ◌<◌, ◌+◌, ◌∷◌, List, drop, get_or, length, sym, ap, subst, ◌∙◌, arith, add-one, drop-cons}
use Rattle.dnp_controls.specs.declared.book.Entry.{Entry}
use Rattle.dnp_store.specs.steps.BookShown.{EntriesRise}
use Rattle.dnp_store.proofs.book_decoding.are_in_order.Goals as goal
use Rattle.dnp_store.proofs.book_decoding.are_in_order.Goals.{then-entry-before-via-then-entry-before, then-entry-before-via-else-entry-before+then-entry-last}

-- an entry that is not in order stands among those that are still to come
pub returns-then-entry-before-clause-found : goal.returns-then-entry-before-clause-found
returns-then-entry-before-clause-found c h =
    let i = c.loop-entry.entry-index in
    let entries = c.args.entries.now in
    let entry = c.entry-item.result in
    let low : i < length entries = c.loop-entry-test.true in
    let front : drop i entries ≡ get_or entries i entry ∷ drop (i + 1) entries = rw (add-one, drop-cons entries i entry) in
    let left : drop i entries ≡ entry ∷ drop (i + 1) entries = front ∙ ap (λ (e : Entry). e ∷ drop (i + 1) entries) (sym c.entry-item.is) in
    let it : EntriesRise c.loop-entry.before c.args.last (entry ∷ drop (i + 1) entries) =
    subst (λ (es : List Entry). EntriesRise c.loop-entry.before c.args.last es) left (c.loop-entry.invariant.found h) in
    let less = it.0 in
    let most = it.1 in
    elim c.then-entry-before.branch [
      | then-entry-before-via-then-entry-before w ↦ absurd (let test = w.if-entry-before.true in omega arith)
      | then-entry-before-via-else-entry-before+then-entry-last w ↦ absurd (let test = w.if-entry-last.true in omega arith)
    ]
