use Rattle.std.proofs.Common.{◌≡◌, false, rules}
use Rattle.std.proofs.lemmas.List.Elements.{All-more}
use Rattle.dnp_controls.specs.Book.{is_pending}
use Rattle.dnp_store.proofs.book_entries.count_past.Goals as goal

pub loop-place-preserved : goal.loop-place-preserved
loop-place-preserved c =
    All-more (λ entry. is_pending entry.state ≡ false) c.args.entries.now c.loop-place.place c.index-entries-place.result c.loop-place-test.true c.loop-place.invariant
    (search rules)
