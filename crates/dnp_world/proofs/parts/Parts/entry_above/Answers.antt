-- The centre's book is read, and all is what it was.
use Rattle.std.proofs.Common.{◌≡◌}
use Rattle.std.specs.Prelude.{IfOk}
use Rattle.dnp_controls.specs.Book.{Ledger}
use Rattle.dnp_world.specs.Controls.{found_in}
use Rattle.dnp_world.proofs.CentreReads.{book_read, book_said, tells_by_book, well_before_book}
use Rattle.dnp_world.proofs.SystemPlaces.{viewed}
use Rattle.dnp_world.proofs.parts.Parts.entry_above.Goals as goal

pub returns-clause-held : goal.returns-clause-held
returns-clause-held g c = λ well.
    rw (← c.self.view_is)
    (well_before_book c.self.inside.concentrator c.args.centre c.requires c.self.inside.centres c.at_mut.ensures.value
    c.entry_with.new.book c.book-book.ensures.value
    c.entry_with.ensures.held c.entry_with.ensures.runs well)

pub returns-clause-same : goal.returns-clause-same
returns-clause-same g c = λ well.
    rw (← c.self.view_is)
    (book_read c.self.inside.concentrator c.args.centre c.requires c.self.inside.centres g.J.JournalStore.archive g.B.Book.contents c.at_mut.ensures.value
    (viewed c.self.view_is).system c.book-book.ensures.value c.entry_with.ensures.same well)

pub returns-clause-value : goal.returns-clause-value
returns-clause-value g c = λ well.
    rw (← c.self.view_is)
    (book_said c.self.inside.concentrator c.args.centre c.requires c.self.inside.centres g.J.JournalStore.archive g.B.Book.contents c.at_mut.ensures.value
    c.entry_with.new.book c.book-book.ensures.value (λ (l : Ledger). IfOk c.entry_with.result (λ entry. entry ≡ found_in l.entries c.args.id))
    c.entry_with.ensures.value well)

pub returns-clause-device : goal.returns-clause-device
returns-clause-device g c =
    rw (← c.self.view_is)
    (tells_by_book g.Q.PairLanes.is_stopped g.J.Sink.is_stopped g.A.Book.is_stopped g.B.Book.is_stopped c.self.inside.concentrator c.args.centre c.requires
    c.self.inside.centres c.at_mut.result.now c.at_mut.ensures.value c.book-book.result.now c.entry_with.new.book _ c.book-book.ensures.value
    c.entry_with.ensures.device)
