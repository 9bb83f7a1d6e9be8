-- The centre's journal is read, and all is what it was.
use Rattle.std.proofs.Common.{◌≡◌}
use Rattle.std.specs.Prelude.{IfOk}
use Rattle.dnp_eventbuf.specs.Archive.{Archive}
use Rattle.dnp_world.proofs.CentreReads.{journal_read, journal_said, tells_by_journal, well_before_journal}
use Rattle.dnp_world.proofs.SystemPlaces.{viewed}
use Rattle.dnp_world.proofs.parts.Parts.journal_for.Goals as goal

pub returns-clause-held : goal.returns-clause-held
returns-clause-held g c = λ well.
    rw (← c.self.view_is)
    (well_before_journal c.self.inside.concentrator c.args.centre c.requires c.self.inside.centres c.at_mut.ensures.value c.journal_rows.new.journal
    c.journal-journal.ensures.value c.journal_rows.ensures.held well)

pub returns-clause-same : goal.returns-clause-same
returns-clause-same g c = λ well.
    rw (← c.self.view_is)
    (journal_read c.self.inside.concentrator c.args.centre c.requires c.self.inside.centres g.J.JournalStore.archive g.B.Book.contents c.at_mut.ensures.value
    (viewed c.self.view_is).system c.journal-journal.ensures.value c.journal_rows.ensures.same well)

pub returns-clause-rows : goal.returns-clause-rows
returns-clause-rows g c = λ well.
    rw (← c.self.view_is)
    (journal_said c.self.inside.concentrator c.args.centre c.requires c.self.inside.centres g.J.JournalStore.archive g.B.Book.contents c.at_mut.ensures.value
    c.journal_rows.new.journal c.journal-journal.ensures.value
    (λ (a : Archive). IfOk c.journal_rows.result (λ rows. rows.items ≡ a.rows)) c.journal_rows.ensures.same
    c.journal_rows.ensures.rows well)

pub returns-clause-device : goal.returns-clause-device
returns-clause-device g c =
    rw (← c.self.view_is)
    (tells_by_journal g.Q.PairLanes.is_stopped g.J.Sink.is_stopped g.A.Book.is_stopped g.B.Book.is_stopped c.self.inside.concentrator c.args.centre c.requires
    c.self.inside.centres c.at_mut.result.now c.at_mut.ensures.value c.journal-journal.result.now c.journal_rows.new.journal _
    c.journal-journal.ensures.value c.journal_rows.ensures.device)
