-- As many rows as the journal counts, from the first on, are all of them.
use Rattle.std.proofs.Common.{sym, ap, ◌∙◌}
use Rattle.dnp_eventbuf.specs.Archive.{Archive, IsSoundArchive}
use Rattle.dnp_world.proofs.ReportReading.{all_over_0}
use Rattle.dnp_world.proofs.reading.journal_rows.Goals as goal

pub returns-clause-rows : goal.returns-clause-rows
returns-clause-rows g c = λ h.
    let archive = g.J.JournalStore.archive in
    let before = c.in_ok-rows.ensures.call.held h in
    let sound : IsSoundArchive (archive c.count-count.new.self) = c.count-count.ensures.sound before in
    c.in_ok-rows.ensures.rows h
    ∙ all_over_0 (archive c.count-count.new.self).rows c.count-count.result sound.from_1 (c.count-count.ensures.value before)
    ∙ ap (λ (a : Archive). a.rows) (sym (c.in_ok-rows.ensures.same h))
