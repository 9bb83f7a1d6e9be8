use Rattle.std.proofs.Common.{◌≡◌, ◌∙◌, ap, sym, length, rules}
use Rattle.dnp_eventbuf.specs.Archive.{Archive}
use Rattle.dnp_eventbuf.proofs.Archives.{length-numbered}
use Rattle.dnp_eventbuf.proofs.plain_journal.PlainJournalJournalStore.count.Goals as goal

pub returns-clause-value : goal.returns-clause-value
returns-clause-value c = λ _.
    let all : c.len.result ≡ length c.self.inside.rows.items = search rules in
    all ∙ sym (length-numbered 0 c.self.inside.rows.items) ∙ ap (λ (a : Archive). length a.rows) c.self.view_is
