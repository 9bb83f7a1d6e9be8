use Rattle.std.proofs.Common.{◌++◌, ◌∙◌, ap, map}
use Rattle.std.proofs.lemmas.List.{map-append}
use Rattle.dnp_eventbuf.specs.Archive.{numbered}
use Rattle.dnp_eventbuf.specs.EventBuffer.{row_of}
use Rattle.dnp_eventbuf.proofs.Archives.{rows-numbered, with_both}
use Rattle.dnp_eventbuf.proofs.journal_laws.a_journal_keeps_events_in_order.Goals as goal

pub returns-clause-rows : goal.returns-clause-rows
returns-clause-rows c = λ a events.
    map-append row_of a.rows (numbered a.last_id events) ∙ ap (λ l. map row_of a.rows ++ l) (rows-numbered a.last_id events)

pub returns-clause-two : goal.returns-clause-two
returns-clause-two c = with_both
