-- The lists of a report, one below the other.
use Rattle.std.proofs.Common.{ℕ, List, [], ◌∷◌, codes, Option, sym, subst}
use Rattle.std.specs.Fmt.{decimal}
use Rattle.std.specs.List.{concat}
use Rattle.std.proofs.lemmas.List.Folds.{concat-append}
use Rattle.dnp_world.specs.declared.report.Report.{Report}
use Rattle.dnp_daemons.specs.ReportText.{events_text, commands_text, count_line, report_text}
use Rattle.dnp_daemons.proofs.Written.{Leaves, none_written}

-- the lists of events
abbrev pub events_texts : Report → List (List ℕ)
events_texts report =
    events_text (codes "journal") report.journal.0
    ∷ events_text (codes "journal2") report.journal.1
    ∷ events_text (codes "queue") report.queue.0
    ∷ events_text (codes "queue2") report.queue.1
    ∷ events_text (codes "dropped") report.dropped.0
    ∷ events_text (codes "dropped2") report.dropped.1
    ∷ events_text (codes "confirmed") report.confirmed
    ∷ events_text (codes "buffered") report.buffered
    ∷ events_text (codes "overwritten") report.overwritten
    ∷ events_text (codes "gone") report.gone
    ∷ []

-- what stands below them
abbrev pub below_events : Report → List (List ℕ)
below_events report =
    commands_text (codes "issued") report.issued
    ∷ commands_text (codes "operated") report.operated
    ∷ count_line (codes "lost") (decimal report.lost.0)
    ∷ count_line (codes "lost2") (decimal report.lost.1)
    ∷ []

-- a report of which nothing is written
pub unwritten : (held : Option (List ℕ)) (report : Report) → Leaves (report_text report) held held (concat (events_texts report) ∷ below_events report)
unwritten held report =
    subst (λ whole. Leaves whole held held (concat (events_texts report) ∷ below_events report))
    (sym (concat-append (events_texts report) (below_events report))) (none_written held (concat (events_texts report) ∷ below_events report))
