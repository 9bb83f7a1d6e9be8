-- What holds has one proof at most, so it can be had from the mere existence of the links.
use Rattle.std.proofs.Common.{◌∙◌}
use Rattle.std.proofs.Math.Logic.{∥∥₁_elim}
use Rattle.std.proofs.Props.{props}
use Rattle.std.proofs.lemmas.List.{length-map}
use Rattle.dnp_eventbuf.specs.EventBuffer.{row_of}
use Rattle.dnp_world.specs.Kept.{AreMapped, kept_in, report_of}
use Rattle.dnp_world.specs.ReportShown.{ListsAll}
use Rattle.dnp_world.specs.Reports.{Holds, Report}
use Rattle.dnp_world.specs.Systems.{System}
use Rattle.dnp_world.proofs.system_laws.what_stands_is_shown.Goals as goal

holds_once : (r : Report) → IsProp (Holds r)
holds_once r = hlevel props

all_once : (s : System) (r : Report) → IsProp (ListsAll s r)
all_once s r = hlevel props

pub returns-clause-holds : goal.returns-clause-holds
returns-clause-holds c = λ s el some.
    ∥∥₁_elim some (holds_once (report_of s)) (λ x. c.lists_are_of_links.ensures.holds s.indices el x.links (kept_in s) x.behind)

all_of : (s : System) → AreMapped s.indices (kept_in s) → ListsAll s (report_of s)
all_of s m = record { journal = m.journal ∙ length-map s.centre.journal.rows row_of; queue = m.queue; dropped = m.dropped }

pub returns-clause-all : goal.returns-clause-all
returns-clause-all c = λ s el some.
    ∥∥₁_elim some (all_once s (report_of s)) (λ x. all_of s (c.lists_are_of_links.ensures.mapped s.indices el x.links (kept_in s) x.behind))
