-- What is in progress is read of the one of the two.
use Rattle.std.proofs.Common.{ap, ◌∙◌}
use Rattle.std.specs.Option.{option_map}
use Rattle.dnp_concentrator.specs.Relaying.{Relaying}
use Rattle.dnp_world.proofs.CentreReads.{link_there}
use Rattle.dnp_world.proofs.parts.Parts.in_progress_above.Goals as goal

pub returns : goal.returns
returns g c =
    rw (← c.self.view_is)
    (c.in_progress.ensures
    ∙ ap (λ (link : Relaying). option_map (λ p. p.id) link.progress)
    (link_there g.J.JournalStore.archive g.B.Book.contents c.args.centre c.self.inside.centres c.at.result.now c.at.ensures))
