use Rattle.std.proofs.Common.{ap, ◌∙◌}
use Rattle.std.specs.Prelude.{◌||◌}
use Rattle.dnp_streams.specs.links.Deeds.{ways}
use Rattle.dnp_nodes.proofs.Masters.{goes_first}
use Rattle.dnp_nodes.specs.Callers.{link_of, told_stores}
use Rattle.dnp_nodes.proofs.caller.Caller.open.Goals as goal

pub returns-clause-goes : goal.returns-clause-goes
returns-clause-goes g c =
    let S = g.S.Station in
    let w = ways S.opens S.receives S.asking S.life in
    let (reply, is, makes) = c.opened-told.ensures.opened in (
      reply,
      goes_first w _ _ _ _ _ _ _ _ _ makes (ap link_of c.take_told.ensures.same)
          (c.take_told.ensures.stored ∙ ap (λ told. told_stores told || c.args.self.now.stored) is),
    )
