use Rattle.std.proofs.Common.{ap, sym, ◌∙◌}
use Rattle.std.specs.Prelude.{Ok}
use Rattle.dnp_streams.specs.links.Deeds.{ways}
use Rattle.dnp_nodes.proofs.Runs.{runs_made}
use Rattle.dnp_nodes.specs.Callees.{made_of}
use Rattle.dnp_nodes.proofs.callee.Callee.make.Goals as goal

pub returns-in-Ok-clause-made : goal.returns-in-Ok-clause-made
returns-in-Ok-clause-made g c =
    let S = g.S.Station in
    let w = ways S.opens S.receives S.asking S.life in
    let (reply, is, makes) = c.change-told.ensures.changed in
    (reply, ap Ok c.closing_of.ensures ∙ ap made_of (sym c.in-Ok.is ∙ is), runs_made w _ _ _ _ _ _ makes)

pub returns-in-Err-clause-made : goal.returns-in-Err-clause-made
returns-in-Err-clause-made g c =
    let S = g.S.Station in
    let w = ways S.opens S.receives S.asking S.life in
    let (reply, is, makes) = c.change-told.ensures.changed in
    (reply, ap made_of (sym c.in-Err.is ∙ is), runs_made w _ _ _ _ _ _ makes)
