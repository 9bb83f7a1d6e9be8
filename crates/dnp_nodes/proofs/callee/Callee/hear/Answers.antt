use Rattle.std.proofs.Common.{ap, subst, sym, ◌∙◌}
use Rattle.std.specs.Prelude.{◌||◌}
use Rattle.dnp_line.specs.Ports.{HasHistory}
use Rattle.dnp_streams.specs.links.Deeds.{ways}
use Rattle.dnp_nodes.proofs.Outstations.{hears_from, hears_one, not_operating, operates_now}
use Rattle.dnp_nodes.specs.Callees.{has_operated, link_of}
use Rattle.dnp_nodes.proofs.callee.Callee.hear.Goals as goal

pub returns-in-Part-clause-hears : goal.returns-in-Part-clause-hears
returns-in-Part-clause-hears g c =
    let S = g.S.Station in
    let w = ways S.opens S.receives S.asking S.life in
    let (frame, joined, is, makes) = c.hear-heard.ensures.heard in
    hears_one w _ _ _ _ _ _ _ _ frame joined makes (not_operating c.args.now frame joined c.args.self.now.operated (sym c.in-Part.is ∙ is))

pub returns-in-Whole-clause-hears : goal.returns-in-Whole-clause-hears
returns-in-Whole-clause-hears g c =
    let S = g.S.Station in
    let w = ways S.opens S.receives S.asking S.life in
    let (frame, joined, is, makes) = c.hear-heard.ensures.heard in
    let (fragment, shown, noted) = c.note_whole.ensures in
    let laws = c.a_link_shows_what_it_took.ensures in
    let history = subst HasHistory c.port.ensures c.has_a_history.ensures in
    hears_from w _ _ _ _ _ _ _ _ (ap link_of noted)
    (hears_one w _ _ _ _ _ _ _ _ frame joined makes
    (ap has_operated noted ∙ ap (λ b. b || c.args.self.now.operated)
    (operates_now _ _ c.args.now frame joined c.in-Whole.told fragment laws.shown laws.one history shown makes.does (sym c.in-Whole.is ∙ is))))
