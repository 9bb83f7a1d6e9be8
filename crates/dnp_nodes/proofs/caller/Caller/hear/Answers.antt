use Rattle.std.proofs.Common.{refl, ap, sym, ◌∙◌}
use Rattle.std.specs.Prelude.{◌||◌}
use Rattle.dnp_streams.specs.links.Deeds.{ways}
use Rattle.dnp_nodes.proofs.Masters.{goes_made}
use Rattle.dnp_nodes.specs.Callers.{heard_stores, link_of, told_stores}
use Rattle.dnp_nodes.specs.declared.caller.Caller.{Caller}
use Rattle.dnp_nodes.proofs.caller.Caller.hear.Goals as goal

pub returns-in-Part-clause-goes : goal.returns-in-Part-clause-goes
returns-in-Part-clause-goes g c =
    let S = g.S.Station in
    let w = ways S.opens S.receives S.asking S.life in
    let (frame, joined, is, makes) = c.hear-heard.ensures.heard in
    goes_made w _ _ _ _ _ _ _ _ _ refl makes refl (ap (λ heard. heard_stores heard || c.args.self.now.stored) (sym c.in-Part.is ∙ is))

pub returns-in-Whole-clause-goes : goal.returns-in-Whole-clause-goes
returns-in-Whole-clause-goes g c =
    let S = g.S.Station in
    let w = ways S.opens S.receives S.asking S.life in
    let (frame, joined, is, makes) = c.hear-heard.ensures.heard in
    goes_made w _ _ _ _ _ _ _ _ _ refl makes (ap link_of c.take_told.ensures.same ∙ ap link_of c.note_unsolicited.ensures)
    (c.take_told.ensures.stored ∙ ap (λ (it : Caller). told_stores c.in-Whole.told || it.stored) c.note_unsolicited.ensures
    ∙ ap (λ heard. heard_stores heard || c.args.self.now.stored) (sym c.in-Whole.is ∙ is))
