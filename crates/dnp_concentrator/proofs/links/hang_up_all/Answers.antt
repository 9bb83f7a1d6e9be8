use Rattle.std.proofs.Common.{◌∙◌, ap, sym, slice_set}
use Rattle.std.proofs.lemmas.List.Edits.{map_over_more}
use Rattle.dnp_concentrator.specs.Relaying.{Relaying, hung_up}
use Rattle.dnp_concentrator.proofs.links.hang_up_all.Goals as goal

pub loop-link-preserved : goal.loop-link-preserved
loop-link-preserved c =
    ap (λ (link : Relaying). slice_set c.loop-link.links c.loop-link.link-index link) (c.hung_up.ensures ∙ ap hung_up (sym c.link-item.is))
    ∙ map_over_more hung_up c.args.links.now c.loop-link.links c.loop-link.link-index c.link-item.result c.loop-link-test.true c.loop-link.invariant
    c.link-item.is
