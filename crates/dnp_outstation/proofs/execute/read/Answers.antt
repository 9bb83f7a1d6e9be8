use Rattle.std.proofs.Common.{rules, None, ◌≡◌, true, List, refl, ap, ◌∙◌}
use Rattle.std.specs.List.{list_all}
use Rattle.dnp_appfragment.specs.Headers.{Head}
use Rattle.dnp_outstation.specs.Items.{Source, first_place, is_inside}
use Rattle.dnp_outstation.specs.steps.Filling.{after_release}
use Rattle.dnp_outstation.specs.declared.answer.Answer.{Answer}
use Rattle.dnp_outstation.proofs.Steps.{read_answered}
use Rattle.dnp_outstation.proofs.execute.read.Goals as goal

pub returns-clause-executed : goal.returns-clause-executed
returns-clause-executed g c = λ honest s points_is restart_is enabled_is lanes_is.
    let lanes = after_release (g.L.Lanes.contents c.args.lanes.now) c.args.from.now.released.now in
    let source : Source = record { points = c.args.from.now.points.now; panel = g.O.Outputs.panel c.args.from.now.outputs.now; lanes = lanes } in
    let a : Answer = record { bits = 0; switches = c.args.from.now.switches; stood = c.args.stood; left = c.left.result; time = None } in
    let are : true ≡ c.are_inside.result = search rules in
    let inside : true ≡ list_all (is_inside source) c.args.headers.now.headers =
    are ∙ c.are_inside.ensures source refl refl ∙ ap (λ (hs : List Head). list_all (is_inside source) hs) c.after.ensures.headers in
    let written = rw c.after-2.ensures.headers at (c.in_ok-is_last.ensures.offered honest first_place c.requires.empty) in
    read_answered s source c.args.headers.now.headers c.args.stood c.in_ok-is_last.is_last c.put_parts.new.writer a points_is lanes_is inside
    (search rules) written (search rules)
