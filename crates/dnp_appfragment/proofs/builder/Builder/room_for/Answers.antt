use Rattle.std.proofs.Common.{◌∙◌, sym, refl, [], arith, length-append}
use Rattle.dnp_appfragment.specs.Headers.{range_octets}
use Rattle.dnp_appfragment.specs.steps.Building.{run_head, ended_in, objects_in}
use Rattle.dnp_appfragment.proofs.Joins.{begun_size}
use Rattle.dnp_appfragment.proofs.Spans.{joined_empty}
use Rattle.dnp_appfragment.proofs.builder.Builder.room_for.Goals as goal

pub returns-in-Some : goal.returns-in-Some
returns-in-Some c =
    let b = c.self.inside in
    let object = run_head [] c.args.object in
    let same =
    joined_empty c.args.self.now b.function (ended_in b.function b.octets.items b.ended) b.run (objects_in b.octets.items b.ended b.run) object
    c.in-Some.field-0 c.self.view_is (sym c.longer.ensures ∙ c.in-Some.is) refl in
    omega (arith, same, c.left.ensures)

pub returns-in-None : goal.returns-in-None
returns-in-None c =
    let b = c.self.inside in
    let object = run_head [] c.args.object in
    let more =
    begun_size c.args.self.now b.function (ended_in b.function b.octets.items b.ended) b.run (objects_in b.octets.items b.ended b.run) object
    c.self.view_is (sym c.longer.ensures ∙ c.in-None.is) in
    omega (arith, more, c.left-in-None.ensures, c.saturating_sub.ensures, c.range_size.ensures.size, length-append (range_octets c.args.object.range) [])
