use Rattle.std.proofs.Common.{◌∙◌, ap, sym}
use Rattle.dnp_appfragment.specs.Built.{Built, context_of}
use Rattle.dnp_appfragment.specs.steps.Building.{objects_in}
use Rattle.dnp_appfragment.proofs.Laid.{fresh}
use Rattle.dnp_appfragment.proofs.builder.Builder.restart.Goals as goal

pub invariant_of-self : goal.invariant_of-self
invariant_of-self c =
    let made =
    (fresh c.args.function c.args.is_response c.push_front-self-inside.new.octets.items (objects_in c.self.inside.octets.items c.self.inside.ended c.self.inside.run)
    c.push_front-self-inside.result c.self.inside.run c.requires (c.push_front-self-inside.ensures.room ∙ c.push_front-self-inside.ensures.size) (sym c.push_front-self-inside.ensures.room)
    (ap (λ (b : Built). b.run) (c.self.view_is ∙ c.break_run.ensures))) in
    (made.0, sym (ap context_of made.1))

pub returns : goal.returns
returns c =
    (fresh c.args.function c.args.is_response c.push_front-self-inside.new.octets.items (objects_in c.self.inside.octets.items c.self.inside.ended c.self.inside.run)
    c.push_front-self-inside.result c.self.inside.run c.requires (c.push_front-self-inside.ensures.room ∙ c.push_front-self-inside.ensures.size) (sym c.push_front-self-inside.ensures.room)
    (ap (λ (b : Built). b.run) (c.self.view_is ∙ c.break_run.ensures))).1
