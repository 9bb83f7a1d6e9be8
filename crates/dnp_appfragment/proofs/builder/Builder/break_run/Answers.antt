use Rattle.std.proofs.Common.{◌∙◌, ap, sym}
use Rattle.dnp_appfragment.specs.Built.{broken, context_of}
use Rattle.dnp_appfragment.specs.steps.Building.{built_in}
use Rattle.dnp_appfragment.proofs.Contexts.{context_broken}
use Rattle.dnp_appfragment.proofs.Laid.{run_broken}
use Rattle.dnp_appfragment.proofs.builder.Builder.break_run.Goals as goal

pub invariant_of-self : goal.invariant_of-self
invariant_of-self c =
    let both =
    run_broken c.self.inside.function c.self.inside.octets.items c.self.inside.ended c.len-self-inside.result c.self.inside.run c.self.invariant.0
    c.len-self-inside.ensures.value in (
      both.0,
      c.self.invariant.1 ∙ sym (ap context_of both.1
          ∙ context_broken (built_in c.self.inside.function c.self.inside.octets.items c.self.inside.ended c.self.inside.run)),
    )

pub returns : goal.returns
returns c =
    (run_broken c.self.inside.function c.self.inside.octets.items c.self.inside.ended c.len-self-inside.result c.self.inside.run c.self.invariant.0
    c.len-self-inside.ensures.value).1
    ∙ ap broken c.self.view_is
