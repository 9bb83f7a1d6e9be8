use Rattle.std.proofs.Common.{ap, ◌∙◌}
use Rattle.std.specs.Prelude.{◌||◌}
use Rattle.dnp_nodes.proofs.callee.Callee.note_whole.Goals as goal

pub returns : goal.returns
returns c = (
  c.fragment.result.now,
  c.fragment.ensures.shown,
  ap (λ b. record c.args.self.now { whole_at = c.args.now; operated = b })
      (c.either-self.ensures ∙ ap (λ b. b || c.args.self.now.operated) c.operates-operates.ensures),
)
