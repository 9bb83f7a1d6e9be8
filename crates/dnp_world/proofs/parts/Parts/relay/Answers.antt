-- A master that isn't idle waits.
use Rattle.std.proofs.Common.{◌∙◌, sym}
use Rattle.dnp_world.proofs.SystemRefusals.{all_wait}
use Rattle.dnp_world.proofs.parts.Parts.relay.Goals as goal

pub returns-then-not-idle-clause-done : goal.returns-then-not-idle-clause-done
returns-then-not-idle-clause-done g c = λ well. all_wait c.args.on c.args.self.now.system c.requires (sym c.idle.ensures ∙ c.if-not-idle.true)

pub returns-in-Below-clause-done : goal.returns-in-Below-clause-done
returns-in-Below-clause-done g c = λ well. rw (c.in-Below.is) (c.relay_below.ensures.done well)
