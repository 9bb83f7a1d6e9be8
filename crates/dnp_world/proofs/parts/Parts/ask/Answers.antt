-- A task that the master doesn't ask does nothing, and neither does one that belongs to whoever keeps the commands.
use Rattle.std.proofs.Common.{◌∙◌, false, refl, sym}
use Rattle.std.proofs.lemmas.Bool.{false≢true}
use Rattle.dnp_world.specs.OneLinkEvents.{is_own}
use Rattle.dnp_world.proofs.SystemRefusals.{all_ask_nothing}
use Rattle.dnp_world.proofs.parts.Parts.ask.Goals as goal

pub returns-then-not-is_own-clause-done : goal.returns-then-not-is_own-clause-done
returns-then-not-is_own-clause-done g c = λ well.
    all_ask_nothing (is_own c.args.task) false c.args.on c.args.task c.args.self.now.system c.requires
    (λ own. absurd (false≢true (sym c.if-not-is_own.true ∙ c.is_own.ensures ∙ own))) refl

pub returns-then-not-asks-clause-done : goal.returns-then-not-asks-clause-done
returns-then-not-asks-clause-done g c = λ well.
    all_ask_nothing (is_own c.args.task) c.asks.result c.args.on c.args.task c.args.self.now.system c.requires c.asks.ensures c.if-not-asks.true
