use Rattle.std.proofs.Common.{◌≡◌, ◌∷◌, [], ◌++◌, length, arith, rules}
use Rattle.dnp_controls.specs.declared.limits.TheConstants.{MAX_OUTPUTS}
use Rattle.dnp_controls.proofs.Latching.{IsLatchedBy-push}
use Rattle.dnp_controls.proofs.performed.Performed.perform.Goals as goal

pub invariant_of-self : goal.invariant_of-self
invariant_of-self c =
    let count : length c.set_latch.new.latched ≡ MAX_OUTPUTS = omega arith in
    let pushed : c.push.new.self.items ≡ c.self.inside.commands.items ++ c.args.command ∷ [] = search rules in
    IsLatchedBy-push c.self.inside.latched _ c.self.inside.commands.items _ c.args.command c.self.invariant count c.requires.in_place c.set_latch.ensures pushed
