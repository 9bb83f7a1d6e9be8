use Rattle.std.proofs.Common.{◌≡◌, length, arith}
use Rattle.dnp_controls.specs.declared.limits.TheConstants.{MAX_OUTPUTS}
use Rattle.dnp_controls.proofs.Setting.{IsLeftBy-push}
use Rattle.dnp_controls.proofs.latest.Latest.perform.Goals as goal

pub invariant_of-self : goal.invariant_of-self
invariant_of-self c =
    let count : length c.set_latch.new.latched ≡ MAX_OUTPUTS = omega arith in
    let counted : length c.set_value.new.values ≡ MAX_OUTPUTS = omega arith in
    IsLeftBy-push c.self.inside.latched _ c.self.inside.values _ c.self.inside.listing.commands _ c.args.command c.self.invariant c.requires
    count counted c.set_latch.ensures c.set_value.ensures c.then-self-inside.ensures
