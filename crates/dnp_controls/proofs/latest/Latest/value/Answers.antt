use Rattle.std.proofs.Common.{sym}
use Rattle.dnp_controls.proofs.Setting.{value_of-beyond}
use Rattle.dnp_controls.proofs.latest.Latest.value.Goals as goal

pub returns-then-index-ge-MAX_OUTPUTS : goal.returns-then-index-ge-MAX_OUTPUTS
returns-then-index-ge-MAX_OUTPUTS c =
    rw (← c.self.view_is) (sym (value_of-beyond c.self.inside.listing.commands c.args.index c.self.invariant.latches.in_place c.if-index-ge-MAX_OUTPUTS.true))
