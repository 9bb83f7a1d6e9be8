use Rattle.std.proofs.Common.{ap, sym, cond}
use Rattle.dnp_controls.proofs.Latching.{is_latched-beyond}
use Rattle.dnp_controls.proofs.states.shown.Goals as goal

pub returns-then-index-ge-MAX_OUTPUTS : goal.returns-then-index-ge-MAX_OUTPUTS
returns-then-index-ge-MAX_OUTPUTS c = λ commands left.
    ap (λ b. cond b 0x81 0x01) (sym (is_latched-beyond commands c.args.index left.in_place c.if-index-ge-MAX_OUTPUTS.true))
