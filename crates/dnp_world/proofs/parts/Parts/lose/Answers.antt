-- The lines of the link are written.
use Rattle.std.proofs.Common.{◌≡◌, ℕ, ◌<◌, refl}
use Rattle.dnp_eventbuf.specs.declared.pair.TheConstants.{CENTRES}
use Rattle.dnp_world.specs.Channels.{ChannelState, lost_at}
use Rattle.dnp_world.specs.Wholes.{seen_by}
use Rattle.dnp_world.proofs.CentrePlaces.{lines_change_above, low_of}
use Rattle.dnp_world.proofs.SystemPlaces.{lines_change_at, viewed}
use Rattle.dnp_world.proofs.parts.Parts.lose.Goals as goal

pub returns-in-Below-clause-done : goal.returns-in-Below-clause-done
returns-in-Below-clause-done g c =
    let planned = rw (← c.self.view_is, c.in-Below.is) at c.requires in
    rw (c.in-Below.is, ← c.self.view_is)
    (λ (centre : ℕ) (low : centre < CENTRES). lines_change_at c.in-Below.substation c.from.result (λ (was is : ChannelState). is ≡ lost_at c.args.way was)
    (seen_by centre (viewed c.self.view_is).system) c.self.inside.substations.items
    c.index_mut.result.now c.lose.new.self refl c.from.ensures planned
    c.index_mut.ensures.value c.lose.ensures)

pub returns-in-Above-clause-done : goal.returns-in-Above-clause-done
returns-in-Above-clause-done g c =
    let old = (viewed c.self.view_is).system in
    let n = c.in-Above.centre in
    let planned = rw (← c.self.view_is, c.in-Above.is) at c.requires in
    rw (c.in-Above.is, ← c.self.view_is)
    (lines_change_above n (low_of n old planned) (λ (was is : ChannelState). is ≡ lost_at c.args.way was) old c.self.inside.above c.at_mut.result.now
    c.lose-in-Above.new.self c.at_mut.ensures.value c.lose-in-Above.ensures)
