-- Definition: a run of a link: what a call makes of a link and of the station that is lent to it.
use Rattle.std.specs.Prelude.{◌≡◌, ℕ, Bool, not, if◌then◌else◌, List, Option, Some, None, is_some}
use Rattle.dnp_streams.specs.links.Deeds.{ActsAll, Ways}
use Rattle.dnp_streams.specs.links.Laws.{Event, HappenAll, deeds_in}
use Rattle.dnp_streams.specs.links.Links.{LinkState}
use Rattle.dnp_nodes.specs.declared.slot.Closing.{Closing}
use Rattle.dnp_nodes.specs.declared.slot.Want.{Want}
use Rattle.dnp_nodes.specs.declared.slot.Want.TheVariants.{Close}

-- Events of a link, one after the other. Their deeds are steps of the station; what this says of the station holds where that is honest.
pub record Runs {S : Type 0} (w : Ways S) (honest : Type 0) (old : LinkState) (s : S) (events : List Event) (new : LinkState) (s' : S) : Type 0 where
  pub happen : HappenAll old events new
  pub acts : honest → ActsAll w s (deeds_in events) s'

-- a connection that has to end is to be closed
abbrev pub wanted : Option Closing → Option Want → Option Want
wanted None want = want
wanted (Some cause) want = Some (Close cause)

-- The end of a call: why the connection had to end, if it had to. Then the station was hung up, the connection is to be closed, and the
-- link is of no matter. Else link and station are as the run left them.
pub record Ends {S : Type 0} (hung_up_of : S → S) (honest : Type 0) (over : Option Closing) (last : LinkState) (station : S)
    (new : LinkState) (s' : S) (is_up : Bool) (before after : Option Want) : Type 0 where
  pub up : is_up ≡ not (is_some over)
  pub link : over ≡ None → new ≡ last
  pub state : honest → s' ≡ (if is_some over then hung_up_of station else station)
  pub want : after ≡ wanted over before
