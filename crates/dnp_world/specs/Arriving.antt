-- Definition: fragments that are under way on the lines of a link, and their arrival, each whole, in order, and answered before the
-- next one comes (IEEE Std 1815-2012: application layer, transport function and data link layer together).
use Rattle.std.specs.Prelude.{◌≡◌, ◌≢◌, ⊤, ℕ, ◌<◌, ◌≤◌, false, if◌then◌else◌, List, [], ◌∷◌, ◌++◌, length, drop, slice_get, Option, Some, None, Result, Ok, Err, option_to_list}
use Rattle.dnp_objects.specs.declared.row.Row.{Row}
use Rattle.dnp_transport.specs.Cuts.{cuts}
use Rattle.dnp_transport.specs.declared.limits.TheConstants.{MAX_FRAGMENT}
use Rattle.dnp_line.specs.Flows.{AreFacing}
use Rattle.dnp_line.specs.Lines.{LineState, is_broken}
use Rattle.dnp_line.specs.Ports.{PortState, HasHistory}
use Rattle.dnp_line.specs.Ways.{AreSpelled}
use Rattle.dnp_master.specs.Calls.{Taking, receive_of}
use Rattle.dnp_master.specs.declared.fault.MasterFault.{MasterFault}
use Rattle.dnp_outstation.specs.Calls.{connection_after}
use Rattle.dnp_world.specs.Channels.{ChannelState}
use Rattle.dnp_world.specs.SystemEvents.{ChangesAt, LinesChange, MasterTakes, MiddleAnswers, SubstationAnswers, relaying_at}
use Rattle.dnp_world.specs.Systems.{SubstationState, System, at_substation, has_substation, middle_of, middle_panel, panel_of, station_of}
use Rattle.dnp_world.specs.declared.event.Link.{Link}
use Rattle.dnp_world.specs.declared.event.Link.TheVariants.{Below, Above}
use Rattle.dnp_world.specs.declared.link_event.Way.{Way}
use Rattle.dnp_world.specs.declared.link_event.Way.TheVariants as way

-- ---- fragments on a line

-- the units are those of the fragment's segments, numbered from some number on
pub record IsInUnits (sender : PortState) (fragment : List ℕ) (units : List (List ℕ)) : Type 0 where
  pub some : 0 < length fragment
  pub fits : length fragment ≤ MAX_FRAGMENT
  pub number : ℕ
  pub spelled : AreSpelled sender (cuts fragment number) units

-- those of the fragments, one after the other
abbrev pub AreInUnits : PortState → List (List ℕ) → List (List ℕ) → Type 0
AreInUnits sender [] units = units ≡ []
AreInUnits sender (fragment ∷ fragments) units =
    (first : List (List ℕ)) × (rest : List (List ℕ)) × IsInUnits sender fragment first × AreInUnits sender fragments rest
    × (units ≡ first ++ rest)

-- The line is whole, and carries these fragments and nothing else to a port that faces the sender's; that port may have heard and
-- half built anything.
pub record StandOn (fragments : List (List ℕ)) (line : LineState) (sender receiver : PortState) : Type 0 where
  pub facing : AreFacing sender receiver
  pub unbroken : is_broken line ≡ false
  pub units : AreInUnits sender fragments line.units
  pub history : HasHistory receiver

-- ---- on the lines of a link

abbrev pub channel_at : Option SubstationState → Option ChannelState
channel_at None = None
channel_at (Some s) = Some s.channel

-- the lines of a link of the plan
abbrev pub channel_on : System → Link → Option ChannelState
channel_on s (Below substation) = if has_substation s substation then channel_at (slice_get s.substations substation) else None
channel_on s (Above centre) = Some s.above

-- two links that are not one: there is one above, that of the centre that sees the system
abbrev pub AreApart : Link → Link → Type 0
AreApart (Below substation) (Below other) = substation ≢ other
AreApart (Below substation) (Above centre) = ⊤
AreApart (Above centre) (Below substation) = ⊤
AreApart (Above centre) (Above other) = ⊥

-- these fragments are under way down and up the link, and nothing else is
pub record UnderWay (on : Link) (down up : List (List ℕ)) (s : System) : Type 0 where
  pub channel : ChannelState
  pub there : channel_on s on ≡ Some channel
  pub down_is : StandOn down channel.down channel.master_port channel.outstation_port
  pub up_is : StandOn up channel.up channel.outstation_port channel.master_port

-- nothing is, and what is sent will come
abbrev pub IsClearOn : Link → System → Type 0
IsClearOn on s = UnderWay on [] [] s

-- ---- arrivals

-- units came off the line to the port at its end
abbrev pub HearsAt : Way → ChannelState → ChannelState → Type 0
HearsAt way.Down was is = is ≡ record was { down = is.down; outstation_port = is.outstation_port }
HearsAt way.Up was is = is ≡ record was { up = is.up; master_port = is.master_port }

-- a substation answers a fragment; what is released is listed as confirmed, and what is performed as operated
pub record SubstationTakes (substation : ℕ) (fragment : List ℕ) (old new : System) : Type 0 where
  pub released : List Row
  pub answers : ChangesAt substation (SubstationAnswers (fragment ∷ []) old.now released)
      (λ was is s. record s {
        history = record s.history {
          confirmed = s.history.confirmed ++ at_substation substation released;
          operated = s.history.operated ++ at_substation substation (drop (length was.outputs.performed) is.outputs.performed);
        };
      }) old new

-- the station at the end of the way takes a fragment, and answers it
abbrev pub TakesOn : Link → Way → List ℕ → System → System → Type 0
TakesOn (Below substation) way.Down fragment old new = SubstationTakes substation fragment old new
TakesOn (Above centre) way.Down fragment old new = MiddleAnswers (fragment ∷ []) old new
TakesOn on way.Up fragment old new = MasterTakes on (fragment ∷ []) old new

abbrev pub answers_below : Option SubstationState → ℕ → List ℕ → List (List ℕ)
answers_below None now fragment = []
answers_below (Some s) now fragment = (connection_after (station_of s) (panel_of s) now fragment).does.send

abbrev pub confirms_of : Result Taking MasterFault → List (List ℕ)
confirms_of (Ok t) = option_to_list t.confirm
confirms_of (Err fault) = []

-- what it sends back for a fragment
abbrev pub answers_on : System → Link → Way → List ℕ → List (List ℕ)
answers_on s (Below substation) way.Down fragment = answers_below (slice_get s.substations substation) s.now fragment
answers_on s (Above centre) way.Down fragment =
    (connection_after (middle_of s.concentrator) (middle_panel s.concentrator s.now) s.now fragment).does.send
answers_on s on way.Up fragment = confirms_of (receive_of (relaying_at s on).master s.now fragment)

-- its units come, which changes a line and a port, and then the fragment is taken; these fragments are sent back
pub record Arrives (on : Link) (way : Way) (fragment : List ℕ) (answers : List (List ℕ)) (old new : System) : Type 0 where
  pub heard : System
  pub hears : LinesChange on (HearsAt way) old heard
  pub takes : TakesOn on way fragment heard new
  pub sends : answers ≡ answers_on heard on way fragment

-- one after the other
abbrev pub Arrive : Link → Way → List (List ℕ) → List (List ℕ) → System → System → Type 0
Arrive on way [] answers old new = (answers ≡ []) × (new ≡ old)
Arrive on way (fragment ∷ fragments) answers old new =
    (first : List (List ℕ)) × (more : List (List ℕ)) × (next : System) × Arrives on way fragment first old next
    × Arrive on way fragments more next new × (answers ≡ first ++ more)
