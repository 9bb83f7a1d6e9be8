-- Definition: the two lines between the stations of a link, with the ports at their ends, what is sent over them, and what comes to
-- the outstation there (IEEE Std 1815-2012: application layer, transport function and data link layer together).
use Rattle.std.specs.Prelude.{◌≡◌, ◌≢◌, ℕ, ◌<◌, ◌≤◌, Bool, true, false, ◌&&◌, ◌==◌, not, List, [], ◌∷◌, length, All, Result, OnOk, OnErr}
use Rattle.dnp_controls.specs.Panel.{Panel}
use Rattle.dnp_line.specs.Lines.{LineState, cleared_on, delivered_on, front_of, is_broken, lost_on, quiet_line, repeated_on, Damages}
use Rattle.dnp_line.specs.Ports.{PortState, moved_on, new_port, reset_of}
use Rattle.dnp_line.specs.Ways.{AreSpelled, HearsIfAny, all_sent_on}
use Rattle.dnp_objects.specs.declared.command.Command.{Command}
use Rattle.dnp_outstation.specs.Calls.{connection_after, performed_in}
use Rattle.dnp_outstation.specs.State.{State, Step, Actions}
use Rattle.dnp_transport.specs.Cuts.{cut_count, cuts}
use Rattle.dnp_transport.specs.declared.limits.TheConstants.{MAX_FRAGMENT}
use Rattle.dnp_world.specs.declared.channel.Channel.{Channel}
use Rattle.dnp_world.specs.declared.link_event.End.{End}
use Rattle.dnp_world.specs.declared.link_event.End.TheVariants.{Master, Outstation}
use Rattle.dnp_world.specs.declared.link_event.Way.{Way}
use Rattle.dnp_world.specs.declared.link_event.Way.TheVariants as way

-- the lines to the outstation and to the master, and the ports at their ends
pub record ChannelState : Type 0 where
  pub down : LineState
  pub up : LineState
  pub outstation_port : PortState
  pub master_port : PortState

-- what it is, whatever it has room for
abbrev pub state_of : Channel → ChannelState
state_of c = record { down = c.down.state; up = c.up.state; outstation_port = c.outstation_port; master_port = c.master_port }

-- lines that nothing was sent on, between stations of these link addresses
abbrev pub fresh_channel : ℕ → ℕ → ChannelState
fresh_channel outstation master = record {
  down = quiet_line;
  up = quiet_line;
  outstation_port = new_port outstation master false;
  master_port = new_port master outstation true;
}

-- both lines are cleared, and both ports reset
abbrev pub cleared : ChannelState → ChannelState
cleared c = record {
  down = cleared_on c.down;
  up = cleared_on c.up;
  outstation_port = reset_of c.outstation_port;
  master_port = reset_of c.master_port;
}

-- an end hangs up: the line towards it is cleared, and its port reset
abbrev pub hung_up_at : End → ChannelState → ChannelState
hung_up_at Master c = record c { up = cleared_on c.up; master_port = reset_of c.master_port }
hung_up_at Outstation c = record c { down = cleared_on c.down; outstation_port = reset_of c.outstation_port }

-- the line of a way
abbrev pub line_of : Way → ChannelState → LineState
line_of way.Down c = c.down
line_of way.Up c = c.up

-- a line that gave its front unit, which stays on it or not
abbrev pub left_by : Bool → LineState → LineState
left_by true line = repeated_on line
left_by false line = delivered_on line

abbrev pub left_at : Way → Bool → ChannelState → ChannelState
left_at way.Down repeats c = record c { down = left_by repeats c.down }
left_at way.Up repeats c = record c { up = left_by repeats c.up }

-- the front unit of a way is lost, or its octets become these
abbrev pub lost_at : Way → ChannelState → ChannelState
lost_at way.Down c = record c { down = lost_on c.down }
lost_at way.Up c = record c { up = lost_on c.up }

abbrev pub DamagesAt : Way → List ℕ → ChannelState → ChannelState → Type 0
DamagesAt way.Down octets old new = Damages octets old.down new.down × (new ≡ record old { down = new.down })
DamagesAt way.Up octets old new = Damages octets old.up new.up × (new ≡ record old { up = new.up })

-- the line carries nothing, and is whole
abbrev pub is_quiet_line : LineState → Bool
is_quiet_line line = (length line.units == 0) && not (is_broken line)

abbrev pub are_quiet : ChannelState → Bool
are_quiet c = is_quiet_line c.down && is_quiet_line c.up

-- ---- sending

-- a fragment goes on a line: the units of its segments, and the port's number moves on
pub record IsSent (fragment : List ℕ) (line : LineState) (port : PortState) (line' : LineState) (port' : PortState) : Type 0 where
  pub some : 0 < length fragment
  pub fits : length fragment ≤ MAX_FRAGMENT
  pub units : List (List ℕ)
  pub spelled : AreSpelled port (cuts fragment port.number) units
  pub line_is : line' ≡ all_sent_on units line
  pub port_is : port' ≡ moved_on (cut_count (length fragment)) port

-- one after the other
abbrev pub AreSent : List (List ℕ) → LineState → PortState → LineState → PortState → Type 0
AreSent [] line port line' port' = (line' ≡ line) × (port' ≡ port)
AreSent (fragment ∷ fragments) line port line' port' =
    (between : LineState) × (port_between : PortState) × IsSent fragment line port between port_between
    × AreSent fragments between port_between line' port'

-- these fragments go up
pub record GoUp (fragments : List (List ℕ)) (old new : ChannelState) : Type 0 where
  pub sent : AreSent fragments old.up old.outstation_port new.up new.outstation_port
  pub after : new ≡ record old { up = new.up; outstation_port = new.outstation_port }

-- these fragments go down
pub record GoDown (fragments : List (List ℕ)) (old new : ChannelState) : Type 0 where
  pub sent : AreSent fragments old.down old.master_port new.down new.master_port
  pub after : new ≡ record old { down = new.down; master_port = new.master_port }

-- ---- the outstation's end

-- Outputs after these commands, which they performed one after the other: none, and nothing has changed.
pub record HavePerformed {Outputs : Type 0} (performs : Outputs → List Command → Outputs → Type 0) (commands : List Command)
    (old new : Outputs) : Type 0 where
  pub idle : commands ≡ [] → new ≡ old
  pub performed : commands ≢ [] → performs old commands new

-- A call of the station at the outstation's end, by the station before and after it, what it does and its answer: it takes
-- this step, for which it performs these commands, and none where its stores refuse.
pub record TakesStep {Station Answer Fault : Type 0} (honest : Station → Type 0) (state : Station → State)
    (follows : Station → List Command → Station → Type 0) (keeps : Station → Station → Type 0) (step : Step) (commands : List Command)
    (old new : Station) (does : Actions) (answer : Result Answer Fault) : Type 0 where
  pub held : honest new → honest old
  pub taken : honest new → OnOk answer (step ≡ record { state = state new; does = does })
  pub performed : honest new → OnOk answer (follows old commands new)
  pub whole : OnOk answer (All (λ fragment. 4 ≤ length fragment) does.send)
  pub unchanged : honest new → OnErr answer (state new ≡ state old)
  pub kept : honest new → OnErr answer (keeps old new)

-- the outstation takes this step, and what it sends goes up
abbrev pub StepsUp : Step → State → Actions → ChannelState → ChannelState → Type 0
StepsUp step after does old new = (step ≡ record { state = after; does = does }) × GoUp does.send old new

-- what the port gives, one fragment or none, is answered, and its commands are performed
abbrev pub AnswersTo : List (List ℕ) → (List Command → Type 0) → Panel → ℕ → State → State → Actions → Bool → ChannelState → ChannelState → Type 0
AnswersTo [] follows panel now before after does answered old new = (answered ≡ false) × (after ≡ before) × (new ≡ old) × follows []
AnswersTo (fragment ∷ others) follows panel now before after does answered old new =
    (answered ≡ true) × (connection_after before panel now fragment ≡ record { state = after; does = does }) × GoUp does.send old new
    × follows (performed_in before.core panel now fragment)

-- The front unit comes to the outstation's end, whose outputs are these: it is heard at the port, and what it completes is
-- answered. The line stays as it is.
pub record ComesToOutstation (follows : List Command → Type 0) (panel : Panel) (now : ℕ) (before after : State) (does : Actions) (answered : Bool)
    (old new : ChannelState) : Type 0 where
  pub port : PortState
  pub given : List (List ℕ)
  pub heard : HearsIfAny (front_of old.down) old.outstation_port port [] given
  pub came : AnswersTo given follows panel now before after does answered (record old { outstation_port = port }) new
