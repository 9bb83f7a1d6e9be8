-- Definition: one way of a link since it was opened: a station hands fragments to its port, a line carries the units, and the port
-- of the peer joins what comes. What happens to a way is said by the same words as the calls of lines and ports.
use Rattle.std.specs.Prelude.{◌≡◌, ℕ, ◌<◌, ◌≤◌, Bool, true, false, not, if◌then◌else◌, List, [], ◌∷◌, ◌++◌, length, Option, Some, None}
use Rattle.dnp_linkframe.specs.Frames.{Spells}
use Rattle.dnp_linkframe.specs.declared.frame.Frame.{Frame}
use Rattle.dnp_linkstation.specs.Station.{ends}
use Rattle.dnp_transport.specs.Cuts.{cut_count, cuts}
use Rattle.dnp_line.specs.Lines.{LineState, quiet_line, front_of, sent_on, delivered_on, repeated_on, lost_on, ReadsAsFrame, Damages, cleared_on}
use Rattle.dnp_line.specs.declared.port.Taken.{Taken}
use Rattle.dnp_line.specs.Ports.{PortState, new_port, data_frame, moved_on, Takes, IsShown, reset_of}
use Rattle.dnp_transport.specs.declared.limits.TheConstants.{MAX_FRAGMENT}

-- the line and the ports at its ends; whether the sender hands over nothing more until the link is opened again; the
-- fragments that were handed to the sender's port, and those that the receiver's port gave, each oldest first
pub record Way : Type 0 where
  pub line : LineState
  pub sender : PortState
  pub receiver : PortState
  pub mute : Bool
  pub sent : List (List ℕ)
  pub given : List (List ℕ)

-- a way of a link that was just opened, from the station `own` to the station `peer`
abbrev pub new_way : ℕ → ℕ → Bool → Way
new_way own peer from_master =
    record {
      line = quiet_line;
      sender = new_port own peer from_master;
      receiver = new_port peer own (not from_master);
      mute = false;
      sent = [];
      given = [];
    }

-- the link is opened again: the line is cleared, and both ports are reset
abbrev pub opened_on : Way → Way
opened_on w =
    record {
      line = cleared_on w.line;
      sender = reset_of w.sender;
      receiver = reset_of w.receiver;
      mute = false;
      sent = [];
      given = [];
    }

-- what can happen to a way: the calls of its line, a fragment that is sent, and a reset of the sender's port. A
-- clearing of the line resets the receiver's port. What happens on the way back, over the same ports, is `WayBack`.
pub data WayEvent : Type 0 where
  Send : (fragment : List ℕ) → WayEvent
  Deliver : WayEvent
  Repeat : WayEvent
  Lose : WayEvent
  Damage : (octets : List ℕ) → WayEvent
  Clear : WayEvent
  SenderReset : WayEvent
  WayBack : WayEvent

-- the units are the spellings of the frames in which the port's station sends the segments, one for each, in order
abbrev pub AreSpelled : PortState → List (List ℕ) → List (List ℕ) → Type 0
AreSpelled port [] units = units ≡ []
AreSpelled port (segment ∷ segments) units =
    (unit : List ℕ) × (rest : List (List ℕ)) × Spells unit (data_frame port segment) × AreSpelled port segments rest
    × (units ≡ unit ∷ rest)

-- the line after a send of each of these units
abbrev pub all_sent_on : List (List ℕ) → LineState → LineState
all_sent_on [] line = line
all_sent_on (unit ∷ units) line = all_sent_on units (sent_on unit line)

-- a fragment of 1 to MAX_FRAGMENT octets is sent: the units of its segments go on the line, and the port's number moves on
pub record Sends (fragment : List ℕ) (old new : Way) : Type 0 where
  pub some : 0 < length fragment
  pub fits : length fragment ≤ MAX_FRAGMENT
  pub units : List (List ℕ)
  pub spelled : AreSpelled old.sender (cuts fragment old.sender.number) units
  pub after : new ≡ record old {
    line = all_sent_on units old.line;
    sender = moved_on (cut_count (length fragment)) old.sender;
    sent = old.sent ++ fragment ∷ [];
  }

-- a mute sender sends nothing
abbrev pub SendsUnlessMute : Bool → List ℕ → Way → Way → Type 0
SendsUnlessMute true fragment old new = new ≡ old
SendsUnlessMute false fragment old new = Sends fragment old new

-- the receiver's port gets a unit: where it reads as a frame the port takes that, and gives the fragment that this made
-- whole, if it did
pub data HearsUnit (unit : List ℕ) (old new : PortState) (given given' : List (List ℕ)) : Type 0 where
  AFrame : (frame : Frame) → (taken : Taken) → (fragment : List ℕ) → Spells unit frame → Takes old frame new taken →
      IsShown new fragment → given' ≡ (if taken.whole then given ++ fragment ∷ [] else given) → HearsUnit unit old new given given'
  NoFrame : (ReadsAsFrame unit → ⊥) → new ≡ old → given' ≡ given → HearsUnit unit old new given given'

-- the same for the unit that comes, if one does
abbrev pub HearsIfAny : Option (List ℕ) → PortState → PortState → List (List ℕ) → List (List ℕ) → Type 0
HearsIfAny None old new given given' = (new ≡ old) × (given' ≡ given)
HearsIfAny (Some unit) old new given given' = HearsUnit unit old new given given'

-- the front unit comes to the receiver's port, and the line is left so
pub record Brings (line : LineState) (old new : Way) : Type 0 where
  pub receiver : PortState
  pub given : List (List ℕ)
  pub heard : HearsIfAny (front_of old.line) old.receiver receiver old.given given
  pub after : new ≡ record old { line = line; receiver = receiver; given = given }

-- the front unit is damaged
pub record IsDamaged (octets : List ℕ) (old new : Way) : Type 0 where
  pub line : LineState
  pub damages : Damages octets old.line line
  pub after : new ≡ record old { line = line }

-- on the way back the sender's port takes what comes, and the receiver's port sends
pub record IsWayBack (old new : Way) : Type 0 where
  pub same_ends : ends new.sender.link ≡ ends old.sender.link
  pub after : new ≡ record old {
    sender = record old.sender { link = new.sender.link; assembly = new.sender.assembly };
    receiver = record old.receiver { number = new.receiver.number };
  }

-- the event takes the way from `old` to `new`
abbrev pub Happens : Way → WayEvent → Way → Type 0
Happens old (Send fragment) new = SendsUnlessMute old.mute fragment old new
Happens old Deliver new = Brings (delivered_on old.line) old new
Happens old Repeat new = Brings (repeated_on old.line) old new
Happens old Lose new = new ≡ record old { line = lost_on old.line }
Happens old (Damage octets) new = IsDamaged octets old new
Happens old Clear new = new ≡ record old { line = cleared_on old.line; receiver = reset_of old.receiver }
Happens old SenderReset new = new ≡ record old { sender = reset_of old.sender; mute = true }
Happens old WayBack new = IsWayBack old new

-- the events take the way from `old` to `new`, one after the other
abbrev pub Runs : Way → List WayEvent → Way → Type 0
Runs old [] new = new ≡ old
Runs old (event ∷ events) new = (next : Way) × Happens old event next × Runs next events new
