-- Definition: a station's port: it cuts what the station sends into units for a line, and joins the units that come to what the
-- station's peer sent (IEEE Std 1815-2012, transport function over data link layer).
use Rattle.std.specs.Prelude.{◌≡◌, ℕ, ◌+◌, ◌%◌, Bool, true, false, ◌&&◌, List, [], ◌∷◌, ◌↔◌, IsTrue}
use Rattle.dnp_linkframe.specs.declared.frame.Frame.{Frame}
use Rattle.dnp_linkstation.specs.declared.station.LinkStation.{LinkStation}
use Rattle.dnp_linkstation.specs.Station.{Ends, ends, fresh, answer, sent, AreHeard as Answers}
use Rattle.dnp_transport.specs.Assembly.{Assembly, Idle, ArePushed, Shows}
use Rattle.dnp_transport.specs.Series.{IsWhole}
use Rattle.dnp_line.specs.declared.port.Taken.{Taken}
use Rattle.dnp_transport.specs.declared.limits.TheConstants.{SEGMENT_NUMBERS}

-- its end of the link, the number of the next segment that its station sends, and what it has joined so far
pub record PortState : Type 0 where
  pub link : LinkStation
  pub number : ℕ
  pub assembly : Assembly

-- a port that sent and took nothing
abbrev pub new_port : ℕ → ℕ → Bool → PortState
new_port own peer is_master =
    record { link = fresh (record { own = own; peer = peer; is_master = is_master }); number = 0; assembly = Idle }

-- the frame in which a station sends user data to its peer
abbrev pub data_frame : PortState → List ℕ → Frame
data_frame p user = sent (ends p.link) user

-- n segments were sent: the next has a number n further on, modulo SEGMENT_NUMBERS
abbrev pub moved_on : ℕ → PortState → PortState
moved_on n p = record p { number = (p.number + n) % SEGMENT_NUMBERS }

-- some frames stand for the port's end of the link, and some pushed strings for what it joins
pub record HasHistory (p : PortState) : Type 0 where
  pub heard : List Frame
  pub answers : Answers heard p.link
  pub pushed : List (List ℕ)
  pub stands : ArePushed pushed p.assembly

-- whether there are user data
abbrev pub has_data : List ℕ → Bool
has_data [] = false
has_data (octet ∷ octets) = true

-- whether a frame gives user data to join, after the frames that were heard: it goes up, and has some
abbrev pub is_joined : Ends → List Frame → Frame → Bool
is_joined e heard frame = (answer e heard frame).up && has_data frame.user.items

-- User data that are to be joined are pushed, and `whole` says whether that completed a fragment. Where there are none,
-- what was joined stays as it is, and nothing is completed.
abbrev pub Joins : Bool → List (List ℕ) → List ℕ → Assembly → Assembly → Bool → Type 0
Joins true pushed user old new whole =
    ArePushed (user ∷ pushed) new × (IsTrue whole ↔ ((fragment : List ℕ) × IsWhole (user ∷ pushed) fragment))
Joins false pushed user old new whole = (new ≡ old) × (whole ≡ false)

-- the port takes a frame, after the frames that it heard and the strings that were pushed
pub record TakesAfter (heard : List Frame) (pushed : List (List ℕ)) (old : PortState) (frame : Frame) (new : PortState) (taken : Taken) : Type 0 where
  pub answers : Answers (frame ∷ heard) new.link
  pub replied : taken.reply ≡ (answer (ends old.link) heard frame).reply
  pub joins : Joins (is_joined (ends old.link) heard frame) pushed frame.user.items old.assembly new.assembly taken.whole

-- the port takes a frame, by any of its histories
pub record Takes (old : PortState) (frame : Frame) (new : PortState) (taken : Taken) : Type 0 where
  pub same_number : new.number ≡ old.number
  pub same_ends : ends new.link ≡ ends old.link
  pub after : (heard : List Frame) → Answers heard old.link → (pushed : List (List ℕ)) → ArePushed pushed old.assembly →
      TakesAfter heard pushed old frame new taken

-- the octets are the fragment that the last push into the port completed, or none
abbrev pub IsShown : PortState → List ℕ → Type 0
IsShown p octets = (pushed : List (List ℕ)) → ArePushed pushed p.assembly → Shows pushed octets

-- a port that forgot what it sent and took
abbrev pub reset_of : PortState → PortState
reset_of p = record { link = fresh (ends p.link); number = 0; assembly = Idle }
