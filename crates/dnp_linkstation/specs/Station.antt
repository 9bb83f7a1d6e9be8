-- Definition: a link station (IEEE Std 1815-2012, data link layer): which frames are for it, what it answers, and
-- which frame count bit it expects.
use Rattle.std.specs.Prelude.{◌≡◌, ℕ, ◌+◌, ◌^◌, Bool, true, false, not, ◌&&◌, ◌==◌, if◌then◌else◌, List, [], ◌∷◌, Option, Some, None, option_map}
use Rattle.dnp_linkframe.specs.declared.frame.Frame.{Frame}
use Rattle.dnp_linkstation.specs.declared.function.PrimaryFunction.{PrimaryFunction}
use Rattle.dnp_linkstation.specs.declared.function.PrimaryFunction.TheVariants as primary
use Rattle.dnp_linkstation.specs.declared.function.SecondaryFunction.{SecondaryFunction}
use Rattle.dnp_linkstation.specs.declared.function.SecondaryFunction.TheVariants as secondary
use Rattle.dnp_linkstation.specs.declared.station.LinkStation.{LinkStation}
use Rattle.dnp_linkstation.specs.declared.station.LinkAnswer.{LinkAnswer}
use Rattle.dnp_linkstation.specs.Control.{is_from_master, is_primary, frame_count_bit, primary_function, code}
use Rattle.dnp_linkstation.specs.declared.control.TheConstants.{DIR, PRM}
use Rattle.dnp_linkstation.specs.declared.function.TheConstants as number

-- the two ends of a link, as the station at one of them sees it: its own address, that of its peer, and
-- whether it is the master
pub record Ends : Type 0 where
  pub own : ℕ
  pub peer : ℕ
  pub is_master : Bool

abbrev pub ends : LinkStation → Ends
ends station = record { own = station.own; peer = station.peer; is_master = station.is_master }

-- the same link, as the peer sees it
abbrev pub opposite : Ends → Ends
opposite e = record { own = e.peer; peer = e.own; is_master = not e.is_master }

-- the frame is for the station: its destination is the station, its source the peer, its DIR that of the
-- peer, and its PRM 1
abbrev pub is_for : Ends → Frame → Bool
is_for e frame =
    frame.dest == e.own && frame.source == e.peer
    && (if e.is_master then not (is_from_master frame.control) else is_from_master frame.control)
    && is_primary frame.control

-- whether two bits are the same
abbrev pub is_same : Bool → Bool → Bool
is_same true b = b
is_same false b = not b

-- the functions whose FCB counts
abbrev pub counts : PrimaryFunction → Bool
counts primary.TestLinkStates = true
counts primary.ConfirmedUserData = true
counts _ = false

-- The FCB that is expected next, after these frames, the newest first: none before the first
-- RESET_LINK_STATES, and 1 right after one. A frame of TEST_LINK_STATES or CONFIRMED_USER_DATA with the
-- expected FCB makes the station expect the other one, and a repeated frame, with the other FCB, changes
-- nothing: either way the opposite of the frame's own FCB is expected next.
abbrev pub expected_next : PrimaryFunction → Bool → Option Bool → Option Bool
expected_next primary.ResetLinkStates fcb before = Some true
expected_next primary.TestLinkStates fcb before = option_map (λ _. not fcb) before
expected_next primary.ConfirmedUserData fcb before = option_map (λ _. not fcb) before
expected_next _ fcb before = before

abbrev pub expected : Ends → List Frame → Option Bool
expected e [] = None
expected e (frame ∷ before) =
    (if is_for e frame
    then expected_next (primary_function frame.control) (frame_count_bit frame.control) (expected e before)
    else expected e before)

-- the station heard these frames, the newest first, since it was new or reset: it expects what they make it expect
abbrev pub AreHeard : List Frame → LinkStation → Type 0
AreHeard frames station = station.expected ≡ expected (ends station) frames

-- a station that no frame came to since it was new or reset
abbrev pub fresh : Ends → LinkStation
fresh e = record { own = e.own; peer = e.peer; is_master = e.is_master; expected = None }

-- DIR of the station's own frames
abbrev pub direction : Ends → ℕ
direction e = (if e.is_master then 2 ^ DIR else 0)

-- the frame of user data that the station sends: PRM 1 and UNCONFIRMED_USER_DATA
abbrev pub sent : Ends → List ℕ → Frame
sent e user = record {
  control = direction e + 2 ^ PRM + number.UNCONFIRMED_USER_DATA;
  dest = e.peer;
  source = e.own;
  user = record { items = user };
}

-- a reply has PRM 0, DFC 0 and no user data
abbrev pub reply_of : Ends → SecondaryFunction → Frame
reply_of e function = record {
  control = direction e + code function;
  dest = e.peer;
  source = e.own;
  user = record { items = [] };
}

abbrev pub replies : Ends → SecondaryFunction → Bool → LinkAnswer
replies e function up = record { up = up; reply = Some (reply_of e function) }

-- The answer to a frame that is for the station, by its function, the FCB that is expected, which is none
-- in a station that was never reset, and its own FCB.
abbrev pub answer_to : Ends → PrimaryFunction → Option Bool → Bool → LinkAnswer
answer_to e primary.ResetLinkStates before fcb = replies e secondary.Ack false
answer_to e primary.TestLinkStates None fcb = replies e secondary.Nack false
answer_to e primary.TestLinkStates (Some awaited) fcb = replies e secondary.Ack false
answer_to e primary.ConfirmedUserData None fcb = replies e secondary.Nack false
answer_to e primary.ConfirmedUserData (Some awaited) fcb = replies e secondary.Ack (is_same fcb awaited)
answer_to e primary.UnconfirmedUserData before fcb = record { up = true; reply = None }
answer_to e primary.RequestLinkStatus before fcb = replies e secondary.LinkStatus false
answer_to e primary.Other before fcb = replies e secondary.NotSupported false

-- a frame that is not for the station is dropped: no reply, and nothing goes up
abbrev pub dropped : LinkAnswer
dropped = record { up = false; reply = None }

-- the answer to a frame after those before it
abbrev pub answer : Ends → List Frame → Frame → LinkAnswer
answer e before frame =
    (if is_for e frame
    then answer_to e (primary_function frame.control) (expected e before) (frame_count_bit frame.control)
    else dropped)
