-- Definition: the station behind `dnp answer`: an outstation without points and outputs, opened at the moment 0, that
-- has heard nothing before.
use Rattle.std.specs.Prelude.{◌≡◌, ◌≢◌, ◌⊎◌, ℕ, true, false, List, [], ◌∷◌, ◌++◌, replicate, option_to_list}
use Rattle.dnp_linkframe.specs.declared.frame.Frame.{Frame}
use Rattle.dnp_linkstation.specs.Station.{Ends, answer}
use Rattle.dnp_transport.specs.Series.{IsWhole}
use Rattle.dnp_objects.specs.declared.limits.TheConstants.{LANES}
use Rattle.dnp_pointdb.specs.Plan.{plan_of}
use Rattle.dnp_pointdb.specs.Database.{new_database}
use Rattle.dnp_pointdb.specs.declared.times.Times.{Times}
use Rattle.dnp_eventbuf.specs.EventBuffer.{empty_buffer}
use Rattle.dnp_controls.specs.Latches.{no_panel}
use Rattle.dnp_outstation.specs.State.{State}
use Rattle.dnp_outstation.specs.Station.{state_of, new_core}
use Rattle.dnp_outstation.specs.Calls.{opened_of, connection_after}
use Rattle.dnp_streams.specs.Units.{frames_of}

-- the station's end of the link with its master
abbrev pub station_ends : ℕ → ℕ → Ends
station_ends own peer = record { own = own; peer = peer; is_master = false }

-- it hears one frame, so no timer of it ever ends, and it sends nothing unasked
abbrev pub times : Times
times = record { confirm_ms = 5000; response_ms = 10000; select_ms = 5000; retries = 0; unsolicited = false }

-- as it stands when the frame comes
abbrev pub opened_station : State
opened_station = (opened_of (state_of (new_core (new_database (plan_of [] [] [])) times) (empty_buffer (replicate LANES 1)) no_panel) 0).state

-- the fragments that it sends for a fragment that comes (IEEE Std 1815-2012, application layer)
abbrev pub responses : List ℕ → List (List ℕ)
responses fragment = (connection_after opened_station no_panel 0 fragment).does.send

-- its link layer hands the frame's user data up, and they alone are this whole fragment
pub record HandsUp (own peer : ℕ) (frame : Frame) (fragment : List ℕ) : Type 0 where
  pub up : (answer (station_ends own peer) [] frame).up ≡ true
  pub whole : IsWhole (frame.user.items ∷ []) fragment

-- its link layer's reply to the frame, if there is one
abbrev pub replies : ℕ → ℕ → Frame → List Frame
replies own peer frame = option_to_list (answer (station_ends own peer) [] frame).reply

-- it heeds the frame: its link layer replies to it, or hands a fragment up
abbrev pub Heeds : ℕ → ℕ → Frame → Type 0
Heeds own peer frame = (replies own peer frame ≢ []) ⊎ ((fragment : List ℕ) × HandsUp own peer frame fragment)

-- The frames that it sends back, in order, for the frame: its link layer's reply, and then the frames of its responses
-- to the fragment that the link layer hands up, if it does.
pub data AreSentBack (own peer : ℕ) (frame : Frame) (back : List Frame) : Type 0 where
  Answered : (fragment : List ℕ) → HandsUp own peer frame fragment →
      back ≡ replies own peer frame ++ frames_of (station_ends own peer) 0 (responses fragment) → AreSentBack own peer frame back
  Unheard : ((fragment : List ℕ) → HandsUp own peer frame fragment → ⊥) → back ≡ replies own peer frame → AreSentBack own peer frame back
