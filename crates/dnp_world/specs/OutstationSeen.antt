-- Definition: an outstation as the law of its link sees it, and what a step of it is to the link: some moves, which send what
-- the step sends and release what it releases.
use Rattle.std.specs.Prelude.{◌≡◌, ℕ, ◌≤◌, ◌<◌, ◌^◌, ◌==◌, if◌then◌else◌, List, ◌++◌, map, length, option_map, is_some, IfSome, ⊤}
use Rattle.dnp_objects.specs.declared.limits.TheConstants.{LANES}
use Rattle.dnp_objects.specs.declared.command.Command.{Command}
use Rattle.dnp_objects.specs.declared.row.Row.{Row}
use Rattle.dnp_appfragment.specs.declared.function.Function.TheVariants as function
use Rattle.dnp_appfragment.specs.Table.{function_octet}
use Rattle.dnp_controls.specs.Panel.{Panel}
use Rattle.dnp_eventbuf.specs.Buffered.{buffered_row}
use Rattle.dnp_eventbuf.specs.Sound.{IsSoundBuffer}
use Rattle.dnp_pointdb.specs.Sound as points
use Rattle.dnp_outstation.specs.declared.session.Reply.{Reply}
use Rattle.dnp_outstation.specs.declared.session.Reply.TheVariants.{Held, Silent, First, Further}
use Rattle.dnp_outstation.specs.declared.session.LastRequest.{LastRequest}
use Rattle.dnp_outstation.specs.declared.session.Awaited.{Awaited}
use Rattle.dnp_outstation.specs.declared.session.Unsolicited.{Unsolicited}
use Rattle.dnp_outstation.specs.declared.session.Session.{Session}
use Rattle.dnp_outstation.specs.Connection.{function_in}
use Rattle.dnp_outstation.specs.Links.{IsInOrder}
use Rattle.dnp_outstation.specs.State.{Core, State, Step}
use Rattle.dnp_outstation.specs.Tidy.{LeavesNothing}
use Rattle.dnp_world.specs.LawLink as link
use Rattle.dnp_world.specs.LawLink.{Down, Asks, Confirms, ConfirmsReport, Up, fragment_of, NothingSent, FirstSent, FurtherSent, LawLink}
use Rattle.dnp_world.specs.Lanes.{HasLanes}
use Rattle.dnp_world.specs.Moves.{Moves}
use Rattle.dnp_world.specs.Octets.{seq_in, uns_in}

-- ---- octets on their way

-- what goes down, by its octets (IEEE Std 1815-2012, application layer: requests, CONFIRM and the bit UNS)
abbrev pub down_of : List ℕ → Down
down_of octets =
    if function_in octets == function_octet function.Confirm
    then if uns_in octets then ConfirmsReport (seq_in octets) else Confirms (seq_in octets)
    else Asks octets

-- the octets of what goes up
abbrev pub octets_of : Up → List ℕ
octets_of u = (fragment_of u).octets

-- the outputs show octets, at indexes of 16 bits
pub record ShowOctets (o : Panel) : Type 0 where
  pub outputs : o.outputs ≤ 2 ^ 16
  pub status : (index : ℕ) → index < o.outputs → o.status index < 2 ^ 8

-- ---- an outstation without clocks and points

-- for a READ that is held, and for a request that has no response, nothing was sent
abbrev pub reply_seen : List ℕ → Reply → link.Reply
reply_seen response Held = NothingSent
reply_seen response Silent = NothingSent
reply_seen response (First f) = FirstSent response f.upto
reply_seen response Further = FurtherSent

abbrev pub last_seen : Session → LastRequest → link.LastRequest
last_seen session last = record { request = session.request; reply = reply_seen session.response last.reply; more = is_some last.left }

abbrev pub awaited_seen : Awaited → link.Awaited
awaited_seen w = record { seq = w.seq; upto = w.upto }

abbrev pub report_seen : Session → Unsolicited → link.AwaitedReport
report_seen session w = record { octets = session.unsolicited_response; seq = w.seq; upto = w.upto }

abbrev pub outstation_seen : Core → link.LawOutstation
outstation_seen c = record {
  is_open = c.is_open;
  last = option_map (last_seen c.session) c.session.last;
  awaited = option_map awaited_seen c.session.awaited;
  report = option_map (report_seen c.session) c.session.unsolicited;
  next = c.session.next;
}

-- ---- what holds of an outstation at all times

-- a first fragment has an id for each lane ..
abbrev pub HasIds : Reply → Type 0
HasIds Held = ⊤
HasIds Silent = ⊤
HasIds (First f) = length f.upto ≡ LANES
HasIds Further = ⊤

-- .. and so has the fragment whose confirm is awaited
pub record HaveIds (session : Session) : Type 0 where
  pub awaited : IfSome session.awaited (λ w. length w.upto ≡ LANES)
  pub first : IfSome session.last (λ last. HasIds last.reply)

-- its lanes and points are sound, it is in order, and of what it gave nothing is left but what may still be confirmed
pub record IsWell (s : State) : Type 0 where
  pub lanes : IsSoundBuffer s.lanes
  pub points : points.IsSoundDatabase s.core.points
  pub order : IsInOrder s.core
  pub tidy : LeavesNothing s
  pub ids : HaveIds s.core.session

-- the link's outstation and lanes are these
pub record Shows (s : State) (l : LawLink) : Type 0 where
  pub outstation : outstation_seen s.core ≡ l.outstation
  pub lanes : HasLanes s.lanes l
  pub well : IsWell s

-- ---- a step of it

-- the master, what may come down, and what was asked for and taken are as they were
pub record LeavesMaster (old new : LawLink) : Type 0 where
  pub master : new.master ≡ old.master
  pub down : new.down ≡ old.down
  pub took : new.took ≡ old.took
  pub asked : new.asked ≡ old.asked

-- a step of an outstation is some moves of the link that shows it, where these rows came to the lanes with it
pub record Simulates (old : State) (came : List Row) (step : Step) (l : LawLink) : Type 0 where
  pub link : LawLink
  pub moves : Moves l link
  pub shows : Shows step.state link
  pub master : LeavesMaster l link
  -- what the step sends goes up, in order
  pub sent : List Up
  pub up : link.up ≡ l.up ++ sent
  pub octets : map octets_of sent ≡ step.does.send
  -- what stood in the lanes, was released or left unconfirmed grows by what came, was discarded or overwritten
  pub stood : map buffered_row link.stood ≡ map buffered_row l.stood ++ came
  pub released : map buffered_row link.released ≡ map buffered_row l.released ++ step.does.discarded
  pub left : map buffered_row link.left ≡ map buffered_row l.left ++ step.does.overwritten
  -- and what was performed by the commands that the step performs
  pub commands : List Command
  pub performed : step.state.performed ≡ old.performed ++ commands
  pub performed_seen : link.performed ≡ l.performed ++ commands
