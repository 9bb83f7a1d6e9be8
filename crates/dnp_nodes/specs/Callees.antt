-- Definition: an outstation's side of one link, over connections that come and go.
use Rattle.std.specs.Prelude.{◌≡◌, ◌<◌, ℕ, Bool, true, false, not, ◌&&◌, ◌||◌, nat_le, if◌then◌else◌, All, List, [], ◌∷◌, ◌++◌, length, min, Option, Some, None, is_some, Result, Ok, Err, ⊤}
use Rattle.std.specs.List.{list_any}
use Rattle.dnp_line.specs.Ports.{PortState, new_port}
use Rattle.dnp_schedule.specs.Moving.{later}
use Rattle.dnp_streams.specs.declared.link.answering.Told.{Told}
use Rattle.dnp_streams.specs.declared.stream.change.Change.{Change}
use Rattle.dnp_streams.specs.declared.stream.station.StationFault.{StationFault}
use Rattle.dnp_streams.specs.links.Deeds.{Came, Changed, Reply, Ticked, Ways, Whole, told_of}
use Rattle.dnp_streams.specs.links.Laws.{Event, Made}
use Rattle.dnp_streams.specs.links.Links.{HasRoom, LinkState}
use Rattle.dnp_nodes.specs.Budgets.{has_come, or_last, stuck_at}
use Rattle.dnp_nodes.specs.Runs.{Ends, Runs, wanted}
use Rattle.dnp_nodes.specs.declared.callee.Callee.{Callee}
use Rattle.dnp_nodes.specs.declared.callee.CalleePlan.{CalleePlan}
use Rattle.dnp_nodes.specs.declared.callee.ChangeFault.{ChangeFault}
use Rattle.dnp_nodes.specs.declared.callee.ChangeFault.TheVariants.{Station}
use Rattle.dnp_nodes.specs.declared.slot.Closing.{Closing}
use Rattle.dnp_nodes.specs.declared.slot.Closing.TheVariants.{Stuck, Idle, Station as ByStation}
use Rattle.dnp_nodes.specs.declared.slot.Want.{Want}
use Rattle.dnp_nodes.specs.declared.slot.Want.TheVariants.{Close}

-- ---- what it is made of

-- it has a connection
abbrev pub is_up : Callee → Bool
is_up c = c.is_up

abbrev pub link_of : Callee → LinkState
link_of c = c.link

abbrev pub want_of : Callee → Option Want
want_of c = c.want

-- what it is made for: no call changes it
abbrev pub plan_of : Callee → CalleePlan
plan_of c = c.plan

-- the port of a connection that begins
abbrev pub port_of : Callee → PortState
port_of c = new_port (plan_of c).ends.own (plan_of c).ends.peer false

-- a fragment came that operates an output, since that was asked last
abbrev pub has_operated : Callee → Bool
has_operated c = c.operated

-- one of these became another
abbrev pub with_want : Callee → Option Want → Callee
with_want c want = record c { want = want }

abbrev pub with_operated : Callee → Bool → Callee
with_operated c operated = record c { operated = operated }

-- the octets that wait to be sent on the connection
abbrev pub output_of : Callee → List ℕ
output_of c = if c.is_up then c.link.pending else []

-- Nothing is left to be heard: if there is room for what a step sends, no frame waits.
abbrev pub Rests : Callee → Type 0
Rests c = HasRoom c.link → (0 < length c.link.waiting → ⊥)

-- ---- a call on a connection

-- frames that came are heard, at this moment
abbrev pub IsHeard : ℕ → Event → Type 0
IsHeard now (Made (Came at frame joined)) = at ≡ now
IsHeard now _ = ⊥

-- then time passes at the station, once; it doesn't only if the connection had to end, or there was no room
abbrev pub Passes : ℕ → Option Closing → LinkState → List Event → Type 0
Passes now over last [] = over ≡ None → HasRoom last → ⊥
Passes now over last (Made (Ticked at reply) ∷ []) = at ≡ now
Passes now over last _ = ⊥

-- the functions OPERATE, DIRECT_OPERATE, DIRECT_OPERATE_NR (IEEE Std 1815-2012, application layer) operate an output
abbrev pub operates : List ℕ → Bool
operates (control ∷ function ∷ objects) = nat_le 4 function && nat_le function 6
operates _ = false

-- a step was made with such a fragment
abbrev pub is_operating : Event → Bool
is_operating (Made (Came now frame (Whole fragment reply))) = operates fragment
is_operating _ = false

-- a run in which it hears
pub record Hears {S : Type 0} (w : Ways S) (honest : Type 0) (now : ℕ) (from : LinkState) (old : Callee) (s : S)
    (last : LinkState) (station : S) (new : Callee) : Type 0 where
  pub heard : List Event
  pub each : All (IsHeard now) heard
  pub runs : Runs w honest from s heard last station
  pub operated : has_operated new ≡ (list_any is_operating heard || has_operated old)

-- a run that begins with these events; then it hears and lets time pass
pub record Goes {S : Type 0} (w : Ways S) (honest : Type 0) (now : ℕ) (over : Option Closing) (first : List Event) (from : LinkState)
    (old : Callee) (s : S) (last : LinkState) (station : S) (new : Callee) : Type 0 where
  pub heard : List Event
  pub each : All (IsHeard now) heard
  pub time : List Event
  pub passes : Passes now over last time
  pub runs : Runs w honest from s (first ++ (heard ++ time)) last station
  pub operated : has_operated new ≡ (list_any is_operating heard || has_operated old)

-- a call: such a run, and its end
pub record Calls {S : Type 0} (w : Ways S) (hung_up_of : S → S) (honest : Type 0) (now : ℕ) (first : List Event) (from : LinkState)
    (want : Option Want) (old : Callee) (s : S) (new : Callee) (s' : S) : Type 0 where
  pub over : Option Closing
  pub last : LinkState
  pub station : S
  pub goes : Goes w honest now over first from old s last station new
  pub ends : Ends hung_up_of honest over last station (link_of new) s' (is_up new) want (want_of new)

-- nothing was done but to end the connection, for this cause
pub record IsCut {S : Type 0} (hung_up_of : S → S) (honest : Type 0) (cause : Closing) (old : Callee) (s : S) (new : Callee) (s' : S) : Type 0 where
  pub up : is_up new ≡ false
  pub state : honest → s' ≡ hung_up_of s
  pub want : want_of new ≡ Some (Close cause)
  pub operated : has_operated new ≡ has_operated old

-- ---- a change

-- a step that was made closes the connection, if the station says so
abbrev pub closing_of : Told → Option Closing
closing_of told = if told.closed then Some ByStation else None

abbrev pub made_of : Result Told StationFault → Result (Option Closing) StationFault
made_of (Ok told) = Ok (closing_of told)
made_of (Err fault) = Err fault

-- what it answers, and why the connection has to end by it
abbrev pub changed_in : Result (Option Closing) StationFault → Result ⊤ ChangeFault
changed_in (Ok over) = Ok tt
changed_in (Err fault) = Err (Station fault)

abbrev pub over_in : Result (Option Closing) StationFault → Option Closing
over_in (Ok over) = over
over_in (Err fault) = None

-- a connection ends only if there is one
abbrev pub over_if : Bool → Option Closing → Option Closing
over_if true over = over
over_if false over = None

-- a reading changed, to which the station replied so, with a connection or without one
pub record Changes {S : Type 0} (w : Ways S) (hung_up_of : S → S) (honest : Type 0) (now : ℕ) (change : Change) (reply : Reply)
    (old : Callee) (s : S) (new : Callee) (s' : S) : Type 0 where
  pub over : Option Closing
  pub last : LinkState
  pub station : S
  pub is : over ≡ over_if (is_up old) (over_in (made_of (told_of reply)))
  pub runs : Runs w honest (link_of old) s (Made (Changed now change reply) ∷ []) last station
  pub up : is_up new ≡ (is_up old && not (is_some over))
  pub link : over ≡ None → link_of new ≡ last
  pub state : honest → s' ≡ (if is_some over then hung_up_of station else station)
  pub want : want_of new ≡ wanted over (want_of old)
  pub operated : has_operated new ≡ has_operated old

-- ---- how long anything may take

abbrev pub taken_by : Callee → Option ℕ
taken_by c = stuck_at c.waits c.plan.stuck_ms

-- a fragment has to come whole by then
abbrev pub whole_by : Callee → ℕ
whole_by c = later c.whole_at c.plan.idle_ms

-- what took too long, if anything did
abbrev pub over_budget : Callee → ℕ → Option Closing
over_budget c now =
    if has_come (taken_by c) now then Some Stuck
    else (if has_come (Some (whole_by c)) now then Some Idle else None)

-- It is to be called again then, if the station's timer ends at this moment, or runs not. While there is no room, the timer is of no matter.
pub record IsDue (c : Callee) (timer : Option ℕ) (moment : ℕ) : Type 0 where
  pub unconnected : is_up c ≡ false → moment ≡ or_last None
  pub roomy : is_up c ≡ true → HasRoom c.link → moment ≡ min (min (or_last (taken_by c)) (whole_by c)) (or_last timer)
  pub full : is_up c ≡ true → (HasRoom c.link → ⊥) → moment ≡ min (or_last (taken_by c)) (whole_by c)
