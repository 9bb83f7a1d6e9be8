-- Definition: a concentrator's parts: an outstation towards each of two centres, to which the queue's side for that centre
-- and the book are lent, and a link to each substation; what the concentrator is once one of them was written, and what a
-- call leaves of them.
use Rattle.std.specs.Prelude.{◌≡◌, ◌≢◌, ℕ, Bool, true, IsTrue, List, Result, Err, IsErr, IfErr, OnErr, slice_set}
use Rattle.dnp_controls.specs.Book.{Ledger}
use Rattle.dnp_controls.specs.Panel.{Panel}
use Rattle.dnp_eventbuf.specs.Sides.{AreSame, ForEach, beside_of, other_than}
use Rattle.dnp_eventbuf.specs.EventBuffer.{EventBuffer}
use Rattle.dnp_outstation.specs.State.{Core, State}
use Rattle.dnp_outstation.specs.Stores.{IsLook, KeepsLanes}
use Rattle.dnp_objects.specs.declared.lane.LaneRow.{LaneRow}
use Rattle.dnp_objects.specs.declared.row.Row.{Row}
use Rattle.dnp_objects.specs.declared.store.StoreFault.{StoreFault}
use Rattle.dnp_master.specs.Calls.{Taking, receive_of}
use Rattle.dnp_master.specs.declared.fault.MasterFault.{MasterFault}
use Rattle.dnp_master.specs.declared.fault.MasterFault.TheVariants.{Device}
use Rattle.dnp_outstation.specs.Station.{state_of, with_points}
use Rattle.dnp_pointdb.specs.Database.{Database, lost_of}
use Rattle.dnp_pointdb.specs.Plan as points
use Rattle.dnp_concentrator.specs.Below.{link_in, readings_set}
use Rattle.dnp_concentrator.specs.declared.book_outputs.BookOutputs.{BookOutputs}
use Rattle.dnp_concentrator.specs.declared.concentrator.Concentrator.{Concentrator}
use Rattle.dnp_concentrator.specs.declared.span.Spans.{Spans}
use Rattle.dnp_concentrator.specs.Mapped.{queued_rows}
use Rattle.dnp_concentrator.specs.Relaying.{Relaying}
use Rattle.dnp_concentrator.specs.BookOutputs.{IsWell, book_in, map_in, panel_beside, panel_of, with_book}
use Rattle.dnp_concentrator.specs.Reserving.{Reserved, reserved_beside}
use Rattle.dnp_concentrator.specs.PerCentre.{at}

-- the outstation towards a centre
abbrev pub core_of : {Q B : Type 0} → ℕ → Concentrator Q B → Core
core_of centre c = at centre c.cores

-- the queue, of a side for each centre
abbrev pub queue_of : {Q B : Type 0} → Concentrator Q B → Q
queue_of c = c.queue

-- the plan of the points above, whose classes say to which lanes events go
abbrev pub plan_above : {Q B : Type 0} → Concentrator Q B → points.Plan
plan_above c = c.points

-- its outputs, which perform a command by adding it to the book
abbrev pub outputs_of : {Q B : Type 0} → Concentrator Q B → BookOutputs B
outputs_of c = c.outputs

abbrev pub book_of : {Q B : Type 0} → Concentrator Q B → B
book_of c = book_in (outputs_of c)

abbrev pub indices_of : {Q B : Type 0} → Concentrator Q B → List Spans
indices_of c = map_in (outputs_of c)

-- the links to the substations, by their numbers
abbrev pub links_of : {Q B : Type 0} → Concentrator Q B → List Relaying
links_of c = c.links.items

abbrev pub link_at : {Q B : Type 0} → Concentrator Q B → ℕ → Relaying
link_at c substation = link_in (links_of c) substation

-- the readings that a centre is given
abbrev pub points_of : {Q B : Type 0} → ℕ → Concentrator Q B → Database
points_of centre c = (core_of centre c).points

abbrev pub with_queue : {Q B : Type 0} → Concentrator Q B → Q → Concentrator Q B
with_queue c queue = record c { queue = queue }

abbrev pub with_other_book : {Q B : Type 0} → Concentrator Q B → B → Concentrator Q B
with_other_book c book = record c { outputs = with_book c.outputs book }

-- the book is honest, and has not answered Device
abbrev pub IsBookWell : {Q B : Type 0} → (B → Type 0) → (B → Bool) → Concentrator Q B → Type 0
IsBookWell honest is_stopped c = IsWell honest is_stopped (outputs_of c)

-- the state of the outstation towards a centre, by what queue and book say of themselves
abbrev pub above_of : {Q B : Type 0} → (Q → ℕ → EventBuffer) → (B → Ledger) → ℕ → Concentrator Q B → State
above_of contents ledger centre c = state_of (core_of centre c) (contents (queue_of c) centre) (panel_of ledger (outputs_of c))

-- what the other centres' standing selects reserve
abbrev pub reserved_above : {Q B : Type 0} → ℕ → Concentrator Q B → ℕ → Reserved
reserved_above centre c = reserved_beside centre c.cores

-- the outputs that a centre sees at this moment: the points of the other centres' standing selects are reserved
abbrev pub panel_above : {Q B : Type 0} → (B → Ledger) → ℕ → ℕ → Concentrator Q B → Panel
panel_above ledger centre now c = panel_beside ledger (reserved_above centre c now) (outputs_of c)

-- ---- what comes on a link below

-- what the link's master makes of octets that come, or why it refuses them
abbrev pub taking_at : {Q B : Type 0} → Concentrator Q B → ℕ → ℕ → List ℕ → Result Taking MasterFault
taking_at c substation now octets = receive_of (link_at c substation).master now octets

-- the substation's events as they are queued above
abbrev pub queued_at : {Q B : Type 0} → Concentrator Q B → ℕ → List Row → List LaneRow
queued_at c substation events = queued_rows (indices_of c) (plan_above c) substation events

-- the outstation towards a centre with the readings that the substation's rows set: events first, and then present values
abbrev pub with_readings : {Q B : Type 0} → ℕ → Concentrator Q B → ℕ → List Row → List Row → Core
with_readings centre c substation events statics =
    with_points (core_of centre c)
    (readings_set (indices_of c) substation (readings_set (indices_of c) substation (points_of centre c) events) statics)

-- ---- what a call leaves

-- of this link it makes that one, and no other changes
abbrev pub SetsLink : {Q B : Type 0} → Concentrator Q B → ℕ → Relaying → Concentrator Q B → Type 0
SetsLink old substation r new = links_of new ≡ slice_set (links_of old) substation r

-- what a step of relaying over a link leaves, whatever the book is: no other link changes, and nothing above
pub record KeepsOthers {Q B : Type 0} (old : Concentrator Q B) (substation : ℕ) (new : Concentrator Q B) : Type 0 where
  pub links : SetsLink old substation (link_at new substation) new
  pub cores : ForEach (λ centre. core_of centre new ≡ core_of centre old)
  pub plan : plan_above new ≡ plan_above old
  pub queue : queue_of new ≡ queue_of old
  pub indices : indices_of new ≡ indices_of old

-- queue, book and index map are as they were, and so is the plan of the points above
pub record KeepsStores {Q B : Type 0} (old new : Concentrator Q B) : Type 0 where
  pub queue : queue_of new ≡ queue_of old
  pub outputs : outputs_of new ≡ outputs_of old
  pub plan : plan_above new ≡ plan_above old

-- what a call leaves of a centre's side of the queue, and of the other side, which stays as it is
abbrev pub KeepsSide : {Queue Answer Fault : Type 0} → (Queue → Type 0) → (Queue → Bool) → (Queue → ℕ → EventBuffer) → ℕ → Fault
    → Queue → Queue → Result Answer Fault → Type 0
KeepsSide honest is_stopped contents centre device old new answer =
    KeepsLanes honest is_stopped (λ q. contents q centre) (beside_of contents centre) (λ _. tt {0}) device old new answer

-- what a call leaves of a side that it only looks at, and of the other
abbrev pub LooksAt : {Queue Answer : Type 0} → (Queue → Type 0) → (Queue → Bool) → (Queue → ℕ → EventBuffer) → Bool → (StoreFault → Bool) → ℕ
    → Queue → Queue → Result Answer StoreFault → Type 0
LooksAt honest is_stopped contents asks_memory may_fault centre old new answer =
    IsLook honest is_stopped (λ q. contents q centre) (beside_of contents centre) (λ _. tt {0}) asks_memory may_fault old new answer

-- What a call leaves that does no more above than look at a centre's side of the queue: nothing but the outstation towards
-- that centre has changed, nor that where the call is refused, and it is refused only where unsolicited responses are on.
pub record LeavesAbove {Q B Answer : Type 0} (honest : Q → Type 0) (is_stopped : Q → Bool) (contents : Q → ℕ → EventBuffer)
    (asks_memory : Bool) (may_fault : StoreFault → Bool) (centre : ℕ) (old new : Concentrator Q B) (answer : Result Answer StoreFault) : Type 0 where
  pub look : LooksAt honest is_stopped contents asks_memory may_fault centre (queue_of old) (queue_of new) answer
  pub unchanged : OnErr answer (core_of centre new ≡ core_of centre old)
  pub other : core_of (other_than centre) new ≡ core_of (other_than centre) old
  pub asks : IsErr answer → (core_of centre old).times.unsolicited ≡ true
  pub outputs : outputs_of new ≡ outputs_of old
  pub links : links_of new ≡ links_of old
  pub plan : plan_above new ≡ plan_above old

-- an outstation above where a substation can't be reached any more
abbrev pub without_link : Core → ℕ → Core
without_link core substation = with_points core (lost_of core.points substation)

-- What a call of at most one append to both sides leaves of the queue, by the queue before and after it and the call's answer.
pub record LeavesQueue {Queue Answer : Type 0} (honest : Queue → Type 0) (is_stopped : Queue → Bool) (contents : Queue → ℕ → EventBuffer)
    (old new : Queue) (answer : Result Answer MasterFault) : Type 0 where
  -- an honest queue was honest before
  pub held : honest new → honest old
  -- a refusal changes nothing, on neither side
  pub unchanged : honest new → IfErr answer (λ _. AreSame contents old new)
  -- Device stops it, and nothing else does
  pub device_stops : answer ≡ Err Device → IsTrue (is_stopped new)
  pub runs_on : answer ≢ Err Device → is_stopped new ≡ is_stopped old
