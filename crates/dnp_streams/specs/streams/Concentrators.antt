-- Definition: a concentrator's stations as a stream sees them: the link to one substation, and the outstation towards a centre.
use Rattle.std.specs.Prelude.{◌≡◌, ℕ, ◌<◌, ◌≤◌, nat_lt, if◌then◌else◌, List, Ok, Option, length, slice_set}
use Rattle.dnp_controls.specs.Book.{Ledger}
use Rattle.dnp_eventbuf.specs.Sides.{either_exhausts, other_than}
use Rattle.dnp_eventbuf.specs.EventBuffer.{EventBuffer, with_rows}
use Rattle.dnp_master.specs.Calls.{Taking, receive_of}
use Rattle.dnp_objects.specs.declared.command.Command.{Command}
use Rattle.dnp_outstation.specs.Calls.{opened_of, connection_after, performed_in}
use Rattle.dnp_outstation.specs.Connection.{closed}
use Rattle.dnp_outstation.specs.State.{Actions, Core, State}
use Rattle.dnp_outstation.specs.Station.{with_points}
use Rattle.dnp_controls.specs.Panel.{Panel}
use Rattle.dnp_pointdb.specs.Plan as points
use Rattle.dnp_concentrator.specs.Below.{link_in, readings_set}
use Rattle.dnp_concentrator.specs.BookOutputs.{all_added, book_panel}
use Rattle.dnp_concentrator.specs.Concentrator.{above_of, book_of, core_of, indices_of, links_of, plan_above, queue_of, without_link}
use Rattle.dnp_concentrator.specs.Mapped.{queued_rows}
use Rattle.dnp_concentrator.specs.Relaying.{Relaying, hung_up, opened, received}
use Rattle.dnp_concentrator.specs.Reserving.{reserved_by}
use Rattle.dnp_concentrator.specs.PerCentre.{at}
use Rattle.dnp_concentrator.specs.declared.concentrator.Concentrator.{Concentrator}
use Rattle.dnp_concentrator.specs.declared.span.Spans.{Spans}
use Rattle.dnp_concentrator.specs.declared.per_centre.PerCentre.{PerCentre}
use Rattle.dnp_streams.specs.declared.stream.station.StationFault.{StationFault}
use Rattle.dnp_streams.specs.streams.Masters.{RefusesRows, nothing_answered, answer_taking}
use Rattle.dnp_streams.specs.streams.Outstations.{RefusesFragment, RefusesOpening, Seen, answer_by}
use Rattle.dnp_streams.specs.streams.Stations.{Answer, Opening, Receiving}

-- the same made of each of two things
abbrev pub both : {Thing Other : Type 0} → (Thing → Other) → PerCentre Thing → PerCentre Other
both make two = record { first = make two.first; second = make two.second }

-- ---- the link to one substation

-- the substation's number; the links, the outstations towards the centres, the index map, the plan of the points above, what the queue
-- holds for each centre, and what the book of controls does
pub record BelowSeen : Type 0 where
  pub substation : ℕ
  pub links : List Relaying
  pub cores : PerCentre Core
  pub indices : List Spans
  pub points : points.Plan
  pub queues : PerCentre EventBuffer
  pub controls : Ledger

abbrev pub below_seen : {Q B : Type 0} → (Q → ℕ → EventBuffer) → (B → Ledger) → Concentrator Q B → ℕ → BelowSeen
below_seen contents ledger c substation = record {
  substation = substation;
  links = links_of c;
  cores = record { first = core_of 0 c; second = core_of 1 c };
  indices = indices_of c;
  points = plan_above c;
  queues = record { first = contents (queue_of c) 0; second = contents (queue_of c) 1 };
  controls = ledger (book_of c);
}

-- the substation's link becomes this one
abbrev pub with_link : BelowSeen → (Relaying → Relaying) → List Relaying
with_link s change = slice_set s.links s.substation (change (link_in s.links s.substation))

-- what a station becomes, which stays as it is where there is no such substation
abbrev pub where_there : BelowSeen → BelowSeen → BelowSeen
where_there s changed = if nat_lt s.substation (length s.links) then changed else s

-- an opening
pub record OpensBelow (old : BelowSeen) (now : ℕ) (answer : Answer) (new : BelowSeen) : Type 0 where
  pub answered : answer ≡ nothing_answered
  pub after : new ≡ where_there old (record old { links = with_link old opened })

-- the readings that a centre is given, set by events and then by present values
abbrev pub with_readings : BelowSeen → Taking → Core → Core
with_readings s taking core =
    with_points core (readings_set s.indices s.substation (readings_set s.indices s.substation core.points taking.events) taking.statics)

-- A fragment that came: its events are queued for both centres, and the readings of both are set by these and by its present values.
-- Where there is no such substation, nothing happens.
pub data BelowReceives (old : BelowSeen) (now : ℕ) (octets : List ℕ) (answer : Answer) (new : BelowSeen) : Type 0 where
  Taken : old.substation < length old.links
      → (taking : Taking) → receive_of (link_in old.links old.substation).master now octets ≡ Ok taking → answer ≡ answer_taking taking
      → new ≡ record old {
        links = with_link old (λ link. received link taking);
        cores = both (with_readings old taking) old.cores;
        queues = both (λ queue. with_rows queue (queued_rows old.indices old.points old.substation taking.events)) old.queues;
      }
      → BelowReceives old now octets answer new
  Missing : length old.links ≤ old.substation → answer ≡ nothing_answered → new ≡ old → BelowReceives old now octets answer new

-- an opening is never refused
abbrev pub below_opens : Opening BelowSeen
below_opens = record { answers = OpensBelow; refuses = λ old now fault. ⊥ }

-- a fragment is, by the master or by the queue, where there is such a substation
pub record BelowRefuses (old : BelowSeen) (now : ℕ) (octets : List ℕ) (fault : StationFault) : Type 0 where
  pub there : old.substation < length old.links
  pub by_rows : RefusesRows (receive_of (link_in old.links old.substation).master now octets)
      (λ t. either_exhausts (λ centre. at centre old.queues) (queued_rows old.indices old.points old.substation t.events)) fault

abbrev pub below_receives : Receiving BelowSeen
below_receives = record { answers = BelowReceives; refuses = BelowRefuses }

-- a hang-up, after which the readings above are marked lost
abbrev pub below_hung_up : BelowSeen → BelowSeen
below_hung_up s =
    where_there s (record s { links = with_link s hung_up; cores = both (λ core. without_link core s.substation) s.cores })

-- ---- the outstation towards a centre

-- its state with its side of the queue, the index map, what the book of controls does, and the command that the other centre's standing
-- select names, moment by moment
pub record AboveSeen : Type 0 where
  pub whole : State
  pub indices : List Spans
  pub controls : Ledger
  pub reserved : ℕ → Option Command

abbrev pub above_seen : {Q B : Type 0} → (Q → ℕ → EventBuffer) → (B → Ledger) → Concentrator Q B → ℕ → AboveSeen
above_seen contents ledger c centre = record {
  whole = above_of contents ledger centre c;
  indices = indices_of c;
  controls = ledger (book_of c);
  reserved = reserved_by (core_of (other_than centre) c);
}

-- what its outputs answer and show at this moment
abbrev pub panel_at : AboveSeen → ℕ → Panel
panel_at s now = book_panel s.indices (s.reserved now) s.controls

-- an opening (IEEE Std 1815-2012, application layer)
pub record OpensAbove (old : AboveSeen) (now : ℕ) (answer : Answer) (new : AboveSeen) : Type 0 where
  pub does : Actions
  pub step : opened_of old.whole now ≡ record { state = new.whole; does = does }
  pub answered : answer ≡ answer_by does
  pub after : new ≡ record old { whole = new.whole }

-- a fragment that came: the commands that it performs are added to the book (IEEE Std 1815-2012, application layer)
pub record AboveReceives (old : AboveSeen) (now : ℕ) (octets : List ℕ) (answer : Answer) (new : AboveSeen) : Type 0 where
  pub does : Actions
  pub step : connection_after old.whole (panel_at old now) now octets ≡ record { state = new.whole; does = does }
  pub answered : answer ≡ answer_by does
  pub after : new ≡ record old {
    whole = new.whole;
    controls = all_added old.indices old.controls (performed_in old.whole.core (panel_at old now) now octets);
  }

-- it is refused as an outstation's is whose outputs answer and show what these do at this moment
abbrev pub seen_at : AboveSeen → ℕ → Seen
seen_at s now = record { whole = s.whole; panel = panel_at s now }

abbrev pub above_opens : Opening AboveSeen
above_opens = record { answers = OpensAbove; refuses = λ old now fault. RefusesOpening (seen_at old now) now fault }

abbrev pub above_receives : Receiving AboveSeen
above_receives = record { answers = AboveReceives; refuses = λ old now octets fault. RefusesFragment (seen_at old now) now octets fault }

-- a hang-up
abbrev pub above_hung_up : AboveSeen → AboveSeen
above_hung_up s = record s { whole = record s.whole { core = closed s.whole.core } }
