-- Definition: what a READ of classes 1, 2 and 3 is answered with first, and what its confirm releases (IEEE Std 1815-2012,
-- application layer: event classes, READ, responses, confirms).
use Rattle.std.specs.Prelude.{◌≡◌, ℕ, Bool, true, false, ◌==◌, List, [], ◌∷◌, length, Some, Ok}
use Rattle.dnp_objects.specs.declared.row.Row.{Row}
use Rattle.dnp_appfragment.specs.Fragments.{Answered, Asked, confirmation, request_octets}
use Rattle.dnp_appfragment.specs.Headers.{Head, head_of}
use Rattle.dnp_appfragment.specs.Meaning.{response_at}
use Rattle.dnp_appfragment.specs.declared.function.Function.TheVariants as function
use Rattle.dnp_appfragment.specs.declared.header.Range.TheVariants as range
use Rattle.dnp_eventbuf.specs.EventBuffer.{EventBuffer, without}
use Rattle.dnp_outstation.specs.Forms.{may_each}
use Rattle.dnp_outstation.specs.Items.{Item, enabled_lanes, lane_items, no_ids}
use Rattle.dnp_outstation.specs.Laws.{lane_numbers}
use Rattle.dnp_outstation.specs.Layout.{Laid, headers_of}
use Rattle.dnp_outstation.specs.Offer.{held_laid, held_of, last_ids}
use Rattle.dnp_outstation.specs.Said.{events_in}
use Rattle.dnp_outstation.specs.State.{State, Step}
use Rattle.dnp_outstation.specs.declared.session.Awaited.{Awaited}

-- ---- what is polled

-- all objects of classes 1, 2 and 3: 60.2 to 60.4 with qualifier 06
abbrev pub polled_headers : List Head
polled_headers = head_of 60 2 range.All [] ∷ head_of 60 3 range.All [] ∷ head_of 60 4 range.All [] ∷ []

-- the READ of this number, in one fragment that asks for no confirm
abbrev pub poll_request : ℕ → Asked
poll_request seq = record {
  control = record { fir = true; fin = true; con = false; uns = false; seq = seq };
  function = function.Read;
  headers = polled_headers;
}

abbrev pub poll_octets : ℕ → List ℕ
poll_octets seq = request_octets (poll_request seq)

-- the octets of the confirm of a response of this number
abbrev pub confirm_octets : ℕ → List ℕ
confirm_octets seq = request_octets (confirmation seq false)

-- the rows of one fragment, and the last id in each lane among them, 0 where there is none
pub record Portion : Type 0 where
  pub rows : List Row
  pub ids : List ℕ

-- of these items as many as fit into one fragment
abbrev pub portion_of : List Item → Portion
portion_of items = record { rows = events_in (held_of may_each items); ids = last_ids (held_of may_each items) }

-- all rows of the lanes, one lane after another
abbrev pub polled_items : EventBuffer → List Item
polled_items lanes = lane_items lanes lane_numbers

abbrev pub polled : EventBuffer → Portion
polled lanes = portion_of (polled_items lanes)

-- what an unsolicited response has: those of the enabled classes
abbrev pub reported : EventBuffer → List Bool → Portion
reported lanes enabled = portion_of (lane_items lanes (enabled_lanes 0 enabled))

abbrev pub no_rows : Portion
no_rows = record { rows = []; ids = no_ids }

-- ---- the parts of a poll

abbrev pub polled_held : EventBuffer → List Laid
polled_held lanes = held_laid may_each (polled_items lanes)

abbrev pub polled_rows : EventBuffer → List Row
polled_rows lanes = (polled lanes).rows

abbrev pub polled_ids : EventBuffer → List ℕ
polled_ids lanes = (polled lanes).ids

-- they are all that the lanes hold
abbrev pub are_all_polled : EventBuffer → Bool
are_all_polled lanes = length (held_of may_each (polled_items lanes)) == length (polled_items lanes)

-- ---- what becomes of it

-- the confirm of the fragment with this number and these ids is awaited
pub record Awaits (seq : ℕ) (upto : List ℕ) (s : State) : Type 0 where
  pub wait : Awaited
  pub is : s.core.session.awaited ≡ Some wait
  pub seq_is : wait.seq ≡ seq
  pub upto_is : wait.upto ≡ upto

-- The READ of this number is answered with those rows in one fragment, the last one where they are all rows. Nothing has left
-- the lanes so far. Where there are rows the fragment's confirm is asked for and awaited.
pub record Offers (seq : ℕ) (old : State) (step : Step) : Type 0 where
  pub fragment : List ℕ
  pub con : Bool
  pub answered : Answered
  pub sent : step.does.send ≡ fragment ∷ []
  pub read : response_at fragment ≡ Ok answered
  pub control : answered.control ≡ record { fir = true; fin = are_all_polled old.lanes; con = con; uns = false; seq = seq }
  pub function : answered.function ≡ function.Response
  pub headers : answered.headers ≡ headers_of (polled_held old.lanes)
  pub discarded : step.does.discarded ≡ []
  pub lanes : step.state.lanes ≡ old.lanes
  pub performed : step.state.performed ≡ old.performed
  pub is_open : step.state.core.is_open ≡ true
  pub awaits : con ≡ true → Awaits seq (polled_ids old.lanes) step.state
  pub none : con ≡ false → polled_rows old.lanes ≡ []

-- That confirm takes just those rows out of the lanes, and nothing else is done.
pub record ReleasesPolled (old : State) (step : Step) : Type 0 where
  pub lanes : step.state.lanes ≡ without old.lanes (polled_ids old.lanes)
  pub discarded : step.does.discarded ≡ polled_rows old.lanes
  pub performed : step.state.performed ≡ old.performed
