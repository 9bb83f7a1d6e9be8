-- What a master that asked a READ of classes 1, 2 and 3 makes of what is offered.
use Rattle.std.proofs.Common.{◌≡◌, Bool, true, false, not, ◌==◌, if◌then◌else◌, refl, sym, ap, ◌∙◌, subst, ℕ, ◌≤◌, List, [], ◌∷◌, length, None, Some, is_none, is_some, Result, Ok, Err, eq-eqb, arith}
use Rattle.std.specs.List.{All, list_all}
use Rattle.std.proofs.lemmas.Bool.{and_parts}
use Rattle.std.proofs.lemmas.List.Sums.{list_all-from_AllPass}
use Rattle.dnp_appfragment.specs.Control.{ControlBits}
use Rattle.dnp_appfragment.specs.EventRows.{events_in}
use Rattle.dnp_appfragment.specs.Fragments.{Answered}
use Rattle.dnp_appfragment.specs.Meaning.{response_at}
use Rattle.dnp_appfragment.specs.declared.function.Function.{Function}
use Rattle.dnp_appfragment.specs.declared.function.Function.TheVariants as function
use Rattle.dnp_eventbuf.specs.Sound.{IsSoundBuffer}
use Rattle.dnp_eventbuf.specs.EventBuffer.{EventBuffer}
use Rattle.dnp_master.specs.Calls.{Taking, ask_answer, asked, asked_by, asking, ended, going_on, heard, receive_of, unheeded}
use Rattle.dnp_master.specs.Rows.{is_from_plan, is_reported}
use Rattle.dnp_master.specs.State.{State, deadline, is_idle}
use Rattle.dnp_master.specs.declared.fault.AskFault.{AskFault}
use Rattle.dnp_master.specs.declared.fault.AskFault.TheVariants.{Busy, Closed}
use Rattle.dnp_master.specs.declared.outcome.Echo.TheVariants.{Nothing}
use Rattle.dnp_master.specs.declared.request.OpenRequest.{OpenRequest}
use Rattle.dnp_objects.specs.declared.row.Row.{Row}
use Rattle.dnp_outstation.specs.Forms.{may_each}
use Rattle.dnp_outstation.specs.Items.{enabled_lanes, lane_items}
use Rattle.dnp_outstation.specs.Layout.{headers_of}
use Rattle.dnp_outstation.specs.Offer.{held_laid}
use Rattle.dnp_outstation.specs.Polled.{Offers, confirm_octets, poll_octets, polled_held, polled_rows, reported}
use Rattle.dnp_outstation.specs.State as outstation
use Rattle.dnp_pointdb.specs.Plan.{Plan}
use Rattle.dnp_world.specs.Polled.{Takes}
use Rattle.dnp_world.specs.Rounds.{events_polled}
use Rattle.dnp_world.proofs.MasterAsks.{not_busy}

-- what the crate of outstations promises of a fragment of some classes
abbrev pub SaidLaw : Type 0
SaidLaw = (s : EventBuffer) (enabled : List Bool) → IsSoundBuffer s → length enabled ≤ 3
    → events_in (headers_of (held_laid may_each (lane_items s (enabled_lanes 0 enabled)))) ≡ (reported s enabled).rows

-- ---- asking

pub asks_polled : (m : State) → is_idle m ≡ true → ask_answer m events_polled ≡ Ok (poll_octets m.seq)
asks_polled m idle =
    let both = and_parts m.is_open (is_none m.request) idle in
    let answer : Result (List ℕ) AskFault = Ok (poll_octets m.seq) in
    ap (λ (b : Bool). if not b then Err Closed else (if is_some m.request then Err Busy else answer)) both.0
    ∙ ap (λ (b : Bool). if b then Err Busy else answer) (not_busy m.request both.1)

pub polled_by : (m : State) (now : ℕ) → is_idle m ≡ true → asked m now events_polled ≡ asking m now events_polled
polled_by m now idle = ap (asked_by m now events_polled) (asks_polled m idle)

-- ---- the rows of the fragment

rows_are : SaidLaw → (s : EventBuffer) → IsSoundBuffer s → events_in (headers_of (polled_held s)) ≡ polled_rows s
rows_are law s sound = law s (true ∷ true ∷ true ∷ []) sound (omega arith)

pub from_plan : (plan : Plan) (answered : Answered) (rows : List Row) → events_in answered.headers ≡ rows
    → All (λ row. is_reported plan row ≡ true) rows → is_from_plan plan answered.headers ≡ true
from_plan plan answered rows is all = ap (list_all (is_reported plan)) is ∙ list_all-from_AllPass (is_reported plan) rows all

-- ---- taking

abbrev request_at : State → ℕ → OpenRequest
request_at m before = record { task = events_polled; has_begun = false; echo = Nothing; ends = deadline before m.times.response_ms }

abbrev control_with : Bool → Bool → ℕ → ControlBits
control_with fin con seq = record { fir = true; fin = fin; con = con; uns = false; seq = seq }

module _ (m : State) (before now : ℕ) (opens : m.is_open ≡ true) (fragment : List ℕ) (answered : Answered) (fin con : Bool) (rows : List Row)
    (read : response_at fragment ≡ Ok answered) (control : answered.control ≡ control_with fin con m.seq) (function_is : answered.function ≡ function.Response)
    (events : events_in answered.headers ≡ rows) (planned : All (λ row. is_reported m.plan row ≡ true) rows) where
  abbrev with_parts : ControlBits → Function → Answered
  with_parts k f = record { control = k; function = f; iin = answered.iin; headers = answered.headers }

  abbrev response : Answered
  response = with_parts (control_with fin con m.seq) function.Response

  same : answered ≡ response
  same = ap (λ (k : ControlBits). with_parts k answered.function) control ∙ ap (with_parts (control_with fin con m.seq)) function_is

  abbrev taken : Taking
  taken =
      if fin then ended (asking m before events_polled) (request_at m before) response
      else going_on (asking m before events_polled) now (request_at m before) response

  -- it has the number that is awaited, and its rows are of the plan
  awaited : heard (asking m before events_polled) now (Ok response) ≡ Ok taken
  awaited =
      let next : (m.seq == m.seq) ≡ true = eq-eqb m.seq m.seq refl in
      let of_plan : is_from_plan m.plan answered.headers ≡ true = from_plan m.plan answered rows events planned in
      rw (next, of_plan) refl

  taken_is : receive_of (asking m before events_polled) now fragment ≡ Ok taken
  unfolding receive_of
  taken_is =
      let asked_once : State = asking m before events_polled in
      ap (λ (b : Bool). if b then heard asked_once now (response_at fragment) else Ok (unheeded asked_once)) opens
      ∙ ap (heard asked_once now) read
      ∙ ap (λ (a : Answered). heard asked_once now (Ok a)) same
      ∙ awaited

  pub takes : Takes m.seq rows con (receive_of (asking m before events_polled) now fragment)
  takes = record {
    taken = taken;
    is = taken_is;
    events = by fin ∙ events;
    confirm = confirm_by fin;
  }
    where
      by : (b : Bool)
          → (if b then ended (asking m before events_polled) (request_at m before) response
          else going_on (asking m before events_polled) now (request_at m before) response).events ≡ events_in answered.headers
      by true = refl
      by false = refl

      confirm_by : (b : Bool)
          → (if b then ended (asking m before events_polled) (request_at m before) response
          else going_on (asking m before events_polled) now (request_at m before) response).confirm ≡ (if con then Some (confirm_octets m.seq) else None)
      confirm_by true = refl
      confirm_by false = refl

pub takes_polled : SaidLaw → (m : State) (before now : ℕ) (s : outstation.State) (step : outstation.Step) → is_idle m ≡ true → IsSoundBuffer s.lanes
    → (offer : Offers m.seq s step) → All (λ row. is_reported m.plan row ≡ true) (polled_rows s.lanes)
    → Takes m.seq (polled_rows s.lanes) offer.con (receive_of (asked m before events_polled) now offer.fragment)
takes_polled law m before now s step idle sound offer planned =
    let opens = (and_parts m.is_open (is_none m.request) idle).0 in
    subst (λ (a : State). Takes m.seq (polled_rows s.lanes) offer.con (receive_of a now offer.fragment)) (sym (polled_by m before idle))
    (takes m before now opens offer.fragment offer.answered _ offer.con (polled_rows s.lanes) offer.read offer.control offer.function
    (ap events_in offer.headers ∙ rows_are law s.lanes sound) planned)
