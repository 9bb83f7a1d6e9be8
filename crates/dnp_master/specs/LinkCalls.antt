-- Definition: what the law of a link sees of a master's calls, by octets alone (IEEE Std 1815-2012,
-- application layer: control octet, responses, confirmation).
use Rattle.std.specs.Prelude.{◌≡◌, ℕ, true, false, not, List, [], None, is_some, slice_index_or}
use Rattle.dnp_objects.specs.declared.row.Row.{Row}
use Rattle.dnp_appfragment.specs.Control.{ControlBits}
use Rattle.dnp_appfragment.specs.EventRows.{answered_events}
use Rattle.dnp_appfragment.specs.Fragments.{request_octets}
use Rattle.dnp_appfragment.specs.Meaning.{control_of, response_at}
use Rattle.dnp_master.specs.declared.task.Task.{Task}
use Rattle.dnp_master.specs.Calls.{Taking, confirm_for}
use Rattle.dnp_master.specs.Requests.{request_for}
use Rattle.dnp_master.specs.State.{State, after}

-- the control octet is the first one; no fragment is without one
abbrev pub control_in : List ℕ → ControlBits
control_in octets = control_of (slice_index_or octets 0 0)

-- the events of the response that the octets are, in order; octets that are no response have none
abbrev pub events_at : List ℕ → List Row
events_at octets = answered_events (response_at octets)

-- ---- receiving

-- nothing happens
pub record PassesOver (s : State) (t : Taking) : Type 0 where
  pub state : t.state ≡ s
  pub events : t.events ≡ []
  pub statics : t.statics ≡ []
  pub confirm : t.confirm ≡ None

-- an open, busy master takes a response with the number that it awaits, all of its events, and confirms it where CON
-- asks for that; it awaits the number that follows, or is idle after FIN
pub record TakesResponse (s : State) (octets : List ℕ) (t : Taking) : Type 0 where
  pub was_open : s.is_open ≡ true
  pub busy : is_some s.request ≡ true
  pub uns : (control_in octets).uns ≡ false
  pub seq : (control_in octets).seq ≡ s.seq
  pub events : t.events ≡ events_at octets
  pub confirm : t.confirm ≡ confirm_for (control_in octets)
  pub stays_open : t.state.is_open ≡ true
  pub follows : t.state.seq ≡ after s.seq
  pub busy_after : is_some t.state.request ≡ not (control_in octets).fin

-- an open master takes a response that nobody asked for, and stays as it is
pub record TakesReport (s : State) (octets : List ℕ) (t : Taking) : Type 0 where
  pub was_open : s.is_open ≡ true
  pub uns : (control_in octets).uns ≡ true
  pub events : t.events ≡ events_at octets
  pub confirm : t.confirm ≡ confirm_for (control_in octets)
  pub state : t.state ≡ s

-- ---- asking

-- an open, idle master asks with its number, and is busy
pub record Asks (s : State) (task : Task) (octets : List ℕ) (new : State) : Type 0 where
  pub was_open : s.is_open ≡ true
  pub idle : s.request ≡ None
  pub octets_are : octets ≡ request_octets (request_for s.seq task)
  pub stays_open : new.is_open ≡ true
  pub seq : new.seq ≡ s.seq
  pub busy : is_some new.request ≡ true
