-- Definition: what comes up the lines of a link to the master there, and what the master's station does with it (IEEE Std
-- 1815-2012: application layer, transport function and data link layer together).
use Rattle.std.specs.Prelude.{Vec, ◌≡◌, ◌⊎◌, ◌≤◌, ℕ, List, [], ◌∷◌, ◌++◌, length, Result, Ok, Err, IfOk, IfErr, OnErr, option_to_list}
use Rattle.dnp_concentrator.specs.PerCentre.{at, for_each, of_each}
use Rattle.dnp_concentrator.specs.declared.per_centre.PerCentre.{PerCentre}
use Rattle.dnp_eventbuf.specs.Sides.{ForEach}
use Rattle.dnp_objects.specs.declared.row.Row.{Row}
use Rattle.dnp_line.specs.Lines.{LineState, front_of}
use Rattle.dnp_line.specs.Ports.{PortState}
use Rattle.dnp_line.specs.Ways.{HearsIfAny}
use Rattle.dnp_master.specs.declared.actions.MasterActions.{MasterActions}
use Rattle.dnp_master.specs.declared.fault.MasterFault.{MasterFault}
use Rattle.dnp_master.specs.Calls.{Taking, actions_of, receive_of}
use Rattle.dnp_master.specs.Sinks.{IsSinkFault}
use Rattle.dnp_master.specs.State.{State}
use Rattle.dnp_world.specs.Channels.{ChannelState, GoDown}

-- at most so many rows for each centre
abbrev pub AreFew : ℕ → PerCentre (List Row) → Type 0
AreFew most rows = ForEach (λ centre. length (at centre rows) ≤ most)

-- A call of the station at the master's end with octets of which its master makes this, by the station before and after it
-- and its answer: it takes them, and its stores drop these rows for them, to the first centre and to the second. A refusal changes
-- nothing.
pub record TakesIn {Station : Type 0} (honest : Station → Type 0) (takes : Taking → Type 0) (drops : Taking → PerCentre (List Row)) (keeps stays : Type 0)
    (made : Result Taking MasterFault) (old new : Station) (answer : Result (MasterActions × List Row) MasterFault) : Type 0 where
  pub held : honest new → honest old
  pub taken : honest new → IfOk answer (λ a. IfOk made (λ t. (a.0 ≡ actions_of t (drops t).first) × (a.1 ≡ (drops t).second) × takes t))
  -- no more rows are dropped than come
  pub few : IfOk made (λ t. AreFew (length t.events) (drops t))
  pub kept : honest new → OnErr answer keeps
  -- what the master refuses for itself is refused, and no store is asked; and else what the stores refuse
  pub refused : IfErr made (λ fault. answer ≡ Err fault)
  pub unasked : honest new → IfErr made (λ _. stays)
  pub named : IfErr answer (λ fault. (made ≡ Err fault) ⊎ IsSinkFault fault)

-- the confirm of what is taken goes down; what the master refuses for itself is lost
abbrev pub TakesBy : Result Taking MasterFault → (Taking → Type 0) → Type 0 → ChannelState → ChannelState → Type 0
TakesBy (Ok t) takes same old new = GoDown (option_to_list t.confirm) old new × takes t
TakesBy (Err fault) takes same old new = (new ≡ old) × same

-- what the port gives, one fragment or none, is taken in
abbrev pub TakesGiven : List (List ℕ) → State → ℕ → (Taking → Type 0) → Type 0 → ChannelState → ChannelState → Type 0
TakesGiven [] master now takes same old new = (new ≡ old) × same
TakesGiven (fragment ∷ others) master now takes same old new = TakesBy (receive_of master now fragment) takes same old new

-- The front unit comes to the end of this master: it is heard at the port, and what it completes is taken in. The line is left so.
pub record ComesToMaster (left : LineState → LineState) (master : State) (now : ℕ) (takes : Taking → Type 0) (same : Type 0)
    (old new : ChannelState) : Type 0 where
  pub port : PortState
  pub given : List (List ℕ)
  pub heard : HearsIfAny (front_of old.up) old.master_port port [] given
  pub came : TakesGiven given master now takes same (record old { up = left old.up; master_port = port }) new

-- ---- rows that stores drop

abbrev pub none_dropped : PerCentre (List Row)
none_dropped = for_each (λ centre. [])

-- the rows that are listed for each centre
abbrev pub lists_in : {Memory : Type 0} → PerCentre (Vec Row Memory) → PerCentre (List Row)
lists_in lists = of_each (λ rows. rows.items) lists

-- they are put after the list for each centre
abbrev pub ListsDropped : PerCentre (List Row) → PerCentre (List Row) → PerCentre (List Row) → Type 0
ListsDropped dropped old new = ForEach (λ centre. at centre new ≡ at centre old ++ at centre dropped)
