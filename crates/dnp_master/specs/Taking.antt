-- Definition: what a fragment that came makes of a master, worked out before anything changes (IEEE Std 1815-2012,
-- application layer: the master's side of a transaction).
use Rattle.std.specs.Prelude.{◌≡◌, ◌≢◌, ◌≤◌, true, List, take, drop, All, vec_len, ◌<◌, ◌⊎◌, Result, Ok, Err, IfOk, IfErr}
use Rattle.std.specs.Result.{IsOkAnd}
use Rattle.dnp_objects.specs.Events.{IsEvent}
use Rattle.dnp_objects.specs.declared.row.Row.{Row}
use Rattle.dnp_master.specs.declared.gathering.Gathered.{Gathered}
use Rattle.dnp_master.specs.declared.taking.Next.{Next}
use Rattle.dnp_master.specs.declared.taking.SeenFragment.{SeenFragment}
use Rattle.dnp_master.specs.declared.fault.MasterFault.{MasterFault}
use Rattle.dnp_master.specs.declared.fault.MasterFault.TheVariants.{Memory, Device}
use Rattle.dnp_master.specs.Calls.{Taking, has_rows}
use Rattle.dnp_master.specs.State.{State}

-- the master with what changes of it
abbrev pub with_next : State → Next → State
with_next s next = record s { seq = next.seq; request = next.request; selected = next.selected }

abbrev pub events_of : Gathered → List Row
events_of g = take g.events g.rows.items

abbrev pub statics_of : Gathered → List Row
statics_of g = drop g.events g.rows.items

-- the rows that were found in a fragment
abbrev pub events_taken : SeenFragment → List Row
events_taken t = events_of t.gathered

abbrev pub statics_taken : SeenFragment → List Row
statics_taken t = statics_of t.gathered

-- what was worked out, for this master
abbrev pub taking_of : State → SeenFragment → Taking
taking_of s t = record {
  state = with_next s t.next;
  events = events_taken t;
  statics = statics_taken t;
  confirm = t.send;
  outcome = t.next.outcome;
  restart = t.restart;
}

-- what is so of it
pub record IsFit (t : SeenFragment) : Type 0 where
  pub seq : t.next.seq < 16
  pub within : t.gathered.events ≤ vec_len t.gathered.rows
  pub carried : All IsEvent (events_taken t)

-- what was found is what is wanted, or the rows found no memory
pub record WorksOut (s : State) (wanted : Result Taking MasterFault) (answer : Result SeenFragment MasterFault) : Type 0 where
  pub taken : IfOk answer (λ t. wanted ≡ Ok (taking_of s t))
  pub fit : IfOk answer IsFit
  pub refused : IfErr answer (λ e. (wanted ≡ Err e) ⊎ ((e ≡ Memory) × IsOkAnd wanted (λ t. has_rows t ≡ true)))
  -- no sink was asked
  pub own : IfErr answer (λ e. e ≢ Device)
