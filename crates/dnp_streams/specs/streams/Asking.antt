-- Definition: what masters ask and relay on streams.
use Rattle.std.specs.Prelude.{◌≡◌, ◌≢◌, ℕ, ◌<◌, ◌≤◌, ◌&&◌, nat_lt, Bool, true, List, length, Ok, Err}
use Rattle.dnp_controls.specs.declared.book.BookFault.{BookFault}
use Rattle.dnp_controls.specs.declared.book.BookFault.TheVariants.{Exhausted}
use Rattle.dnp_concentrator.specs.Below.{link_in}
use Rattle.dnp_concentrator.specs.Relayed.{IfSent, IsSpentBy, Tells, asks_book}
use Rattle.dnp_concentrator.specs.Relaying.{Relaying, Step as RelayStep, asking, ledger_after, relaying_after, step_of}
use Rattle.dnp_concentrator.specs.declared.relayed.Relayed.{Relayed}
use Rattle.dnp_concentrator.specs.declared.relayed.Relayed.TheVariants.{Nothing}
use Rattle.dnp_master.specs.Calls.{ask_answer}
use Rattle.dnp_master.specs.State.{is_idle}
use Rattle.dnp_master.specs.declared.fault.AskFault.{AskFault}
use Rattle.dnp_master.specs.declared.fault.AskFault.TheVariants.{Closed}
use Rattle.dnp_master.specs.declared.task.Task.{Task}
use Rattle.dnp_streams.specs.streams.Centres.{CentreSeen}
use Rattle.dnp_streams.specs.streams.Concentrators.{BelowSeen, with_link}
use Rattle.dnp_streams.specs.streams.Dialogues.{Asking}

-- a step of relaying is refused by the book alone, where the step asks it, and never because it is out of numbers
abbrev pub IsRefusedByBook : Relaying → BookFault → Type 0
IsRefusedByBook link fault = (asks_book link ≡ true) × (fault ≢ Exhausted)

-- ---- the link to one substation

-- a task is asked, where there is such a substation
pub record AsksBelow (old : BelowSeen) (now : ℕ) (task : Task) (request : List ℕ) (new : BelowSeen) : Type 0 where
  pub there : old.substation < length old.links
  pub asked : ask_answer (link_in old.links old.substation).master task ≡ Ok request
  pub after : new ≡ record old { links = with_link old (λ link. asking link now task) }

-- it is refused: for the master's own reason, or because there is no such substation
pub data RefusesBelow (old : BelowSeen) (task : Task) (fault : AskFault) : Type 0 where
  Declined : old.substation < length old.links → ask_answer (link_in old.links old.substation).master task ≡ Err fault → RefusesBelow old task fault
  Missing : length old.links ≤ old.substation → fault ≡ Closed → RefusesBelow old task fault

-- the step of relaying by the concentrator's book
abbrev pub step_below : BelowSeen → RelayStep
step_below s = step_of (link_in s.links s.substation) s.controls.entries s.substation

-- The book becomes what the step makes of it: a control whose OPERATE is sent was pending there, and is spent by this very call. Where
-- there is no such substation, nothing happens.
pub data RelaysBelow (old : BelowSeen) (now : ℕ) (relayed : Relayed) (new : BelowSeen) : Type 0 where
  Stepped : old.substation < length old.links → Tells (link_in old.links old.substation).master.seq (step_below old) relayed
      → new ≡ record old {
        links = with_link old (λ link. relaying_after link now (step_below old));
        controls = ledger_after old.controls (step_below old);
      }
      → IfSent relayed (IsSpentBy old.controls new.controls)
      → RelaysBelow old now relayed new
  Absent : length old.links ≤ old.substation → relayed ≡ Nothing → new ≡ old → RelaysBelow old now relayed new

-- the step is refused, where there is such a substation
pub record RefusesRelayBelow (old : BelowSeen) (fault : BookFault) : Type 0 where
  pub there : old.substation < length old.links
  pub by_book : IsRefusedByBook (link_in old.links old.substation) fault

-- it is open and awaits no response; a substation that is not there never is
abbrev pub is_below_idle : BelowSeen → Bool
is_below_idle s = nat_lt s.substation (length s.links) && is_idle (link_in s.links s.substation).master

abbrev pub below_asking : Asking BelowSeen
below_asking = record { asks = AsksBelow; refuses = RefusesBelow; relays = RelaysBelow; refuses_relay = RefusesRelayBelow; is_idle = is_below_idle }

-- ---- a centre

-- a task is asked
pub record CentreAsks (old : CentreSeen) (now : ℕ) (task : Task) (request : List ℕ) (new : CentreSeen) : Type 0 where
  pub asked : ask_answer old.link.master task ≡ Ok request
  pub after : new ≡ record old { link = asking old.link now task }

-- it is refused
abbrev pub CentreRefuses : CentreSeen → Task → AskFault → Type 0
CentreRefuses old task fault = ask_answer old.link.master task ≡ Err fault

-- the step of relaying by the centre's book, whose one target is the station below
abbrev pub centre_step : CentreSeen → RelayStep
centre_step s = step_of s.link s.controls.entries 0

-- the book becomes what the step makes of it: a control whose OPERATE is sent was pending there, and is spent by this very call
pub record CentreRelays (old : CentreSeen) (now : ℕ) (relayed : Relayed) (new : CentreSeen) : Type 0 where
  pub told : Tells old.link.master.seq (centre_step old) relayed
  pub after : new ≡ record old { link = relaying_after old.link now (centre_step old); controls = ledger_after old.controls (centre_step old) }
  pub spent : IfSent relayed (IsSpentBy old.controls new.controls)

-- the step is refused
abbrev pub CentreRefusesRelay : CentreSeen → BookFault → Type 0
CentreRefusesRelay old fault = IsRefusedByBook old.link fault

abbrev pub is_centre_idle : CentreSeen → Bool
is_centre_idle s = is_idle s.link.master

abbrev pub centre_asking : Asking CentreSeen
centre_asking = record { asks = CentreAsks; refuses = CentreRefuses; relays = CentreRelays; refuses_relay = CentreRefusesRelay; is_idle = is_centre_idle }
