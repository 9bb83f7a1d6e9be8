-- Definition: what a script knows of the system that it runs on.
use Rattle.std.specs.Prelude.{◌≡◌, ℕ, zero, suc, Result, ⊤}
use Rattle.dnp_world.specs.declared.event.Event.{Event}
use Rattle.dnp_world.specs.declared.event.Link.{Link}
use Rattle.dnp_world.specs.declared.link_event.Way.{Way}
use Rattle.dnp_world.specs.declared.report.Report.{Report}
use Rattle.dnp_world.specs.declared.round_fault.RoundFault.{RoundFault}
use Rattle.dnp_world.specs.declared.round_fault.ControlFault.{ControlFault}
use Rattle.dnp_daemons.specs.declared.script.which.WhichCentre.{WhichCentre}

-- what the calls of a system do, and what they show
pub record Law (State : Type 0) : Type 1 where
  -- the event makes the second state of the first
  pub happens : State → Event → State → Type 0
  -- a store or a request for memory refused the event, and left this
  pub stops : State → Event → State → Type 0
  -- how many units stand on this way of this link
  pub units : State → Link → Way → ℕ
  -- a clean round on the link comes out so, and leaves this
  pub rounds : State → Link → Result ⊤ RoundFault → State → Type 0
  -- so does a clean control of one of the centres
  pub controls : State → WhichCentre → ℕ → Result ⊤ ControlFault → State → Type 0
  -- the report of this state
  pub shows : State → Report → Type 0

-- the event happens so many times
abbrev pub HappensTimes : {State : Type 0} → Law State → ℕ → Event → State → State → Type 0
HappensTimes law zero event old new = new ≡ old
HappensTimes {State} law (suc n) event old new = (before : State) × HappensTimes law n event old before × law.happens before event new
