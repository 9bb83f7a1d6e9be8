-- What calls one after another tell of a store that has answered Device, and what is told of their answer.
use Rattle.std.proofs.Common.{◌≡◌, ◌∙◌, ℕ, Bool, IsErrAnd, Result, Ok, Err, ap, inl}
use Rattle.dnp_concentrator.specs.declared.cause.Cause.{Cause}
use Rattle.dnp_concentrator.specs.declared.cause.Cause.TheVariants.{Device, Memory}
use Rattle.dnp_world.specs.Carriers.{TellsDeviceOver}
use Rattle.dnp_world.specs.Causes.{TellsDevice}
use Rattle.dnp_world.specs.declared.round_fault.ControlFault.{ControlFault}
use Rattle.dnp_world.specs.declared.round_fault.ControlFault.TheVariants.{Fault, Refused}
use Rattle.dnp_world.specs.declared.round_fault.RoundFault.TheVariants as round

-- ---- which answers say Device

-- what went through does not
pub no_fault : {A E : Type 0} (x : A) (fault : E) → Ok x ≡ Err fault → ⊥
no_fault x fault says = cc

pub memory_is_no_device : {A : Type 0} (s : Result A Cause) → IsErrAnd s (λ x. x ≡ Memory) → s ≡ Err Device → ⊥
memory_is_no_device (Ok x) told says = told
memory_is_no_device (Err x) told says = cc

pub one_fault : (cause : Cause) → Fault cause ≡ Fault Device → cause ≡ Device
one_fault cause same = cc

pub one_round_fault : (cause : Cause) → round.Fault cause ≡ round.Fault Device → cause ≡ Device
one_round_fault cause same = cc

pub refused_is_no_fault : {A : Type 0} (s : Result A ControlFault) (fault : ControlFault) (status : ℕ) → IsErrAnd s (λ x. x ≡ fault) → fault ≡ Refused status
    → s ≡ Err (Fault Device) → ⊥
refused_is_no_fault (Ok x) fault status handed told says = handed
refused_is_no_fault (Err x) fault status handed told says = cc

-- Where a fault is handed on under a name of its own, the one call says Device just where the other does.
says_as : {A B D E : Type 0} (name : D → E) (device : D) (r : Result A D) (s : Result B E) (fault : D)
    → ((x : D) → name x ≡ name device → x ≡ device) → r ≡ Err fault → IsErrAnd s (λ x. x ≡ name fault)
    → ((s ≡ Err (name device)) → (r ≡ Err device)) × ((r ≡ Err device) → (s ≡ Err (name device)))
says_as name device r (Ok x) fault one here handed = absurd handed
says_as name device r (Err x) fault one here handed = (
  λ says. let same : fault ≡ device = one fault (cc) in here ∙ ap Err same,
  λ says. let same : fault ≡ device = cc in let is : x ≡ name device = handed ∙ ap name same in ap Err is,
)

-- a fault is handed on, under this name
pub tells_as : {A B D E : Type 0} (name : D → E) (device : D) (before after : Bool) (r : Result A D) (s : Result B E) (fault : D)
    → ((x : D) → name x ≡ name device → x ≡ device) → r ≡ Err fault → IsErrAnd s (λ x. x ≡ name fault)
    → TellsDevice before after (r ≡ Err device) → TellsDevice before after (s ≡ Err (name device))
tells_as name device before after r s fault one here handed told =
    let says = says_as name device r s fault one here handed in
    record { stopped = λ its. told.stopped (says.0 its); runs_on = λ other. told.runs_on (λ its. other (says.1 its)) }

-- a call's cause is handed on
pub tells_on : {A B : Type 0} (before after : Bool) (r : Result A Cause) (s : Result B Cause) (cause : Cause) → r ≡ Err cause → IsErrAnd s (λ x. x ≡ cause)
    → TellsDevice before after (r ≡ Err Device) → TellsDevice before after (s ≡ Err Device)
tells_on before after r s cause here handed told = tells_as (λ x. x) Device before after r s cause (λ x same. same) here handed told

-- a call, where all ran on before it
pub tells_since : {Says : Type 0} (before middle after : Bool) → middle ≡ before → TellsDevice middle after Says → TellsDevice before after Says
tells_since before middle after ran told = record { stopped = told.stopped; runs_on = λ other. told.runs_on other ∙ ran }

-- a call that went through, and one after it
pub tells_after : {A E : Type 0} {Says : Type 0} {fault : E} (before middle after : Bool) (r : Result A E) (x : A) → r ≡ Ok x
    → TellsDevice before middle (r ≡ Err fault) → TellsDevice middle after Says → TellsDevice before after Says
tells_after before middle after r x here first second = record {
  stopped = second.stopped;
  runs_on = λ other. second.runs_on other ∙ first.runs_on (λ says. absurd (cc));
}

-- a call that went through, where what is told is no cause
pub tells_nothing : {A E : Type 0} {Says : Type 0} {fault : E} (before after : Bool) (r : Result A E) (x : A) → r ≡ Ok x
    → TellsDevice before after (r ≡ Err fault) → (Says → ⊥) → TellsDevice before after Says
tells_nothing before after r x here told never = record {
  stopped = λ says. absurd (never says);
  runs_on = λ other. told.runs_on (λ says. absurd (cc));
}

-- ---- where units are carried

module _ {C : Type 0} {refuses : C → Cause → C → Type 0} where
  -- a call that carries nothing
  pub over : {Says : Type 0} (before after : Bool) → TellsDevice before after Says → TellsDeviceOver refuses before after Says
  over before after told = record { stopped = λ says. inl (told.stopped says); runs_on = told.runs_on }

  -- a fault is handed on, under this name
  pub tells_over : {A B D E : Type 0} (name : D → E) (device : D) (before after : Bool) (r : Result A D) (s : Result B E) (fault : D)
      → ((x : D) → name x ≡ name device → x ≡ device) → r ≡ Err fault → IsErrAnd s (λ x. x ≡ name fault)
      → TellsDeviceOver refuses before after (r ≡ Err device) → TellsDeviceOver refuses before after (s ≡ Err (name device))
  tells_over name device before after r s fault one here handed told =
      let says = says_as name device r s fault one here handed in
      record { stopped = λ its. told.stopped (says.0 its); runs_on = λ other. told.runs_on (λ its. other (says.1 its)) }

  -- a call that went through, and one after it
  pub over_after : {A E : Type 0} {Says : Type 0} {fault : E} (before middle after : Bool) (r : Result A E) (x : A) → r ≡ Ok x
      → ((r ≡ Err fault → ⊥) → middle ≡ before) → TellsDeviceOver refuses middle after Says → TellsDeviceOver refuses before after Says
  over_after before middle after r x here runs_on second = record {
    stopped = second.stopped;
    runs_on = λ other. second.runs_on other ∙ runs_on (λ says. absurd (cc));
  }

  -- a call that went through, where what is told is no cause
  pub over_nothing : {A E : Type 0} {Says : Type 0} {fault : E} (before after : Bool) (r : Result A E) (x : A) → r ≡ Ok x
      → ((r ≡ Err fault → ⊥) → after ≡ before) → (Says → ⊥) → TellsDeviceOver refuses before after Says
  over_nothing before after r x here runs_on never = record {
    stopped = λ says. absurd (never says);
    runs_on = λ other. runs_on (λ says. absurd (cc));
  }
