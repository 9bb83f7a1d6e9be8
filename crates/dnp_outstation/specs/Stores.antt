-- Definition: what a call of an outstation leaves of its lanes and of its outputs, which it owns or which are lent to it.
use Rattle.std.specs.Prelude.{◌≡◌, ◌≢◌, ◌⊎◌, Bool, false, IsTrue, List, [], OnOk, OnErr, IfErr, Result, Err}
use Rattle.dnp_controls.specs.Panel.{Panel}
use Rattle.dnp_eventbuf.specs.EventBuffer.{EventBuffer, rows_in}
use Rattle.dnp_objects.specs.declared.command.Command.{Command}
use Rattle.dnp_objects.specs.declared.store.StoreFault.{StoreFault}
use Rattle.dnp_objects.specs.declared.store.StoreFault.TheVariants.{Exhausted, Memory, Device}

-- of lanes: they stay where they are kept, and so does what stands beside them; all of them stay where the call is
-- refused; the fault `device` alone stops them
pub record KeepsLanes {Store Place Answer Fault : Type 0} (honest : Store → Type 0) (is_stopped : Store → Bool) (contents : Store → EventBuffer)
    (others : Store → List EventBuffer) (kept : Store → Place) (device : Fault) (old new : Store) (answer : Result Answer Fault) : Type 0 where
  pub held : honest new → honest old
  pub place : kept new ≡ kept old
  pub beside : honest new → others new ≡ others old
  pub unchanged : honest new → OnErr answer (contents new ≡ contents old)
  pub runs_on : answer ≢ Err device → is_stopped new ≡ is_stopped old

-- of lanes that the call only looks at, whatever it answers
pub record IsLook {Store Place Answer : Type 0} (honest : Store → Type 0) (is_stopped : Store → Bool) (contents : Store → EventBuffer)
    (others : Store → List EventBuffer) (kept : Store → Place) (asks_memory : Bool) (may_fault : StoreFault → Bool) (old new : Store)
    (answer : Result Answer StoreFault) : Type 0 where
  pub held : honest new → honest old
  pub same : honest new → contents new ≡ contents old
  pub place : kept new ≡ kept old
  pub beside : honest new → others new ≡ others old
  -- Device stops the store, which runs on else
  pub stopped : IsTrue (is_stopped old) → IsTrue (is_stopped new)
  pub device : answer ≡ Err Device → IsTrue (is_stopped new)
  pub runs_on : answer ≢ Err Device → is_stopped new ≡ is_stopped old
  -- in memory it is out of memory only where there are rows
  pub memory : honest new → answer ≡ Err Memory → asks_memory ≡ false → rows_in (contents new) ≢ []
  pub named : IfErr answer (λ e. e ≢ Exhausted)
  -- and it answers no fault that the lanes may not
  pub faults : IfErr answer (λ e. IsTrue (may_fault e))

-- of lanes from which the call releases rows: they stay where it is refused
pub record IsReleaseCall {Store Place Answer : Type 0} (honest : Store → Type 0) (is_stopped : Store → Bool) (contents : Store → EventBuffer)
    (others : Store → List EventBuffer) (kept : Store → Place) (asks_memory : Bool) (may_fault : StoreFault → Bool) (old new : Store)
    (answer : Result Answer StoreFault) : Type 0 where
  pub held : honest new → honest old
  pub place : kept new ≡ kept old
  pub beside : honest new → others new ≡ others old
  pub unchanged : honest new → OnErr answer (contents new ≡ contents old)
  pub device : answer ≡ Err Device → IsTrue (is_stopped new)
  pub runs_on : answer ≢ Err Device → is_stopped new ≡ is_stopped old
  -- in memory it is out of memory only where there were rows
  pub memory : honest new → answer ≡ Err Memory → asks_memory ≡ false → rows_in (contents old) ≢ []
  pub named : answer ≢ Err Exhausted
  pub faults : IfErr answer (λ e. IsTrue (may_fault e))

-- of outputs: nothing was performed. They are what they were, or have come of that by performing no commands
abbrev pub HaveDoneNothing : {Store : Type 0} → (Store → List Command → Store → Type 0) → Store → Store → Type 0
HaveDoneNothing performs old new = (new ≡ old) ⊎ performs old [] new

-- of outputs: these commands are performed, or none where the call is refused, as `no_numbers` only where their store
-- has not the numbers; the fault `device` alone stops it
pub record KeepsOutputs {Store Answer Fault : Type 0} (honest : Store → Type 0) (is_stopped : Store → Bool) (panel : Store → Panel)
    (performs : Store → List Command → Store → Type 0) (exhausts : Store → List Command → Type 0) (can_exhaust : Bool)
    (no_numbers device : Fault) (commands : List Command) (old new : Store) (answer : Result Answer Fault) : Type 0 where
  pub held : honest new → honest old
  pub idle : commands ≡ [] → new ≡ old
  pub performed : honest new → OnOk answer (commands ≢ [] → performs old commands new)
  pub unchanged : honest new → OnErr answer (panel new ≡ panel old)
  pub undone : honest new → OnErr answer (HaveDoneNothing performs old new)
  pub may_exhaust : answer ≡ Err no_numbers → IsTrue can_exhaust
  pub exhausted : honest new → answer ≡ Err no_numbers → exhausts old commands
  pub not_exhausted : honest new → OnOk answer (commands ≢ [] → exhausts old commands → ⊥)
  pub runs_on : answer ≢ Err device → is_stopped new ≡ is_stopped old
