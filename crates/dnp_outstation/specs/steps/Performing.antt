-- Private steps: outputs that have to perform commands, if there are any, and what they leave then.
use Rattle.std.specs.Prelude.{◌≡◌, ◌≢◌, Bool, false, IsTrue, List, [], ◌++◌, Option, None, Some, IsSome, IfSome}
use Rattle.dnp_objects.specs.declared.command.Command.{Command}
use Rattle.dnp_objects.specs.declared.store.StoreFault.{StoreFault}
use Rattle.dnp_objects.specs.declared.store.StoreFault.TheVariants as store
use Rattle.dnp_controls.specs.Panel.{Panel}

-- by the outputs before and after it, and the fault, if there is one
pub record IsPerforming {Outputs : Type 0} (honest : Outputs → Type 0) (is_stopped : Outputs → Bool) (panel : Outputs → Panel)
    (performs : Outputs → List Command → Outputs → Type 0) (exhausts : Outputs → List Command → Type 0) (may_fault : StoreFault → Bool)
    (commands : List Command) (old new : Outputs) (fault : Option StoreFault) : Type 0 where
  pub held : honest new → honest old
  pub serves : commands ≢ [] → honest new → is_stopped new ≡ false
  pub same_most : (panel new).most ≡ (panel old).most
  pub same_outputs : (panel new).outputs ≡ (panel old).outputs
  -- without commands nothing happens
  pub idle : commands ≡ [] → new ≡ old
  pub asks : IsSome fault → commands ≢ []
  -- without a fault they were all performed
  pub performed : honest new → fault ≡ None → commands ≢ [] → performs old commands new
  pub listed : honest new → fault ≡ None → (panel new).performed ≡ (panel old).performed ++ commands
  pub not_exhausted : honest new → fault ≡ None → commands ≢ [] → exhausts old commands → ⊥
  -- at a fault none was
  pub unchanged : honest new → IfSome fault (λ _. performs old [] new × (panel new ≡ panel old))
  pub exhausted : honest new → fault ≡ Some store.Exhausted → exhausts old commands
  pub exhausted_first : honest new → fault ≡ Some store.Memory → exhausts old commands → ⊥
  pub named : IfSome fault (λ e. IsTrue (may_fault e))
  pub device_stops : fault ≡ Some store.Device → IsTrue (is_stopped new)
  pub runs_on : fault ≢ Some store.Device → is_stopped new ≡ is_stopped old
  pub stays : IsTrue (is_stopped old) → commands ≢ [] → fault ≡ Some store.Device
