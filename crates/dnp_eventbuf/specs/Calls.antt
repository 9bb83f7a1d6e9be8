-- Definition: what a call of lanes leaves, whatever the call is for.
use Rattle.std.specs.Prelude.{◌≡◌, Bool, true, false, List, Result, ⊤}
use Rattle.dnp_objects.specs.declared.store.StoreFault.{StoreFault}
use Rattle.dnp_objects.specs.declared.store.StoreFault.TheVariants.{Exhausted, Memory, Device}
use Rattle.dnp_objects.specs.Stores.{IsStoreCall}
use Rattle.dnp_eventbuf.specs.Sound.{IsSoundBuffer}
use Rattle.dnp_eventbuf.specs.EventBuffer.{EventBuffer}

-- a call that may fail, of lanes that hold one buffer and leave others alone
abbrev pub IsLanesCall : {Store Answer : Type 0} → (Store → Type 0) → (Store → Bool) → (Store → EventBuffer) → (Store → List EventBuffer)
    → Store → Store → Result Answer StoreFault → Type 0
IsLanesCall honest is_stopped contents beside old new answer =
    IsStoreCall honest is_stopped (λ s. IsSoundBuffer (contents s)) (λ s t. contents t ≡ contents s) (λ s t. beside t ≡ beside s) Device ⊤ old new answer

-- the faults of lanes that have no device under them
abbrev pub without_device : StoreFault → Bool
without_device Exhausted = true
without_device Memory = true
without_device Device = false
