-- Definition: what a call of a sink or of a journal leaves, whatever the call is for.
use Rattle.std.specs.Prelude.{◌≡◌, Bool, Result, ⊤}
use Rattle.dnp_objects.specs.declared.store.StoreFault.{StoreFault}
use Rattle.dnp_objects.specs.declared.store.StoreFault.TheVariants.{Device}
use Rattle.dnp_objects.specs.Stores.{IsStoreCall}
use Rattle.dnp_eventbuf.specs.Archive.{Archive, IsSoundArchive}

-- a call that may fail, of a sink that `keeps` what it holds where it refuses
abbrev pub IsSinkCall : {Sink Answer : Type 0} → (Sink → Type 0) → (Sink → Bool) → (Sink → Sink → Type 0)
    → Sink → Sink → Result Answer StoreFault → Type 0
IsSinkCall honest is_stopped keeps old new answer =
    IsStoreCall honest is_stopped (λ _. ⊤) keeps (λ _ _. ⊤) Device ⊤ old new answer

-- a call that may fail, of a journal that holds one archive
abbrev pub IsJournalCall : {Journal Answer : Type 0} → (Journal → Type 0) → (Journal → Bool) → (Journal → Archive)
    → Journal → Journal → Result Answer StoreFault → Type 0
IsJournalCall honest is_stopped archive old new answer =
    IsStoreCall honest is_stopped (λ j. IsSoundArchive (archive j)) (λ j k. archive k ≡ archive j) (λ _ _. ⊤) Device ⊤ old new answer
