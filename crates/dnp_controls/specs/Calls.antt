-- Definition: what a call of a book or of outputs leaves, whatever the call is for.
use Rattle.std.specs.Prelude.{◌≡◌, Bool, List, [], Result, ⊤}
use Rattle.dnp_objects.specs.declared.command.Command.{Command}
use Rattle.dnp_objects.specs.declared.store.StoreFault.{StoreFault}
use Rattle.dnp_objects.specs.declared.store.StoreFault.TheVariants as store
use Rattle.dnp_objects.specs.Stores.{IsStoreCall}
use Rattle.dnp_controls.specs.declared.book.BookFault.{BookFault}
use Rattle.dnp_controls.specs.declared.book.BookFault.TheVariants as book
use Rattle.dnp_controls.specs.Book.{Ledger, IsSoundLedger}
use Rattle.dnp_controls.specs.Panel.{Panel}

-- a call of a book
abbrev pub IsBookCall : {Book Answer : Type 0} → (Book → Type 0) → (Book → Bool) → (Book → Ledger) → Book → Book → Result Answer BookFault → Type 0
IsBookCall honest is_stopped contents old new answer =
    IsStoreCall honest is_stopped (λ b. IsSoundLedger (contents b)) (λ b c. contents c ≡ contents b) (λ _ _. ⊤) book.Device ⊤ old new answer

-- a call of outputs, which needs their store where `asks`: after a refusal nothing was performed
abbrev pub IsOutputsCall : {Outputs Answer : Type 0} → (Outputs → Type 0) → (Outputs → Bool) → (Outputs → Panel) → (Outputs → List Command → Outputs → Type 0)
    → Type 0 → Outputs → Outputs → Result Answer StoreFault → Type 0
IsOutputsCall honest is_stopped panel performs asks old new answer =
    IsStoreCall honest is_stopped (λ _. ⊤) (λ o p. performs o [] p × (panel p ≡ panel o)) (λ _ _. ⊤) store.Device asks old new answer
