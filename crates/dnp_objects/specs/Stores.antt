-- Definition: what a call of a store leaves, whatever the call is for: of a store of events, or of one of
-- commands, whose device may fail.
use Rattle.std.specs.Prelude.{◌≡◌, ◌≢◌, Bool, false, IsTrue, Result, Err, IfErr}

-- A call that may fail, by the store before and after it and its answer. `is_sound` holds of a store at all
-- times, `is_same` says that the second store holds what the first one does, and `is_beside` that so does
-- the part of it that the call is not for. `asks` says that the call needs the store's device.
pub record IsStoreCall {Store Answer Fault : Type 0} (honest : Store → Type 0) (is_stopped : Store → Bool)
    (is_sound : Store → Type 0) (is_same is_beside : Store → Store → Type 0)
    (device : Fault) (asks : Type 0) (old new : Store) (answer : Result Answer Fault) : Type 0 where
  -- an honest store was honest before, and it has not answered Device
  pub held : honest new → honest old
  pub serves : honest new → is_stopped new ≡ false
  -- it is sound, and a refusal changes nothing
  pub sound : honest new → is_sound new
  pub beside : honest new → is_beside old new
  pub unchanged : honest new → IfErr answer (λ _. is_same old new)
  -- Device stops it, and nothing else does; stopped, it answers Device again
  pub device_stops : answer ≡ Err device → IsTrue (is_stopped new)
  pub runs_on : answer ≢ Err device → is_stopped new ≡ is_stopped old
  pub stays : IsTrue (is_stopped old) → asks → answer ≡ Err device
