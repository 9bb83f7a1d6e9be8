-- What a call of a store leaves where it was refused.
use Rattle.std.proofs.Common.{◌≡◌, Bool, false, IsTrue, Err, refl, sym, ◌∙◌}
use Rattle.dnp_objects.specs.Stores.{IsStoreCall}

module _ {Store Answer Fault : Type 0} {honest : Store → Type 0} {is_stopped : Store → Bool} {is_sound : Store → Type 0}
    {is_same is_beside : Store → Store → Type 0} {device : Fault} {asks : Type 0} where
  -- one that has stopped answers Device
  pub call_stopped : (s : Store) → (honest s → is_stopped s ≡ false) → (honest s → is_sound s) → is_same s s → is_beside s s → IsTrue (is_stopped s)
      → IsStoreCall {Answer = Answer} honest is_stopped is_sound is_same is_beside device asks s s (Err device)
  call_stopped s serves sound same beside stopped = record {
    held = λ h. h;
    serves = serves;
    sound = sound;
    beside = λ h. beside;
    unchanged = λ h. same;
    device_stops = λ told. stopped;
    runs_on = λ other. refl;
    stays = λ was asked. refl;
  }

  -- another fault, before anything was written
  pub call_refused : (s : Store) (e : Fault) → (e ≡ device → ⊥) → is_stopped s ≡ false → (honest s → is_sound s) → is_same s s → is_beside s s
      → IsStoreCall {Answer = Answer} honest is_stopped is_sound is_same is_beside device asks s s (Err e)
  call_refused s e other serves sound same beside = record {
    held = λ h. h;
    serves = λ h. serves;
    sound = sound;
    beside = λ h. beside;
    unchanged = λ h. same;
    device_stops = λ told. absurd (other cc);
    runs_on = λ told. refl;
    stays = λ was asked. absurd cc;
  }

  -- the database refused it: what was held is held
  pub call_failed : (old new : Store) (e : Fault) → is_stopped old ≡ false → (honest new → honest old) → (honest new → is_stopped new ≡ false)
      → (honest new → is_sound new) → is_same old new → is_beside old new → (e ≡ device → IsTrue (is_stopped new))
      → ((e ≡ device → ⊥) → is_stopped new ≡ false) → IsStoreCall {Answer = Answer} honest is_stopped is_sound is_same is_beside device asks old new (Err e)
  call_failed old new e served held serves sound same beside stops runs = record {
    held = held;
    serves = serves;
    sound = sound;
    beside = λ h. beside;
    unchanged = λ h. same;
    device_stops = λ told. stops cc;
    runs_on = λ other. runs (λ is. other cc) ∙ sym served;
    stays = λ was asked. absurd cc;
  }
