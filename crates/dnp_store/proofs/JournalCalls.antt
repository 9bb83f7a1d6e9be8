-- What a journal's call leaves where the database took it, or refused it.
use Rattle.std.proofs.Common.{◌≡◌, ℕ, Bool, true, false, cond, IsTrue, Ok, Err, Result, length, refl, sym, ap, subst, ◌∙◌}
use Rattle.std.specs.Prelude.{⊤}
use Rattle.sqlite_trees.specs.declared.store.Store.{Ghosts}
use Rattle.sqlite.specs.Effect.{Database}
use Rattle.sqlite.specs.Held.{Held, state}
use Rattle.dnp_objects.specs.Stores.{IsStoreCall}
use Rattle.dnp_objects.specs.declared.store.StoreFault.{StoreFault}
use Rattle.dnp_objects.specs.declared.store.StoreFault.TheVariants as fault
use Rattle.dnp_store.specs.JournalTables.{IsJournal, archive_in}
use Rattle.dnp_store.specs.JournalKept.{JournalValue, IsHonestJournal, JournalStands, archive_of, held_archive}
use Rattle.dnp_store.proofs.Refusing.{lost_if}

serves_if : {A : Type 0} (lost : Bool) (f : StoreFault) → f ≡ cond lost fault.Device fault.Memory
    → (◌≡◌ {A = Result A StoreFault} (Err f) (Err fault.Device) → ⊥) → lost ≡ false
serves_if true f is other = absurd (other (ap Err is))
serves_if false f is other = refl

-- the last commit stays: what it held stands where the connection is open
module _ {S : Type 0} (g : Ghosts S) (old new : Held S) (last : ℕ) (same : (state g new).committed ≡ (state g old).committed) where
  pub stands_on : IsTrue (state g new).is_open → JournalStands (state g old) (archive_of g old last) → JournalStands (state g new) (archive_of g new last)
  stands_on opened stood = record { is_open = opened; holds = subst (λ (d : Database). IsJournal d (archive_in d.trees last)) (sym same) stood.holds }

  pub count_on : (count : ℕ) → count ≡ length (archive_of g old last).rows → count ≡ length (archive_of g new last).rows
  count_on count is = subst (λ (d : Database). count ≡ length (archive_in d.trees last).rows) (sym same) is

module _ {S Answer : Type 0} (g : Ghosts S) (is_sound : JournalValue S → Type 0) (inside seen new : JournalValue S) (is : inside ≡ seen)
    (serves : inside.stopped ≡ false)
    (held : IsHonestJournal g new → IsHonestJournal g inside) (sound : IsHonestJournal g new → is_sound new) where
  abbrev IsCall : JournalValue S → Result Answer StoreFault → Type 0
  IsCall old answer =
      IsStoreCall (IsHonestJournal g) (λ j. j.stopped) is_sound (λ j k. held_archive g k ≡ held_archive g j) (λ _ _. ⊤) fault.Device ⊤ old new answer

  pub call_lost : (f : StoreFault) → f ≡ cond new.stopped fault.Device fault.Memory → (IsHonestJournal g new → held_archive g new ≡ held_archive g inside)
      → IsCall seen (Err f)
  call_lost f told same = subst (λ (k : JournalValue S). IsCall k (Err f)) is (record {
    held = held;
    serves = λ h. h.1;
    sound = sound;
    beside = λ h. tt;
    unchanged = same;
    device_stops = lost_if new.stopped f told;
    runs_on = λ other. serves_if new.stopped f told other ∙ sym serves;
    stays = λ was asked. absurd cc;
  })

  pub call_done : (a : Answer) → new.stopped ≡ inside.stopped → IsCall seen (Ok a)
  call_done a still = subst (λ (k : JournalValue S). IsCall k (Ok a)) is (record {
    held = held;
    serves = λ h. h.1;
    sound = sound;
    beside = λ h. tt;
    unchanged = λ h. tt;
    device_stops = λ told. absurd cc;
    runs_on = λ other. still;
    stays = λ was asked. absurd cc;
  })
