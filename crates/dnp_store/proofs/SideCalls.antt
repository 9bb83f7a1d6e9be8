-- What a call that writes one side of a queue leaves, seen from the whole queue.
use Rattle.std.proofs.Common.{◌≡◌, ℕ, Bool, true, false, IsTrue, [], ◌∷◌, Ok, Err, Result, ap, refl, sym, subst, ◌∙◌}
use Rattle.std.specs.Prelude.{IfErr, OnErr, OnOk}
use Rattle.sqlite_trees.specs.declared.store.Store.{Ghosts}
use Rattle.sqlite.specs.Held.{state}
use Rattle.sqlite.specs.State.{State, HasCleanDisk}
use Rattle.dnp_objects.specs.declared.store.StoreFault.{StoreFault}
use Rattle.dnp_objects.specs.declared.store.StoreFault.TheVariants.{Device}
use Rattle.dnp_eventbuf.specs.Sides.{IsSideCall, other_than}
use Rattle.dnp_eventbuf.specs.Sound.{IsSoundBuffer}
use Rattle.dnp_eventbuf.specs.EventBuffer.{EventBuffer}
use Rattle.dnp_store.specs.QueueKept.{IsHonestQueue, QueueValue, LeavesQueue, LeavesEitherQueue}
use Rattle.dnp_store.specs.PairTables.{Sides, side_at, with_side}

-- a crash leaves the lanes before, or those that the call makes of a centre's
abbrev pub EitherAt : {S : Type 0} → State → QueueValue S → (EventBuffer → EventBuffer) → ℕ → Type 0
EitherAt new k next centre =
    k.stopped ≡ false → IsTrue k.owned → LeavesEitherQueue new k.sides (with_side k.sides centre (next (side_at k.sides centre)))

pub either_at : {S : Type 0} (new : State) (inner outer : QueueValue S) (next : EventBuffer → EventBuffer) (n centre : ℕ) → inner ≡ outer → centre ≡ n
    → EitherAt new inner next n → EitherAt new outer next centre
either_at {S} new inner outer next n centre is at h =
    subst (EitherAt new outer next) (sym at) (subst (λ (k : QueueValue S). EitherAt new k next n) is h)

pub after_at : {S A E : Type 0} (new : State) (inner outer : QueueValue S) (result : Result A E) (sides : Sides) → inner ≡ outer
    → (IsTrue inner.owned → OnOk result (LeavesQueue new sides)) → IsTrue outer.owned → OnOk result (LeavesQueue new sides)
after_at {S} new inner outer result sides is h = subst (λ (k : QueueValue S). IsTrue k.owned → OnOk result (LeavesQueue new sides)) is h

-- what the call is to a store of lanes
pub side_call : {S A : Type 0} (g : Ghosts S) (inner outer new : QueueValue S) (answer : Result A StoreFault) (n centre : ℕ)
    → inner ≡ outer → centre ≡ n → inner.stopped ≡ false → new.owned ≡ inner.owned → (HasCleanDisk (state g new.conn) → HasCleanDisk (state g inner.conn))
    → (IsTrue new.stopped → answer ≡ Err Device) → (new.stopped ≡ false → answer ≡ Err Device → ⊥) → IsSoundBuffer (side_at new.sides n)
    → side_at new.sides (other_than n) ≡ side_at inner.sides (other_than n) → OnErr answer (side_at new.sides n ≡ side_at inner.sides n)
    → IsSideCall (IsHonestQueue g) (λ q. q.stopped) (λ q. side_at q.sides) centre outer new answer
side_call {S} {A} g inner outer new answer n centre is at runs own clean device other sound beside kept =
    subst (λ (m : ℕ). IsSideCall (IsHonestQueue g) (λ q. q.stopped) (λ q. side_at q.sides) m outer new answer) (sym at)
    (subst (λ (k : QueueValue S). IsSideCall (IsHonestQueue g) (λ q. q.stopped) (λ q. side_at q.sides) n k new answer) is (record {
      held = λ honest. (clean honest.0, runs, subst (λ (b : Bool). IsTrue b) own honest.2);
      serves = λ honest. honest.1;
      sound = λ _. sound;
      beside = λ _. ap (λ (s : EventBuffer). s ∷ []) beside;
      unchanged = λ _. as_err _ answer kept;
      device_stops = stops new.stopped other;
      runs_on = λ isnt. told new.stopped device isnt ∙ sym runs;
      stays = λ stopped. absurd (let no : IsTrue false = subst (λ (b : Bool). IsTrue b) runs stopped in cc);
    }))
  where
    as_err : (P : Type 0) (r : Result A StoreFault) → OnErr r P → IfErr r (λ _. P)
    as_err P (Ok _) h = h
    as_err P (Err _) h = h

    stops : (b : Bool) → (b ≡ false → answer ≡ Err Device → ⊥) → answer ≡ Err Device → IsTrue b
    stops true h is = refl
    stops false h is = absurd (h refl is)

    told : (b : Bool) → (IsTrue b → answer ≡ Err Device) → (answer ≡ Err Device → ⊥) → b ≡ false
    told true h isnt = absurd (isnt (h refl))
    told false h isnt = refl
