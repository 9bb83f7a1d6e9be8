-- Steps inside a transaction, one after the other.
use Rattle.std.proofs.Common.{Ok, Err, Result, IsTrue, IfOk, arith, refl, ◌∙◌}
use Rattle.std.specs.Prelude.{OnOk}
use Rattle.std.specs.Borrow.{MutBor}
use Rattle.sqlite_trees.specs.declared.store.Store.{Ghosts}
use Rattle.sqlite.specs.declared.error.Error.{Error}
use Rattle.sqlite.specs.State.{HasCleanDisk}
use Rattle.sqlite.specs.Held.{Held, state}
use Rattle.sqlite.proofs.InsideLemmas.{keeps_then}
use Rattle.sqlite.proofs.StateLemmas.{survives_then}
use Rattle.dnp_store.specs.steps.Inside.{IsInside, IsStep}
use Rattle.dnp_store.proofs.Standing.{survives_itself}

-- the steps so far, all answered Ok
abbrev pub AreSteps : {S : Type 0} → Ghosts S → MutBor (Held S) → MutBor (Held S) → Type 0
AreSteps g old new = IsStep {A = Unit {0}} {E = Error} g old new (Ok tt)

-- none so far
pub step_none : {S : Type 0} (g : Ghosts S) (x : MutBor (Held S)) → IsInside g x → AreSteps g x x
step_none g x inside = record {
  same_reference = refl;
  inside = inside;
  kept = λ clean. record { was_open = λ h. h; committed = λ h. refl };
  survives = survives_itself (state g x.now);
}

pub step_then : {S A B E F : Type 0} (g : Ghosts S) (old mid new : MutBor (Held S)) (first : Result A E) (result : Result B F) → IsStep g old mid first
    → IsStep g mid new result → IsStep g old new result
step_then g old mid new first result one two = record {
  same_reference = two.same_reference ∙ one.same_reference;
  inside = two.inside;
  kept = λ clean.
      let early : HasCleanDisk (state g mid.now) = omega (arith, two.survives.clean) in
      keeps_then (state g old.now) (state g mid.now) (state g new.now) (one.kept early) (two.kept clean);
  survives = survives_then (state g old.now) (state g mid.now) (state g new.now) (λ _. ⊥) (λ _. ⊥) (λ _. ⊥) (λ _ db none. none) (λ _ db none. none)
      one.survives two.survives;
}

on_ok : {B F : Type 0} (P : Type 0) (result : Result B F) → P → OnOk result P
on_ok P (Ok b) holds = holds
on_ok P (Err e) holds = tt

-- what a caller makes of the last step's answer
pub step_as : {S A B E F : Type 0} (g : Ghosts S) (old new : MutBor (Held S)) (a : A) (result : Result B F) → IsStep {E = E} g old new (Ok a)
    → IsStep g old new result
step_as g old new a result step = record {
  same_reference = step.same_reference;
  inside = λ clean. on_ok (IsTrue (state g new.now).in_transaction) result (step.inside clean);
  kept = step.kept;
  survives = step.survives;
}

-- what follows of an answer, where there is one
pub if_ok : {A E : Type 0} (P Q : A → Type 0) (result : Result A E) → ((a : A) → P a → Q a) → IfOk result P → IfOk result Q
if_ok P Q (Ok a) follows holds = follows a holds
if_ok P Q (Err e) follows holds = tt

pub on_then : {A E : Type 0} (P Q : Type 0) (result : Result A E) → (P → Q) → OnOk result P → OnOk result Q
on_then P Q (Ok a) follows holds = follows holds
on_then P Q (Err e) follows holds = tt
