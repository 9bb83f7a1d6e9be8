-- The faults of a store, passed on.
use Rattle.std.proofs.Common.{◌≡◌, ℕ, Bool, IsTrue, List, Some, Result, Ok, Err, refl, ap, sym, subst, ◌∙◌}
use Rattle.std.specs.Result.{IsErrAnd, IfErr, IfOk, OnErr, result_err}
use Rattle.std.proofs.lemmas.Result.{err_from_is_err_and}
use Rattle.dnp_controls.specs.Panel.{Panel}
use Rattle.dnp_eventbuf.specs.EventBuffer.{EventBuffer}
use Rattle.dnp_objects.specs.declared.command.Command.{Command}
use Rattle.dnp_objects.specs.declared.store.StoreFault.{StoreFault}
use Rattle.dnp_objects.specs.declared.store.StoreFault.TheVariants as store
use Rattle.dnp_outstation.specs.Station.{fault_of, may_tell, IsStoreFault}
use Rattle.dnp_outstation.specs.Refusals.{AsksStores}
use Rattle.dnp_outstation.specs.State.{State}
use Rattle.dnp_outstation.specs.Stores.{KeepsLanes, KeepsOutputs}
use Rattle.dnp_outstation.specs.declared.fault.Fault.{Fault}
use Rattle.dnp_outstation.specs.declared.fault.Fault.TheVariants as fault

-- the fault that is passed on as Memory
passed_memory : (e : StoreFault) → fault_of e ≡ fault.Memory → e ≡ store.Memory
passed_memory store.Exhausted is = cc
passed_memory store.Memory is = refl
passed_memory store.Device is = cc

pub memory_from : {A : Type 0} (e : StoreFault) (r : Result A Fault) → IsErrAnd r (λ f. f ≡ fault_of e) → r ≡ Err fault.Memory → e ≡ store.Memory
memory_from e r told is =
    let p = err_from_is_err_and r told in
    let same : fault_of e ≡ fault.Memory = cc (p.1, p.2) in
    passed_memory e same

-- no two faults of a store are told alike
pub told_apart : (e f : StoreFault) → fault_of e ≡ fault_of f → e ≡ f
told_apart store.Exhausted store.Exhausted is = refl
told_apart store.Exhausted store.Memory is = absurd (cc)
told_apart store.Exhausted store.Device is = absurd (cc)
told_apart store.Memory store.Exhausted is = absurd (cc)
told_apart store.Memory store.Memory is = refl
told_apart store.Memory store.Device is = absurd (cc)
told_apart store.Device store.Exhausted is = absurd (cc)
told_apart store.Device store.Memory is = absurd (cc)
told_apart store.Device store.Device is = refl

pub is_stores : (e : StoreFault) → IsStoreFault (fault_of e)
is_stores store.Exhausted = tt
is_stores store.Memory = tt
is_stores store.Device = tt

pub may_told : (may : StoreFault → Bool) (e : StoreFault) → IsTrue (may e) → IsTrue (may_tell may (fault_of e))
may_told may store.Exhausted is = is
may_told may store.Memory is = is
may_told may store.Device is = is

-- ---- an answer that is known by its fault alone

pub told_as : {A : Type 0} (e : StoreFault) (r : Result A Fault) → IsErrAnd r (λ f. f ≡ fault_of e) → result_err r ≡ Some (fault_of e)
told_as e r told = let p = err_from_is_err_and r told in ap result_err p.1 ∙ ap Some p.2

-- the store's fault is passed on
pub is_told : {A B : Type 0} (f e : StoreFault) (r : Result A Fault) → result_err r ≡ Some (fault_of e) → r ≡ Err (fault_of f)
    → (let told : Result B StoreFault = Err e in told) ≡ Err f
is_told f e r told failed =
    let is : Some (fault_of e) ≡ Some (fault_of f) = sym told ∙ ap result_err failed in
    ap Err (told_apart e f (cc))

pub is_err : {A E : Type 0} (e : E) (r : Result A E) → result_err r ≡ Some e → r ≡ Err e
is_err e (Ok x) told = absurd (cc)
is_err e (Err f) told = let same : f ≡ e = cc in ap Err same

pub not_answered : {A E : Type 0} (e : E) (r : Result A E) (P : A → Type 0) → result_err r ≡ Some e → IfOk r P
not_answered e (Ok x) P told = absurd (cc)
not_answered e (Err f) P told = tt

pub on_err : {A E P : Type 0} (r : Result A E) → P → OnErr r P
on_err (Ok x) p = tt
on_err (Err f) p = p

pub err_told : {A E : Type 0} (e : E) (r : Result A E) (P : E → Type 0) → result_err r ≡ Some e → P e → IfErr r P
err_told e (Ok x) P told is = tt
err_told e (Err f) P told is = let same : e ≡ f = cc in subst P same is

-- ---- what a call leaves, where it ends in a call with other answers, whose faults it tells by `name`

module _ {Store Place A B E F : Type 0} {honest : Store → Type 0} {is_stopped : Store → Bool} {contents : Store → EventBuffer}
    {others : Store → List EventBuffer} {kept : Store → Place} {old new : Store} where
  pub lanes_told : (name : E → F) (device e : E) (r : Result A F) → result_err r ≡ Some (name e)
      → KeepsLanes honest is_stopped contents others kept device old new (let said : Result B E = Err e in said)
      → KeepsLanes honest is_stopped contents others kept (name device) old new r
  lanes_told name device e r told keeps = record {
    held = keeps.held;
    place = keeps.place;
    beside = keeps.beside;
    unchanged = λ h. on_err r (keeps.unchanged h);
    runs_on = λ other. keeps.runs_on (λ is. other (let same : e ≡ device = cc in is_err (name device) r (told ∙ ap (λ (f : E). Some (name f)) same)));
  }

  pub lanes_answered : (x : A) (y : B) (device : E) (also : F)
      → KeepsLanes honest is_stopped contents others kept device old new (let said : Result B E = Ok y in said)
      → KeepsLanes honest is_stopped contents others kept also old new (let answer : Result A F = Ok x in answer)
  lanes_answered x y device also keeps = record {
    held = keeps.held;
    place = keeps.place;
    beside = keeps.beside;
    unchanged = λ h. tt;
    runs_on = λ other. keeps.runs_on (λ is. absurd (cc));
  }

module _ {Store A B E F : Type 0} {honest : Store → Type 0} {is_stopped : Store → Bool} {panel : Store → Panel}
    {performs : Store → List Command → Store → Type 0} {exhausts : Store → List Command → Type 0} {can_exhaust : Bool}
    {commands : List Command} {old new : Store} where
  pub outputs_told : (name : E → F) (no_numbers device e : E) (r : Result A F) → ((f : E) → name e ≡ name f → e ≡ f) → result_err r ≡ Some (name e)
      → KeepsOutputs honest is_stopped panel performs exhausts can_exhaust no_numbers device commands old new (let said : Result B E = Err e in said)
      → KeepsOutputs honest is_stopped panel performs exhausts can_exhaust (name no_numbers) (name device) commands old new r
  outputs_told name no_numbers device e r apart told keeps =
      let back : (f : E) → r ≡ Err (name f) → (let said : Result B E = Err e in said) ≡ Err f =
      λ f is. let same : Some (name e) ≡ Some (name f) = sym told ∙ ap result_err is in ap Err (apart f (cc)) in
      record {
        held = keeps.held;
        idle = keeps.idle;
        performed = λ h. not_answered (name e) r _ told;
        unchanged = λ h. on_err r (keeps.unchanged h);
        undone = λ h. on_err r (keeps.undone h);
        may_exhaust = λ is. keeps.may_exhaust (back no_numbers is);
        exhausted = λ h is. keeps.exhausted h (back no_numbers is);
        not_exhausted = λ h. not_answered (name e) r _ told;
        runs_on = λ other. keeps.runs_on (λ is. other (let same : e ≡ device = cc in is_err (name device) r (told ∙ ap (λ (f : E). Some (name f)) same)));
      }

  pub outputs_answered : (x : A) (y : B) (no_numbers device : E) (none stopped : F)
      → KeepsOutputs honest is_stopped panel performs exhausts can_exhaust no_numbers device commands old new (let said : Result B E = Ok y in said)
      → KeepsOutputs honest is_stopped panel performs exhausts can_exhaust none stopped commands old new (let answer : Result A F = Ok x in answer)
  outputs_answered x y no_numbers device none stopped keeps = record {
    held = keeps.held;
    idle = keeps.idle;
    performed = keeps.performed;
    unchanged = λ h. tt;
    undone = λ h. tt;
    may_exhaust = λ is. absurd (cc);
    exhausted = λ h is. absurd (cc);
    not_exhausted = keeps.not_exhausted;
    runs_on = λ other. keeps.runs_on (λ is. absurd (cc));
  }

-- where a call is answered it is not refused (stated here: beside all that is known at a call `cc` takes seconds)
pub asks_answered : {A E : Type 0} (x : A) (s : State) (o : Panel) (now : ℕ) (octets : List ℕ)
    → AsksStores s o now octets (let answer : Result A E = Ok x in answer)
asks_answered x s o now octets = record {
  looked_at = λ e. absurd (cc);
  unsolicited = λ e. absurd (cc);
  announced = λ e. absurd (cc);
  stray = λ e. absurd (cc);
  again = λ e. absurd (cc);
  held = λ e. absurd (cc);
  inside = λ e. absurd (cc);
}

-- ---- what holds of an answer that another is known to be

pub at_answer : {A E : Type 0} (x : A) (r : Result A E) (P : A → Type 0) → Ok x ≡ r → P x → IfOk r P
at_answer x (Ok y) P is p = let same : x ≡ y = cc in subst P same p
at_answer x (Err e) P is p = tt

pub not_refused : {A E : Type 0} (x : A) (r : Result A E) (P : E → Type 0) → Ok x ≡ r → IfErr r P
not_refused x (Ok y) P is = tt
not_refused x (Err e) P is = absurd (cc)
