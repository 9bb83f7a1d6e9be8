-- A call that ends in another's: what it leaves of its lanes and of its outputs, by what that one says.
use Rattle.std.proofs.Common.{◌≡◌, ◌≢◌, ◌⊎◌, Bool, IsTrue, ℕ, false, List, [], Result, Ok, Some, Err, inl, refl, ap, sym, subst, ◌∙◌}
use Rattle.std.specs.Result.{IfErr, result_err}
use Rattle.dnp_controls.specs.Panel.{Panel}
use Rattle.dnp_eventbuf.specs.Calls.{IsLanesCall}
use Rattle.dnp_eventbuf.specs.EventBuffer.{EventBuffer, all_up_to, rows_in}
use Rattle.dnp_objects.specs.declared.command.Command.{Command}
use Rattle.dnp_objects.specs.declared.store.StoreFault.{StoreFault}
use Rattle.dnp_objects.specs.declared.store.StoreFault.TheVariants as store
use Rattle.dnp_outstation.proofs.NoRows.{released_is_there}
use Rattle.dnp_outstation.specs.Stores.{IsLook, KeepsLanes, KeepsOutputs, IsReleaseCall}

-- ---- answers that are refused alike

pub err_by : {A B E : Type 0} (answer : Result A E) (said : Result B E) → result_err answer ≡ result_err said
    → (e : E) → answer ≡ Err e → said ≡ Err e
err_by answer (Ok y) told e is = absurd (let some : Some e ≡ result_err answer = sym (ap result_err is) in cc)
err_by answer (Err f) told e is = let same : Some e ≡ Some f = sym (ap result_err is) ∙ told in cc

if_err_by : {A B E : Type 0} (answer : Result A E) (said : Result B E) (P : E → Type 0)
    → result_err answer ≡ result_err said → IfErr said P → IfErr answer P
if_err_by (Ok x) said P told is = tt
if_err_by (Err e) (Ok y) P told is = absurd (cc)
if_err_by (Err e) (Err f) P told is = let same : f ≡ e = cc in subst P same is

any_err : {A E P : Type 0} (answer : Result A E) → P → IfErr answer (λ _. P)
any_err (Ok x) p = tt
any_err (Err e) p = p

not_told : {A E : Type 0} (answer : Result A E) (fault : E) → IfErr answer (λ e. e ≢ fault) → answer ≢ Err fault
not_told (Ok x) fault named = λ is. cc
not_told (Err e) fault named = λ is. named (cc)

-- a fault that one store may answer is one of those that two may
pub told_by : {Answer : Type 0} (may also : StoreFault → Bool) (answer : Result Answer StoreFault)
    → IfErr answer (λ e. IsTrue (may e)) → IfErr answer (λ e. IsTrue (may e) ⊎ IsTrue (also e))
told_by may also (Ok x) told = tt
told_by may also (Err e) told = inl told

module _ {Store Place Answer : Type 0} {honest : Store → Type 0} {is_stopped : Store → Bool} {contents : Store → EventBuffer}
    {others : Store → List EventBuffer} {kept : Store → Place} {asks_memory : Bool} {may_fault : StoreFault → Bool} {old new : Store} where
  pub look_keeps : (answer : Result Answer StoreFault) → IsLook honest is_stopped contents others kept asks_memory may_fault old new answer
      → KeepsLanes honest is_stopped contents others kept store.Device old new answer
  look_keeps answer look = record {
    held = look.held;
    place = look.place;
    beside = look.beside;
    unchanged = λ h. any_err answer (look.same h);
    runs_on = look.runs_on;
  }

  -- the same look, where another call hands on how it was refused
  pub look_by : {Said : Type 0} (said : Result Said StoreFault) (answer : Result Answer StoreFault) → result_err answer ≡ result_err said
      → IsLook honest is_stopped contents others kept asks_memory may_fault old new said
      → IsLook honest is_stopped contents others kept asks_memory may_fault old new answer
  look_by said answer told look = record {
    held = look.held;
    same = look.same;
    place = look.place;
    beside = look.beside;
    stopped = look.stopped;
    device = λ is. look.device (err_by answer said told store.Device is);
    runs_on = λ other. look.runs_on (λ is. other (err_by said answer (sym told) store.Device is));
    memory = λ h is spares. look.memory h (err_by answer said told store.Memory is) spares;
    named = if_err_by answer said (λ e. e ≢ store.Exhausted) told look.named;
    faults = if_err_by answer said (λ e. IsTrue (may_fault e)) told look.faults;
  }

  -- two looks, one after the other
  pub look_then : {First : Type 0} {x : First} {mid : Store} {answer : Result Answer StoreFault}
      → IsLook honest is_stopped contents others kept asks_memory may_fault old mid (let first : Result First StoreFault = Ok x in first)
      → IsLook honest is_stopped contents others kept asks_memory may_fault mid new answer
      → IsLook honest is_stopped contents others kept asks_memory may_fault old new answer
  look_then first second = record {
    held = λ h. first.held (second.held h);
    same = λ h. second.same h ∙ first.same (second.held h);
    place = second.place ∙ first.place;
    beside = λ h. second.beside h ∙ first.beside (second.held h);
    stopped = λ stopped. second.stopped (first.stopped stopped);
    device = second.device;
    runs_on = λ other. second.runs_on other ∙ first.runs_on (λ is. absurd (cc));
    memory = second.memory;
    named = second.named;
    faults = second.faults;
  }

  -- no look at all, where the call is answered
  pub look_none : {x : Answer} → new ≡ old
      → IsLook honest is_stopped contents others kept asks_memory may_fault old new (let answer : Result Answer StoreFault = Ok x in answer)
  look_none same = record {
    held = λ h. subst (λ (s : Store). honest s) same h;
    same = λ h. ap contents same;
    place = ap kept same;
    beside = λ h. ap others same;
    stopped = λ stopped. subst (λ (s : Store). IsTrue (is_stopped s)) (sym same) stopped;
    device = λ is. absurd (cc);
    runs_on = λ other. ap is_stopped same;
    memory = λ h is. absurd (cc);
    named = tt;
    faults = tt;
  }

  -- a look, of lanes that stay then as they are
  pub look_to : {after : Store} {answer : Result Answer StoreFault} → after ≡ new
      → IsLook honest is_stopped contents others kept asks_memory may_fault old new answer
      → IsLook honest is_stopped contents others kept asks_memory may_fault old after answer
  look_to {answer = answer} same look = subst (λ (s : Store). IsLook honest is_stopped contents others kept asks_memory may_fault old s answer) (sym same) look

  -- a look, before which the lanes were looked at and stayed as they were
  pub look_after : {before : Store} {answer : Result Answer StoreFault} → old ≡ before
      → IsLook honest is_stopped contents others kept asks_memory may_fault old new answer
      → IsLook honest is_stopped contents others kept asks_memory may_fault before new answer
  look_after {answer = answer} same look = subst (λ (s : Store). IsLook honest is_stopped contents others kept asks_memory may_fault s new answer) same look

  -- a look that was answered, and what is done after it, which leaves the lanes alone
  pub looked_keeps : {First : Type 0} {x : First} (answer : Result Answer StoreFault)
      → IsLook honest is_stopped contents others kept asks_memory may_fault old new (let first : Result First StoreFault = Ok x in first)
      → KeepsLanes honest is_stopped contents others kept store.Device old new answer
  looked_keeps answer look = record {
    held = look.held;
    place = look.place;
    beside = look.beside;
    unchanged = λ h. any_err answer (look.same h);
    runs_on = λ _. look.runs_on (λ is. absurd (cc));
  }

  -- nothing is released where only a look was refused
  pub look_releases : (answer : Result Answer StoreFault) → IsLook honest is_stopped contents others kept asks_memory may_fault old new answer
      → IsReleaseCall honest is_stopped contents others kept asks_memory may_fault old new answer
  look_releases answer look = record {
    held = look.held;
    place = look.place;
    beside = look.beside;
    unchanged = λ h. any_err answer (look.same h);
    device = look.device;
    runs_on = look.runs_on;
    memory = λ h is spares none. look.memory h is spares (ap rows_in (look.same h) ∙ none);
    named = not_told answer store.Exhausted look.named;
    faults = look.faults;
  }

  -- a release after a look
  pub release_then : {First Said : Type 0} {x : First} {mid : Store} (upto : List ℕ) (said : Result Said StoreFault) (answer : Result Answer StoreFault)
      → result_err answer ≡ result_err said
      → IsLook honest is_stopped contents others kept asks_memory may_fault old mid (let first : Result First StoreFault = Ok x in first)
      → IsLanesCall honest is_stopped contents others mid new said → kept new ≡ kept mid
      → (said ≡ Err store.Memory → asks_memory ≡ false → all_up_to (contents mid) upto ≢ [])
      → IfErr said (λ e. e ≢ store.Exhausted) → IfErr said (λ e. IsTrue (may_fault e))
      → IsReleaseCall honest is_stopped contents others kept asks_memory may_fault old new answer
  release_then {mid = mid} upto said answer told look call place memory named faults = record {
    held = λ h. look.held (call.held h);
    place = place ∙ look.place;
    beside = λ h. call.beside h ∙ look.beside (call.held h);
    unchanged = λ h. if_err_by answer said (λ _. contents new ≡ contents old) told (err_on _ _ _ said (call.unchanged h) (look.same (call.held h)));
    device = λ is. call.device_stops (err_by answer said told store.Device is);
    runs_on = λ other. call.runs_on (λ is. other (err_by said answer (sym told) store.Device is)) ∙ look.runs_on (λ is. absurd (cc));
    memory = λ h is spares none.
        released_is_there (contents mid) upto (memory (err_by answer said told store.Memory is) spares) (ap rows_in (look.same (call.held h)) ∙ none);
    named = not_told answer store.Exhausted (if_err_by answer said (λ e. e ≢ store.Exhausted) told named);
    faults = if_err_by answer said (λ e. IsTrue (may_fault e)) told faults;
  }
    where
      err_on : {A : Type 0} (a b c : EventBuffer) (r : Result A StoreFault) → IfErr r (λ _. a ≡ b) → b ≡ c → IfErr r (λ _. a ≡ c)
      err_on a b c (Ok y) is more = tt
      err_on a b c (Err e) is more = is ∙ more

  -- a release, of lanes that stay then as they are
  pub release_to : {after : Store} {answer : Result Answer StoreFault} → after ≡ new
      → IsReleaseCall honest is_stopped contents others kept asks_memory may_fault old new answer
      → IsReleaseCall honest is_stopped contents others kept asks_memory may_fault old after answer
  release_to {answer = answer} same releases =
      subst (λ (s : Store). IsReleaseCall honest is_stopped contents others kept asks_memory may_fault old s answer) (sym same) releases

  pub release_keeps : (answer : Result Answer StoreFault) → IsReleaseCall honest is_stopped contents others kept asks_memory may_fault old new answer
      → KeepsLanes honest is_stopped contents others kept store.Device old new answer
  release_keeps answer releases = record {
    held = releases.held;
    place = releases.place;
    beside = releases.beside;
    unchanged = releases.unchanged;
    runs_on = releases.runs_on;
  }

-- outputs that perform nothing and stay as they are
pub idle_keeps : {Store Answer : Type 0} (honest : Store → Type 0) (is_stopped : Store → Bool) (panel : Store → Panel)
    (performs : Store → List Command → Store → Type 0) (exhausts : Store → List Command → Type 0) (can_exhaust : Bool)
    (commands : List Command) (old : Store) (answer : Result Answer StoreFault) → commands ≡ [] → IfErr answer (λ e. e ≢ store.Exhausted)
    → KeepsOutputs honest is_stopped panel performs exhausts can_exhaust store.Exhausted store.Device commands old old answer
idle_keeps honest is_stopped panel performs exhausts can_exhaust commands old (Ok x) none named = record {
  held = λ h. h;
  idle = λ _. refl;
  performed = λ _ some. absurd (some none);
  unchanged = λ _. tt;
  undone = λ _. tt;
  may_exhaust = λ is. absurd (cc);
  exhausted = λ _ is. absurd (cc);
  not_exhausted = λ _ some _. some none;
  runs_on = λ _. refl;
}
idle_keeps {Answer = Answer} honest is_stopped panel performs exhausts can_exhaust commands old (Err e) none named = record {
  held = λ h. h;
  idle = λ _. refl;
  performed = λ _. tt;
  unchanged = λ _. refl;
  undone = λ _. inl refl;
  may_exhaust = λ is. absurd (named (same is));
  exhausted = λ _ is. absurd (named (same is));
  not_exhausted = λ _. tt;
  runs_on = λ _. refl;
}
  where
    same : (let told : Result Answer StoreFault = Err e in told) ≡ Err store.Exhausted → e ≡ store.Exhausted
    same is = cc

-- outputs that are not called where something else is refused
pub untouched_keeps : {Store Answer : Type 0} (honest : Store → Type 0) (is_stopped : Store → Bool) (panel : Store → Panel)
    (performs : Store → List Command → Store → Type 0) (exhausts : Store → List Command → Type 0) (can_exhaust : Bool)
    (commands : List Command) (old : Store) (e : StoreFault) (answer : Result Answer StoreFault) → result_err answer ≡ Some e → e ≢ store.Exhausted
    → KeepsOutputs honest is_stopped panel performs exhausts can_exhaust store.Exhausted store.Device commands old old answer
untouched_keeps honest is_stopped panel performs exhausts can_exhaust commands old e (Ok x) told named = absurd (cc)
untouched_keeps {Answer = Answer} honest is_stopped panel performs exhausts can_exhaust commands old e (Err f) told named = record {
  held = λ h. h;
  idle = λ _. refl;
  performed = λ _. tt;
  unchanged = λ _. refl;
  undone = λ _. inl refl;
  may_exhaust = λ is. absurd (named (same is));
  exhausted = λ _ is. absurd (named (same is));
  not_exhausted = λ _. tt;
  runs_on = λ _. refl;
}
  where
    same : (let answer : Result Answer StoreFault = Err f in answer) ≡ Err store.Exhausted → e ≡ store.Exhausted
    same is = cc (is, told)
