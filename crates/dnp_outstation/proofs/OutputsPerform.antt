-- Outputs that have to perform commands: they did, or refused it, or there were none.
use Rattle.std.proofs.Common.{◌≡◌, ◌≢◌, refl, sym, ap, subst, ◌∙◌, ℕ, Bool, true, false, IsTrue, cond, ◌==◌, ◌||◌, List, [], ◌∷◌, ◌++◌, None, Some, Result, Ok, Err, append-nil}
use Rattle.std.specs.List.{list_any}
use Rattle.dnp_objects.specs.Status as status
use Rattle.dnp_objects.specs.declared.command.Command.{Command}
use Rattle.dnp_objects.specs.declared.store.StoreFault.{StoreFault}
use Rattle.dnp_objects.specs.declared.store.StoreFault.TheVariants as store
use Rattle.dnp_controls.specs.Calls.{IsOutputsCall}
use Rattle.dnp_controls.specs.Panel.{Panel, accepted}
use Rattle.dnp_outstation.specs.steps.Performing.{IsPerforming}

-- ---- whether one of them is accepted

pub some_accepted : (check : Command → ℕ) (commands : List Command) → list_any (λ c. check c == status.success) commands ≡ true
    → accepted check commands ≢ []
some_accepted check [] is = λ none. cc
some_accepted check (c ∷ cs) is = here (check c == status.success) is (some_accepted check cs)
  where
    here : (b : Bool) → (b || list_any (λ c. check c == status.success) cs) ≡ true
        → (list_any (λ c. check c == status.success) cs ≡ true → accepted check cs ≢ []) → cond b (c ∷ accepted check cs) (accepted check cs) ≢ []
    here true is on = λ none. cc
    here false is on = on is

pub none_accepted : (check : Command → ℕ) (commands : List Command) → list_any (λ c. check c == status.success) commands ≡ false
    → accepted check commands ≡ []
none_accepted check [] is = refl
none_accepted check (c ∷ cs) is = here (check c == status.success) is (none_accepted check cs)
  where
    here : (b : Bool) → (b || list_any (λ c. check c == status.success) cs) ≡ false
        → (list_any (λ c. check c == status.success) cs ≡ false → accepted check cs ≡ []) → cond b (c ∷ accepted check cs) (accepted check cs) ≡ []
    here true is on = cc
    here false is on = on is

-- ---- the three ways in which it ends

module _ {Outputs : Type 0} (honest : Outputs → Type 0) (is_stopped : Outputs → Bool) (panel : Outputs → Panel)
    (performs : Outputs → List Command → Outputs → Type 0) (exhausts : Outputs → List Command → Type 0) (may_fault : StoreFault → Bool)
    (commands : List Command) (old new : Outputs) where
  pub all_performed : {Answer : Type 0} (x : Answer) → commands ≢ []
      → IsOutputsCall honest is_stopped panel performs (commands ≢ []) old new (Ok x)
      → (panel new).most ≡ (panel old).most → (panel new).outputs ≡ (panel old).outputs
      → (honest new → performs old commands new) → (honest new → (panel new).performed ≡ (panel old).performed ++ commands)
      → (honest new → exhausts old commands → ⊥)
      → IsPerforming honest is_stopped panel performs exhausts may_fault commands old new None
  all_performed x some call most outputs done listed enough = record {
    held = call.held;
    serves = λ _. call.serves;
    same_most = most;
    same_outputs = outputs;
    idle = λ none. absurd (some none);
    asks = λ fault. some;
    performed = λ h _ _. done h;
    listed = λ h _. listed h;
    not_exhausted = λ h _ _. enough h;
    unchanged = λ _. tt;
    exhausted = λ h is. cc;
    exhausted_first = λ h is. cc;
    named = tt;
    device_stops = λ is. cc;
    runs_on = λ _. call.runs_on (λ is. cc);
    stays = λ stopped _. let is = call.stays stopped some in cc;
  }

  pub none_performed : {Answer : Type 0} (fault : StoreFault) → commands ≢ []
      → IsOutputsCall {Answer = Answer} honest is_stopped panel performs (commands ≢ []) old new (Err fault)
      → (panel new).most ≡ (panel old).most → (panel new).outputs ≡ (panel old).outputs
      → (honest new → fault ≡ store.Exhausted → exhausts old commands)
      → (honest new → fault ≡ store.Memory → exhausts old commands → ⊥) → IsTrue (may_fault fault)
      → IsPerforming honest is_stopped panel performs exhausts may_fault commands old new (Some fault)
  none_performed {Answer} fault some call most outputs exhausted first named = record {
    held = call.held;
    serves = λ _. call.serves;
    same_most = most;
    same_outputs = outputs;
    idle = λ none. absurd (some none);
    asks = λ _. some;
    performed = λ h is. cc;
    listed = λ h is. cc;
    not_exhausted = λ h is. cc;
    unchanged = call.unchanged;
    exhausted = λ h is. exhausted h (fault_is is);
    exhausted_first = λ h is. first h (fault_is is);
    named = named;
    device_stops = λ is. call.device_stops (ap (λ (e : StoreFault). let r : Result Answer StoreFault = Err e in r) (fault_is is));
    runs_on = λ not. call.runs_on (λ is. not (told_is is));
    stays = λ stopped _. told_is (call.stays stopped some);
  }
    where
      fault_is : {e : StoreFault} → Some fault ≡ Some e → fault ≡ e
      fault_is is = cc

      told_is : {e : StoreFault} → ◌≡◌ {A = Result Answer StoreFault} (Err fault) (Err e) → Some fault ≡ Some e
      told_is is = cc

  pub nothing_performed : commands ≡ [] → new ≡ old → IsPerforming honest is_stopped panel performs exhausts may_fault commands old new None
  nothing_performed none same = record {
    held = λ h. subst honest same h;
    serves = λ some. absurd (some none);
    same_most = ap (λ o. (panel o).most) same;
    same_outputs = ap (λ o. (panel o).outputs) same;
    idle = λ _. same;
    asks = λ fault. cc;
    performed = λ _ _ some. absurd (some none);
    listed = λ _ _. ap (λ o. (panel o).performed) same ∙ sym (append-nil (panel old).performed)
        ∙ ap (λ (cs : List Command). (panel old).performed ++ cs) (sym none);
    not_exhausted = λ _ _ some. absurd (some none);
    unchanged = λ _. tt;
    exhausted = λ h is. cc;
    exhausted_first = λ h is. cc;
    named = tt;
    device_stops = λ is. cc;
    runs_on = λ _. ap is_stopped same;
    stays = λ _ some. absurd (some none);
  }
