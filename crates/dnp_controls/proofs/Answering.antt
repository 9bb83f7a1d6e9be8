-- What an OPERATE is answered.
use Rattle.std.proofs.Common.{◌≡◌, ℕ, ◌+◌, ◌%◌, ◌<◌, Bool, true, false, List, [], ◌∷◌, ◌++◌, refl, arith}
use Rattle.std.specs.Prelude.{Some, None, eqb, cond, nat_eq, nat_lt, ◌&&◌, ◌↔◌}
use Rattle.std.specs.Cmp.Lexicographic.{pointwise}
use Rattle.std.specs.Bool.{Decides}
use Rattle.std.proofs.lemmas.Bool.Decides.{Decides-eqb, Decides-ltb}
use Rattle.std.proofs.lemmas.Slice.Eq.{bytes_eq-Decides}
use Rattle.dnp_controls.specs.declared.limits.TheConstants.{SEQUENCE_NUMBERS}
use Rattle.dnp_controls.specs.Selecting.{Select, SelectCall, Selecting, Operating, Forgetting, standing, GoesWith, goes_with, IsRunning, HasEnded, deadline, answer, MakesNoSelect}

-- the test of going together says what going together is
goes_with-Decides : (select : Select) (seq : ℕ) (octets : List ℕ) → Decides (goes_with select seq octets) (GoesWith select seq octets)
goes_with-Decides select seq octets =
    let now : ℕ = seq % SEQUENCE_NUMBERS in
    let next : ℕ = (select.seq + 1) % SEQUENCE_NUMBERS in
    go (eqb now next) (pointwise nat_eq octets select.octets) (Decides-eqb now next) (bytes_eq-Decides octets select.octets)
  where
    go : (a b : Bool) → Decides a (seq % SEQUENCE_NUMBERS ≡ (select.seq + 1) % SEQUENCE_NUMBERS) → Decides b (octets ≡ select.octets)
        → Decides (a && b) (GoesWith select seq octets)
    go true true da db = (λ _. record { next_number = da.0 refl; same_octets = db.0 refl }, λ _. refl)
    go true false da db = (λ h. cc, λ with'. db.1 with'.same_octets)
    go false b da db = (λ h. cc, λ with'. da.1 with'.next_number)

-- the status by the two tests
status_by : Bool → Bool → ℕ
status_by goes runs = cond goes (cond runs 0 1) 2

-- what a select makes of the answer
pub record AnswersRightly (select : Select) (now seq : ℕ) (octets : List ℕ) (time status : ℕ) : Type 0 where
  pub success : (status ≡ 0) ↔ (GoesWith select seq octets × IsRunning select time now)
  pub timeout : (status ≡ 1) ↔ (GoesWith select seq octets × HasEnded select time now)
  pub no_select : (status ≡ 2) ↔ (GoesWith select seq octets → ⊥)

pub answers-rightly : (select : Select) (now seq : ℕ) (octets : List ℕ) (time : ℕ)
    → AnswersRightly select now seq octets time (answer (Some select) now seq octets time)
unfolding status_by
answers-rightly select now seq octets time =
    go (goes_with select seq octets) (nat_lt now (deadline select.at time)) (goes_with-Decides select seq octets) (Decides-ltb now (deadline select.at time))
  where
    go : (a b : Bool) → Decides a (GoesWith select seq octets) → Decides b (now < deadline select.at time)
        → AnswersRightly select now seq octets time (status_by a b)
    go true true da db = record {
      success = (λ _. (da.0 refl, db.0 refl), λ _. refl);
      timeout = (λ e. absurd (omega arith), λ h. let runs : now < deadline select.at time = db.0 refl in let ended = h.1 in absurd (omega arith));
      no_select = (λ e. absurd (omega arith), λ h. absurd (h (da.0 refl)));
    }
    go true false da db = record {
      success = (λ e. absurd (omega arith), λ h. let f : false ≡ true = db.1 h.1 in cc);
      timeout = (λ _. (da.0 refl, let f : (now < deadline select.at time) → ⊥ = (λ r. let f : false ≡ true = db.1 r in cc) in omega arith), λ _. refl);
      no_select = (λ e. absurd (omega arith), λ h. absurd (h (da.0 refl)));
    }
    go false b da db = record {
      success = (λ e. absurd (omega arith), λ h. let f : false ≡ true = da.1 h.0 in cc);
      timeout = (λ e. absurd (omega arith), λ h. let f : false ≡ true = da.1 h.0 in cc);
      no_select = (λ _ g. let f : false ≡ true = da.1 g in cc, λ _. refl);
    }

-- after an OPERATE, or once they were forgotten, nothing stands until a select is made
pub nothing-stands : (calls more : List SelectCall) → standing calls ≡ None → MakesNoSelect more → standing (more ++ calls) ≡ None
nothing-stands calls [] none no_select' = none
nothing-stands calls (Selecting select ∷ more) none made = absurd made
nothing-stands calls (Operating ∷ more) none not_made = refl
nothing-stands calls (Forgetting ∷ more) none not_made = refl
