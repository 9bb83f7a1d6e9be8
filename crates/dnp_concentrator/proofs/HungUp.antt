-- What a hang-up leaves of a link comes of its master's points and times alone, which no call of the link changes.
use Rattle.std.proofs.Common.{◌≡◌, ◌⊎◌, inl, inr, ℕ, Bool, true, false, if◌then◌else◌, List, [], ◌∷◌, map, Option, None, Some, Result, Ok, Err, IfOk, refl, ap}
use Rattle.std.proofs.lemmas.Bool.{cases_Bool}
use Rattle.dnp_appfragment.specs.declared.fault.AppFault.{AppFault}
use Rattle.dnp_appfragment.specs.Fragments.{Answered}
use Rattle.dnp_appfragment.specs.Meaning.{response_at}
use Rattle.dnp_master.specs.declared.fault.AskFault.{AskFault}
use Rattle.dnp_master.specs.declared.fault.MasterFault.{MasterFault}
use Rattle.dnp_master.specs.declared.fault.MasterFault.TheVariants.{Stranger}
use Rattle.dnp_master.specs.declared.request.OpenRequest.{OpenRequest}
use Rattle.dnp_master.specs.declared.task.Task.{Task}
use Rattle.dnp_master.specs.declared.task.Task.TheVariants.{Select, Operate}
use Rattle.dnp_master.specs.Calls.{Taking, ask_answer, asked_by, case_by, checked, ended, going_on, heard, if_from_plan, is_next, is_report, is_solicited, receive_of, report_taken, response_of, taken_as, unheeded}
use Rattle.dnp_master.specs.Rows.{is_from_plan}
use Rattle.dnp_master.specs.State.{State, closed, is_timed_out}
use Rattle.dnp_pointdb.specs.declared.times.Times.{Times}
use Rattle.dnp_concentrator.specs.Below.{new_link}
use Rattle.dnp_concentrator.specs.declared.plan.SubPlan.{SubPlan}
use Rattle.dnp_concentrator.specs.Relaying.{Relaying, Step, hung_up, received, relaying_after, ticked}
use Rattle.dnp_concentrator.specs.Relaying.Step.{Finishes, Operates, Selects, Waits}

-- ---- a master

asked_closes : (s : State) (now : ℕ) (task : Task) (answer : Result (List ℕ) AskFault) → closed (asked_by s now task answer) ≡ closed s
asked_closes s now task (Ok octets) = refl
asked_closes s now task (Err fault) = refl

pub asking_closes : (s : State) (now : ℕ) (task : Task) → closed (asked_by s now task (ask_answer s task)) ≡ closed s
asking_closes s now task = asked_closes s now task (ask_answer s task)

abbrev Closes : State → Taking → Type 0
Closes s t = closed t.state ≡ closed s

if_passed : (P : Taking → Type 0) (b : Bool) (t : Taking) → P t → IfOk (if b then Ok t else Err Stranger) P
if_passed P true t h = h
if_passed P false t h = tt

-- a response to this request
awaited_closes : (s : State) (now : ℕ) (request : OpenRequest) (answered : Answered)
    → IfOk (if_from_plan s.plan answered (if answered.control.fin then ended s request answered else going_on s now request answered)) (Closes s)
awaited_closes s now request answered =
    if_passed (Closes s) (is_from_plan s.plan answered.headers)
    (if answered.control.fin then ended s request answered else going_on s now request answered) (by answered.control.fin)
  where
    by : (b : Bool) → Closes s (if b then ended s request answered else going_on s now request answered)
    by true = refl
    by false = refl

some_or_none : {A : Type 0} (o : Option A) → (o ≡ None) ⊎ ((x : A) × (o ≡ Some x))
some_or_none None = inl refl
some_or_none (Some x) = inr (x, refl)

solicited_closes : (s : State) (now : ℕ) (answered : Answered)
    → IfOk (checked (case_by s.seq s.request answered.control) s.plan answered
    (taken_as (case_by s.seq s.request answered.control) s now answered)) (Closes s)
solicited_closes s now answered =
    elim (some_or_none s.request) [
      | inl none ↦ rw none refl
      | inr some ↦ rw some.1 (elim (cases_Bool (is_next s.seq some.0 answered.control)) [
        | inl next ↦ rw next (awaited_closes s now some.0 answered)
        | inr other ↦ rw other refl
      ])
    ]

response_closes : (s : State) (now : ℕ) (answered : Answered) → IfOk (response_of s now answered) (Closes s)
response_closes s now answered =
    elim (cases_Bool (is_report answered.function answered.control)) [
      | inl report ↦ rw report (if_passed (Closes s) (is_from_plan s.plan answered.headers) (report_taken s answered) refl)
      | inr none ↦ rw none (elim (cases_Bool (is_solicited answered.function answered.control)) [
        | inl solicited ↦ rw solicited (solicited_closes s now answered)
        | inr other ↦ rw other refl
      ])
    ]

heard_closes : (s : State) (now : ℕ) (r : Result Answered AppFault) → IfOk (heard s now r) (Closes s)
heard_closes s now (Err fault) = tt
heard_closes s now (Ok answered) = response_closes s now answered

opened_closes : (s : State) (b : Bool) (r : Result Taking MasterFault) → IfOk r (Closes s) → IfOk (if b then r else Ok (unheeded s)) (Closes s)
opened_closes s true r h = h
opened_closes s false r h = refl

pub receiving_closes : (s : State) (now : ℕ) (octets : List ℕ) → IfOk (receive_of s now octets) (Closes s)
unfolding receive_of
receiving_closes s now octets = opened_closes s s.is_open (heard s now (response_at octets)) (heard_closes s now (response_at octets))

-- ---- a link

closed_hangs_up : (r s : Relaying) → closed r.master ≡ closed s.master → hung_up r ≡ hung_up s
closed_hangs_up r s same = ap (λ (m : State). let h : Relaying = record { master = m; progress = None } in h) same

pub ticked_hangs_up : (r : Relaying) (now : ℕ) → hung_up (ticked r now) ≡ hung_up r
ticked_hangs_up r now = closed_hangs_up (ticked r now) r (by (is_timed_out r.master now))
  where
    by : (b : Bool) → closed (if b then closed r.master else r.master) ≡ closed r.master
    by true = refl
    by false = refl

pub asked_hangs_up : (r : Relaying) (now : ℕ) (task : Task) → hung_up (record r { master = asked_by r.master now task (ask_answer r.master task) }) ≡ hung_up r
asked_hangs_up r now task =
    closed_hangs_up (record r { master = asked_by r.master now task (ask_answer r.master task) }) r (asking_closes r.master now task)

pub received_hangs_up : (r : Relaying) (now : ℕ) (octets : List ℕ) → IfOk (receive_of r.master now octets) (λ t. hung_up (received r t) ≡ hung_up r)
received_hangs_up r now octets = by (receive_of r.master now octets) (receiving_closes r.master now octets)
  where
    by : (answer : Result Taking MasterFault) → IfOk answer (Closes r.master) → IfOk answer (λ t. hung_up (received r t) ≡ hung_up r)
    by (Ok t) same = closed_hangs_up (received r t) r same
    by (Err fault) same = tt

pub relayed_hangs_up : (r : Relaying) (now : ℕ) (step : Step) → hung_up (relaying_after r now step) ≡ hung_up r
relayed_hangs_up r now Waits = refl
relayed_hangs_up r now (Selects id command) = closed_hangs_up (relaying_after r now (Selects id command)) r (asking_closes r.master now (Select command))
relayed_hangs_up r now (Operates id command) = closed_hangs_up (relaying_after r now (Operates id command)) r (asking_closes r.master now (Operate command))
relayed_hangs_up r now (Finishes id status) = refl

-- new links are hung up
pub new_hung_up : (times : Times) (substations : List SubPlan) → map hung_up (map (new_link times) substations) ≡ map (new_link times) substations
new_hung_up times [] = refl
new_hung_up times (substation ∷ rest) = ap (λ (links : List Relaying). new_link times substation ∷ links) (new_hung_up times rest)
