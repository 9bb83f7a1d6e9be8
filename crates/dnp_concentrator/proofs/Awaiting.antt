-- A control whose SELECT or OPERATE is awaited: the open master is busy with that very task.
use Rattle.std.proofs.Common.{◌≡◌, ℕ, Bool, true, false, List, refl, sym, subst}
use Rattle.std.specs.Prelude.{Option, Some, None, Result, Ok, Err, IfSome, IfOk, cond, eqb, is_some, not, ◌&&◌}
use Rattle.std.specs.Option.{IsSomeAnd}
use Rattle.dnp_appfragment.specs.declared.fault.AppFault.{AppFault}
use Rattle.dnp_appfragment.specs.Fragments.{Answered, request_octets}
use Rattle.dnp_appfragment.specs.Meaning.{response_at}
use Rattle.dnp_controls.specs.declared.book.Entry.{Entry}
use Rattle.dnp_controls.specs.Book.{next_of}
use Rattle.dnp_master.specs.declared.fault.AskFault.{AskFault}
use Rattle.dnp_master.specs.declared.fault.MasterFault.{MasterFault}
use Rattle.dnp_master.specs.declared.outcome.Outcome.{Outcome}
use Rattle.dnp_master.specs.declared.request.OpenRequest.{OpenRequest}
use Rattle.dnp_master.specs.declared.task.Task.{Task}
use Rattle.dnp_master.specs.declared.task.Task.TheVariants.{Select, Operate}
use Rattle.dnp_master.specs.Calls as calls
use Rattle.dnp_master.specs.Outcomes.{command_for, echo_after, outcome_for}
use Rattle.dnp_master.specs.Requests.{is_good, request_for}
use Rattle.dnp_master.specs.Rows.{is_from_plan}
use Rattle.dnp_master.specs.State as master
use Rattle.dnp_master.specs.State.{State}
use Rattle.dnp_concentrator.specs.declared.progress.Progress.{Progress}
use Rattle.dnp_concentrator.specs.declared.progress.Stage.{Stage}
use Rattle.dnp_concentrator.specs.declared.progress.Stage.TheVariants.{Selecting, Selected, Operating, Known}
use Rattle.dnp_concentrator.specs.Awaiting.{AwaitsOwn, IsAwaited, awaited}
use Rattle.dnp_concentrator.specs.Relaying as relaying
use Rattle.dnp_concentrator.specs.Relaying.{Relaying, Step, Waits, Selects, Operates, Finishes, heard, progress_heard, status_of}

-- ---- the timer

pub ticked-awaits : (r : Relaying) (now : ℕ) → AwaitsOwn r → AwaitsOwn (relaying.ticked r now)
ticked-awaits r now own = go (master.is_timed_out r.master now)
  where
    go : (b : Bool) → AwaitsOwn (record r { master = cond b (master.closed r.master) r.master })
    go true = λ was_open. cc
    go false = own

-- ---- asking

-- nothing of an idle link is awaited
idle-awaits : (progress : Option Progress) (request : Option OpenRequest) → request ≡ None → IsAwaited progress request
    → (other : Option OpenRequest) → IsAwaited progress other
idle-awaits None request idle own other = tt
idle-awaits (Some p) request idle own other = go (awaited p.stage p.command) (subst (λ (o : Option OpenRequest). IsAwaited (Some p) o) idle own)
  where
    go : (task : Option Task) → IfSome task (λ t. IsSomeAnd {T = OpenRequest} None (λ was_open. was_open.task ≡ t))
        → IfSome task (λ t. IsSomeAnd other (λ was_open. was_open.task ≡ t))
    go None h = tt
    go (Some task) h = absurd h

-- ---- what comes

-- after the last fragment nothing is awaited
ended-awaits : (progress : Option Progress) (outcome : Outcome) (other : Option OpenRequest) → IsAwaited (progress_heard progress (Some outcome)) other
ended-awaits None outcome other = tt
ended-awaits (Some p) outcome other = by p.stage
  where
    selected : (b : Bool) (status : ℕ) → IfSome (awaited (cond b Selected (Known status)) p.command) (λ t. IsSomeAnd other (λ was_open. was_open.task ≡ t))
    selected true status = tt
    selected false status = tt

    by : (stage : Stage) → IfSome (awaited (heard stage outcome) p.command) (λ t. IsSomeAnd other (λ was_open. was_open.task ≡ t))
    by Selecting = selected (eqb (status_of outcome) 0) (status_of outcome)
    by Selected = tt
    by Operating = tt
    by (Known status) = tt

-- a further fragment is awaited for the same task
same-awaits : (progress : Option Progress) (request : Option OpenRequest) (old new : OpenRequest) → request ≡ Some old → new.task ≡ old.task
    → IsAwaited progress request → IsAwaited progress (Some new)
same-awaits None request old new is same own = tt
same-awaits (Some p) request old new is same own =
    go (awaited p.stage p.command) (subst (λ (o : Option OpenRequest). IsAwaited (Some p) o) is own)
  where
    go : (task : Option Task) → IfSome task (λ t. old.task ≡ t) → IfSome task (λ t. new.task ≡ t)
    go None h = tt
    go (Some task) h = subst (λ (t : Task). t ≡ task) (sym same) h

silent : (progress : Option Progress) → progress_heard progress None ≡ progress
silent None = refl
silent (Some p) = refl

-- what is taken leaves the task that is awaited
abbrev Keeps : Relaying → calls.Taking → Type 0
Keeps r t = AwaitsOwn (relaying.received r t)

unheeded-awaits : (r : Relaying) → AwaitsOwn r → Keeps r (calls.unheeded r.master)
unheeded-awaits r own was_open = subst (λ (p : Option Progress). IsAwaited p r.master.request) (sym (silent r.progress)) (own was_open)

from_plan : (b : Bool) (P : calls.Taking → Type 0) (t : calls.Taking) → P t → IfOk (cond b (Ok t) (Err MasterFault.Stranger)) P
from_plan true P t holds = holds
from_plan false P t holds = tt

-- one of two cases, and one of three
of_two : {Case : Type 0} (P : Case → Type 0) (first second : Case) (b : Bool) → P first → P second → P (cond b first second)
of_two P first second true here there = here
of_two P first second false here there = there

of_three : {Case : Type 0} (P : Case → Type 0) (first second third : Case) (a b : Bool) → P first → P second → P third
    → P (cond a first (cond b second third))
of_three P first second third true b one two three = one
of_three P first second third false true one two three = two
of_three P first second third false false one two three = three

-- the next fragment
next-awaits : (r : Relaying) (now : ℕ) (answered : Answered) (request : OpenRequest) → AwaitsOwn r → r.master.is_open ≡ true
    → r.master.request ≡ Some request
    → (fin : Bool) → Keeps r (cond fin (calls.ended r.master request answered) (calls.going_on r.master now request answered))
next-awaits r now answered request own is_open is true was_open =
    ended-awaits r.progress (outcome_for (command_for request.task) (echo_after (command_for request.task) request.echo answered.headers) answered.iin) None
next-awaits r now answered request own is_open is false was_open =
    subst (λ (p : Option Progress). IsAwaited p (calls.going_on r.master now request answered).state.request) (sym (silent r.progress))
    (same-awaits r.progress r.master.request request (record {
      task = request.task;
      has_begun = true;
      echo = echo_after (command_for request.task) request.echo answered.headers;
      ends = master.deadline now r.master.times.response_ms;
    }) is refl (own is_open))

solicited-awaits : (r : Relaying) (now : ℕ) (answered : Answered) → AwaitsOwn r → r.master.is_open ≡ true
    → (request : Option OpenRequest) → r.master.request ≡ request
    → IfOk (calls.checked (calls.case_by r.master.seq request answered.control) r.master.plan answered
    (calls.taken_as (calls.case_by r.master.seq request answered.control) r.master now answered)) (Keeps r)
solicited-awaits r now answered own is_open None is = unheeded-awaits r own
solicited-awaits r now answered own is_open (Some request) is =
    of_two (λ c. IfOk (calls.checked c r.master.plan answered (calls.taken_as c r.master now answered)) (Keeps r)) _ _
    (calls.is_next r.master.seq request answered.control)
    (from_plan (is_from_plan r.master.plan answered.headers) (Keeps r)
    (cond answered.control.fin (calls.ended r.master request answered) (calls.going_on r.master now request answered))
    (next-awaits r now answered request own is_open is answered.control.fin))
    (unheeded-awaits r own)

takes : (r : Relaying) (now : ℕ) (answered : Answered) → AwaitsOwn r → r.master.is_open ≡ true
    → IfOk (calls.response_of r.master now answered) (Keeps r)
takes r now answered own is_open =
    of_three (λ c. IfOk (calls.checked c r.master.plan answered (calls.taken_as c r.master now answered)) (Keeps r)) _ _ _
    (calls.is_report answered.function answered.control) (calls.is_solicited answered.function answered.control)
    (from_plan (is_from_plan r.master.plan answered.headers) (Keeps r) (calls.report_taken r.master answered) (unheeded-awaits r own))
    (solicited-awaits r now answered own is_open r.master.request refl)
    (unheeded-awaits r own)

hears : (r : Relaying) (now : ℕ) (answer : Result Answered AppFault) → AwaitsOwn r → r.master.is_open ≡ true
    → IfOk (calls.heard r.master now answer) (Keeps r)
hears r now (Err fault) own is_open = tt
hears r now (Ok answered) own is_open = takes r now answered own is_open

pub received-awaits : (r : Relaying) (now : ℕ) (octets : List ℕ) → AwaitsOwn r → IfOk (calls.receive_of r.master now octets) (Keeps r)
unfolding calls.receive_of
received-awaits r now octets own = by_open r.master.is_open refl
  where
    by_open : (o : Bool) → r.master.is_open ≡ o → IfOk (cond o (calls.heard r.master now (response_at octets)) (Ok (calls.unheeded r.master))) (Keeps r)
    by_open true is_open = hears r now (response_at octets) own is_open
    by_open false is_open = unheeded-awaits r own

-- ---- asking

taken : {X : Type 0} (P : X → Type 0) (b : Bool) (x y : X) → b ≡ true → P y → P (cond (not b) x y)
taken P true x y is p = p
taken P false x y is p = absurd (cc)

passed : {X : Type 0} (P : X → Type 0) (b : Bool) (x y : X) → b ≡ false → P y → P (cond b x y)
passed P true x y is p = absurd (cc)
passed P false x y is p = p

-- what is asked is awaited
asked-awaits : (s : State) (now : ℕ) (task : Task) → s.is_open ≡ true → is_some s.request ≡ false → calls.may_follow s.selected task ≡ true
    → is_good task ≡ true → IsSomeAnd (calls.asked s now task).request (λ was_open. was_open.task ≡ task)
asked-awaits s now task was_open idle may good =
    let Q : Result (List ℕ) AskFault → Type 0 = λ answer. IsSomeAnd (calls.asked_by s now task answer).request (λ was_open. was_open.task ≡ task) in
    let last : Result (List ℕ) AskFault = Ok (request_octets (request_for s.seq task)) in
    let third : Result (List ℕ) AskFault = cond (not (is_good task)) (Err AskFault.BadTask) last in
    let second : Result (List ℕ) AskFault = cond (not (calls.may_follow s.selected task)) (Err AskFault.NotSelected) third in
    let first : Result (List ℕ) AskFault = cond (is_some s.request) (Err AskFault.Busy) second in
    taken Q s.is_open (Err AskFault.Closed) first was_open (passed Q (is_some s.request) (Err AskFault.Busy) second idle
    (taken Q (calls.may_follow s.selected task) (Err AskFault.NotSelected) third may (taken Q (is_good task) (Err AskFault.BadTask) last good refl)))

-- a task of somebody else is asked of an idle master alone
pub asking-awaits : (r : Relaying) (now : ℕ) (task : Task) → AwaitsOwn r → AwaitsOwn (relaying.asking r now task)
asking-awaits r now task own = by (calls.ask_answer r.master task) refl
  where
    by : (answer : Result (List ℕ) AskFault) → calls.ask_answer r.master task ≡ answer
        → AwaitsOwn (record r { master = calls.asked_by r.master now task answer })
    by (Err fault) is = own
    by (Ok octets) is = λ was_open.
        idle-awaits r.progress r.master.request (idle r.master.is_open r.master.request is) (own was_open) (calls.asking r.master now task).request
      where
        idle : (o : Bool) (request : Option OpenRequest)
            → cond (not o) (Err AskFault.Closed) (cond (is_some request) (Err AskFault.Busy)
            (cond (not (calls.may_follow r.master.selected task)) (Err AskFault.NotSelected)
            (cond (not (is_good task)) (Err AskFault.BadTask) (Ok (request_octets (request_for r.master.seq task)))))) ≡ Ok octets
            → request ≡ None
        idle o None e = refl
        idle true (Some request) e = absurd (cc)
        idle false (Some request) e = absurd (cc)

-- ---- a step

-- what an OPERATE needs
abbrev Fits : Relaying → Step → Type 0
Fits r Waits = Unit {0}
Fits r (Selects id command) = Unit {0}
Fits r (Operates id command) = calls.is_selected r.master.selected command ≡ true
Fits r (Finishes id status) = Unit {0}

fits-progress : (r : Relaying) (p : Progress) (stage : Stage) → Fits r (relaying.step_of_progress r.master.selected p stage)
fits-progress r p Selecting = tt
fits-progress r p Operating = tt
fits-progress r p (Known status) = tt
fits-progress r p Selected = by (calls.is_selected r.master.selected p.command) refl
  where
    by : (b : Bool) → calls.is_selected r.master.selected p.command ≡ b → Fits r (cond b (Operates p.id p.command) (Selects p.id p.command))
    by true is = is
    by false is = tt

fits-entry : (r : Relaying) (entry : Option Entry) → Fits r (relaying.step_of_entry entry)
fits-entry r None = tt
fits-entry r (Some entry) = tt

fits-by : (r : Relaying) (progress : Option Progress) (entries : List Entry) (target : ℕ)
    → Fits r (relaying.step_by progress r.master.selected entries target)
fits-by r None entries target = fits-entry r (next_of entries target)
fits-by r (Some p) entries target = fits-progress r p p.stage

stepped : (r : Relaying) (now : ℕ) (step : Step) → AwaitsOwn r → r.master.is_open ≡ true → is_some r.master.request ≡ false → Fits r step
    → AwaitsOwn (relaying.relaying_after r now step)
stepped r now Waits own was_open idle fits = own
stepped r now (Selects id command) own was_open idle fits = λ _. asked-awaits r.master now (Select command) was_open idle refl refl
stepped r now (Operates id command) own was_open idle fits = λ _. asked-awaits r.master now (Operate command) was_open idle fits refl
stepped r now (Finishes id status) own was_open idle fits = λ _. tt

pub relayed-awaits : (r : Relaying) (now : ℕ) (entries : List Entry) (target : ℕ) → AwaitsOwn r
    → AwaitsOwn (relaying.relaying_after r now (relaying.step_of r entries target))
relayed-awaits r now entries target own = by r.master.is_open (is_some r.master.request) refl refl
  where
    by : (o busy : Bool) → r.master.is_open ≡ o → is_some r.master.request ≡ busy
        → AwaitsOwn (relaying.relaying_after r now (cond (o && not busy) (relaying.step_by r.progress r.master.selected entries target) Waits))
    by true false was_open idle =
        stepped r now (relaying.step_by r.progress r.master.selected entries target) own was_open idle (fits-by r r.progress entries target)
    by true true was_open idle = own
    by false busy was_open idle = own
