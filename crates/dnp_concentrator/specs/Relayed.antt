-- Definition: what a step of relaying answers, and what it leaves of the book that was lent to it.
use Rattle.std.specs.Prelude.{◌≡◌, ◌≢◌, ℕ, ◌==◌, Bool, true, false, not, ◌&&◌, IsTrue, List, [], ◌∷◌, ◌++◌, Option, Some, None, IfSome, Result, Err, IsOk, IfErr, ⊤}
use Rattle.std.specs.Option.{IsSomeAnd}
use Rattle.dnp_objects.specs.declared.command.Command.{Command}
use Rattle.arrayvec.specs.ArrayVec.{ArrayVec}
use Rattle.dnp_appfragment.specs.Fragments.{request_octets}
use Rattle.dnp_controls.specs.declared.book.BookFault.{BookFault}
use Rattle.dnp_controls.specs.declared.book.BookFault.TheVariants.{NoControl, NotPending, Exhausted, Memory, Device}
use Rattle.dnp_controls.specs.declared.book.Entry.{Entry}
use Rattle.dnp_controls.specs.declared.book.State as entry
use Rattle.dnp_controls.specs.declared.book.State.TheVariants.{Pending, Spent, Finished}
use Rattle.dnp_controls.specs.Book.{Ledger, Has, entry_of, is_finished, is_pending}
use Rattle.dnp_controls.specs.Moves.{AreGranted, Move, Spend, Finish, IsNext, after}
use Rattle.dnp_master.specs.declared.task.Task.{Task}
use Rattle.dnp_master.specs.declared.task.Task.TheVariants.{Select, Operate}
use Rattle.dnp_master.specs.Calls.{is_selected}
use Rattle.dnp_master.specs.Requests.{request_for}
use Rattle.dnp_master.specs.State.{is_idle}
use Rattle.dnp_concentrator.specs.declared.progress.Progress.{Progress}
use Rattle.dnp_concentrator.specs.declared.progress.Stage.{Stage}
use Rattle.dnp_concentrator.specs.declared.progress.Stage.TheVariants.{Selecting, Selected, Operating, Known}
use Rattle.dnp_concentrator.specs.declared.relayed.Relayed.{Relayed}
use Rattle.dnp_concentrator.specs.declared.relayed.Relayed.TheVariants as relayed
use Rattle.dnp_concentrator.specs.declared.relayed.RelayedStep.{RelayedStep}
use Rattle.dnp_concentrator.specs.declared.relayed.RelayedStep.TheVariants as relayed_step
use Rattle.dnp_concentrator.specs.Relaying.{Relaying, Step, Waits, Selects, Operates, Finishes, step_of}

-- ---- what is answered

abbrev pub IsRequest : List ℕ → ℕ → Task → Type 0
IsRequest octets seq task = octets ≡ request_octets (request_for seq task)

-- the answer tells the step, with the request that has the master's sequence number
abbrev pub Tells : ℕ → Step → Relayed → Type 0
Tells seq Waits relayed.Nothing = ⊤
Tells seq (Selects id command) (relayed.Selecting told request) = (told ≡ id) × IsRequest request.items seq (Select command)
Tells seq (Operates id command) (relayed.Sent told request) = (told ≡ id) × IsRequest request.items seq (Operate command)
Tells seq (Finishes id status) (relayed.Finished told told_status) = (told ≡ id) × (told_status ≡ status)
Tells seq _ _ = ⊥

-- an answer whose request, if it has one, stands in this fragment
abbrev pub with_request : RelayedStep → ArrayVec ℕ → Relayed
with_request relayed_step.Nothing request = relayed.Nothing
with_request (relayed_step.Selecting id) request = relayed.Selecting id request
with_request (relayed_step.Sent id) request = relayed.Sent id request
with_request (relayed_step.Finished id status) request = relayed.Finished id status

-- it has one
abbrev pub has_request : RelayedStep → Bool
has_request relayed_step.Nothing = false
has_request (relayed_step.Selecting id) = true
has_request (relayed_step.Sent id) = true
has_request (relayed_step.Finished id status) = false

-- the calls of the book that an answer tells of
abbrev pub moves_of : Relayed → List Move
moves_of relayed.Nothing = []
moves_of (relayed.Selecting id request) = []
moves_of (relayed.Sent id request) = Spend id ∷ []
moves_of (relayed.Finished id status) = Finish id status ∷ []

-- the answer sends the OPERATE of this control
abbrev pub is_sent_of : ℕ → Relayed → Bool
is_sent_of id relayed.Nothing = false
is_sent_of id (relayed.Selecting other request) = false
is_sent_of id (relayed.Sent other request) = other == id
is_sent_of id (relayed.Finished other status) = false

-- the calls of the book over some steps of relaying, before each of which others may have called it
abbrev pub moves_through : List (List Move × Relayed) → List Move
moves_through [] = []
moves_through (step ∷ steps) = step.0 ++ (moves_of step.1 ++ moves_through steps)

-- each of the steps, and each call before it, was granted by the book as it stood then
abbrev pub IsRun : Ledger → List (List Move × Relayed) → Type 0
IsRun book [] = Unit {0}
IsRun book (step ∷ steps) =
    AreGranted book step.0 × AreGranted (after book step.0) (moves_of step.1) × IsRun (after (after book step.0) (moves_of step.1)) steps

-- of an OPERATE that is sent, by its control's id
abbrev pub IfSent : Relayed → (ℕ → Type 0) → Type 0
IfSent relayed.Nothing P = ⊤
IfSent (relayed.Selecting id request) P = ⊤
IfSent (relayed.Sent id request) P = P id
IfSent (relayed.Finished id status) P = ⊤

-- of a SELECT that is sent
abbrev pub IfSelecting : Relayed → (ℕ → Type 0) → Type 0
IfSelecting relayed.Nothing P = ⊤
IfSelecting (relayed.Selecting id request) P = P id
IfSelecting (relayed.Sent id request) P = ⊤
IfSelecting (relayed.Finished id status) P = ⊤

abbrev pub is_spent : entry.State → Bool
is_spent Pending = false
is_spent Spent = true
is_spent (Finished status) = false

-- this very call spends the control: it was pending, and is spent
pub record IsSpentBy (old new : Ledger) (id : ℕ) : Type 0 where
  pub was_pending : Has old.entries id is_pending
  pub is_spent : Has new.entries id is_spent

-- of the pending controls for the target the one of this id has the least
abbrev pub IsLeast : List Entry → ℕ → ℕ → Type 0
IsLeast entries target id = (entry : Entry) × (entry.id ≡ id) × IsNext entries target entry

-- the control in progress is one of the book's for the target
abbrev pub IsOf : List Entry → ℕ → Option Progress → Type 0
IsOf entries target progress =
    IfSome progress (λ p. IsSomeAnd (entry_of entries p.id) (λ entry. (entry.target ≡ target) × (entry.command ≡ p.command)))

-- the entry is past the step: that of an OPERATE is not pending any more, and that of a finish is finished
abbrev pub IsPast : List Entry → Step → Type 0
IsPast entries Waits = ⊥
IsPast entries (Selects id command) = ⊥
IsPast entries (Operates id command) = Has entries id (λ state. not (is_pending state))
IsPast entries (Finishes id status) = Has entries id is_finished

-- ---- what a call leaves of the book that was lent to it

-- the step needs the book
abbrev pub asks_stage : Option Command → Progress → Stage → Bool
asks_stage selected p (Known status) = true
asks_stage selected p Selected = is_selected selected p.command
asks_stage selected p Selecting = false
asks_stage selected p Operating = false

abbrev pub asks_progress : Option Progress → Option Command → Bool
asks_progress (Some p) selected = asks_stage selected p p.stage
asks_progress None selected = true

abbrev pub asks_book : Relaying → Bool
asks_book r = is_idle r.master && asks_progress r.progress r.master.selected

-- What a call of at most one writing call of the book leaves of it, by the book before and after it and the call's answer.
pub record LeavesBook {Book Answer Fault : Type 0} (honest : Book → Type 0) (is_stopped : Book → Bool) (contents : Book → Ledger)
    (device : Fault) (old new : Book) (answer : Result Answer Fault) : Type 0 where
  -- an honest book was honest before
  pub held : honest new → honest old
  -- a refusal changes nothing
  pub unchanged : honest new → IfErr answer (λ _. contents new ≡ contents old)
  -- Device stops it, and nothing else does
  pub device_stops : answer ≡ Err device → IsTrue (is_stopped new)
  pub runs_on : answer ≢ Err device → is_stopped new ≡ is_stopped old

-- What a step of relaying over this link, for this target, leaves of the book, and when the book refuses it.
pub record GoesByBook {Book Answer : Type 0} (honest : Book → Type 0) (is_stopped : Book → Bool) (contents : Book → Ledger) (asks_memory : Bool)
    (link : Relaying) (target : ℕ) (old new : Book) (answer : Result Answer BookFault) : Type 0 where
  -- an honest book was honest before
  pub held : honest new → honest old
  -- a refusal changes nothing
  pub unchanged : honest new → IfErr answer (λ _. contents new ≡ contents old)
  -- Device stops it, and nothing else does
  pub device_stops : answer ≡ Err Device → IsTrue (is_stopped new)
  pub runs_on : answer ≢ Err Device → is_stopped new ≡ is_stopped old
  pub named : IfErr answer (λ e. e ≢ Exhausted)
  pub no_control : honest new → answer ≡ Err NoControl → IsSomeAnd link.progress (λ p. entry_of (contents old).entries p.id ≡ None)
  pub not_pending : honest new → answer ≡ Err NotPending
      → IsSomeAnd link.progress (λ p. Has (contents old).entries p.id (λ state. not (is_pending state)))
  pub past : honest new → answer ≡ Err NotPending → IsPast (contents old).entries (step_of link (contents old).entries target)
  pub memory : answer ≡ Err Memory → IsTrue asks_memory
  -- where the step needs no book, none is asked, and nothing refused
  pub unasked : asks_book link ≡ false → (new ≡ old) × IsOk answer
  pub stopped : asks_book link ≡ true → IsTrue (is_stopped old) → answer ≡ Err Device
