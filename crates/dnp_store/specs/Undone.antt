-- Definition: what the writing calls of lanes, of a journal and of a book make of them, one after the other.
use Rattle.std.specs.Prelude.{◌≡◌, ◌⊎◌, ℕ, zero, suc, List, not}
use Rattle.dnp_controls.specs.Book.{Has, IsSoundLedger, Ledger, added, finished, is_finished, is_pending, spent}
use Rattle.dnp_objects.specs.declared.command.Command.{Command}
use Rattle.dnp_objects.specs.declared.lane.LaneRow.{LaneRow}
use Rattle.dnp_objects.specs.declared.row.Row.{Row}
use Rattle.dnp_eventbuf.specs.Archive.{Archive, with_events}
use Rattle.dnp_eventbuf.specs.EventBuffer.{EventBuffer, with_rows, without, without_all}

-- a call made the second lanes of the first: it put rows in, took out those up to each lane's number, or took all out
abbrev pub Writes : EventBuffer → EventBuffer → Type 0
Writes before after =
    ((rows : List LaneRow) × (after ≡ with_rows before rows)) ⊎ (((upto : List ℕ) × (after ≡ without before upto)) ⊎ (after ≡ without_all before))

-- a call put events into a journal
abbrev pub Appends : Archive → Archive → Type 0
Appends before after = (events : List Row) × (after ≡ with_events before events)

-- a call added a command to a book, spent a pending control, or finished one that was not
abbrev pub IsAdded : Ledger → Ledger → Type 0
IsAdded before after = (target : ℕ) × (command : Command) × (after ≡ added before target command)

abbrev pub IsSpent : Ledger → Ledger → Type 0
IsSpent before after = (id : ℕ) × Has before.entries id is_pending × (after ≡ spent before id)

abbrev pub IsFinished : Ledger → Ledger → Type 0
IsFinished before after = (id status : ℕ) × Has before.entries id (λ state. not (is_finished state)) × (after ≡ finished before id status)

abbrev pub Turns : Ledger → Ledger → Type 0
Turns before after = IsSoundLedger before × (IsAdded before after ⊎ (IsSpent before after ⊎ IsFinished before after))

-- so many calls, one after the other
abbrev pub Calls : {X : Type 0} → (X → X → Type 0) → ℕ → X → X → Type 0
Calls Call zero before after = after ≡ before
Calls {X} Call (suc count) before after = (between : X) × Call before between × Calls Call count between after
