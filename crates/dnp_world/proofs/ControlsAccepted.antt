-- A control that goes all the way over one link, whichever it is: its command is performed once, and its book says SUCCESS.
use Rattle.std.proofs.Common.{◌≡◌, ℕ, ◌<◌, true, false, Bool, not, List, [], ◌∷◌, ◌++◌, ◌⊎◌, inl, inr, Option, Some, refl, sym, ap, ◌∙◌, subst, append-nil}
use Rattle.std.specs.Prelude.{◌≢◌, IsTrue}
use Rattle.std.specs.Option.{IsSomeAnd, option_map}
use Rattle.std.proofs.lemmas.Option.{none-some}
use Rattle.dnp_concentrator.specs.Relaying.{Operates, Finishes, ledger_after}
use Rattle.dnp_controls.specs.Book.{Ledger, Has, entry_of, is_finished, is_pending, spent}
use Rattle.dnp_controls.specs.declared.book.Entry.{Entry}
use Rattle.dnp_controls.specs.declared.book.State.{State}
use Rattle.dnp_controls.specs.declared.book.State.TheVariants.{Pending, Spent, Finished}
use Rattle.dnp_objects.specs.Status.{success}
use Rattle.dnp_objects.specs.declared.command.Command.{Command}
use Rattle.dnp_world.specs.ControlAnswers.{operated_by}
use Rattle.dnp_world.specs.ControlExchanges.{CanBegin, ChecksAs, ExchangeEnds, GoesOver, HasSelected, OperateComesTo, Refused, SelectComesTo, Stands, next_step, status_at, told_to}
use Rattle.dnp_world.specs.Controls.{IsAccepted, Passes, PassesBack, status_on}
use Rattle.dnp_world.specs.SystemEvents.{IsMissing, IsRefused}
use Rattle.dnp_world.specs.SystemRuns.{Happens}
use Rattle.dnp_world.specs.Systems.{System, itself}
use Rattle.dnp_world.specs.declared.event.Event.TheVariants.{Relay}
use Rattle.dnp_world.specs.declared.event.Link.{Link}
use Rattle.dnp_world.proofs.Books.{put}
use Rattle.dnp_world.proofs.ControlAccepts.{Began, Finishing, LeavesBook, finish_goes, operate_goes, second_step, select_goes}
use Rattle.dnp_world.proofs.ControlArrivals.{ControlLaws}
use Rattle.dnp_world.proofs.StepBooks.{entry_put}

-- the step is one that the book doesn't refuse
abbrev pub IsTaken : ℕ → ExchangeEnds → Type 0
IsTaken target ends = IsRefused ends.book.entries (next_step target ends) → ⊥

-- the book says nothing but SUCCESS of the control
abbrev pub SaysSuccess : Ledger → ℕ → Type 0
SaysSuccess book id = (status : ℕ) → status_at book id ≡ Some status → status ≡ success

-- A step of relaying and what comes of it, over ends that a view of the system shows: these commands were performed, and what is kept
-- by that is kept.
pub record Back (View : System → ExchangeEnds → Type 0) (Kept : List Command → System → System → Type 0) (target id check : ℕ) (command : Command)
    (old new : System) (ends : ExchangeEnds) : Type 0 where
  pub after : ExchangeEnds
  pub now : ℕ
  pub commands : List Command
  pub view : View new after
  pub goes : GoesOver target now (ChecksAs command check) commands ends after
  pub kept : Kept commands old new
  pub told : SaysSuccess (told_to target ends) id

-- a step of relaying alone
pub record Told (Kept : List Command → System → System → Type 0) (target : ℕ) (book : System → Ledger) (old new : System) (ends : ExchangeEnds) : Type 0 where
  pub kept : Kept [] old new
  pub is : book new ≡ told_to target ends

-- What there is of one link: what a system shows of its ends, what is kept where commands were performed, its book, and what comes of a
-- step of relaying over it, where the outputs have this status for the command.
pub record OverLink (on : Link) (target id check : ℕ) (command : Command) : Type 1 where
  pub View : System → ExchangeEnds → Type 0
  pub Kept : List Command → System → System → Type 0
  pub book : System → Ledger
  pub join : (first more : List Command) (a b c : System) → Kept first a b → Kept more b c → Kept (first ++ more) a c
  pub back : (old new : System) (ends : ExchangeEnds) → View old ends → PassesBack Happens itself on (Some id) old new → IsTaken target ends
      → Back View Kept target id check command old new ends
  pub step : (old new : System) (ends : ExchangeEnds) → View old ends → Happens old (Relay on) new → IsTaken target ends → Told Kept target book old new ends
  pub says : (s : System) → status_on s on (Some id) ≡ status_at (book s) id

-- ---- steps that are taken

pub select_taken : (target : ℕ) (entry : Entry) (ends : ExchangeEnds) → CanBegin target entry ends → IsTaken target ends
select_taken target entry ends can refused = subst (IsRefused ends.book.entries) can.selects refused

-- an entry in another state than those that the test passes
not_past : (entries : List Entry) (id : ℕ) (e : Entry) (test : State → Bool) → entry_of entries id ≡ Some e → test e.state ≡ false
    → IsMissing entries id ⊎ Has entries id test → ⊥
not_past entries id e test there fails (inl none) = none-some e (sym none ∙ there)
not_past entries id e test there fails (inr has) =
    let passes : test e.state ≡ true = subst (λ (o : Option Entry). IsSomeAnd o (λ x. IsTrue (test x.state))) there has in
    let never : false ≡ true = sym fails ∙ passes in
    cc

pub operate_taken : (target : ℕ) (entry : Entry) (ends : ExchangeEnds) → next_step target ends ≡ Operates entry.id entry.command
    → entry_of ends.book.entries entry.id ≡ Some entry → is_pending entry.state ≡ true → IsTaken target ends
operate_taken target entry ends next there pending refused =
    not_past ends.book.entries entry.id entry (λ state. not (is_pending state)) there (ap not pending) (subst (IsRefused ends.book.entries) next refused)

pub finish_taken : (target id status : ℕ) (e : Entry) (ends : ExchangeEnds) → next_step target ends ≡ Finishes id status
    → entry_of ends.book.entries id ≡ Some e
    → is_finished e.state ≡ false → IsTaken target ends
finish_taken target id status e ends next there unfinished refused =
    not_past ends.book.entries id e is_finished there unfinished (subst (IsRefused ends.book.entries) next refused)

pub pending_open : (state : State) → is_pending state ≡ true → is_finished state ≡ false
pending_open Pending e = refl
pending_open Spent e = refl
pending_open (Finished status) e = absurd (cc)

-- ---- where a control stands before its way

-- its SELECT comes next, or its OPERATE, or the book is told a status other than SUCCESS
pub data Starts (target : ℕ) (entry : Entry) (ends : ExchangeEnds) : Type 0 where
  Begins : CanBegin target entry ends → Starts target entry ends
  IsSelected : HasSelected entry ends → Starts target entry ends
  Tells : (status : ℕ) → status ≢ success → next_step target ends ≡ Finishes entry.id status → status_at (told_to target ends) entry.id ≡ Some status
      → Starts target entry ends

-- ---- all the way

pub record Accepted (id check : ℕ) (command : Command) (Kept : List Command → System → System → Type 0) (book : System → Ledger)
    (old new : System) : Type 0 where
  pub checks : check ≡ success
  pub kept : Kept (command ∷ []) old new
  pub says : status_at (book new) id ≡ Some success

-- its OPERATE was answered, and what became of it can be told
pub record Answered (View : System → ExchangeEnds → Type 0) (Kept : List Command → System → System → Type 0) (target check : ℕ) (entry : Entry)
    (old new : System) : Type 0 where
  pub after : ExchangeEnds
  pub commands : List Command
  pub view : View new after
  pub kept : Kept commands old new
  pub comes : OperateComesTo target check entry commands after
  pub taken : IsTaken target after

-- the book was told
pub record Ended (View : System → ExchangeEnds → Type 0) (Kept : List Command → System → System → Type 0) (target : ℕ) (book : Ledger) (commands : List Command)
    (old new : System) : Type 0 where
  pub after : ExchangeEnds
  pub view : View new after
  pub kept : Kept commands old new
  pub is : after.book ≡ book
  pub leaves : LeavesBook after.book (next_step target after)

module _ (laws : ControlLaws) (on : Link) (target check : ℕ) (entry : Entry) (over : OverLink on target entry.id check entry.command) (low : check < 128) where
  abbrev pub AnsweredOver : System → System → Type 0
  AnsweredOver old new = Answered over.View over.Kept target check entry old new

  -- its OPERATE goes over the link
  pub answered_over : (old new : System) (ends : ExchangeEnds) → over.View old ends → HasSelected entry ends → entry_of ends.book.entries entry.id ≡ Some entry
      → is_pending entry.state ≡ true → PassesBack Happens itself on (Some entry.id) old new → AnsweredOver old new
  answered_over old new ends view has there pending operates =
      let step : next_step target ends ≡ Operates entry.id entry.command = second_step laws.same target entry ends has in
      let second = over.back old new ends view operates (operate_taken target entry ends step there pending) in
      let op : OperateComesTo target check entry second.commands second.after =
      operate_goes laws target second.now check entry ends second.after second.commands low has second.goes in
      let book : second.after.book ≡ spent ends.book entry.id = second.goes.told ∙ ap (ledger_after ends.book) step in
      let spent_is : entry_of second.after.book.entries entry.id ≡ Some (put Spent entry) =
      ap (λ (b : Ledger). entry_of b.entries entry.id) book ∙ entry_put ends.book.entries entry.id Spent
      ∙ ap (option_map (put Spent)) there in
      record {
        after = second.after;
        commands = second.commands;
        view = second.view;
        kept = second.kept;
        comes = op;
        taken = finish_taken target entry.id op.status (put Spent entry) second.after op.next spent_is refl;
      }

  -- the status that the book says once it was told
  pub told_of : (new : System) (ends : ExchangeEnds) (status : ℕ) → status_at (told_to target ends) entry.id ≡ Some status → over.book new ≡ told_to target ends
      → status_at (over.book new) entry.id ≡ Some status
  told_of new ends status told is = ap (λ (b : Ledger). status_at b entry.id) is ∙ told

  -- ---- its SELECT comes first

  -- the OPERATE, and what became of it
  operated_over : (old mid operated new : System) (ends : ExchangeEnds) → check ≡ success → over.View mid ends → over.Kept [] old mid → HasSelected entry ends
      → entry_of ends.book.entries entry.id ≡ Some entry → is_pending entry.state ≡ true → PassesBack Happens itself on (Some entry.id) mid operated
      → Passes Happens itself on (Some entry.id) operated new → Accepted entry.id check entry.command over.Kept over.book old new
  operated_over old mid operated new ends checks view before has there pending operates finishes =
      let a : AnsweredOver mid operated = answered_over mid operated ends view has there pending operates in
      let last = over.step operated new a.after a.view finishes.relays a.taken in
      let told : status_at (over.book new) entry.id ≡ Some a.comes.status = told_of new a.after a.comes.status a.comes.told last.is in
      let good : a.comes.status ≡ success = finishes.passes a.comes.status (over.says new ∙ told) in
      let performs : [] ++ (a.commands ++ []) ≡ entry.command ∷ [] =
      append-nil a.commands ∙ a.comes.performs ∙ ap (λ (n : ℕ). operated_by n entry.command) good in
      record {
        checks = checks;
        kept = subst (λ (xs : List Command). over.Kept xs old new) performs
            (over.join [] (a.commands ++ []) old mid new before (over.join a.commands [] mid operated new a.kept last.kept));
        says = told ∙ ap (λ (n : ℕ). Some n) good;
      }

  -- ---- its OPERATE comes first

  pub ended_over : (old operated new : System) (a : AnsweredOver old operated) → PassesBack Happens itself on (Some entry.id) operated new
      → Ended over.View over.Kept target (told_to target a.after) [] operated new
  ended_over old operated new a finishes =
      let back = over.back operated new a.after a.view finishes a.taken in
      let f : Finishing target back.commands back.after =
      finish_goes laws target back.now check entry a.commands back.commands a.after back.after a.comes back.goes in
      record {
        after = back.after;
        view = back.view;
        kept = subst (λ (xs : List Command). over.Kept xs operated new) f.none back.kept;
        is = back.goes.told;
        leaves = f.leaves;
      }

  -- it ended with SUCCESS where the step that told the book passed
  pub ended_good : (old operated new : System) (a : AnsweredOver old operated) → PassesBack Happens itself on (Some entry.id) operated new
      → a.comes.status ≡ success
  ended_good old operated new a finishes = (over.back operated new a.after a.view finishes a.taken).told a.comes.status a.comes.told

  -- what the book says after one step more
  pub ended_says : (old operated ended new : System) (a : AnsweredOver old operated)
      (e : Ended over.View over.Kept target (told_to target a.after) [] operated ended)
      → over.book new ≡ told_to target e.after → status_at (over.book new) entry.id ≡ Some a.comes.status
  ended_says old operated ended new a e is = ap (λ (b : Ledger). status_at b entry.id) (is ∙ e.leaves.same ∙ e.is) ∙ a.comes.told

  begun_over : (old new : System) (ends : ExchangeEnds) → over.View old ends → HasSelected entry ends
      → entry_of ends.book.entries entry.id ≡ Some entry → is_pending entry.state ≡ true → IsAccepted Happens itself on (Some entry.id) old new
      → Accepted entry.id check entry.command over.Kept over.book old new
  begun_over old new ends view has there pending accepted =
      let a : AnsweredOver old accepted.selected = answered_over old accepted.selected ends view has there pending accepted.selects in
      let e = ended_over old accepted.selected accepted.operated a accepted.operates in
      let last = over.step accepted.operated new e.after e.view accepted.finishes.relays e.leaves.taken in
      let good : a.comes.status ≡ success = ended_good old accepted.selected accepted.operated a accepted.operates in
      let performs : a.commands ++ [] ≡ entry.command ∷ [] =
      append-nil a.commands ∙ a.comes.performs ∙ ap (λ (n : ℕ). operated_by n entry.command) good in
      record {
        checks = a.comes.checks good;
        kept = subst (λ (xs : List Command). over.Kept xs old new) performs
            (over.join a.commands [] old accepted.selected new a.kept
            (over.join [] [] accepted.selected accepted.operated new e.kept last.kept));
        says = ended_says old accepted.selected accepted.operated new a e last.is ∙ ap (λ (n : ℕ). Some n) good;
      }

  pub accepted_over : (old new : System) (ends : ExchangeEnds) → over.View old ends → Starts target entry ends
      → entry_of ends.book.entries entry.id ≡ Some entry → is_pending entry.state ≡ true → IsAccepted Happens itself on (Some entry.id) old new
      → Accepted entry.id check entry.command over.Kept over.book old new
  accepted_over old new ends view (IsSelected has) there pending a = begun_over old new ends view has there pending a
  accepted_over old new ends view (Tells status other next told) there pending a =
      let first = over.back old a.selected ends view a.selects
      (finish_taken target entry.id status entry ends next there (pending_open entry.state pending)) in
      absurd (other (first.told status told))
  accepted_over old new ends view (Begins can) there pending a =
      let first = over.back old a.selected ends view a.selects (select_taken target entry ends can) in
      let began : Began target check entry first.commands first.after =
      select_goes laws target first.now check entry ends first.after first.commands low can first.goes in
      let book : first.after.book ≡ ends.book = first.goes.told ∙ ap (ledger_after ends.book) can.selects in
      let there' : entry_of first.after.book.entries entry.id ≡ Some entry = ap (λ (b : Ledger). entry_of b.entries entry.id) book ∙ there in
      by first.after first.view there' (subst (λ (xs : List Command). over.Kept xs old a.selected) began.none first.kept) began.comes
    where
      by : (e : ExchangeEnds) → over.View a.selected e → entry_of e.book.entries entry.id ≡ Some entry → over.Kept [] old a.selected
          → SelectComesTo target check entry e
          → Accepted entry.id check entry.command over.Kept over.book old new
      by e seen here kept (Stands good seq asked has) = operated_over old a.selected a.operated new e good seen kept has here pending a.operates a.finishes
      by e seen here kept (Refused other next told) =
          let second = over.back a.selected a.operated e seen a.operates
          (finish_taken target entry.id check entry e next here (pending_open entry.state pending)) in
          absurd (other (second.told check told))
