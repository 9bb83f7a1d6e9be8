-- Definition: the node of a centre: the centre, and its one link.
use Rattle.std.specs.Prelude.{◌≡◌, ℕ, ◌+◌, ◌↔◌, Bool, List, Option, None, Result, Err, IfOk, IfSome, OnOk, option_map}
use Rattle.dnp_concentrator.specs.Centre.{book_of, indices_of, journal_of}
use Rattle.dnp_concentrator.specs.Mapped.{command_above}
use Rattle.dnp_concentrator.specs.Relayed.{LeavesBook}
use Rattle.dnp_concentrator.specs.declared.centre.Centre.{Centre}
use Rattle.dnp_concentrator.specs.declared.issue.IssueFault.{IssueFault}
use Rattle.dnp_concentrator.specs.declared.issue.IssueFault.TheVariants.{Device, NoOutput}
use Rattle.dnp_controls.specs.Book.{Ledger, added}
use Rattle.dnp_eventbuf.specs.Archive.{Archive}
use Rattle.dnp_objects.specs.declared.command.Command.{Command}
use Rattle.dnp_schedule.specs.Moving.{may_have_control}
use Rattle.dnp_streams.specs.links.Deeds.{Ways, ways}
use Rattle.dnp_streams.specs.links.Laws.{Event}
use Rattle.dnp_streams.specs.links.Links.{LinkState}
use Rattle.dnp_streams.specs.streams.Asking.{centre_asking}
use Rattle.dnp_streams.specs.streams.CentreLives.{centre_lives}
use Rattle.dnp_streams.specs.streams.Centres.{CentreSeen, centre_hung_up, centre_opens, centre_receives, centre_seen}
use Rattle.dnp_nodes.specs.CallerCalls.{IsTicked}
use Rattle.dnp_nodes.specs.Callers.{Calls, IsCut, schedule_of, with_schedule}
use Rattle.dnp_nodes.specs.declared.caller.Caller.{Caller}
use Rattle.dnp_nodes.specs.declared.centre_node.CentreNode.{CentreNode}
use Rattle.dnp_nodes.specs.declared.report.Reports.{Reports}
use Rattle.dnp_nodes.specs.declared.slot.Closing.{Closing}
use Rattle.dnp_nodes.specs.declared.slot.Slot.{Slot}
use Rattle.dnp_nodes.specs.declared.slot.Want.{Want}
use Rattle.dnp_nodes.specs.declared.slot.Wanted.{Wanted}

-- ---- what it is made of

abbrev pub centre_in : {J B : Type 0} → CentreNode J B → Centre J B
centre_in n = n.centre

abbrev pub slot_in : {J B : Type 0} → CentreNode J B → Slot
slot_in n = n.slot

abbrev pub link_in : {J B : Type 0} → CentreNode J B → Caller
link_in n = n.link

abbrev pub reports_in : {J B : Type 0} → CentreNode J B → Reports
reports_in n = n.shared.reports

-- its link, or its centre, became another
abbrev pub with_link : {J B : Type 0} → CentreNode J B → Caller → CentreNode J B
with_link n link = record n { link = link }

abbrev pub with_centre : {J B : Type 0} → CentreNode J B → Centre J B → CentreNode J B
with_centre n centre = record n { centre = centre }

-- ---- what its calls are

abbrev pub centre_ways : Ways CentreSeen
centre_ways = ways centre_opens centre_receives centre_asking centre_lives

-- its journal and its book have given back so far what was written to them
abbrev pub IsHonest : {J B : Type 0} → (J → Type 0) → (B → Type 0) → CentreNode J B → Type 0
IsHonest journal book n = journal (journal_of n.centre) × book (book_of n.centre)

-- a call of its link, with its centre
abbrev pub CentreCalls : {J B : Type 0} → (J → Archive) → (B → Ledger) → Type 0 → ℕ → List Event → LinkState → Option Want
    → CentreNode J B → CentreNode J B → Type 0
CentreCalls archive contents honest now first from want old new =
    Calls centre_ways centre_hung_up honest now first from want old.link (centre_seen archive contents old.centre)
    new.link (centre_seen archive contents new.centre)

-- nothing was done but to end its connection, for this cause
abbrev pub CentreCuts : {J B : Type 0} → (J → Archive) → (B → Ledger) → Type 0 → Closing → CentreNode J B → CentreNode J B → Type 0
CentreCuts archive contents honest cause old new =
    IsCut centre_hung_up honest cause old.link (centre_seen archive contents old.centre) new.link (centre_seen archive contents new.centre)

-- a want of its place
abbrev pub wanted_in : {J B : Type 0} → CentreNode J B → Option Want → Option Wanted
wanted_in n want = option_map (λ w. record { slot = n.slot; want = w }) want

-- ---- a command

-- what the centre's answer says of its book: the command is added to it, or it is refused
pub record IsIssued {J B : Type 0} (book : B → Type 0) (is_stopped : B → Bool) (contents : B → Ledger) (substation : ℕ) (command : Command)
    (old new : Centre J B) (result : Result ℕ IssueFault) : Type 0 where
  pub no_output : (result ≡ Err NoOutput) ↔ (command_above (indices_of old) substation command ≡ None)
  pub adds : book (book_of new) → OnOk result (IfSome (command_above (indices_of old) substation command) (λ above.
      contents (book_of new) ≡ added (contents (book_of old)) 0 above))
  pub id : book (book_of new) → IfOk result (λ id. id ≡ (contents (book_of old)).last_id + 1)
  pub leaves : LeavesBook book is_stopped contents Device (book_of old) (book_of new) result
  pub journal : journal_of new ≡ journal_of old

-- a command was issued; then the link, which was told that a control may wait, is ticked, whatever the answer
pub record Issues {J B : Type 0} (archive : J → Archive) (contents : B → Ledger) (journal : J → Type 0) (book : B → Type 0) (is_stopped : B → Bool)
    (now substation : ℕ) (command : Command) (old new : CentreNode J B) (result : Result ℕ IssueFault) : Type 0 where
  pub centre : Centre J B
  pub issued : IsIssued book is_stopped contents substation command old.centre centre result
  pub held : IsHonest journal book new → journal (journal_of centre) × book (book_of centre)
  pub ticked : IsTicked centre_ways centre_hung_up (IsHonest journal book new) now (with_schedule old.link (may_have_control (schedule_of old.link)))
      (centre_seen archive contents centre) new.link (centre_seen archive contents new.centre)
