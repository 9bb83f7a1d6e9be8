-- The laws that the body calls are what the lemmas ask for.
use Rattle.std.proofs.Common.{◌≡◌, ℕ, List, true, Result, Ok, Err, IfOk, refl, sym, subst}
use Rattle.std.specs.Prelude.{IsOk}
use Rattle.dnp_master.specs.Calls.{Taking, receive_of}
use Rattle.dnp_master.specs.State.{State}
use Rattle.dnp_master.specs.declared.fault.MasterFault.{MasterFault}
use Rattle.dnp_world.specs.ControlAnswers.{HearsStatus, PassesReport}
use Rattle.dnp_world.specs.Octets.{uns_in}
use Rattle.dnp_world.proofs.CommandRequests.{ReadLaws}
use Rattle.dnp_world.proofs.ControlHearing.{SameLaw, answer_heard, report_heard}
use Rattle.dnp_world.proofs.control_laws.a_master_hears_its_control.Goals as goal

laws_of : goal.After-equality_is_decided → ReadLaws
laws_of c = record {
  holds = c.a_header_holds_what_was_put.ensures.order;
  is_read = c.what_is_held_is_read.ensures.command;
  is_said = c.what_is_there_is_said.ensures.command;
  is_request = c.what_is_spelled_is_said.ensures.request;
}

same_of : goal.After-equality_is_decided → SameLaw
same_of c = λ command. (c.equality_is_decided.ensures.commands.decides command command).1 refl

reports : (s : State) (now : ℕ) (octets : List ℕ) → uns_in octets ≡ true → (r : Result Taking MasterFault) → receive_of s now octets ≡ r
    → IfOk r (PassesReport s)
reports s now octets uns (Ok t) is = report_heard s now octets t uns is
reports s now octets uns (Err fault) is = tt

pub returns-clause-hears : goal.returns-clause-hears
returns-clause-hears c = λ s now status task command octets is_for widths awaits repeats.
    let h = answer_heard (laws_of c) (same_of c) task command status now s octets is_for widths awaits repeats in
    subst (λ (r : Result Taking MasterFault). IfOk r (HearsStatus task status s)) (sym h.takes) h.hears

pub returns-clause-takes : goal.returns-clause-takes
returns-clause-takes c = λ s now status task command octets is_for widths awaits repeats.
    let h = answer_heard (laws_of c) (same_of c) task command status now s octets is_for widths awaits repeats in
    subst (λ (r : Result Taking MasterFault). IsOk r) (sym h.takes) refl

pub returns-clause-report : goal.returns-clause-report
returns-clause-report c = λ s now octets uns. reports s now octets uns (receive_of s now octets) refl
