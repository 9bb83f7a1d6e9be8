-- What a master has taken or relayed where its call was not refused, and what a stream sees of it.
use Rattle.std.specs.Prelude.{◌≡◌, ℕ, ◌<◌, false, List, Result, Ok, Err, IfErr, IfOk, OnOk, length, option_to_list, slice_set}
use Rattle.std.proofs.Common.{refl, ap, ◌∙◌}
use Rattle.dnp_objects.specs.declared.row.Row.{Row}
use Rattle.dnp_controls.specs.declared.book.BookFault.{BookFault}
use Rattle.dnp_controls.specs.Book.{Ledger}
use Rattle.dnp_master.specs.Calls.{Taking, actions_of}
use Rattle.dnp_master.specs.declared.actions.MasterActions.{MasterActions}
use Rattle.dnp_eventbuf.specs.EventBuffer.{EventBuffer}
use Rattle.dnp_outstation.specs.State.{Core}
use Rattle.dnp_pointdb.specs.Plan as points
use Rattle.dnp_concentrator.specs.Below.{link_in}
use Rattle.arrayvec.specs.ArrayVec.{ArrayVec}
use Rattle.dnp_concentrator.specs.Relayed.{IfSent, IsSpentBy, Tells, with_request}
use Rattle.dnp_concentrator.specs.Relaying.{Relaying, ledger_after, relaying_after, step_of}
use Rattle.dnp_concentrator.specs.declared.relayed.RelayedStep.{RelayedStep}
use Rattle.dnp_concentrator.specs.declared.span.Spans.{Spans}
use Rattle.dnp_streams.specs.streams.Asking.{RelaysBelow, Stepped}
use Rattle.dnp_streams.specs.streams.Concentrators.{BelowSeen}
use Rattle.dnp_streams.specs.streams.Masters.{answer_taking}
use Rattle.dnp_streams.specs.streams.Stations.{Answer}

-- the call came to an end, so something is taken
pub taken : {A T E : Type 0} (r : Result T E) (a : A) → IfErr r (λ fault. ◌≡◌ {A = Result A E} (Ok a) (Err fault)) → (t : T) × (r ≡ Ok t)
taken (Ok t) a refused = (t, refl)
taken (Err e) a refused = absurd (let is = refused in cc)

-- the answer is that of the taking
pub answered : (answer : Answer) (actions : MasterActions) (t : Taking) (dropped : List Row)
    → answer ≡ record { send = option_to_list actions.send; close = false; taken = actions.taken; outcome = actions.outcome }
    → actions ≡ actions_of t dropped → answer ≡ answer_taking t
answered answer actions t dropped is by =
    is ∙ ap (λ (a : MasterActions). record { send = option_to_list a.send; close = false; taken = a.taken; outcome = a.outcome }) by

abbrev pub below : ℕ → List Relaying → Core → Core → List Spans → points.Plan → EventBuffer → EventBuffer → Ledger → BelowSeen
below at links core other indices plan queue more book = record {
  substation = at;
  links = links;
  cores = record { first = core; second = other };
  indices = indices;
  points = plan;
  queues = record { first = queue; second = more };
  controls = book;
}

-- a link of a concentrator is seen as its parts are
pub seen : (at : ℕ) {links links' : List Relaying} {core core' other other' : Core} {indices indices' : List Spans} {plan plan' : points.Plan}
    {queue queue' more more' : EventBuffer} {book book' : Ledger}
    → links ≡ links' → core ≡ core' → other ≡ other' → indices ≡ indices' → plan ≡ plan' → queue ≡ queue' → more ≡ more' → book ≡ book'
    → below at links core other indices plan queue more book ≡ below at links' core' other' indices' plan' queue' more' book'
seen at a b c d e f g h = cc

-- a step of relaying below, whose request stands in this fragment, is seen as its parts are
pub relayed_below : (result : Result RelayedStep BookFault) (request : ArrayVec ℕ) (now at : ℕ) (links links' : List Relaying) (book book' : Ledger)
    {core core' other other' : Core} {indices indices' : List Spans} {plan plan' : points.Plan} {queue queue' more more' : EventBuffer}
    → at < length links
    → IfOk result (λ relayed. Tells (link_in links at).master.seq (step_of (link_in links at) book.entries at) (with_request relayed request))
    → OnOk result (links' ≡ slice_set links at (relaying_after (link_in links at) now (step_of (link_in links at) book.entries at)))
    → OnOk result (book' ≡ ledger_after book (step_of (link_in links at) book.entries at))
    → IfOk result (λ relayed. IfSent (with_request relayed request) (IsSpentBy book book')) → core' ≡ core → other' ≡ other → indices' ≡ indices → plan' ≡ plan
    → queue' ≡ queue → more' ≡ more
    → IfOk result (λ relayed. RelaysBelow (below at links core other indices plan queue more book)
    now (with_request relayed request) (below at links' core' other' indices' plan' queue' more' book'))
relayed_below (Ok relayed) request now at links links' book book' there told set moved spent core_is other_is indices_are plans queues mores =
    Stepped there told (seen at set core_is other_is indices_are plans queues mores moved) spent
relayed_below (Err fault) request now at links links' book book' there told set moved spent core_is other_is indices_are plans queues mores = told
