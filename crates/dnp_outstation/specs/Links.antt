-- Definition: what the law of a link sees of the fragments that an outstation sends, and of what it performs and
-- releases (IEEE Std 1815-2012, application layer: responses, unsolicited responses, confirms, select before operate).
use Rattle.std.specs.Prelude.{◌≡◌, ◌≢◌, ◌⊎◌, ℕ, ◌≤◌, ◌<◌, Bool, true, false, if◌then◌else◌, ◌||◌, List, [], ◌++◌, length, map, filter, Option, None, Some, IsSome, is_some, Result, Ok, Err}
use Rattle.std.specs.List.Sorted.{IsPermutation}
use Rattle.dnp_objects.specs.Counts.{IsCoveredBy}
use Rattle.dnp_objects.specs.declared.command.Command.{Command}
use Rattle.dnp_appfragment.specs.declared.fault.AppFault.{AppFault}
use Rattle.dnp_appfragment.specs.declared.function.Function.{Function}
use Rattle.dnp_appfragment.specs.declared.function.Function.TheVariants as function
use Rattle.dnp_appfragment.specs.Control.{ControlBits}
use Rattle.dnp_appfragment.specs.EventRows.{events_in as rows_said}
use Rattle.dnp_appfragment.specs.Fragments.{Asked, Answered}
use Rattle.dnp_appfragment.specs.Meaning.{request_at, response_at}
use Rattle.dnp_appfragment.specs.Table.{function_octet}
use Rattle.dnp_controls.specs.Panel.{Panel}
use Rattle.dnp_controls.specs.Selecting.{Select, GoesWith, IsRunning}
use Rattle.dnp_eventbuf.specs.Buffered.{buffered_in, buffered_row, id_limit, is_upto}
use Rattle.dnp_eventbuf.specs.EventBuffer.{EventBuffer, without, all_up_to}
use Rattle.dnp_outstation.specs.declared.case.Case.{Case}
use Rattle.dnp_outstation.specs.declared.case.Case.TheVariants.{PassedOver, Confirms, ConfirmsUnsolicited, Stray, Again, Waits, Asks}
use Rattle.dnp_outstation.specs.declared.session.LastRequest.{LastRequest}
use Rattle.dnp_outstation.specs.declared.session.Reply.{Reply}
use Rattle.dnp_outstation.specs.declared.session.Reply.TheVariants.{Held, Silent, First, Further}
use Rattle.dnp_outstation.specs.declared.session.Unsolicited.{Unsolicited}
use Rattle.dnp_outstation.specs.Offer.{pushed}
use Rattle.dnp_outstation.specs.State.{Core, State, Step, new_session, holds_read}
use Rattle.dnp_outstation.specs.Content.{content_from}
use Rattle.dnp_outstation.specs.Controls.{commands_in, objects_in}
use Rattle.dnp_outstation.specs.Connection.{is_looked_at, control_in, function_in, awaited_number, starts, at_end}

-- ---- fragments

-- the octets are read as a response with this control octet, whose event rows are, but for order, those that stand in
-- the lanes with ids up to these; each of these ids was used
pub record Reports (s : EventBuffer) (octets : List ℕ) (control : ControlBits) (upto : List ℕ) : Type 0 where
  pub answered : Answered
  pub read : response_at octets ≡ Ok answered
  pub control_is : answered.control ≡ control
  pub rows : IsPermutation (rows_said answered.headers) (map buffered_row (filter (is_upto upto) (buffered_in s)))
  pub used : (lane : ℕ) → id_limit upto lane ≤ s.last_id

-- ---- what a request leaves alone

-- the connection is as it was but for its select, and so are the lanes: whether it is open, the last request and how
-- far its answer has come, what is awaited and kept, the number of the next unsolicited response; and points and times
pub record KeepsConnection (old new : State) : Type 0 where
  pub is_open : new.core.is_open ≡ old.core.is_open
  pub request : new.core.session.request ≡ old.core.session.request
  pub response : new.core.session.response ≡ old.core.session.response
  pub unsolicited_response : new.core.session.unsolicited_response ≡ old.core.session.unsolicited_response
  pub last : new.core.session.last ≡ old.core.session.last
  pub awaited : new.core.session.awaited ≡ old.core.session.awaited
  pub unsolicited : new.core.session.unsolicited ≡ old.core.session.unsolicited
  pub next : new.core.session.next ≡ old.core.session.next
  pub announced : new.core.announced ≡ old.core.announced
  pub points : new.core.points ≡ old.core.points
  pub times : new.core.times ≡ old.core.times
  pub lanes : new.lanes ≡ old.lanes

-- its points, whatever was read of them, and its times are as they were
pub record KeepsPoints (old new : Core) : Type 0 where
  pub points : new.points ≡ old.points
  pub times : new.times ≡ old.times

-- ---- unsolicited responses

-- a connection begins
abbrev pub begun : State → State
begun s = record s { core = record s.core { is_open = true; session = new_session } }

-- what the end of a call adds: nothing, or an unsolicited response, where the outstation is open, awaits no confirm and
-- holds no READ
pub record StartsOne (now : ℕ) (step : Step) : Type 0 where
  pub is_open : step.state.core.is_open ≡ true
  pub awaits_none : step.state.core.session.awaited ≡ None
  pub awaits_no_unsolicited : step.state.core.session.unsolicited ≡ None
  pub holds_none : holds_read step.state.core.session.last ≡ false
  pub is_on : step.state.core.times.unsolicited ≡ true
  pub is_announced : step.state.core.announced ≡ true
  pub is : at_end now step ≡ starts step now (content_from (pushed step.state.lanes step.state.core.enabled))

abbrev pub EndsAs : ℕ → Step → Type 0
EndsAs now step = (at_end now step ≡ step) ⊎ StartsOne now step

-- ---- what is performed

-- OPERATE, DIRECT_OPERATE and DIRECT_OPERATE_NR perform commands, and no other function does
abbrev pub performs : Function → Bool
performs function.Operate = true
performs function.DirectOperate = true
performs function.DirectOperateNr = true
performs _ = false

abbrev pub asked_commands : Result Asked AppFault → List Command
asked_commands (Ok asked) = if performs asked.function then commands_in asked.headers else []
asked_commands (Err fault) = []

-- the commands that octets ask to perform; octets that are no request ask for none
abbrev pub commands_asked : List ℕ → List Command
commands_asked octets = asked_commands (request_at octets)

-- a request performed commands of its own, each at most as often as it names it, and no more than one request may have
pub record Performs (o : Panel) (octets : List ℕ) (old new : List Command) : Type 0 where
  pub those : List Command
  pub is : new ≡ old ++ those
  pub few : length those ≤ o.most
  pub covered : IsCoveredBy those (commands_asked octets)

-- a select stands for these octets at this moment
pub record IsSelected (s : State) (now : ℕ) (octets : List ℕ) : Type 0 where
  pub select : Select
  pub is : s.core.session.selects ≡ Some select
  pub goes_with : GoesWith select (control_in octets).seq (objects_in octets)
  pub is_running : IsRunning select s.core.times.select_ms now

-- a SELECT made this select at this moment
pub record IsMade (now : ℕ) (octets : List ℕ) (select : Select) : Type 0 where
  pub function_is : function_in octets ≡ function_octet function.Select
  pub is : select ≡ record { at = now; seq = (control_in octets).seq; octets = objects_in octets }

-- ---- what is released

-- the rows of the lanes up to these ids left, and all others stayed
pub record Releases (old : State) (upto : List ℕ) (step : Step) : Type 0 where
  pub lanes : step.state.lanes ≡ without old.lanes upto
  pub discarded : step.does.discarded ≡ all_up_to old.lanes upto

pub record ReleasesNone (old : State) (step : Step) : Type 0 where
  pub lanes : step.state.lanes ≡ old.lanes
  pub discarded : step.does.discarded ≡ []

-- ---- a READ that is held

-- an unsolicited response was confirmed, and its rows left
abbrev pub unsolicited_confirmed : State → Unsolicited → State
unsolicited_confirmed s w = record s {
  core = record s.core { announced = true; session = record s.core.session { unsolicited = None } };
  lanes = without s.lanes w.upto;
}

-- ---- the last request again

-- nothing is executed
pub record ExecutesNothing (old new : State) : Type 0 where
  pub restart : new.core.restart ≡ old.core.restart
  pub enabled : new.core.enabled ≡ old.core.enabled
  pub announced : new.core.announced ≡ old.core.announced
  pub points : new.core.points ≡ old.core.points
  pub times : new.core.times ≡ old.core.times
  pub request : new.core.session.request ≡ old.core.session.request
  pub response : new.core.session.response ≡ old.core.session.response
  pub last : new.core.session.last ≡ old.core.session.last
  pub selects : new.core.session.selects ≡ old.core.session.selects
  pub lanes : new.lanes ≡ old.lanes
  pub performed : new.performed ≡ old.performed

-- ---- what each case says of what came

-- a confirm, of an unsolicited response or not, with the number that is awaited
pub record ComesConfirm (c : Core) (octets : List ℕ) (uns : Bool) : Type 0 where
  pub is_looked_at : is_looked_at c octets ≡ true
  pub function_is : function_in octets ≡ function_octet function.Confirm
  pub uns_is : (control_in octets).uns ≡ uns
  pub number : awaited_number c.session uns ≡ Some (control_in octets).seq

-- a confirm of what isn't awaited
pub record ComesStray (c : Core) (octets : List ℕ) : Type 0 where
  pub is_looked_at : is_looked_at c octets ≡ true
  pub function_is : function_in octets ≡ function_octet function.Confirm
  pub number : awaited_number c.session (control_in octets).uns ≢ Some (control_in octets).seq

-- the last request
pub record ComesAgain (c : Core) (octets : List ℕ) : Type 0 where
  pub is_looked_at : is_looked_at c octets ≡ true
  pub no_confirm : function_in octets ≢ function_octet function.Confirm
  pub has_last : IsSome c.session.last
  pub same : octets ≡ c.session.request

-- another request than the last one
pub record ComesOther (c : Core) (octets : List ℕ) : Type 0 where
  pub is_looked_at : is_looked_at c octets ≡ true
  pub no_confirm : function_in octets ≢ function_octet function.Confirm
  pub other : IsSome c.session.last → octets ≢ c.session.request

abbrev pub CaseSays : Core → List ℕ → Case → Type 0
CaseSays c octets PassedOver = is_looked_at c octets ≡ false
CaseSays c octets Confirms = ComesConfirm c octets false
CaseSays c octets ConfirmsUnsolicited = ComesConfirm c octets true
CaseSays c octets Stray = ComesStray c octets
CaseSays c octets Again = ComesAgain c octets
CaseSays c octets Waits = ComesOther c octets × (function_in octets ≡ function_octet function.Read) × IsSome c.session.unsolicited
CaseSays c octets Asks = ComesOther c octets × (function_in octets ≡ function_octet function.Read → c.session.unsolicited ≡ None)

-- ---- what stands at all times

-- more than one fragment of the response to the last request was sent, or is still to be sent
abbrev pub has_more : Option LastRequest → Bool
has_more None = false
has_more (Some last) = is_some last.left || is_further last.reply
  where
    is_further : Reply → Bool
    is_further Held = false
    is_further Silent = false
    is_further (First f) = false
    is_further Further = true

-- the number of the next unsolicited response has four bits, no more classes are enabled than there are, and what is
-- held is a READ, as is what has a response of several fragments
pub record IsInOrder (c : Core) : Type 0 where
  pub number : c.session.next < 16
  pub classes : length c.enabled ≤ 3
  pub held : holds_read c.session.last ≡ true → function_in c.session.request ≡ function_octet function.Read
  pub several : has_more c.session.last ≡ true → function_in c.session.request ≡ function_octet function.Read
