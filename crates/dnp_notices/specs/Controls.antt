-- Definition: what becomes of a control that is relayed (IEEE Std 1815-2012, application layer: SELECT and OPERATE), as a log says it.
use Rattle.std.specs.Prelude.{ℕ, Bool, false, ◌==◌, if◌then◌else◌, Option, Some, None}
use Rattle.dnp_notices.specs.declared.control.Doing.{Doing}
use Rattle.dnp_notices.specs.declared.control.Doing.TheVariants.{Nothing, Selecting, SelectingAgain, Selected, Operating, Unsent, UnsentAgain}
use Rattle.dnp_notices.specs.declared.control.Happening.{Happening}
use Rattle.dnp_notices.specs.declared.control.Happening.TheVariants.{SelectSent, OperateSent, Answered, Unlike, Closed}
use Rattle.dnp_notices.specs.declared.control.ControlNotice.{ControlNotice}
use Rattle.dnp_notices.specs.declared.control.ControlNotice.TheVariants as says

-- ---- how far a control is

-- this very control was selected before, and its OPERATE was not sent
abbrev pub was_selected : Doing → ℕ → Bool
was_selected Nothing id = false
was_selected (Selecting before) id = before == id
was_selected (SelectingAgain before) id = before == id
was_selected (Selected before) id = before == id
was_selected (Operating before) id = false
was_selected (Unsent before) id = before == id
was_selected (UnsentAgain before) id = before == id

abbrev pub selecting : Doing → ℕ → Doing
selecting doing id = if was_selected doing id then SelectingAgain id else Selecting id

-- a SELECT that was answered SUCCESS stands; every other answer ends the control
abbrev pub answered : Doing → ℕ → Doing
answered (Selecting id) status = if status == 0 then Selected id else Nothing
answered (SelectingAgain id) status = if status == 0 then Selected id else Nothing
answered Nothing status = Nothing
answered (Selected id) status = Nothing
answered (Operating id) status = Nothing
answered (Unsent id) status = Nothing
answered (UnsentAgain id) status = Nothing

-- without a connection a control that was not sent waits for the next one; one that was sent is not sent again
abbrev pub closed : Doing → Doing
closed Nothing = Nothing
closed (Selecting id) = Unsent id
closed (SelectingAgain id) = UnsentAgain id
closed (Selected id) = Unsent id
closed (Operating id) = Nothing
closed (Unsent id) = Unsent id
closed (UnsentAgain id) = UnsentAgain id

abbrev pub after : Doing → Happening → Doing
after doing (SelectSent id) = selecting doing id
after doing (OperateSent id) = Operating id
after doing (Answered status) = answered doing status
after doing Unlike = Nothing
after doing Closed = closed doing

-- ---- what is said of it

-- that it is tried again, where it is for the first time
abbrev pub again : ℕ → ℕ → Option ControlNotice
again before id = if before == id then Some (says.Again id) else None

abbrev pub notice_of_select : Doing → ℕ → Option ControlNotice
notice_of_select Nothing id = None
notice_of_select (Selecting before) id = again before id
notice_of_select (SelectingAgain before) id = None
notice_of_select (Selected before) id = again before id
notice_of_select (Operating before) id = None
notice_of_select (Unsent before) id = again before id
notice_of_select (UnsentAgain before) id = None

-- at which of its two steps it was refused, and with which status
abbrev pub of_select : ℕ → ℕ → ControlNotice
of_select id status = if status == 0 then says.Selected id else says.NotSelected id status

abbrev pub of_operate : ℕ → ℕ → ControlNotice
of_operate id status = if status == 0 then says.Done id else says.NotDone id status

abbrev pub notice_of_answer : Doing → ℕ → Option ControlNotice
notice_of_answer Nothing status = None
notice_of_answer (Selecting id) status = Some (of_select id status)
notice_of_answer (SelectingAgain id) status = Some (of_select id status)
notice_of_answer (Selected id) status = None
notice_of_answer (Operating id) status = Some (of_operate id status)
notice_of_answer (Unsent id) status = None
notice_of_answer (UnsentAgain id) status = None

abbrev pub notice_of_unlike : Doing → Option ControlNotice
notice_of_unlike Nothing = None
notice_of_unlike (Selecting id) = Some (says.SelectUnlike id)
notice_of_unlike (SelectingAgain id) = Some (says.SelectUnlike id)
notice_of_unlike (Selected id) = None
notice_of_unlike (Operating id) = Some (says.OperateUnlike id)
notice_of_unlike (Unsent id) = None
notice_of_unlike (UnsentAgain id) = None

-- that it is still to be sent, where that is for the first time; or that it is not known whether it was done
abbrev pub notice_of_end : Doing → Option ControlNotice
notice_of_end Nothing = None
notice_of_end (Selecting id) = Some (says.Postponed id)
notice_of_end (SelectingAgain id) = None
notice_of_end (Selected id) = Some (says.Postponed id)
notice_of_end (Operating id) = Some (says.Unknown id)
notice_of_end (Unsent id) = None
notice_of_end (UnsentAgain id) = None

abbrev pub notice : Doing → Happening → Option ControlNotice
notice doing (SelectSent id) = notice_of_select doing id
notice doing (OperateSent id) = None
notice doing (Answered status) = notice_of_answer doing status
notice doing Unlike = notice_of_unlike doing
notice doing Closed = notice_of_end doing

-- ---- which control is said

abbrev pub id_of : ControlNotice → ℕ
id_of (says.Selected id) = id
id_of (says.Done id) = id
id_of (says.NotSelected id status) = id
id_of (says.NotDone id status) = id
id_of (says.SelectUnlike id) = id
id_of (says.OperateUnlike id) = id
id_of (says.Postponed id) = id
id_of (says.Again id) = id
id_of (says.Unknown id) = id
