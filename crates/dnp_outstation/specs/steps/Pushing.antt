-- Private steps: what a session makes of a step that begins an unsolicited response, and of its timer.
use Rattle.std.specs.Prelude.{ℕ, Bool, true, if◌then◌else◌, [], ◌∷◌, ◌++◌}
use Rattle.dnp_outstation.specs.State.{State, Step, nothing, still, sending, with_session}
use Rattle.dnp_outstation.specs.Connection.{closed, starts}
use Rattle.dnp_outstation.specs.Content.{content_from}
use Rattle.dnp_outstation.specs.steps.Filling.{ended}
use Rattle.dnp_outstation.specs.declared.offer.writer.Writer.{Writer}
use Rattle.dnp_outstation.specs.declared.session.Session.{Session}
use Rattle.dnp_outstation.specs.declared.unsolicited.AtTimer.{AtTimer}
use Rattle.dnp_outstation.specs.declared.unsolicited.AtTimer.TheVariants.{Waits, Repeats, Closes}

-- the unsolicited response that the session keeps is sent after what was sent so far
abbrev pub started_by : Step → Session → Step
started_by step session = record {
  state = with_session step.state session;
  does = record step.does { send = step.does.send ++ session.unsolicited_response ∷ [] };
}

-- what the timer of the unsolicited response comes to, with what the session is then
abbrev pub timed_by : State → Session → AtTimer → Step
timed_by s session Waits = still (with_session s session)
timed_by s session Repeats = record { state = with_session s session; does = sending session.unsolicited_response }
timed_by s session Closes = record { state = record s { core = closed s.core }; does = record nothing { close = true } }

-- a call that ends with what stands in the writer, or with nothing
abbrev pub ended_by : Writer → Bool → ℕ → Step → Step
ended_by w is_started now step = if is_started then starts step now (content_from (ended true w)) else step
