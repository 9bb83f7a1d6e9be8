-- Private steps: a fragment of a response as it stands in its writer, and what is known beside that.
use Rattle.std.specs.Prelude.{◌≤◌, ℕ, List, length, Option, None, Some, IfSome, ⊤}
use Rattle.dnp_appfragment.specs.declared.function.Function.TheVariants as function
use Rattle.dnp_appfragment.specs.Built.{heads}
use Rattle.dnp_appfragment.specs.Fragments.{response_octets}
use Rattle.dnp_outstation.specs.State.{State, Step, still}
use Rattle.dnp_outstation.specs.Content.{Content, Executed, answered}
use Rattle.dnp_outstation.specs.Connection.{control_in, responds_further, further_sent, replied}
use Rattle.dnp_outstation.specs.declared.session.Reply.{Reply}
use Rattle.dnp_outstation.specs.declared.session.Reply.TheVariants.{Held, Silent, First, Further}
use Rattle.dnp_outstation.specs.declared.session.FirstFragment.{FirstFragment}
use Rattle.dnp_outstation.specs.declared.session.LastRequest.{LastRequest}
use Rattle.dnp_outstation.specs.declared.session.Session.{Session}
use Rattle.dnp_outstation.specs.declared.answer.Answer.{Answer}
use Rattle.dnp_outstation.specs.declared.answer.Switches.{Switches}
use Rattle.dnp_outstation.specs.declared.sending.Front.{Front}
use Rattle.dnp_outstation.specs.declared.offer.writer.Writer.{Writer}

-- of a session: the first fragment of a response, and an unsolicited response, that are kept to be repeated have at
-- least their front of four octets
abbrev pub IfFirst : Reply → Type 0 → Type 0
IfFirst Held Holds = ⊤
IfFirst Silent Holds = ⊤
IfFirst (First f) Holds = Holds
IfFirst Further Holds = ⊤

abbrev pub first_in : Option LastRequest → Option FirstFragment
first_in None = None
first_in (Some last) = by_reply last.reply
  where
    by_reply : Reply → Option FirstFragment
    by_reply Held = None
    by_reply Silent = None
    by_reply (First f) = Some f
    by_reply Further = None

abbrev pub KeepsWhole : Session → Type 0
KeepsWhole session = IfSome session.last (λ last. IfFirst last.reply (4 ≤ length session.response))
    × IfSome session.unsolicited (λ w. 4 ≤ length session.unsolicited_response)

-- its octets, with this front
abbrev pub sent_by : Front → Writer → List ℕ
sent_by front w = response_octets (record { control = front.control; function = function.Response; iin = front.iin; headers = heads w.builder })

-- the content of the fragment
abbrev pub content_by : Writer → Answer → Content
content_by w a = record { headers = heads w.builder; bits = a.bits; upto = w.upto; left = a.left }

-- the state in which it is sent
abbrev pub state_by : State → Answer → State
state_by s a = record s { core = record s.core { restart = a.switches.restart; enabled = a.switches.enabled } }

abbrev pub executed_by : State → Writer → Answer → Executed
executed_by s w a = record (answered (state_by s a) (content_by w a)) { time = a.time }

-- the fragment that goes on with the response, if there is one
abbrev pub goes_on_by : State → ℕ → ℕ → Writer → Option Answer → Step
goes_on_by s now seq w None = still s
goes_on_by s now seq w (Some a) = responds_further s now a.stood seq (content_by w a)

-- the session once the response went on with what stands in the writer, if it goes on
abbrev pub went_on : Session → ℕ → ℕ → ℕ → Writer → Option Answer → Session
went_on session now confirm_ms seq w None = session
went_on session now confirm_ms seq w (Some a) = further_sent session now confirm_ms a.stood seq (content_by w a)

-- a held READ is answered by what stands in the writer, if there is one
abbrev pub answers_held_by : State → ℕ → Writer → Option Answer → Step
answers_held_by s now w None = still s
answers_held_by s now w (Some a) = replied now (control_in s.core.session.request).seq (executed_by s w a)

-- what a request switched, if it was executed
abbrev pub switched_by : Switches → Option Answer → Switches
switched_by before None = before
switched_by before (Some a) = a.switches
