-- Definition: a master: closed, or open and idle, or open with a request whose response is awaited (IEEE Std
-- 1815-2012, application layer: the master's side of a transaction).
use Rattle.std.specs.Prelude.{ℕ, ◌<◌, ◌+◌, ◌%◌, ◌^◌, ◌-◌, Bool, true, false, ◌&&◌, nat_le, min, if◌then◌else◌, Option, Some, None, is_none, option_map, IfSome}
use Rattle.dnp_objects.specs.declared.command.Command.{Command}
use Rattle.dnp_pointdb.specs.Plan.{Plan}
use Rattle.dnp_pointdb.specs.declared.times.Times.{Times}
use Rattle.dnp_master.specs.declared.request.OpenRequest.{OpenRequest}

pub record State : Type 0 where
  -- the points whose rows are taken
  pub plan : Plan
  pub times : Times
  pub is_open : Bool
  -- the sequence number that a response is awaited with, or that the next request has
  pub seq : ℕ
  -- the request whose response isn't there to the end: its task, whether a first fragment of the response came, what
  -- the response has repeated of a command so far, and when the response timer ends
  pub request : Option OpenRequest
  -- the command whose select was answered SUCCESS, as long as nothing was asked since
  pub selected : Option Command

-- a new master is closed
abbrev pub new_state : Plan → Times → State
new_state plan times = record { plan = plan; times = times; is_open = false; seq = 0; request = None; selected = None }

-- what a hang-up, and the end of the response timer, make of it
abbrev pub closed : State → State
closed s = new_state s.plan s.times

-- what an opening makes of it, whatever it was: idle, with sequence number 0
abbrev pub opened : State → State
opened s = record (closed s) { is_open = true }

abbrev pub is_idle : State → Bool
is_idle s = s.is_open && is_none s.request

-- ---- the response timer

-- when a timer of so many milliseconds ends; at the last moment at the latest
abbrev pub deadline : ℕ → ℕ → ℕ
deadline now ms = min (now + ms) (2 ^ 64 - 1)

abbrev pub has_ended : Option OpenRequest → ℕ → Bool
has_ended None now = false
has_ended (Some request) now = nat_le request.ends now

-- the timer has ended at this moment
abbrev pub is_timed_out : State → ℕ → Bool
is_timed_out s now = s.is_open && has_ended s.request now

abbrev pub ticked : State → ℕ → State
ticked s now = if is_timed_out s now then closed s else s

abbrev pub request_ends : OpenRequest → ℕ
request_ends request = request.ends

-- when it ends, if it runs; a closed master has no timer
abbrev pub next_deadline : State → Option ℕ
next_deadline s = if s.is_open then option_map request_ends s.request else None

-- it doesn't end before this moment, or at it
abbrev pub IsBefore : ℕ → State → Type 0
IsBefore now s = IfSome (next_deadline s) (λ ends. now < ends)

-- ---- sequence numbers

-- the one that follows
abbrev pub after : ℕ → ℕ
after seq = (seq + 1) % 16
