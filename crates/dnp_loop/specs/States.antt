-- Definition: what is known of a connection, and what is done on it next.
use Rattle.std.specs.Prelude.{Bool, true, false, if◌then◌else◌}
use Rattle.dnp_loop.specs.declared.state.Stage.{Stage}
use Rattle.dnp_loop.specs.declared.state.Stage.TheVariants.{Absent, Connecting, Up}
use Rattle.dnp_loop.specs.declared.state.Action.{Action}
use Rattle.dnp_loop.specs.declared.state.Action.TheVariants.{Rest, Look, Write, Read}
use Rattle.dnp_loop.specs.declared.state.State.{State}

abbrev pub absent : State
absent = record { stage = Absent; may_read = false; may_write = false }

abbrev pub connecting : State
connecting = record { stage = Connecting; may_read = false; may_write = false }

abbrev pub up : State
up = record { stage = Up; may_read = true; may_write = true }

abbrev pub reported : State → State
reported s = record s { may_read = true; may_write = true }

abbrev pub read_dry : State → State
read_dry s = record s { may_read = false }

abbrev pub written_full : State → State
written_full s = record s { may_write = false }

abbrev pub look_or_rest : State → Action
look_or_rest s = if s.may_write then Look else Rest

-- what the node has to send goes first, and holds up reading
abbrev pub move_or_rest : State → Bool → Action
move_or_rest s has_output =
    if has_output then (if s.may_write then Write else Rest) else (if s.may_read then Read else Rest)

abbrev pub action_at : Stage → State → Bool → Action
action_at Absent s has_output = Rest
action_at Connecting s has_output = look_or_rest s
action_at Up s has_output = move_or_rest s has_output

abbrev pub next_action : State → Bool → Action
next_action s has_output = action_at s.stage s has_output
