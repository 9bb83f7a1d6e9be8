-- Definition: what is told of the end of a connection.
use Rattle.std.specs.Prelude.{Bool, true, false, if◌then◌else◌}
use Rattle.dnp_nodes.specs.declared.slot.Closing.{Closing}
use Rattle.dnp_nodes.specs.declared.slot.Closing.TheVariants.{Peer, Unmade}
use Rattle.dnp_nodes.specs.declared.slot.Slot.{Slot}
use Rattle.dnp_loop.specs.declared.moving.End.{End}
use Rattle.dnp_loop.specs.declared.moving.End.TheVariants.{Closed, Failed}
use Rattle.dnp_loop.specs.declared.notice.Notice.{Notice}
use Rattle.dnp_loop.specs.declared.notice.Notice.TheVariants.{Closed as ClosedNotice, Broken, Unmade as UnmadeNotice}
use Rattle.dnp_loop.specs.declared.state.Stage.{Stage}
use Rattle.dnp_loop.specs.declared.state.Stage.TheVariants.{Absent, Connecting, Up}

abbrev pub is_connecting : Stage → Bool
is_connecting Connecting = true
is_connecting Absent = false
is_connecting Up = false

-- to the node: it did not come about, or the other end has closed it
abbrev pub closing_of : Stage → Closing
closing_of stage = if is_connecting stage then Unmade else Peer

-- to the program, with the system's fault if there was one
abbrev pub notice_of : Stage → Slot → End → Notice
notice_of stage slot Closed = ClosedNotice slot
notice_of stage slot (Failed fault) = if is_connecting stage then UnmadeNotice slot fault else Broken slot fault
