use Rattle.std.proofs.Common.{inl, inr}
use Rattle.dnp_appfragment.proofs.ReadBack.{event_back, relative_back, point_back, command_back}
use Rattle.dnp_appfragment.proofs.laws.built.what_is_held_is_read.Goals as goal

pub returns-clause-event : goal.returns-clause-event
returns-clause-event c = λ header items k row holds is at. inl (event_back header items k row holds is at)

pub returns-clause-relative : goal.returns-clause-relative
returns-clause-relative c = λ header items k common row holds timed there fits at. inr (relative_back header items k common row holds timed there fits at)

pub returns-clause-point : goal.returns-clause-point
returns-clause-point c = λ header items k group variation row holds fits other at. inl (point_back header items k group variation row holds fits other at)

pub returns-clause-command : goal.returns-clause-command
returns-clause-command c = command_back c.a_written_command_is_read.ensures.read
