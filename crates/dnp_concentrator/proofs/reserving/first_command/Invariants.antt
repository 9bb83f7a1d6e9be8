use Rattle.std.proofs.Common.{◌≡◌}
use Rattle.std.specs.Prelude.{slice_get}
use Rattle.dnp_outstation.specs.Controls.{commands_in}
use Rattle.dnp_concentrator.proofs.reserving.first_command.Given as goal

-- what is still to come
abbrev pub invariant-loop-header : goal.invariant-loop-header
invariant-loop-header l = slice_get (commands_in l.header-iterator.headers) 0 ≡ slice_get (commands_in l.initial.header-iterator.headers) 0
