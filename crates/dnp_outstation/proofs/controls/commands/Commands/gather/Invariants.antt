use Rattle.std.proofs.Common.{◌≡◌, ◌≤◌, ◌++◌, length}
use Rattle.dnp_outstation.specs.Controls.{commands_in}
use Rattle.dnp_outstation.proofs.controls.commands.Commands.gather.Given as goal

-- what is still to come
abbrev pub invariant-loop-header : goal.invariant-loop-header
invariant-loop-header l = record {
  all : l.self ++ commands_in l.header-iterator.headers ≡ commands_in l.initial.header-iterator.headers;
  few : length l.self ≤ l.most;
}
