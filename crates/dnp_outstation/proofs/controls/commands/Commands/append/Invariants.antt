use Rattle.std.proofs.Common.{◌≡◌, ◌≤◌, ◌-◌, ◌++◌, length}
use Rattle.dnp_appfragment.specs.Headers.{count_of}
use Rattle.dnp_appfragment.specs.Seen.{head}
use Rattle.dnp_outstation.specs.Controls.{commands_from, commands_of}
use Rattle.dnp_outstation.proofs.controls.commands.Commands.append.Given as goal

-- what is still to come
abbrev pub invariant-loop-k : goal.invariant-loop-k
invariant-loop-k l = record {
  end : l.k-end ≡ count_of l.header.range;
  all : l.self ++ commands_from (head l.header) l.k (count_of l.header.range - l.k) ≡ l.initial.self ++ commands_of (head l.header);
  few : length l.self ≤ l.most;
}
