-- what is counted and what is left make the whole
use Rattle.std.proofs.Common.{◌≡◌, ◌+◌, ◌≤◌, length, drop}
use Rattle.dnp_controls.specs.Latches.{plain_check}
use Rattle.dnp_controls.specs.Panel.{accepted}
use Rattle.dnp_controls.proofs.plain_outputs.count_performed.Given as goal

abbrev pub invariant-loop-command : goal.invariant-loop-command
invariant-loop-command l = record {
  whole : l.count + length (accepted (plain_check l.outputs l.setpoints) (drop l.command-index l.commands))
      ≡ length (accepted (plain_check l.outputs l.setpoints) l.commands);
  few : l.count ≤ l.command-index;
}
