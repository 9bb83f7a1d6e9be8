-- The commands so far were answered by their checks, and those that were let through were performed.
use Rattle.std.proofs.Common.{◌≡◌, ◌≤◌, ◌++◌, length, map, take}
use Rattle.dnp_controls.specs.declared.limits.TheConstants.{MAX_OUTPUTS}
use Rattle.dnp_controls.specs.Latches.{plain_check}
use Rattle.dnp_controls.specs.Panel.{accepted}
use Rattle.dnp_controls.proofs.latest_outputs.LatestOutputsOutputs.operate.Given as goal

abbrev pub invariant-loop-command : goal.invariant-loop-command
invariant-loop-command l = record {
  outputs : l.self-inside.outputs ≡ l.fn.self.outputs;
  setpoints : l.self-inside.setpoints ≡ l.fn.self.setpoints;
  few_outputs : l.self-inside.outputs ≤ MAX_OUTPUTS;
  few_setpoints : l.self-inside.setpoints ≤ MAX_OUTPUTS;
  statuses : l.statuses.items ≡ map (plain_check l.fn.self.outputs l.fn.self.setpoints) (take l.command-index l.commands);
  count : length l.statuses.items ≡ l.command-index;
  performed : l.self-inside.latest ≡ l.fn.self.performed ++ accepted (plain_check l.fn.self.outputs l.fn.self.setpoints) (take l.command-index l.commands);
}
