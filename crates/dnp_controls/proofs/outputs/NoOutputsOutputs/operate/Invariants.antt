-- So far each command was answered NOT_SUPPORTED.
use Rattle.std.proofs.Common.{◌≡◌, length, map, take}
use Rattle.dnp_objects.specs.Status.{not_supported}
use Rattle.dnp_controls.proofs.outputs.NoOutputsOutputs.operate.Given as goal

abbrev pub invariant-loop-command : goal.invariant-loop-command
invariant-loop-command l = record {
  so_far : l.statuses.items ≡ map (λ _. not_supported) (take l.command-index l.commands);
  count : length l.statuses.items ≡ l.command-index;
}
