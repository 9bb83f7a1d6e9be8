use Rattle.std.proofs.Common.{◌≡◌, ◌==◌, drop}
use Rattle.std.specs.List.{list_any}
use Rattle.dnp_objects.specs.Status as status
use Rattle.dnp_outstation.proofs.controls.perform.is_one_accepted.Given as goal

-- what is still to come decides
abbrev pub invariant-loop-command : goal.invariant-loop-command
invariant-loop-command g l =
    list_any (λ command. (g.O.Outputs.panel l.outputs).check command == status.success) l.commands
    ≡ list_any (λ command. (g.O.Outputs.panel l.outputs).check command == status.success) (drop l.command-index l.commands)
