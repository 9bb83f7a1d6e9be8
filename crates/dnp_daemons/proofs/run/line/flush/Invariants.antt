use Rattle.std.proofs.Common.{◌≡◌}
use Rattle.dnp_world.specs.declared.event.Event.TheVariants.{Deliver}
use Rattle.dnp_daemons.specs.Scripted.{HappensTimes}
use Rattle.dnp_daemons.proofs.run.line.flush.Given as goal

-- so many units are delivered, and no store was stopped by it
abbrev pub invariant-loop-done : goal.invariant-loop-done
invariant-loop-done g l =
    (g.S.Scripted.honest l.system → g.S.Scripted.honest l.fn.system)
    × (g.S.Scripted.honest l.system →
    HappensTimes g.S.Scripted.law l.done (Deliver l.link l.way) (g.S.Scripted.state l.fn.system) (g.S.Scripted.state l.system))
    × (g.S.Scripted.is_stopped l.system ≡ g.S.Scripted.is_stopped l.fn.system)
