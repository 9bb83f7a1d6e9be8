use Rattle.dnp_daemons.specs.ScriptWorlds.{plain_system}
use Rattle.dnp_daemons.proofs.IdleScripts.{does_without}
use Rattle.dnp_daemons.proofs.script_laws.idle_lines_change_nothing.Goals as goal

pub returns-clause-does : goal.returns-clause-does
returns-clause-does c = does_without (record { kept = c.substations_keep_their_points.ensures })

pub returns-clause-reported : goal.returns-clause-reported
returns-clause-reported c = λ plan script new text limits done.
    record {
      printed = done.printed;
      did = does_without (record { kept = c.substations_keep_their_points.ensures }) plan script (plain_system plan) new done.printed
          (c.systems_stay_of_their_plan.ensures.at_first plan limits) done.did;
      report = done.report;
      shown = done.shown;
      whole = done.whole;
    }
