-- The laws that the body calls are what the lemmas ask for.
use Rattle.dnp_world.proofs.BelowKeeps.{TurnLaws}
use Rattle.dnp_world.proofs.Issuing.{issues, passes}
use Rattle.dnp_world.proofs.system_laws.other_events_keep_what_stands.Goals as goal

turns_of : goal.After-commands_are_undone → TurnLaws
turns_of c = record { kept = c.lists_are_of_links.ensures.kept; fate = c.lists_are_of_links.ensures.fate }

pub returns-clause-issued : goal.returns-clause-issued
returns-clause-issued c = issues (turns_of c) c.commands_are_undone.ensures.up_and_down

pub returns-clause-passed : goal.returns-clause-passed
returns-clause-passed c = passes
