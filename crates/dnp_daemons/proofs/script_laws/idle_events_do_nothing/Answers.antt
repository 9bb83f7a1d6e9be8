use Rattle.dnp_daemons.proofs.IdleScripts.{idle_event}
use Rattle.dnp_daemons.proofs.script_laws.idle_events_do_nothing.Goals as goal

pub returns : goal.returns
returns c = idle_event
