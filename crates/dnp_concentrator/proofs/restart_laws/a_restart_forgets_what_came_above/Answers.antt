use Rattle.std.specs.Prelude.{refl}
use Rattle.dnp_outstation.specs.Calls.{connection_after, opened_of, tick_of}
use Rattle.dnp_concentrator.proofs.RestartedCores.{again_restarts, kept_restarts, lost_restarts, read_restarts}
use Rattle.dnp_concentrator.proofs.restart_laws.a_restart_forgets_what_came_above.Goals as goal

pub returns-clause-opened : goal.returns-clause-opened
returns-clause-opened c = λ s now. kept_restarts s.core (opened_of s now).state.core (c.a_connection_leaves_the_points_alone.ensures.opened s now)

pub returns-clause-received : goal.returns-clause-received
returns-clause-received c = λ s o now octets.
    kept_restarts s.core (connection_after s o now octets).state.core (c.a_connection_leaves_the_points_alone.ensures.received s o now octets)

pub returns-clause-ticked : goal.returns-clause-ticked
returns-clause-ticked c = λ s now. kept_restarts s.core (tick_of s now).state.core (c.a_connection_leaves_the_points_alone.ensures.ticked s now)

pub returns-clause-closed : goal.returns-clause-closed
returns-clause-closed c = λ core. refl

pub returns-clause-again : goal.returns-clause-again
returns-clause-again c = again_restarts

pub returns-clause-read : goal.returns-clause-read
returns-clause-read c = read_restarts

pub returns-clause-lost : goal.returns-clause-lost
returns-clause-lost c = lost_restarts
