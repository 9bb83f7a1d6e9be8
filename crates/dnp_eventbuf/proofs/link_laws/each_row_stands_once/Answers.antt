use Rattle.dnp_eventbuf.proofs.BufferedCalls.{none_left}
use Rattle.dnp_eventbuf.proofs.BufferedOnce.{sound_once, sound_numbered}
use Rattle.dnp_eventbuf.proofs.link_laws.each_row_stands_once.Goals as goal

pub returns-clause-once : goal.returns-clause-once
returns-clause-once c = λ s id lane sound. sound_once s sound id lane

pub returns-clause-ids : goal.returns-clause-ids
returns-clause-ids c = sound_numbered

pub returns-clause-emptied : goal.returns-clause-emptied
returns-clause-emptied c = λ s. none_left 0 s.lanes
