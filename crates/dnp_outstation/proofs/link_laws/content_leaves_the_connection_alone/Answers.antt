use Rattle.dnp_outstation.proofs.ContentOf.{content_silent, content_read}
use Rattle.dnp_outstation.proofs.LinkCalls.{content_keeps, held_keeps, request_some, held_some}
use Rattle.dnp_outstation.proofs.link_laws.content_leaves_the_connection_alone.Goals as goal

pub returns-clause-keeps : goal.returns-clause-keeps
returns-clause-keeps c = content_keeps

pub returns-clause-keeps_held : goal.returns-clause-keeps_held
returns-clause-keeps_held c = held_keeps

pub returns-clause-answers : goal.returns-clause-answers
returns-clause-answers c = request_some

pub returns-clause-answers_held : goal.returns-clause-answers_held
returns-clause-answers_held c = held_some

pub returns-clause-silent : goal.returns-clause-silent
returns-clause-silent c = content_silent

pub returns-clause-reads : goal.returns-clause-reads
returns-clause-reads c = content_read
