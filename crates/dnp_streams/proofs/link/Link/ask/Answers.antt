use Rattle.std.proofs.Common.{subst}
use Rattle.std.specs.Prelude.{OnOk}
use Rattle.dnp_streams.specs.links.Links.{LinkState, request_in}
use Rattle.dnp_streams.specs.links.Outputs.{Puts}
use Rattle.dnp_streams.specs.streams.Dialogues.{sendable}
use Rattle.dnp_streams.proofs.links.Steps.{asked_makes}
use Rattle.dnp_streams.proofs.link.Link.ask.Goals as goal

pub returns-clause-asked : goal.returns-clause-asked
returns-clause-asked g c = asked_makes _ _ _ _ _ _ _ _ _ _ _ c.self.view_is c.ask.ensures.asked

pub returns-clause-shown : goal.returns-clause-shown
returns-clause-shown g c =
    subst (λ (l : LinkState). OnOk c.ask.result (Puts l.port (sendable (request_in c.ask.new.room)) l.pending c.ask.new.port c.ask.new.out.items))
    c.self.view_is c.ask.ensures.shown
