use Rattle.std.proofs.Common.{subst}
use Rattle.std.specs.Prelude.{IfOk}
use Rattle.dnp_concentrator.specs.Relayed.{with_request}
use Rattle.dnp_streams.specs.links.Links.{LinkState}
use Rattle.dnp_streams.specs.links.Outputs.{Puts}
use Rattle.dnp_streams.specs.streams.Dialogues.{sent_by}
use Rattle.dnp_streams.proofs.links.Steps.{relaid_makes}
use Rattle.dnp_streams.proofs.link.Link.relay.Goals as goal

pub returns-clause-relayed : goal.returns-clause-relayed
returns-clause-relayed g c = relaid_makes _ _ _ _ _ _ _ _ _ _ c.self.view_is c.relay.ensures.relayed

pub returns-clause-shown : goal.returns-clause-shown
returns-clause-shown g c =
    subst (λ (l : LinkState). IfOk c.relay.result (λ step. Puts l.port (sent_by (with_request step c.relay.new.room.request)) l.pending c.relay.new.port c.relay.new.out.items))
    c.self.view_is c.relay.ensures.shown
