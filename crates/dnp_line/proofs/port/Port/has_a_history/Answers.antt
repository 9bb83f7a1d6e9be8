use Rattle.std.proofs.Common.{subst}
use Rattle.dnp_line.specs.Ports.{PortState, HasHistory}
use Rattle.dnp_line.proofs.port.Port.has_a_history.Goals as goal

pub returns : goal.returns
returns c =
    let link = c.each_station_has_a_history.ensures c.self.inside.link in
    let pushed = c.has_a_history.ensures in
    subst (λ (p : PortState). HasHistory p) c.self.view_is
    record { heard = link.0; answers = link.1; pushed = pushed.0; stands = pushed.1 }
