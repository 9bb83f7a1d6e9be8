use Rattle.std.proofs.Common.{ap, ◌∙◌}
use Rattle.dnp_schedule.specs.Deciding.{is_connected}
use Rattle.dnp_schedule.specs.declared.schedule.Schedule.{Schedule}
use Rattle.dnp_streams.specs.links.Deeds.{ways}
use Rattle.dnp_nodes.proofs.Masters.{called, goes_from}
use Rattle.dnp_nodes.proofs.caller.Caller.connected.Goals as goal

pub returns-clause-opened : goal.returns-clause-opened
returns-clause-opened g c =
    let S = g.S.Station in
    let w = ways S.opens S.receives S.asking S.life in
    let began = c.begin.ensures in
    let opened = c.open_on-over.ensures in
    let end = c.finish.ensures in
    let (reply, goes) = opened.goes in (
      reply,
      called w _ _ _ _ _ _ _ _ _ _ _ _ _ _ end.held (goes_from w _ _ _ _ _ _ _ _ _ _ _ began.link began.basis began.stored goes)
          (opened.phase ∙ ap (λ (s : Schedule). is_connected s.phase) began.schedule) (opened.want ∙ began.want)
          end.phase (λ none. (end.same none).1) end.hung_up end.want end.stored,
    )
