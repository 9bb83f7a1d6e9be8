use Rattle.std.proofs.Common.{ap, ◌∙◌}
use Rattle.std.specs.Prelude.{if◌then◌else◌, is_some}
use Rattle.dnp_streams.specs.links.Deeds.{ways}
use Rattle.dnp_nodes.proofs.Masters.{called, cut_if}
use Rattle.dnp_nodes.specs.Callers.{has_stored, link_of, over_budget, schedule_of, want_of}
use Rattle.dnp_nodes.specs.Runs.{wanted}
use Rattle.dnp_nodes.proofs.caller.Caller.tick.Goals as goal

pub returns-clause-over : goal.returns-clause-over
returns-clause-over g c up =
    let S = g.S.Station in
    let w = ways S.opens S.receives S.asking S.life in
    let end = c.finish.ensures in
    cut_if _ _ _ _ _ _ _ _ _ (over_budget c.args.self.now c.args.now) end.phase end.hung_up end.want end.stored c.tick_on-over.ensures.over

pub returns-clause-passes : goal.returns-clause-passes
returns-clause-passes g c up in_time roomy =
    let S = g.S.Station in
    let w = ways S.opens S.receives S.asking S.life in
    let passed = c.tick_on-over.ensures in
    let end = c.finish.ensures in
    let (reply, goes) = passed.passes in_time roomy in (
      reply,
      called w _ _ _ _ _ _ _ _ _ _ _ _ _ _ end.held goes (passed.phase ∙ up) passed.want
          end.phase (λ none. (end.same none).1) end.hung_up end.want end.stored,
    )

pub returns-clause-full : goal.returns-clause-full
returns-clause-full g c up in_time full =
    let S = g.S.Station in
    let w = ways S.opens S.receives S.asking S.life in
    let end = c.finish.ensures in
    let (none, same, state) = c.tick_on-over.ensures.idles in_time full in
    let kept = end.same none in (
      record {
        schedule = kept.0 ∙ ap schedule_of same;
        link = kept.1 ∙ ap link_of same;
        want = end.want ∙ ap (λ o. wanted o c.tick_on-over.new.self.want) none ∙ ap want_of same;
        stored = end.stored ∙ ap has_stored same;
      },
      λ honest. end.hung_up honest ∙ ap (λ o. if is_some o then S.hung_up_of (S.state c.tick_on-over.new.station) else S.state c.tick_on-over.new.station) none ∙ state,
    )
