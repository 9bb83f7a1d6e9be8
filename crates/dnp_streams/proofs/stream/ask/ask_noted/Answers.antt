use Rattle.std.proofs.Common.{◌≡◌, sym, ap, ◌∙◌}
use Rattle.dnp_streams.specs.links.Links.{LinkState}
use Rattle.dnp_streams.proofs.stream.ask.ask_noted.Goals as goal

pub returns-clause-talks : goal.returns-clause-talks
returns-clause-talks g c honest =
    let S = g.S.Station in
    let first : c.new-dialogue.result.link.port ≡ c.args.port.now = ap (λ (l : LinkState). l.port) c.new-dialogue.ensures.link ∙ c.copy.ensures in
    let last : c.copy_into.new.other ≡ c.ask_on-ended.new.dialogue.link.port = c.copy_into.ensures ∙ c.port.ensures in
    let talks = rw first at (rw (sym last) at (c.ask_on-ended.ensures.talks (c.leave.ensures.held honest))) in (
      S.state c.ask_on-ended.new.station,
      c.leave.ensures.left honest,
      rw (sym c.leave.ensures.told) at (rw c.new-dialogue.ensures.left at talks),
    )

pub returns-clause-noted : goal.returns-clause-noted
returns-clause-noted g c = c.leave.ensures.noted _ _ c.ask_on-ended.ensures.noted
