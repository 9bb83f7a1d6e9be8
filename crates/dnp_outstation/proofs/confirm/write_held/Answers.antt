use Rattle.std.proofs.Common.{rules, ◌≡◌, true, List, ℕ, ap, sym, ◌∙◌}
use Rattle.dnp_outstation.specs.Connection.{control_in, replied}
use Rattle.dnp_outstation.specs.Content.{content_of}
use Rattle.dnp_outstation.specs.State.{holds_read}
use Rattle.dnp_outstation.proofs.HeldRead.{held_is_answered}
use Rattle.dnp_outstation.proofs.confirm.write_held.Goals as goal

pub returns-clause-written : goal.returns-clause-written
returns-clause-written g c = λ honest s now points_is restart_is enabled_is request_is lanes_is.
    let o = g.O.Outputs.panel c.args.from.now.outputs.now in
    let held : holds_read c.args.session.now.last ≡ true = search rules in
    let octets_is : s.core.session.request ≡ c.octets-octets.result.now = request_is ∙ sym c.octets-octets.ensures.value in
    held_is_answered s o now c.args.session.now.last held
    ∙ ap (λ (octets : List ℕ). replied now (control_in s.core.session.request).seq (content_of s o octets)) octets_is
    ∙ ap (replied now (control_in s.core.session.request).seq)
    (c.in_ok-answer.ensures.executed honest s points_is restart_is enabled_is lanes_is)
