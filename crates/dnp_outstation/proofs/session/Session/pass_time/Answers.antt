use Rattle.std.proofs.Common.{ℕ, ◌≤◌, List, length, refl, ap, sym, subst, ◌∙◌}
use Rattle.dnp_outstation.specs.Connection.{unsolicited_timer}
use Rattle.dnp_outstation.specs.State.{Core, State}
use Rattle.dnp_outstation.proofs.Timing.{again_whole}
use Rattle.dnp_outstation.proofs.session.Session.pass_time.Goals as goal

pub returns-clause-passed : goal.returns-clause-passed
returns-clause-passed c = λ s session_is opened confirm_is retries_is.
    let core : Core = record s.core { session = c.end_waiting.new.self } in
    let waited : State = record s { core = core } in
    ap (λ (k : Core). unsolicited_timer (record s { core = k }) c.args.now) (c.end_waiting.ensures.value s.core session_is)
    ∙ c.time_unsolicited-timer.ensures.timed waited refl confirm_is retries_is
    ∙ c.obey.ensures.value waited opened

pub returns-clause-whole : goal.returns-clause-whole
returns-clause-whole c = λ s session_is confirm_is retries_is keeps.
    let core : Core = record s.core { session = c.end_waiting.new.self } in
    let waited : State = record s { core = core } in
    c.obey.ensures.whole (λ repeats.
    subst (λ (octets : List ℕ). 4 ≤ length octets) (sym c.time_unsolicited-timer.ensures.octets)
    (again_whole waited c.args.now c.time_unsolicited-timer.new.self c.time_unsolicited-timer.result
    (c.time_unsolicited-timer.ensures.timed waited refl confirm_is retries_is) repeats (c.end_waiting.ensures.keeps keeps)))
