-- One unit more is delivered, or the list stops at it.
use Rattle.std.proofs.Common.{◌≡◌, ◌<◌, ◌∙◌, ℕ, true, refl, subst, arith}
use Rattle.std.specs.Prelude.{OnErr, Result, ⊤}
use Rattle.dnp_concentrator.specs.declared.cause.Cause.{Cause}
use Rattle.dnp_world.specs.Centres as all
use Rattle.dnp_world.specs.Centres.{HappensToAll, centre_of, is_there, may_stop, seen_at}
use Rattle.dnp_world.specs.Rounds.{StopsFlushing, deliveries}
use Rattle.dnp_world.specs.SystemRuns.{RunsTo}
use Rattle.dnp_world.specs.Systems.{System, standing_on}
use Rattle.dnp_world.specs.Wholes.{Whole}
use Rattle.dnp_world.proofs.OneLinkRuns.{any_err}
use Rattle.dnp_world.proofs.SystemRounds.{one_delivered, stops_delivering}
use Rattle.dnp_world.proofs.parts.Parts.flush.Goals as goal

pub loop-preserved : goal.loop-preserved
loop-preserved g c =
    record {
      held = λ well. c.loop.invariant.held (c.happen_by.ensures.held well);
      ran = λ well.
          one_delivered c.args.self.now.system c.loop.self.system c.happen_by.new.self.system c.loop.counter c.args.on c.args.way
          (c.loop.invariant.ran (c.happen_by.ensures.held well)) (c.in_ok-happen_by.ensures.done well);
      runs_on = c.in_ok-happen_by.ensures.device.runs_on (λ says. subst (λ (r : Result ⊤ Cause). OnErr r ⊥) says tt) ∙ c.loop.invariant.runs_on;
    }

pub returns-in_err-happen_by-clause-stopped : goal.returns-in_err-happen_by-clause-stopped
returns-in_err-happen_by-clause-stopped g c = λ well.
    let on = c.args.on in
    let way = c.args.way in
    let old = c.args.self.now.system in
    let mid = c.loop.self.system in
    let new = c.happen_by.new.self.system in
    let see : Whole → System = seen_at (centre_of on) in
    let there : is_there (centre_of on) ≡ true = c.requires in
    let stands : all.standing_on old on way ≡ standing_on (see old) on way = rw there refl in
    let more : c.loop.counter < standing_on (see old) on way = omega (arith, stands) in
    any_err c.from_residual.result (StopsFlushing HappensToAll see may_stop on way old new) (
      c.loop.counter,
      stops_delivering old mid new c.loop.counter (standing_on (see old) on way) on way more
          (c.loop.invariant.ran (c.happen_by.ensures.held well)) c.in_err-happen_by.ensures.named (c.in_err-happen_by.ensures.stopped well),
    )

pub returns-clause-done : goal.returns-clause-done
returns-clause-done g c = λ well.
    let old = c.args.self.now.system in
    let on = c.args.on in
    let way = c.args.way in
    let see : Whole → System = seen_at (centre_of on) in
    let there : is_there (centre_of on) ≡ true = c.requires in
    let stands : all.standing_on old on way ≡ standing_on (see old) on way = rw there refl in
    let every : c.loop.counter ≡ standing_on (see old) on way = omega (arith, stands) in
    subst (λ (n : ℕ). RunsTo HappensToAll old (deliveries n on way) c.loop.self.system) every (c.loop.invariant.ran well)
