-- What is left is steady, done or stopped.
use Rattle.std.proofs.lemmas.Result.{IfErr-weaker, on_ok_weaker}
use Rattle.dnp_world.proofs.Lasting.{steady_after}
use Rattle.dnp_world.proofs.world.World.run_by.Goals as goal

pub invariant_of-self : goal.invariant_of-self
invariant_of-self g c = λ well.
    let old = c.self.inside.parts.system in
    let new = c.run.new.self.system in
    let events = c.args.events.now in
    let laws = c.steady_systems_stay_steady.ensures in
    steady_after events old new c.run.result (λ s ran. laws.stays old new events s ran)
    (λ done s stop. laws.stays_stopped old new events done s stop)
    (c.self.invariant (c.run.ensures.held well)) (c.run.ensures.done well) (c.run.ensures.stopped well)

pub returns-clause-lasts : goal.returns-clause-lasts
returns-clause-lasts g c = λ well.
    let old = c.self.inside.parts.system in
    let new = c.run.new.self.system in
    let events = c.args.events.now in
    rw (← c.self.view_is)
    (on_ok_weaker c.run.result (c.steady_systems_stay_steady.ensures.ran old new events (c.self.invariant (c.run.ensures.held well)))
    (c.run.ensures.done well))

pub returns-clause-lasts_so_far : goal.returns-clause-lasts_so_far
returns-clause-lasts_so_far g c = λ well.
    let old = c.self.inside.parts.system in
    let new = c.run.new.self.system in
    let events = c.args.events.now in
    rw (← c.self.view_is)
    (IfErr-weaker c.run.result _ _
    (λ stopped. c.steady_systems_stay_steady.ensures.stopped old new events stopped.done (c.self.invariant (c.run.ensures.held well)))
    (c.run.ensures.stopped well))

pub returns-clause-holds : goal.returns-clause-holds
returns-clause-holds g c = λ well.
    c.steady_systems_stay_steady.ensures.holds c.run.new.self.system (invariant_of-self g c well)

pub returns-clause-issued : goal.returns-clause-issued
returns-clause-issued g c = λ well.
    let old = c.self.inside.parts.system in
    let new = c.run.new.self.system in
    let events = c.args.events.now in
    rw (← c.self.view_is)
    (on_ok_weaker c.run.result (c.commands_are_issued_by_events_alone.ensures.ran old new events) (c.run.ensures.done well))

pub returns-clause-issued_so_far : goal.returns-clause-issued_so_far
returns-clause-issued_so_far g c = λ well.
    let old = c.self.inside.parts.system in
    let new = c.run.new.self.system in
    let events = c.args.events.now in
    rw (← c.self.view_is)
    (IfErr-weaker c.run.result _ _ (λ stopped. c.commands_are_issued_by_events_alone.ensures.stopped old new events stopped.done)
    (c.run.ensures.stopped well))
