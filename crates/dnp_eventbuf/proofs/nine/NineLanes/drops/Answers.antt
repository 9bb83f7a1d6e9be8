use Rattle.std.proofs.Common.{◌≡◌, ◌∙◌, subst, ap, map, arith}
use Rattle.dnp_eventbuf.specs.Sound.{IsSoundBuffer}
use Rattle.dnp_eventbuf.specs.EventBuffer.{EventBuffer}
use Rattle.dnp_eventbuf.specs.steps.Tallies.{tally_of, drops_from}
use Rattle.dnp_eventbuf.proofs.Drops.{exhausts-many, drops-Some, drops-None}
use Rattle.dnp_eventbuf.proofs.nine.NineLanes.drops.Goals as goal

pub returns-then-rows-self-clause-none : goal.returns-then-rows-self-clause-none
returns-then-rows-self-clause-none g c =
    let last = c.self.invariant.last_id_at_most in
    let same = ap (λ (s : EventBuffer). s.last_id) c.self.view_is in
    exhausts-many c.args.self.now c.args.rows.now (omega (arith, last, same))

pub returns-clause-some : goal.returns-clause-some
returns-clause-some g c =
    let same = ap (λ (s : EventBuffer). s.last_id) c.self.view_is in
    let sound : IsSoundBuffer c.args.self.now = subst IsSoundBuffer c.self.view_is c.self.invariant in
    let last = c.self.invariant.last_id_at_most in
    let is : c.drops_for.result ≡ drops_from 0 (map tally_of c.args.self.now.lanes) c.args.rows.now =
    c.drops_for.ensures ∙ ap (λ (s : EventBuffer). drops_from 0 (map tally_of s.lanes) c.args.rows.now) c.self.view_is in
    drops-Some c.args.self.now c.args.rows.now c.drops_for.result sound (omega (arith, last, same)) is

pub returns-clause-none : goal.returns-clause-none
returns-clause-none g c =
    let sound : IsSoundBuffer c.args.self.now = subst IsSoundBuffer c.self.view_is c.self.invariant in
    let is : c.drops_for.result ≡ drops_from 0 (map tally_of c.args.self.now.lanes) c.args.rows.now =
    c.drops_for.ensures ∙ ap (λ (s : EventBuffer). drops_from 0 (map tally_of s.lanes) c.args.rows.now) c.self.view_is in
    drops-None c.args.self.now c.args.rows.now c.drops_for.result sound is
