-- A new link is joined to a link before its first opening, by its law.
use Rattle.std.proofs.Common.{rules, ap, sym, subst, ◌∙◌, ◌≡◌, []}
use Rattle.dnp_pointdb.specs.Database.{new_database}
use Rattle.dnp_pointdb.specs.Plan.{Plan}
use Rattle.dnp_pointdb.specs.Sound.{IsSoundDatabase}
use Rattle.dnp_concentrator.specs.declared.addresses.TheConstants.{CENTRE, FIRST_OUTSTATION}
use Rattle.dnp_world.specs.Joined.{IsJoined}
use Rattle.dnp_world.specs.OneLinkEvents.{LinkState}
use Rattle.dnp_world.proofs.one_link.OneLink.new.Goals as goal

pub returns-clause-link : goal.returns-clause-link
returns-clause-link g c = search rules

pub returns-clause-joined : goal.returns-clause-joined
returns-clause-joined g c = λ sound.
    let plan : Plan = c.args.plan in
    let points_are : c.in_ok-points.points ≡ new_database plan = c.in_ok-points.ensures.value ∙ ap new_database c.in_ok-try_clone.ensures in
    subst (λ (s : LinkState g.row.S.Denot). IsJoined [] s) (sym (returns-clause-link g c))
    (c.a_new_link_is_joined.ensures plan c.args.times (g.L.Lanes.contents c.args.lanes) [] CENTRE FIRST_OUTSTATION c.args.sink
    (subst IsSoundDatabase points_are c.in_ok-points.ensures.sound) sound)
