use Rattle.dnp_store.proofs.Releasing.{over_all, some_over, none_over}
use Rattle.dnp_store.proofs.queue_release.has_up_to.Goals as goal

pub returns-in-Some : goal.returns-in-Some
returns-in-Some c not_up =
    over_all c.args.lanes.now c.args.number c.args.upto c.id_at.result c.requires.sound c.requires.number c.id_at.ensures
    (some_over c.args.upto c.in-Some.first c.id_at.result c.in-Some.is not_up)

pub returns-in-None : goal.returns-in-None
returns-in-None c not_up =
    over_all c.args.lanes.now c.args.number c.args.upto c.id_at.result c.requires.sound c.requires.number c.id_at.ensures
    (none_over c.args.upto c.id_at.result c.in-None.is)
