-- With the same links.
use Rattle.dnp_world.proofs.Elsewhere.{sees_elsewhere}
use Rattle.dnp_world.proofs.centre_laws.what_is_elsewhere_keeps_a_system_steady.Goals as goal

pub returns : goal.returns
returns c = λ old new el others steady sees. sees_elsewhere c.ids_go_on.ensures.sound old new others steady sees
