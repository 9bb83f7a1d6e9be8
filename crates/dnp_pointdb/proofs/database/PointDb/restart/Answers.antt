use Rattle.std.proofs.Common.{List, ap}
use Rattle.dnp_pointdb.specs.declared.state.BlockState.{BlockState}
use Rattle.dnp_pointdb.specs.Database.{Database, restarted}
use Rattle.dnp_pointdb.proofs.Sound.{restarted_is_sound, sound_same}
use Rattle.dnp_pointdb.proofs.database.PointDb.restart.Goals as goal

pub invariant_of-self : goal.invariant_of-self
invariant_of-self c =
    let before : Database = record { banks = c.self.inside.banks } in
    sound_same _ (restarted before) (ap (λ (bs : List (List BlockState)). record { banks = bs }) c.restart_each.ensures) (restarted_is_sound before c.self.invariant)

pub returns-clause-sound : goal.returns-clause-sound
returns-clause-sound c =
    let before : Database = record { banks = c.self.inside.banks } in
    sound_same _ (restarted before) (ap (λ (bs : List (List BlockState)). record { banks = bs }) c.restart_each.ensures) (restarted_is_sound before c.self.invariant)
