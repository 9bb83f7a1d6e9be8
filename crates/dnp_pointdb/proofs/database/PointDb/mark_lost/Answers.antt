use Rattle.std.proofs.Common.{List, ap}
use Rattle.dnp_pointdb.specs.declared.state.BlockState.{BlockState}
use Rattle.dnp_pointdb.specs.Database.{Database, lost_of}
use Rattle.dnp_pointdb.proofs.Sound.{lost_is_sound, sound_same}
use Rattle.dnp_pointdb.proofs.database.PointDb.mark_lost.Goals as goal

pub invariant_of-self : goal.invariant_of-self
invariant_of-self c =
    let before : Database = record { banks = c.self.inside.banks } in
    sound_same _ (lost_of before c.args.block) (ap (λ (bs : List (List BlockState)). record { banks = bs }) c.lose_in.ensures) (lost_is_sound before c.args.block c.self.invariant)

pub returns-clause-sound : goal.returns-clause-sound
returns-clause-sound c =
    let before : Database = record { banks = c.self.inside.banks } in
    sound_same _ (lost_of before c.args.block) (ap (λ (bs : List (List BlockState)). record { banks = bs }) c.lose_in.ensures) (lost_is_sound before c.args.block c.self.invariant)
