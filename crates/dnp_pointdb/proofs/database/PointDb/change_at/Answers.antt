use Rattle.std.proofs.Common.{arith}
use Rattle.std.proofs.lemmas.Grind.{common_steps}
use Rattle.dnp_pointdb.specs.Database.{Database}
use Rattle.dnp_pointdb.proofs.Sound.{changed_is_sound, sound_same}
use Rattle.dnp_pointdb.proofs.database.PointDb.change_at.Goals as goal

pub invariant_of-self : goal.invariant_of-self
invariant_of-self c =
    let before : Database = record { banks = c.self.inside.banks } in
    sound_same _ _ (grind (arith, common_steps)) (changed_is_sound before c.args.kind c.args.index c.args.reading c.self.invariant)

pub returns-clause-sound : goal.returns-clause-sound
returns-clause-sound c =
    let before : Database = record { banks = c.self.inside.banks } in
    sound_same _ _ (grind (arith, common_steps)) (changed_is_sound before c.args.kind c.args.index c.args.reading c.self.invariant)
