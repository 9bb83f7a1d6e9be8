use Rattle.std.proofs.Common.{◌≡◌, ◌∙◌, arith}
use Rattle.std.proofs.lemmas.Grind.{common_steps}
use Rattle.dnp_pointdb.specs.Database.{Database, set_answer_of}
use Rattle.dnp_pointdb.proofs.FirstFaults.{first_set_answer}
use Rattle.dnp_pointdb.proofs.Sound.{set_is_sound, sound_same}
use Rattle.dnp_pointdb.proofs.database.PointDb.set.Goals as goal

pub invariant_of-self : goal.invariant_of-self
invariant_of-self c =
    let before : Database = record { banks = c.self.inside.banks } in
    sound_same _ _ (grind (arith, common_steps)) (set_is_sound before c.args.kind c.args.index c.args.reading c.self.invariant)

pub returns-clause-only_fault : goal.returns-clause-only_fault
returns-clause-only_fault c = λ fault first.
    let exact : c.set.result ≡ set_answer_of c.args.self.now c.args.kind c.args.index c.args.reading = grind (arith, common_steps) in
    exact ∙ first_set_answer c.args.self.now c.args.kind c.args.index c.args.reading fault first

pub returns-clause-sound : goal.returns-clause-sound
returns-clause-sound c =
    let before : Database = record { banks = c.self.inside.banks } in
    sound_same _ _ (grind (arith, common_steps)) (set_is_sound before c.args.kind c.args.index c.args.reading c.self.invariant)
