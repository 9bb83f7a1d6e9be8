use Rattle.std.proofs.Common.{refl}
use Rattle.dnp_controls.specs.Book.{empty_ledger}
use Rattle.dnp_controls.proofs.Moving.{sound-after, without_gap-after}
use Rattle.dnp_controls.proofs.laws.ids_go_on.Goals as goal

pub returns-clause-sound : goal.returns-clause-sound
returns-clause-sound c = sound-after

pub returns-clause-numbered : goal.returns-clause-numbered
returns-clause-numbered c = λ moves. (without_gap-after empty_ledger moves (record { numbered = tt; counted = refl })).numbered

pub returns-clause-counted : goal.returns-clause-counted
returns-clause-counted c = λ moves. (without_gap-after empty_ledger moves (record { numbered = tt; counted = refl })).counted
