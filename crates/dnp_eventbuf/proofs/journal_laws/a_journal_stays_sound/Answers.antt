use Rattle.std.proofs.Common.{◌+◌, ◌^◌, length}
use Rattle.std.proofs.lemmas.Bool.{ltb-false}
use Rattle.dnp_eventbuf.proofs.Archives.{sound_with}
use Rattle.dnp_eventbuf.proofs.journal_laws.a_journal_stays_sound.Goals as goal

pub returns-clause-appended : goal.returns-clause-appended
returns-clause-appended c = λ a events sound fits. sound_with a events sound (ltb-false (2 ^ 62) (a.last_id + length events) fits)
