use Rattle.std.proofs.Common.{◌∙◌, ap, arith, length, take}
use Rattle.std.proofs.lemmas.List.{take_all}
use Rattle.dnp_eventbuf.proofs.Archives.{all_from_0}
use Rattle.dnp_eventbuf.proofs.journal_laws.a_journal_is_read_from_0.Goals as goal

pub returns : goal.returns
returns c = λ a sound. ap (take (length a.rows)) (all_from_0 a.rows sound.from_1) ∙ take_all (length a.rows) a.rows (omega arith)
