use Rattle.dnp_controls.proofs.Moving.{next-is-least}
use Rattle.dnp_controls.proofs.laws.the_next_entry_is_the_least.Goals as goal

pub returns : goal.returns
returns c = λ book target sound. next-is-least book.entries target sound.rising
