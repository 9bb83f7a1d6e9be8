use Rattle.dnp_eventbuf.proofs.Soundness.{IsSoundBuffer-empty_buffer, IsSoundBuffer-with_rows, IsSoundBuffer-without, IsSoundBuffer-without_all}
use Rattle.dnp_eventbuf.proofs.laws.lanes_stay_sound.Goals as goal

pub returns-clause-made : goal.returns-clause-made
returns-clause-made c = IsSoundBuffer-empty_buffer

pub returns-clause-appended : goal.returns-clause-appended
returns-clause-appended c = IsSoundBuffer-with_rows

pub returns-clause-released : goal.returns-clause-released
returns-clause-released c = λ s upto sound long. IsSoundBuffer-without s upto long sound

pub returns-clause-emptied : goal.returns-clause-emptied
returns-clause-emptied c = IsSoundBuffer-without_all
