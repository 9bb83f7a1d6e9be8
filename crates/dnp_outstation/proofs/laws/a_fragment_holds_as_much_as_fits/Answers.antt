use Rattle.std.proofs.Common.{[], refl}
use Rattle.dnp_outstation.proofs.Grows.{response_grows}
use Rattle.dnp_outstation.proofs.HeldItems.{held_longest}
use Rattle.dnp_outstation.proofs.Left.{left_none, none_left}
use Rattle.dnp_outstation.proofs.laws.a_fragment_holds_as_much_as_fits.Goals as goal

pub returns-clause-longest : goal.returns-clause-longest
returns-clause-longest c = held_longest

pub returns-clause-grows : goal.returns-clause-grows
returns-clause-grows c = response_grows

pub returns-clause-last : goal.returns-clause-last
returns-clause-last c = left_none

pub returns-clause-empty : goal.returns-clause-empty
returns-clause-empty c = λ may place. none_left may place [] refl
