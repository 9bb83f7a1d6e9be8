use Rattle.dnp_linkstation.proofs.Repeats.{toggles}
use Rattle.dnp_linkstation.proofs.laws.the_expected_bit_toggles_the_expectation.Goals as goal

pub returns : goal.returns
returns c = toggles
