use Rattle.dnp_decode.specs.FragmentLines.{AfterBeginning, AtFunction}
use Rattle.dnp_decode.proofs.fragment.refused_place.Goals as goal

pub returns-in-Some : goal.returns-in-Some
returns-in-Some c = let found = c.in-Some.ensures.found in AfterBeginning found.0 found.1

pub returns-in-None : goal.returns-in-None
returns-in-None c = AtFunction c.in-None.ensures.none c.fault_place.ensures
