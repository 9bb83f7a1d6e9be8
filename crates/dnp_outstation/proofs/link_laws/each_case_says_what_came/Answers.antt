use Rattle.dnp_outstation.proofs.LinkCases.{case_says}
use Rattle.dnp_outstation.proofs.link_laws.each_case_says_what_came.Goals as goal

pub returns : goal.returns
returns c = case_says
