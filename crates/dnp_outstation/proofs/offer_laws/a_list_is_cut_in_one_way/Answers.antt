use Rattle.dnp_outstation.proofs.Cuts.{is_cut, only_cut}
use Rattle.dnp_outstation.proofs.offer_laws.a_list_is_cut_in_one_way.Goals as goal

pub returns-clause-cut : goal.returns-clause-cut
returns-clause-cut g c = is_cut

pub returns-clause-only : goal.returns-clause-only
returns-clause-only g c = only_cut
