use Rattle.dnp_outstation.proofs.LinkFragments.{unconfirmed_reports_none, emptied_ends}
use Rattle.dnp_outstation.proofs.link_laws.what_asks_no_confirm_reports_no_rows.Goals as goal

pub returns-clause-none : goal.returns-clause-none
returns-clause-none c = unconfirmed_reports_none c.each_row_stands_once.ensures.ids

pub returns-clause-emptied : goal.returns-clause-emptied
returns-clause-emptied c = emptied_ends
