use Rattle.std.proofs.Common.{refl}
use Rattle.dnp_outstation.proofs.LinkCalls.{ends_as}
use Rattle.dnp_outstation.proofs.LinkTimers.{opens_empty, opens_again}
use Rattle.dnp_outstation.proofs.link_laws.an_unsolicited_response_starts_where_none_is_awaited.Goals as goal

pub returns-clause-ends : goal.returns-clause-ends
returns-clause-ends c = ends_as

pub returns-clause-opens : goal.returns-clause-opens
returns-clause-opens c = opens_empty

pub returns-clause-opens_again : goal.returns-clause-opens_again
returns-clause-opens_again c = opens_again

pub returns-clause-kept : goal.returns-clause-kept
returns-clause-kept c = λ step now content. refl
