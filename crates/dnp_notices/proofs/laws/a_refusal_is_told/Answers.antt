use Rattle.dnp_notices.proofs.Refused.{refused_where_told}
use Rattle.dnp_notices.proofs.laws.a_refusal_is_told.Goals as goal

pub returns : goal.returns
returns c = refused_where_told
