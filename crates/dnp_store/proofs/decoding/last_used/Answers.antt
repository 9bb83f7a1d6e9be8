use Rattle.std.proofs.Common.{arith}
use Rattle.dnp_store.proofs.Noting.{if_some}
use Rattle.dnp_store.proofs.decoding.last_used.Goals as goal

pub returns-clause-over : goal.returns-clause-over
returns-clause-over c =
    if_some _ _ c.last_noted.result (λ last low n shows. grind (c.in_ok-top.ensures.over n shows, low, arith)) c.last_noted.ensures.over

pub returns-clause-alone : goal.returns-clause-alone
returns-clause-alone c =
    if_some _ _ c.last_noted.result (λ last alone n shows ids. alone n shows (c.in_ok-top.ensures.low n ids)) c.last_noted.ensures.alone

pub returns-clause-found : goal.returns-clause-found
returns-clause-found c n shows ids low = c.last_noted.ensures.found n shows (c.in_ok-top.ensures.low n ids) low
