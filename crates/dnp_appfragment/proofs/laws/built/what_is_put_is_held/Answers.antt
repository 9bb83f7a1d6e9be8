use Rattle.dnp_appfragment.proofs.Held.{object_held, header_held, common_held, broken_heads}
use Rattle.dnp_appfragment.proofs.laws.built.what_is_put_is_held.Goals as goal

pub returns-clause-object : goal.returns-clause-object
returns-clause-object c = object_held

pub returns-clause-header : goal.returns-clause-header
returns-clause-header c = header_held

pub returns-clause-common : goal.returns-clause-common
returns-clause-common c = common_held

pub returns-clause-broken : goal.returns-clause-broken
returns-clause-broken c = broken_heads
