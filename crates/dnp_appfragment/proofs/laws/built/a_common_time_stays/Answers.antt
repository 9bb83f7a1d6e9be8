use Rattle.std.proofs.Common.{ap, List}
use Rattle.dnp_appfragment.specs.Headers.{Head, begin, context_past}
use Rattle.dnp_appfragment.proofs.Contexts.{context_common, context_object, context_other, context_broken}
use Rattle.dnp_appfragment.proofs.laws.built.a_common_time_stays.Goals as goal

pub returns-clause-none : goal.returns-clause-none
returns-clause-none c = λ built none. ap (λ (hs : List Head). context_past begin hs) none

pub returns-clause-put : goal.returns-clause-put
returns-clause-put c = context_common

pub returns-clause-object : goal.returns-clause-object
returns-clause-object c = context_object

pub returns-clause-header : goal.returns-clause-header
returns-clause-header c = context_other

pub returns-clause-broken : goal.returns-clause-broken
returns-clause-broken c = context_broken
