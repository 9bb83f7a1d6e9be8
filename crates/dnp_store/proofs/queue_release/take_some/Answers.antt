use Rattle.dnp_store.proofs.queue_release.take_some.Goals as goal

pub take-requires-clause-inside : goal.take-requires-clause-inside
take-requires-clause-inside g c = c.requires.inside

pub returns-then-has_up_to-clause-step : goal.returns-then-has_up_to-clause-step
returns-then-has_up_to-clause-step g c = c.take.ensures.step

pub returns-then-has_up_to-clause-refused : goal.returns-then-has_up_to-clause-refused
returns-then-has_up_to-clause-refused g c = c.take.ensures.refused
