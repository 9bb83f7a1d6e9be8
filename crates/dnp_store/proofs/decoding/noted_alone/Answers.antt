use Rattle.dnp_store.proofs.decoding.noted_alone.Goals as goal

pub returns-in-None-clause-found : goal.returns-in-None-clause-found
returns-in-None-clause-found c n shows = absurd (let none = c.in-None.ensures.found n shows in cc)
