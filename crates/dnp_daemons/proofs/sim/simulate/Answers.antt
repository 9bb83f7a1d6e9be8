use Rattle.dnp_daemons.proofs.sim.simulate.Goals as goal

pub returns-in-Sql-clause-ends : goal.returns-in-Sql-clause-ends
returns-in-Sql-clause-ends g c = λ spoken.
    c.simulate_sql.ensures.ends (rw c.in-Sql.is at spoken)
