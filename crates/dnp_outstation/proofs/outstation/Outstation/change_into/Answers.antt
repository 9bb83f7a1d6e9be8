use Rattle.dnp_outstation.proofs.outstation.Outstation.change_into.Goals as goal

pub returns-clause-memory : goal.returns-clause-memory
returns-clause-memory g c = λ honest failed spares.
    record { some = c.change.ensures.memory honest failed spares; held = c.change.ensures.memory_held honest failed spares }

pub returns-clause-unready : goal.returns-clause-unready
returns-clause-unready g c = λ unready failed. record {
  dropped = λ spares. c.change.ensures.memory_unready unready failed spares;
  numbers = λ honest. c.change.ensures.exhausted_first honest failed unready;
}
