use Rattle.std.proofs.Common.{sym}
use Rattle.dnp_pointdb.specs.Database.{changed_state}
use Rattle.dnp_pointdb.proofs.Changes.{read_refused}
use Rattle.dnp_pointdb.proofs.bank.Bank.change.Goals as goal

pub returns-in_err-at-clause-after : goal.returns-in_err-at-clause-after
returns-in_err-at-clause-after c =
    sym (read_refused (changed_state c.args.kind c.args.index c.args.reading) c.args.self.now c.args.kind c.args.index c.args.reading c.in_err-at.field-0.0 c.in_err-at.ensures.fault)
