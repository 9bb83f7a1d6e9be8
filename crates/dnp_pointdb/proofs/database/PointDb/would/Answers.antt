use Rattle.std.proofs.Common.{◌≡◌, ◌∙◌, rules}
use Rattle.dnp_pointdb.specs.Database.{answer_of}
use Rattle.dnp_pointdb.proofs.FirstFaults.{first_answer}
use Rattle.dnp_pointdb.proofs.Carried.{answer_in_carried}
use Rattle.dnp_pointdb.proofs.database.PointDb.would.Goals as goal

pub returns-clause-only_fault : goal.returns-clause-only_fault
returns-clause-only_fault c = λ fault first.
    let exact : c.would.result ≡ answer_of c.args.self.now c.args.kind c.args.index c.args.reading = search rules in
    exact ∙ first_answer c.args.self.now c.args.kind c.args.index c.args.reading fault first

pub returns-clause-carried : goal.returns-clause-carried
returns-clause-carried c =
    answer_in_carried c.would.result c.bank.result.now c.args.kind c.args.index c.args.reading c.would.ensures
