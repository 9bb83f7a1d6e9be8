use Rattle.std.proofs.Common.{◌≡◌, ◌∙◌, sym, length, rules, arith}
use Rattle.dnp_objects.specs.declared.limits.TheConstants.{KINDS}
use Rattle.dnp_pointdb.specs.Database as spec
use Rattle.dnp_pointdb.proofs.Mapped.{done-none, done-step, done-all}
use Rattle.dnp_pointdb.proofs.database.lose_in.Goals as goal

pub loop-bank-init : goal.loop-bank-init
loop-bank-init c = sym (done-none (λ bs. spec.updated spec.lost_block bs c.args.number) c.args.banks.now)

pub loop-bank-preserved : goal.loop-bank-preserved
loop-bank-preserved c =
    let three : length c.args.banks.now ≡ KINDS = search rules in
    done-step (λ bs. spec.updated spec.lost_block bs c.args.number) c.loop-bank.bank-index c.args.banks.now c.loop-bank.bank-items _ _
    c.loop-bank.invariant (omega (arith, three, c.loop-bank-test.true)) c.lose.ensures

pub returns : goal.returns
returns c =
    let three : length c.args.banks.now ≡ KINDS = search rules in
    c.loop-bank.invariant ∙ done-all (λ bs. spec.updated spec.lost_block bs c.args.number) c.loop-bank.bank-index c.args.banks.now (omega (arith, three, c.loop-bank-test.false))
