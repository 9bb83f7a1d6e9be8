use Rattle.std.proofs.Common.{◌≡◌, ◌∙◌, sym, map, length, rules, arith}
use Rattle.dnp_objects.specs.declared.limits.TheConstants.{KINDS}
use Rattle.dnp_pointdb.specs.Database as spec
use Rattle.dnp_pointdb.proofs.Mapped.{done-none, done-step, done-all}
use Rattle.dnp_pointdb.proofs.database.restart_each.Goals as goal

pub loop-bank-init : goal.loop-bank-init
loop-bank-init c = sym (done-none (map spec.restarted_block) c.args.banks.now)

pub loop-bank-preserved : goal.loop-bank-preserved
loop-bank-preserved c =
    let three : length c.args.banks.now ≡ KINDS = search rules in
    done-step (map spec.restarted_block) c.loop-bank.bank-index c.args.banks.now c.loop-bank.bank-items _ _
    c.loop-bank.invariant (omega (arith, three, c.loop-bank-test.true)) c.restart.ensures

pub returns : goal.returns
returns c =
    let three : length c.args.banks.now ≡ KINDS = search rules in
    c.loop-bank.invariant ∙ done-all (map spec.restarted_block) c.loop-bank.bank-index c.args.banks.now (omega (arith, three, c.loop-bank-test.false))
