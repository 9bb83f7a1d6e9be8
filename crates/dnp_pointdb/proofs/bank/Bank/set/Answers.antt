use Rattle.std.proofs.Common.{sym, ◌∙◌}
use Rattle.dnp_pointdb.specs.Database.{set_state}
use Rattle.dnp_pointdb.proofs.Changes.{in_blocks, in_points, read_at, read_refused}
use Rattle.dnp_pointdb.proofs.bank.Bank.set.Goals as goal

pub returns-in_err-at-clause-after : goal.returns-in_err-at-clause-after
returns-in_err-at-clause-after c =
    sym (read_refused (set_state c.args.reading) c.args.self.now c.args.kind c.args.index c.args.reading c.in_err-at.field-0.0 c.in_err-at.ensures.fault)

pub put-requires-clause-block : goal.put-requires-clause-block
put-requires-clause-block c = in_blocks c.args.self.now c.args.index c.in_ok-at.at.block c.in_ok-at.at.place c.in_ok-at.ensures.place

pub put-requires-clause-place : goal.put-requires-clause-place
put-requires-clause-place c = λ d. in_points c.args.self.now c.args.index c.in_ok-at.at.block c.in_ok-at.at.place d c.in_ok-at.ensures.place

pub returns-clause-after : goal.returns-clause-after
returns-clause-after c =
    c.remember.ensures ∙
    read_at (set_state c.args.reading) c.args.self.now c.put.new.self c.args.kind c.args.index c.args.reading c.in_ok-at.at.block c.in_ok-at.at.place
    c.state_at-state.result c.set.result c.in_ok-at.ensures.place c.state_at-state.ensures c.in_ok-at.ensures.in_range
    c.set.ensures c.put.ensures
