use Rattle.dnp_pointdb.specs.Database.{changed_state}
use Rattle.std.proofs.Common.{◌≡◌, ◌∙◌, ap, is_some}
use Rattle.dnp_pointdb.specs.Events.{event_of}
use Rattle.dnp_pointdb.proofs.Changes.{in_blocks, in_points, read_at, event_made}
use Rattle.dnp_pointdb.proofs.bank.Bank.change_at.Goals as goal

pub put-requires-clause-block : goal.put-requires-clause-block
put-requires-clause-block c = in_blocks c.args.self.now c.args.index c.args.at.block c.args.at.place c.requires.place

pub put-requires-clause-place : goal.put-requires-clause-place
put-requires-clause-place c = λ d. in_points c.args.self.now c.args.index c.args.at.block c.args.at.place d c.requires.place

pub returns : goal.returns
returns c =
    let s = c.state_at-state.result in
    let told : c.is_some.result ≡ is_some (event_of c.args.kind c.args.index s.point s.reported c.args.reading) =
    c.is_some.ensures
    ∙ ap is_some
    (event_made c.args.self.now c.args.kind c.args.index c.args.reading s c.args.made.now c.state_at-state.ensures c.requires.in_range c.requires.made) in
    read_at (changed_state c.args.kind c.args.index c.args.reading) c.args.self.now c.put.new.self c.args.kind c.args.index c.args.reading
    c.args.at.block c.args.at.place c.state_at-state.result c.changed.result c.requires.place c.state_at-state.ensures c.requires.in_range
    (c.changed.ensures c.args.kind c.args.index told) c.put.ensures
