-- What the call of the line did is what `IsSent` says.
use Rattle.std.proofs.Common.{refl}
use Rattle.dnp_world.specs.Channels.{IsSent}
use Rattle.dnp_world.proofs.OneLinkSending.{is_sent, sent_room, way_from}
use Rattle.dnp_world.proofs.sending.send.Goals as goal

pub returns-clause-sent : goal.returns-clause-sent
returns-clause-sent c =
    is_sent c.args.fragment.now c.args.line.now.state c.send.new.line.state c.args.port.now c.send.new.sender
    (c.send.ensures.happens (way_from c.args.line.now.state c.args.port.now) refl refl refl)

pub returns-clause-room : goal.returns-clause-room
returns-clause-room c =
    let sent : IsSent c.args.fragment.now c.args.line.now.state c.args.port.now c.send.new.line.state c.send.new.sender =
    is_sent c.args.fragment.now c.args.line.now.state c.send.new.line.state c.args.port.now c.send.new.sender
    (c.send.ensures.happens (way_from c.args.line.now.state c.args.port.now) refl refl refl) in
    sent_room c.args.fragment.now c.args.line.now c.send.new.line c.args.port.now c.send.new.sender sent c.send.ensures.capacity c.requires.fits
