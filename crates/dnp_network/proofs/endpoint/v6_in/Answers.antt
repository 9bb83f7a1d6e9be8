use Rattle.std.proofs.Common.{rules}
use Rattle.dnp_network.proofs.Addresses.{v6_read, v6_unread}
use Rattle.dnp_network.proofs.endpoint.v6_in.Goals as goal

pub returns-in-Ok : goal.returns-in-Ok
returns-in-Ok c = rw c.segments.ensures (v6_read c.args.text.now c.in-Ok.address.segments c.in-Ok.ensures)

pub returns-in-Err : goal.returns-in-Err
returns-in-Err c = v6_unread c.args.text.now c.in-Err.ensures
