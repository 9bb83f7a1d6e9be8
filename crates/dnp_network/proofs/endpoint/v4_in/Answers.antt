use Rattle.std.proofs.Common.{rules}
use Rattle.dnp_network.proofs.Addresses.{v4_read, v4_unread}
use Rattle.dnp_network.proofs.endpoint.v4_in.Goals as goal

pub returns-in-Ok : goal.returns-in-Ok
returns-in-Ok c = rw c.octets.ensures (v4_read c.args.text.now c.in-Ok.address.octets c.in-Ok.ensures)

pub returns-in-Err : goal.returns-in-Err
returns-in-Err c = v4_unread c.args.text.now c.in-Err.ensures
