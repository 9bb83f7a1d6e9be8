use Rattle.std.proofs.Common.{arith}
use Rattle.dnp_linkframe.proofs.Octets.{octet_looked_up}
use Rattle.dnp_linkframe.proofs.check.after_octet.Goals as goal

pub returns : goal.returns
returns c = octet_looked_up c.args.word c.args.octet c.left_of.result (omega arith) (omega arith) c.left_of.ensures
