use Rattle.std.proofs.Common.{arith}
use Rattle.dnp_linkframe.proofs.EightBits.{left_of_octet}
use Rattle.dnp_linkframe.proofs.check.left_of.Goals as goal

pub returns : goal.returns
returns c = left_of_octet c.args.octet c.args.after (omega arith) (omega arith)
