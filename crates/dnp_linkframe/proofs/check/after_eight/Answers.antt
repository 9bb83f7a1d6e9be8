-- Each octet is looked up at the number of those after it.
use Rattle.std.proofs.Common.{arith}
use Rattle.dnp_linkframe.proofs.EightOctets.{eight_divided}
use Rattle.dnp_linkframe.proofs.check.after_eight.Goals as goal

pub returns : goal.returns
returns c =
    eight_divided c.args.word c.args.octets.now (omega arith) c.told-octets c.fits-octets
    c.left_of.result c.left_of-2.result c.left_of-3.result c.left_of-4.result c.left_of-5.result c.left_of-6.result c.left_of-7.result c.left_of-8.result
    c.left_of.ensures c.left_of-2.ensures c.left_of-3.ensures c.left_of-4.ensures c.left_of-5.ensures c.left_of-6.ensures c.left_of-7.ensures
    c.left_of-8.ensures
