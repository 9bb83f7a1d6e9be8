use Rattle.std.proofs.Common.{◌≡◌, length, arith}
use Rattle.dnp_objects.proofs.Values.{AreOctets}
use Rattle.dnp_objects.proofs.Relatives.{read_so}
use Rattle.dnp_objects.proofs.relative.read.Goals as goal

pub returns-clause-found : goal.returns-clause-found
returns-clause-found c =
    let octets = c.args.octets.now in
    let small : AreOctets octets = λ i. let fits = c.type_inv.octets i in omega (arith, fits) in
    let size : length octets ≡ 3 = let a = c.in-len3.len_at_least in let b = c.in-len3.len_below in omega arith in
    read_so c.args.index c.args.common c.from-after.result c.binary.result octets small size (let a = c.from-after.ensures in let b = c.from_le_bytes.ensures in omega arith)
    c.if-common-after-ge-MAX_TIME.false c.binary.ensures
