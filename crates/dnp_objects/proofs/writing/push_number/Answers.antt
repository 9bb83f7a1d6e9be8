use Rattle.std.proofs.Common.{arith}
use Rattle.byteorder.proofs.Bytes.{take-bytes_low_first}
use Rattle.dnp_objects.proofs.writing.push_number.Goals as goal

pub returns-clause-items : goal.returns-clause-items
returns-clause-items g c =
    let low = take-bytes_low_first 0 8 c.args.width c.args.number c.requires.width in
    grind (arith, low)
