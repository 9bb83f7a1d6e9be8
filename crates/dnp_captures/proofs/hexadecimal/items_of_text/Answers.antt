use Rattle.std.proofs.Common.{rules}
use Rattle.dnp_captures.proofs.Lines.{items_of_read}
use Rattle.dnp_captures.proofs.hexadecimal.items_of_text.Goals as goal

pub returns : goal.returns
returns c =
    let read = c.in_ok-read.read in
    items_of_read c.args.text.now read.octets.items read.marks.items read.items.items c.in_ok-all.all.items c.as_slice.result.now
    c.as_slice-2.result.now (search rules) (search rules) c.in_ok-read.ensures c.in_ok-all.ensures
