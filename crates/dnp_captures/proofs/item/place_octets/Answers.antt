use Rattle.std.proofs.Common.{rules}
use Rattle.dnp_captures.proofs.item.place_octets.Goals as goal

pub returns : goal.returns
returns c = (c.in_ok-lines.lines.items, c.in_ok-lines.ensures, search rules)
