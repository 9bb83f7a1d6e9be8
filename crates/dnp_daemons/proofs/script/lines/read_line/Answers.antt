use Rattle.std.proofs.Common.{sym}
use Rattle.dnp_daemons.proofs.Scripts.{too_many}
use Rattle.dnp_daemons.proofs.script.lines.read_line.Goals as goal

pub returns-in-None : goal.returns-in-None
returns-in-None c = sym (too_many c.args.substations _ c.in-None.ensures.none)
