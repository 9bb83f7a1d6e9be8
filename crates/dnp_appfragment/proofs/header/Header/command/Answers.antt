use Rattle.std.proofs.Common.{None}
use Rattle.dnp_appfragment.specs.Seen.{head}
use Rattle.dnp_appfragment.proofs.OtherCommon.{other_command}
use Rattle.dnp_appfragment.proofs.header.Header.command.Goals as goal

pub returns-clause-only : goal.returns-clause-only
returns-clause-only c = λ answer is. c.command_at.ensures.only answer (other_command None (head c.args.self.now) c.args.k answer is)
