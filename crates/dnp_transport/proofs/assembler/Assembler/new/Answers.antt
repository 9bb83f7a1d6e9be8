use Rattle.std.proofs.Common.{[]}
use Rattle.dnp_transport.proofs.Exits.{idle_stands, nothing_pushed, nothing_made_it}
use Rattle.dnp_transport.proofs.assembler.Assembler.new.Goals as goal

pub invariant_of-result : goal.invariant_of-result
invariant_of-result c = nothing_made_it

pub returns-clause-stands : goal.returns-clause-stands
returns-clause-stands c = idle_stands [] nothing_pushed
