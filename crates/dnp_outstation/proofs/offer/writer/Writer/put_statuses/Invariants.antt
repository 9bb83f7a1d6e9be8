use Rattle.std.proofs.Common.{◌≡◌, ◌++◌, ◌-◌, List}
use Rattle.dnp_outstation.specs.Items.{outputs_from}
use Rattle.dnp_outstation.specs.steps.Filling.{fill, reached}
use Rattle.dnp_outstation.specs.steps.Grouping.{Marked}
use Rattle.dnp_outstation.specs.steps.Putting.{shown}
use Rattle.dnp_outstation.proofs.offer.writer.Writer.put_statuses.Given as goal

-- what is written and what is left to write are the whole, whatever comes after
abbrev pub invariant-loop-index : goal.invariant-loop-index
invariant-loop-index g l = record {
  written : (more : List Marked) → fill l.self (shown l.header (outputs_from (g.O.Outputs.panel l.outputs).status l.index (l.end - l.index)) ++ more)
      ≡ fill l.fn.self (shown l.header (outputs_from (g.O.Outputs.panel l.outputs).status l.first (l.end - l.first)) ++ more);
  response : l.self.builder.function ≡ l.fn.self.builder.function;
  given : reached l.self ≡ reached l.fn.self;
}
