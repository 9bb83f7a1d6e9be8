use Rattle.std.proofs.Common.{◌≡◌, ◌++◌, ◌-◌, List, drop, length}
use Rattle.dnp_outstation.specs.Items.{in_range, statics_in}
use Rattle.dnp_outstation.specs.steps.Filling.{fill, reached}
use Rattle.dnp_outstation.specs.steps.Grouping.{Marked}
use Rattle.dnp_outstation.specs.steps.Putting.{presents}
use Rattle.dnp_outstation.proofs.offer.writer.Writer.put_blocks.Given as goal

-- what is written and what is left to write are the whole, whatever comes after
abbrev pub invariant-loop-number : goal.invariant-loop-number
invariant-loop-number l = record {
  written : (more : List Marked) → fill l.self
      (presents l.ask.header l.skip (in_range l.ask.range (statics_in l.ask.variation l.kind l.number (drop l.number l.blocks))) ++ more)
      ≡ fill l.fn.self (presents l.ask.header l.fn.skip (in_range l.ask.range (statics_in l.ask.variation l.kind 0 l.blocks)) ++ more);
  skipped : l.skip - length (in_range l.ask.range (statics_in l.ask.variation l.kind l.number (drop l.number l.blocks)))
      ≡ l.fn.skip - length (in_range l.ask.range (statics_in l.ask.variation l.kind 0 l.blocks));
  response : l.self.builder.function ≡ l.fn.self.builder.function;
  given : reached l.self ≡ reached l.fn.self;
}
