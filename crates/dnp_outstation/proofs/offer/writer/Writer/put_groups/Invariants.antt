use Rattle.std.proofs.Common.{◌≡◌, ◌++◌, List, drop}
use Rattle.std.specs.List.{flat_map}
use Rattle.dnp_outstation.specs.Items.{Source, in_range, statics_of}
use Rattle.dnp_outstation.specs.steps.Filling.{fill, reached}
use Rattle.dnp_outstation.specs.steps.Grouping.{Marked}
use Rattle.dnp_outstation.specs.steps.Putting.{presents}
use Rattle.dnp_outstation.proofs.offer.writer.Writer.put_groups.Given as goal

-- what is written and what is left to write are the whole, whatever comes after
abbrev pub invariant-loop-group : goal.invariant-loop-group
invariant-loop-group g l = record {
  written : (s : Source) → s.points ≡ l.points → s.panel ≡ g.O.Outputs.panel l.outputs → (more : List Marked)
      → fill l.self (presents l.ask.header l.skip (in_range l.ask.range (flat_map (statics_of s l.ask.variation) (drop l.group-index l.groups))) ++ more)
      ≡ fill l.fn.self (presents l.ask.header l.fn.skip (in_range l.ask.range (flat_map (statics_of s l.ask.variation) l.groups)) ++ more);
  response : l.self.builder.function ≡ l.fn.self.builder.function;
  given : reached l.self ≡ reached l.fn.self;
}
