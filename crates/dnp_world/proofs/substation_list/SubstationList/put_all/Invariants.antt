use Rattle.std.proofs.Common.{◌≡◌, ◌+◌, ◌≤◌, ◌++◌, length, take}
use Rattle.dnp_world.specs.Systems.{at_substation}
use Rattle.dnp_world.proofs.substation_list.SubstationList.put_all.Given as goal

abbrev pub invariant-loop-thing : goal.invariant-loop-thing
invariant-loop-thing g l =
    (l.self.items ≡ l.initial.self.items ++ at_substation l.substation (take l.thing-index l.things)) × (length l.things ≤ l.self.room + l.thing-index)
