-- Definition: how nine lanes in memory are coded, for whoever keeps them in a struct of its own.
use Rattle.std.specs.Coded.{Coded}
use Rattle.dnp_eventbuf.specs.EventBuffer.{EventBuffer}
use Rattle.dnp_eventbuf.specs.contracts.nine.NineLanes as nine
use Rattle.dnp_eventbuf.specs.contracts.plain_lane.PlainLane as lane
use Rattle.dnp_eventbuf.specs.contracts.plain_lane.PlainLaneOneLane.TheImpl as one

abbrev pub plain_code : Coded EventBuffer
plain_code = (nine.the_row lane.the_row one.ghosts).coded
