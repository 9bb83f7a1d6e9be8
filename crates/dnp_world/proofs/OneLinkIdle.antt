-- What comes over a line of a link by itself that nothing stands on.
use Rattle.std.proofs.Common.{◌≡◌, Bool, List, [], None, sym, ap}
use Rattle.dnp_controls.specs.Panel.{Panel}
use Rattle.dnp_line.specs.Lines.{LineState, front_of}
use Rattle.dnp_objects.specs.declared.row.Row.{Row}
use Rattle.dnp_world.specs.Channels.{left_by}
use Rattle.dnp_world.specs.OneLinkEvents.{ComesDown, ComesUp, LinkState}
use Rattle.dnp_world.proofs.IdleLines.{idle_line, idle_port}

pub idle_down : {S : Type 0} (repeats : Bool) (panel : Panel) (s : LinkState S) → front_of s.channel.down ≡ None
    → ComesDown panel (left_by repeats s.channel.down) s s
idle_down repeats panel s none = record {
  port = s.channel.outstation_port;
  given = [];
  heard = idle_port s.channel.down s.channel.outstation_port none;
  came = sym (ap (λ (l : LineState). record s { channel = record s.channel { down = l } }) (idle_line repeats s.channel.down none));
}

pub idle_up : {S : Type 0} (takes : S → List Row → List Row → List Row → S → Type 0) (repeats : Bool) (s : LinkState S) → front_of s.channel.up ≡ None
    → ComesUp takes (left_by repeats s.channel.up) s s
idle_up takes repeats s none = record {
  port = s.channel.master_port;
  given = [];
  heard = idle_port s.channel.up s.channel.master_port none;
  came = sym (ap (λ (l : LineState). record s { channel = record s.channel { up = l } }) (idle_line repeats s.channel.up none));
}
