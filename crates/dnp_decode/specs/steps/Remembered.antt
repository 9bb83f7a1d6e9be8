-- Private steps: what the assemblers of a decoder remember of the frames that were heard.
use Rattle.std.specs.Prelude.{ℕ, ◌+◌, ◌*◌, ◌<◌, List, Option, Some, None}
use Rattle.std.specs.Ordering.{nat_cmp}
use Rattle.std.specs.BTreeMap.{BTreeMap, get}
use Rattle.std.specs.Global.{Box}
use Rattle.dnp_linkframe.specs.declared.frame.Frame.{Frame}
use Rattle.dnp_transport.specs.Assembly.{Assembly, Idle, ArePushed}
use Rattle.dnp_decode.specs.FrameLines.{data_of}

-- the number of a direction: the address of the station that sends, then that of the one that it sends to
abbrev pub direction_of : ℕ → ℕ → ℕ
direction_of source dest = source * 0x1_0000 + dest

abbrev pub Ports : Type 0
Ports = BTreeMap ℕ (Box Assembly)

-- what was found for a direction, or a new assembler
abbrev pub found : Option (Box Assembly) → Assembly
found None = Idle
found (Some box) = box.value

-- the assembler of a direction
abbrev pub assembly_at : Ports → ℕ → Assembly
assembly_at ports direction = found (get nat_cmp ports direction)

-- the assemblers are as the user data of these frames, newest first, made them
pub record Remembers (heard : List Frame) (ports : Ports) : Type 0 where
  pub each : (source dest : ℕ) → dest < 0x1_0000 → ArePushed (data_of source dest heard) (assembly_at ports (direction_of source dest))
