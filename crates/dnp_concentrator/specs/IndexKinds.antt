-- Definition: the kinds of indices that are mapped (IEEE Std 1815-2012, object library: points, binary outputs and
-- analog outputs are numbered each within its kind).
use Rattle.std.specs.Prelude.{ℕ}
use Rattle.dnp_objects.specs.declared.row.Kind.{Kind}
use Rattle.dnp_objects.specs.declared.row.Kind.TheVariants as points
use Rattle.dnp_objects.specs.declared.command.Command.{Command}
use Rattle.dnp_objects.specs.declared.command.Command.TheVariants.{Block, Set16, Set32}
use Rattle.dnp_concentrator.specs.declared.index_kind.IndexKind.{IndexKind}
use Rattle.dnp_concentrator.specs.declared.index_kind.IndexKind.TheVariants.{Binary, Counter, Analog, Output, Setpoint}

-- the kinds in their order
abbrev pub number_of : IndexKind → ℕ
number_of Binary = 0
number_of Counter = 1
number_of Analog = 2
number_of Output = 3
number_of Setpoint = 4

-- the kind of a point's index
abbrev pub kind_of_points : Kind → IndexKind
kind_of_points points.Binary = Binary
kind_of_points points.Counter = Counter
kind_of_points points.Analog = Analog

-- the kind of the index that a command names
abbrev pub kind_of_command : Command → IndexKind
kind_of_command (Block index code count on off) = Output
kind_of_command (Set16 index value) = Setpoint
kind_of_command (Set32 index value) = Setpoint
