-- Definition: the equality of rows, of commands and of pairs, as tests: two are the same if all their fields
-- are. The law `equality_is_decided` (src/laws.rt) says that each test answers exactly that.
use Rattle.std.specs.Prelude.{Bool, true, false, ◌&&◌, ◌==◌, nat_eq}
use Rattle.std.specs.Ordering.{int_eq}
use Rattle.std.specs.Option.{option_eq}
use Rattle.dnp_objects.specs.declared.row.Kind.{Kind}
use Rattle.dnp_objects.specs.declared.row.Kind.TheVariants.{Binary, Counter, Analog}
use Rattle.dnp_objects.specs.declared.row.Row.{Row}
use Rattle.dnp_objects.specs.declared.command.Command.{Command}
use Rattle.dnp_objects.specs.declared.command.Command.TheVariants.{Block, Set16, Set32}

abbrev pub kind_eq : Kind → Kind → Bool
kind_eq Binary Binary = true
kind_eq Counter Counter = true
kind_eq Analog Analog = true
kind_eq _ _ = false

-- an absent time is equal to an absent time alone
abbrev pub row_eq : Row → Row → Bool
row_eq a b =
    kind_eq a.kind b.kind
    && (a.index == b.index
    && (a.flags == b.flags && (int_eq a.value b.value && option_eq nat_eq a.time b.time)))

abbrev pub command_eq : Command → Command → Bool
command_eq (Block index code number on off) (Block index' code' number' on' off') =
    index == index' && (code == code' && (number == number' && (on == on' && off == off')))
command_eq (Set16 index value) (Set16 index' value') = index == index' && int_eq value value'
command_eq (Set32 index value) (Set32 index' value') = index == index' && int_eq value value'
command_eq _ _ = false

-- of pairs: both parts are equal; `pair_eq nat_eq row_eq` is that of a substation and a row
abbrev pub pair_eq : {A B : Type 0} → (A → A → Bool) → (B → B → Bool) → A × B → A × B → Bool
pair_eq first second p q = first p.0 q.0 && second p.1 q.1
