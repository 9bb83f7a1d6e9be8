-- Definition: what rows and commands are written as in a fragment, each as a header of its own (IEEE Std
-- 1815-2012, application layer: object headers; object library).
use Rattle.std.specs.Prelude.{◌≡◌, ℕ, ◌+◌, ⊤, Bool, true, false, IsTrue, ◌==◌, ◌&&◌, List, [], ◌∷◌, ◌++◌, Some, is_some}
use Rattle.std.specs.List.{list_any}
use Rattle.byteorder.specs.Endian.{little_bytes}
use Rattle.dnp_objects.specs.Relative.{relative_octets}
use Rattle.dnp_objects.specs.Rows.{Fits, written}
use Rattle.dnp_objects.specs.Events.{event_object}
use Rattle.dnp_objects.specs.Commands.{object_of, index_of, command_octets}
use Rattle.dnp_objects.specs.declared.command.Command.{Command}
use Rattle.dnp_objects.specs.declared.row.Kind.{Kind}
use Rattle.dnp_objects.specs.declared.row.Row.{Row}
use Rattle.dnp_appfragment.specs.declared.header.Range.TheVariants as range
use Rattle.dnp_appfragment.specs.Headers.{Head, head_of, head_after, number}

-- ---- an object as a header of its own

-- after its index: qualifier 28
abbrev pub indexed : ℕ → ℕ → ℕ → List ℕ → Head
indexed group variation index octets =
    head_of group variation (range.Indexed true 1) (number true index ++ octets)

-- from its index to its index: qualifier 01
abbrev pub spanned : ℕ → ℕ → ℕ → List ℕ → Head
spanned group variation index octets =
    head_of group variation (range.Span true index index) octets

-- ---- rows

-- an event, with a time or without as the row has it
abbrev pub event : Row → Head
event row =
    let object = event_object row.kind row.time in
    indexed object.0 object.1 row.index (written object.0 object.1 row)

-- a row is of this kind, and has a time or has none
pub record IsOf (kind : Kind) (has_time : Bool) (row : Row) : Type 0 where
  pub kind_is : row.kind ≡ kind
  pub time_is : is_some row.time ≡ has_time

-- the objects that present values go as, by group and variation: of binary inputs and outputs, of counters, and of
-- analog inputs
abbrev pub point_objects : List (ℕ × ℕ)
point_objects = (1, 2) ∷ (10, 2) ∷ (20, 1) ∷ (30, 1) ∷ []

abbrev pub is_point_object : ℕ → ℕ → Bool
is_point_object group variation = list_any (λ o. (o.0 == group) && (o.1 == variation)) point_objects

-- the row can be written as a present value, as this object
pub record FitsPoint (group variation : ℕ) (row : Row) : Type 0 where
  pub object_is : IsTrue (is_point_object group variation)
  pub row_fits : Fits group variation row

abbrev pub point : ℕ → ℕ → Row → Head
point group variation row = spanned group variation row.index (written group variation row)

-- the rows have the indexes from this one on
abbrev pub InOrder : ℕ → List Row → Type 0
InOrder index [] = ⊤
InOrder index (row ∷ rows) = (row.index ≡ index) × InOrder (index + 1) rows

-- a common time: 51.1, qualifier 07
abbrev pub common_head : ℕ → Head
common_head time = head_of 51 1 (range.Count false 1) (little_bytes 6 time)

-- an event whose time is given after a common one: 2.3, after its index
abbrev pub relative : ℕ → Row → Head
relative common row = head_after (Some common) 2 3 (range.Indexed true 1) (number true row.index ++ relative_octets common row)

-- ---- commands

abbrev pub order : Command → ℕ → Head
order command status = indexed (object_of command).0 (object_of command).1 (index_of command) (command_octets command status)
