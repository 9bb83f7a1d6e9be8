-- Private steps: rows of one object, each after its index, put under one header.
use Rattle.std.specs.Prelude.{ℕ, ◌≤◌, true, List, ◌++◌, length, take, All, Bool, if◌then◌else◌, Option, Some, None}
use Rattle.std.specs.List.{flat_map}
use Rattle.dnp_objects.specs.declared.limits.TheConstants.{MAX_FRAGMENT}
use Rattle.dnp_objects.specs.Events.{event_object}
use Rattle.dnp_objects.specs.declared.row.Kind.{Kind}
use Rattle.dnp_objects.specs.declared.row.Row.{Row}
use Rattle.dnp_appfragment.specs.declared.header.Range.TheVariants as range
use Rattle.dnp_appfragment.specs.declared.run.Run.{Run}
use Rattle.dnp_appfragment.specs.Headers.{Head, head_after, number}

-- a row after its index, where its octets are written so
abbrev pub after_index : (Row → List ℕ) → Row → List ℕ
after_index write row = number true row.index ++ write row

-- rows, one after the other
abbrev pub all_after : (Row → List ℕ) → List Row → List ℕ
all_after write rows = flat_map (after_index write) rows

-- so many objects, each after its index
abbrev pub many : Option ℕ → ℕ → ℕ → ℕ → List ℕ → Head
many common group variation n octets = head_after common group variation (range.Indexed true n) octets

-- those of a run
abbrev pub many_of : Run → ℕ → List ℕ → Head
many_of run n octets = many run.common run.group run.variation n octets

-- a row as a header of its own
abbrev pub one_of : Run → (Row → List ℕ) → Row → Head
one_of run write row = many_of run 1 (after_index write row)

-- the object of events of a kind, with a time or without
abbrev pub one_object : Kind → Bool → ℕ × ℕ
one_object kind has_time = event_object kind (if has_time then Some 0 else None)

-- what is required of rows, of which the first so many are put under one header
pub record CanList (fits : Row → Type 0) (write : Row → List ℕ) (count : ℕ) (rows : List Row) : Type 0 where
  pub each : All fits rows
  pub there : count ≤ length rows
  pub room : length (all_after write (take count rows)) ≤ MAX_FRAGMENT
