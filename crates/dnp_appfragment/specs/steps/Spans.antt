-- Private steps: present values of consecutive indexes, put under one header.
use Rattle.std.specs.Prelude.{ℕ, ◌≤◌, true, List, length, take, All}
use Rattle.std.specs.List.{flat_map}
use Rattle.dnp_objects.specs.Rows.{Fits, written}
use Rattle.dnp_objects.specs.declared.limits.TheConstants.{MAX_FRAGMENT}
use Rattle.dnp_objects.specs.declared.row.Row.{Row}
use Rattle.dnp_appfragment.specs.declared.header.Range.TheVariants as range
use Rattle.dnp_appfragment.specs.Headers.{Head, head_of}
use Rattle.dnp_appfragment.specs.Written.{spanned}

-- a row as this object, in a range of its index
abbrev pub row_head : ℕ → ℕ → Row → Head
row_head group variation row = spanned group variation row.index (written group variation row)

-- rows as objects, one after the other
abbrev pub all_written : ℕ → ℕ → List Row → List ℕ
all_written group variation rows = flat_map (written group variation) rows

-- objects in a range from an index to an index
abbrev pub span : ℕ → ℕ → ℕ → ℕ → List ℕ → Head
span group variation first last octets =
    head_of group variation (range.Span true first last) octets

-- what is required of rows, of which the first so many are put under one header
pub record CanSpan (group variation count : ℕ) (rows : List Row) : Type 0 where
  pub each : All (Fits group variation) rows
  pub some : 1 ≤ count
  pub there : count ≤ length rows
  pub room : length (all_written group variation (take count rows)) ≤ MAX_FRAGMENT
