-- Private steps: what the fields of a `Builder` stand for.
use Rattle.std.specs.Prelude.{◌≡◌, ℕ, ◌+◌, ◌≤◌, ◌==◌, ◌&&◌, if◌then◌else◌, List, [], length, take, drop, Option, None, IfSome}
use Rattle.std.specs.Option.{option_map, option_map_or, option_and_then}
use Rattle.dnp_objects.specs.declared.limits.TheConstants.{MAX_FRAGMENT}
use Rattle.dnp_appfragment.specs.declared.function.Function.{Function}
use Rattle.dnp_appfragment.specs.declared.header.Range.{Range}
use Rattle.dnp_appfragment.specs.declared.header.Range.TheVariants as range
use Rattle.dnp_appfragment.specs.declared.run.Run.{Run}
use Rattle.dnp_appfragment.specs.Joining.{joined_range}
use Rattle.dnp_appfragment.specs.Table.{form_of}
use Rattle.dnp_appfragment.specs.Headers.{Head, head_after, range_octets, header_octets, IsHeaderAt, Divide, begin, context_past}
use Rattle.dnp_appfragment.specs.Left.{headers_of}
use Rattle.dnp_appfragment.specs.Built.{Built, front_size, size}

-- the run with the octets of its objects
abbrev pub run_head : List ℕ → Run → Head
run_head objects run = head_after run.common run.group run.variation run.range objects

-- the ended headers stand in octets, as in the fragment
abbrev pub built : Function → List ℕ → Option Run → List ℕ → Built
built function ended run objects =
    record { function = function; ended = headers_of (form_of function) ended; run = option_map (run_head objects) run }

pub record IsBuilt (function : Function) (ended : List ℕ) (run : Option Run) (objects : List ℕ) : Type 0 where
  pub divides : Divide (form_of function) ended (headers_of (form_of function) ended)
  pub run_is : IfSome run (λ r. IsHeaderAt (form_of function) (context_past begin (headers_of (form_of function) ended)) (run_head objects r))
  pub room : size (built function ended run objects) ≤ MAX_FRAGMENT

-- ---- where they stand in the fragment

-- the ended headers, between the front and the run's header
abbrev pub ended_in : Function → List ℕ → ℕ → List ℕ
ended_in function octets ended = drop (front_size function) (take ended octets)

-- the objects of the run, after its header
abbrev pub objects_in : List ℕ → ℕ → Option Run → List ℕ
objects_in octets ended run = option_map_or (λ r. drop (ended + (3 + length (range_octets r.range))) octets) run []

abbrev pub built_in : Function → List ℕ → ℕ → Option Run → Built
built_in function octets ended run = built function (ended_in function octets ended) run (objects_in octets ended run)

-- the octets of the run's header, with its objects
abbrev pub run_octets : Option Run → List ℕ → List ℕ
run_octets run objects = option_map_or (λ r. header_octets (run_head objects r)) run []

-- room for the front, the ended headers, the run's header
pub record IsLaid (function : Function) (octets : List ℕ) (ended : ℕ) (run : Option Run) : Type 0 where
  pub front : front_size function ≤ ended
  pub behind : ended ≤ length octets
  pub last : drop ended octets ≡ run_octets run (objects_in octets ended run)
  pub parts : IsBuilt function (ended_in function octets ended) run (objects_in octets ended run)

-- ---- what joins the run

-- where the two octets of the number that grows with a run lie in its range, and the number: the
-- count, or the last index
abbrev pub range_end : Range → ℕ × ℕ
range_end range.All = (0, 0)
range_end (range.Span wide first last) = (2, last)
range_end (range.Count wide n) = (0, n)
range_end (range.Indexed wide n) = (0, n)

-- the run with this object, where it joins the run
abbrev pub joined_run : Head → Run → Option Run
joined_run object run =
    if (run.group == object.group) && (run.variation == object.variation)
    then option_map (λ r. record { group = run.group; variation = run.variation; range = r; common = run.common }) (joined_range run.range object.range)
    else None

abbrev pub longer : Option Run → Head → Option Run
longer run object = option_and_then (joined_run object) run
