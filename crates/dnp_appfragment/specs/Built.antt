-- Definition: a fragment that is being built, and what a call puts into it (IEEE Std 1815-2012, application
-- layer: fragments, object headers).
use Rattle.std.specs.Prelude.{ℕ, ◌+◌, nat_le, Bool, ◌||◌, if◌then◌else◌, List, [], ◌∷◌, ◌++◌, length, option_to_list, Option, Some, None}
use Rattle.std.specs.Option.{option_and_then}
use Rattle.dnp_objects.specs.declared.limits.TheConstants.{MAX_FRAGMENT}
use Rattle.dnp_appfragment.specs.declared.function.Function.{Function}
use Rattle.dnp_appfragment.specs.declared.iin.Iin.{Iin}
use Rattle.dnp_appfragment.specs.Control.{ControlBits}
use Rattle.dnp_appfragment.specs.declared.table.Form.TheVariants as form
use Rattle.dnp_appfragment.specs.Table.{form_eq, form_of, is_response}
use Rattle.dnp_appfragment.specs.Headers.{Head, spelled, Context, begin, context_past}
use Rattle.dnp_appfragment.specs.Fragments.{Asked, Answered}
use Rattle.dnp_appfragment.specs.Joining.{joined}

-- what a clause sees of a `Builder`: its function, the headers that are ended, and after them the run,
-- the header that the next object may join
pub record Built : Type 0 where
  pub function : Function
  pub ended : List Head
  pub run : Option Head

-- the headers put so far
abbrev pub heads : Built → List Head
heads built = built.ended ++ option_to_list built.run

-- what they say for a header after them
abbrev pub context_of : Built → Context
context_of built = context_past begin (heads built)

-- how many octets the fragment has so far: control and function, in a response the two indications,
-- and the headers
abbrev pub front_size : Function → ℕ
front_size function = if is_response function then 4 else 2

abbrev pub size : Built → ℕ
size built = front_size built.function + length (spelled (heads built))

-- ---- what is put

-- no object joins what is there
abbrev pub broken : Built → Built
broken built = record { function = built.function; ended = heads built; run = None }

-- a header more, which no object joins
abbrev pub with_header : Built → Head → Built
with_header built h = record { function = built.function; ended = heads built ++ h ∷ []; run = None }

-- an object more, in the run that it makes the longer, or else as a new run
abbrev pub with_run : Built → Option Head → Head → Built
with_run built (Some longer) object = record { function = built.function; ended = built.ended; run = Some longer }
with_run built None object = record { function = built.function; ended = heads built; run = Some object }

unfoldable pub with_object : Built → Head → Built
with_object built object = with_run built (option_and_then (λ run. joined run object) built.run) object

-- objects one by one, up to the first that doesn't fit into a fragment: what is built then
abbrev pub with_objects : Built → List Head → Built
with_objects built [] = built
with_objects built (object ∷ objects) =
    if nat_le (size (with_object built object)) MAX_FRAGMENT then with_objects (with_object built object) objects else built

-- how many of them are put
abbrev pub objects_put : Built → List Head → ℕ
objects_put built [] = 0
objects_put built (object ∷ objects) =
    if nat_le (size (with_object built object)) MAX_FRAGMENT then objects_put (with_object built object) objects + 1 else 0

-- the functions whose fragments carry commands: those that select and operate, and the responses
abbrev pub carries_commands : Function → Bool
carries_commands function = form_eq (form_of function) form.Command || is_response function

-- ---- the finished fragment

abbrev pub asked : Built → ControlBits → Asked
asked built control = record { control = control; function = built.function; headers = heads built }

abbrev pub answered : Built → ControlBits → Iin → Answered
answered built control iin = record { control = control; function = built.function; iin = iin; headers = heads built }
