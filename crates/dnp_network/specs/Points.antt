-- Definition: what people call the points of a plan: which points the records of a table say, or the first record that says
-- none. The head is the first record; a record has a field for each word of the head.
use Rattle.std.specs.Prelude.{ℕ, suc, ◌+◌, Bool, true, false, ◌==◌, nat_lt, nat_le, not, ◌&&◌, ◌||◌, if◌then◌else◌, List, [], ◌∷◌, ◌++◌, length, slice_get, Option, Some, None, Result, Ok, Err, codes}
use Rattle.std.specs.Option.{option_and_then, ok_or, unwrap_or}
use Rattle.std.specs.Str.{bytes_eq}
use Rattle.csv.specs.Records.{Row, field_at, fields_of}
use Rattle.dnp_network.specs.Endpoints.{all_are, cut, is_digit, port_from}
use Rattle.dnp_network.specs.declared.kind.PointCounts.{PointCounts}
use Rattle.dnp_network.specs.declared.kind.PointKind.{PointKind}
use Rattle.dnp_network.specs.declared.kind.PointKind.TheVariants as kinds
use Rattle.dnp_network.specs.declared.points.TheConstants.{CELLS, MAX_DIGITS}
use Rattle.dnp_network.specs.declared.points.PointId.{PointId}
use Rattle.dnp_network.specs.declared.points.PointName.{PointName}
use Rattle.dnp_network.specs.declared.points.RowStands.{RowStands}
use Rattle.dnp_network.specs.declared.points.RowStands.TheVariants as stands
use Rattle.dnp_network.specs.declared.points.PointsFault.{PointsFault}
use Rattle.dnp_network.specs.declared.points.PointsFault.TheVariants as faults

-- a field by its number; there is nothing where the record ends before it
unfoldable pub cell : ℕ → List (List ℕ) → List ℕ
cell n fields = unwrap_or (field_at fields n) []

-- a whole number from 0 to 65,535
unfoldable pub number_in : List ℕ → Option ℕ
number_in digits = if length digits == 0 then None else port_from 0 digits

-- ---- kinds

-- the kinds in their order
abbrev pub number_of : PointKind → ℕ
number_of kinds.Binary = 0
number_of kinds.Counter = 1
number_of kinds.Analog = 2
number_of kinds.Output = 3
number_of kinds.Setpoint = 4

abbrev pub name_of : PointKind → List ℕ
name_of kinds.Binary = codes "binary"
name_of kinds.Counter = codes "counter"
name_of kinds.Analog = codes "analog"
name_of kinds.Output = codes "output"
name_of kinds.Setpoint = codes "setpoint"

abbrev pub kind_named : List ℕ → Option PointKind
kind_named word =
    if bytes_eq word (codes "binary") then Some kinds.Binary
    else (if bytes_eq word (codes "counter") then Some kinds.Counter
    else (if bytes_eq word (codes "analog") then Some kinds.Analog
    else (if bytes_eq word (codes "output") then Some kinds.Output
    else (if bytes_eq word (codes "setpoint") then Some kinds.Setpoint else None))))

-- how many points of a kind
abbrev pub count_for : PointCounts → PointKind → ℕ
count_for counts kinds.Binary = counts.binary
count_for counts kinds.Counter = counts.counter
count_for counts kinds.Analog = counts.analog
count_for counts kinds.Output = counts.output
count_for counts kinds.Setpoint = counts.setpoint

abbrev pub count_in : PointKind → Option PointCounts → ℕ
count_in kind None = 0
count_in kind (Some counts) = count_for counts kind

-- those of a substation of the plan; none where the plan lacks it
abbrev pub count_of : List PointCounts → ℕ → PointKind → ℕ
count_of plan substation kind = count_in kind (slice_get plan substation)

-- ---- decimals

-- one digit or more
abbrev pub are_digits : List ℕ → Bool
are_digits text = not (length text == 0) && all_are is_digit text

-- digits, or digits on both sides of a point
abbrev pub decimal_in : List ℕ → Option (List ℕ × List ℕ) → Bool
decimal_in text None = are_digits text && nat_le (length text) MAX_DIGITS
decimal_in text (Some p) = (are_digits p.0 && are_digits p.1) && nat_le (length text) (MAX_DIGITS + 1)

-- at most 12 digits, and a point between two of them at most; 46 is '.'
abbrev pub is_decimal : List ℕ → Bool
is_decimal text = decimal_in text (cut 46 text)

abbrev pub unsigned : List ℕ → List ℕ
unsigned [] = []
unsigned (octet ∷ more) = if octet == 45 then more else octet ∷ more

-- a decimal of at most 12 digits, or nothing
unfoldable pub is_scale : List ℕ → Bool
is_scale text = (length text == 0) || is_decimal (unsigned text)

-- ---- a record

abbrev pub id : ℕ → PointKind → ℕ → PointId
id substation kind index = record { substation = substation; kind = kind; index = index }

-- the plan has this point
abbrev pub has_point : List PointCounts → PointId → Bool
has_point plan point = nat_lt point.index (count_of plan point.substation point.kind)

abbrev pub planned : List PointCounts → PointId → Result PointId RowStands
planned plan point = if has_point plan point then Ok point else Err (stands.NoPoint point)

abbrev pub and_then : {A B : Type 0} → Result A RowStands → (A → Result B RowStands) → Result B RowStands
and_then (Ok x) f = f x
and_then (Err fault) f = Err fault

infixl 10 ◌>>=◌
abbrev pub ◌>>=◌ : {A B : Type 0} → Result A RowStands → (A → Result B RowStands) → Result B RowStands
r >>= f = and_then r f

-- which point of the plan a record is of
unfoldable pub id_of : List PointCounts → List (List ℕ) → Result PointId RowStands
id_of plan fields = do
  substation ← ok_or (number_in (cell 0 fields)) stands.Substation
  kind ← ok_or (kind_named (cell 1 fields)) stands.Kind
  index ← ok_or (number_in (cell 2 fields)) stands.Index
  planned plan (id substation kind index)

abbrev pub has_states : PointKind → Bool
has_states kinds.Binary = true
has_states kinds.Output = true
has_states _ = false

-- what is wrong with the words of a point
unfoldable pub words_fault : PointKind → List (List ℕ) → Option RowStands
words_fault kind fields =
    if length (cell 3 fields) == 0 then Some stands.NoName
    else (if not (is_scale (cell 5 fields)) then Some stands.Scale
    else (if has_states kind || ((length (cell 6 fields) == 0) && (length (cell 7 fields) == 0)) then None else Some stands.States))

abbrev pub finished : {A : Type 0} → Option RowStands → A → Result A RowStands
finished None x = Ok x
finished (Some fault) x = Err fault

abbrev pub named : PointId → List (List ℕ) → PointName
named point fields = record {
  point = point;
  name = cell 3 fields;
  unit = cell 4 fields;
  scale = cell 5 fields;
  zero = cell 6 fields;
  one = cell 7 fields;
}

abbrev pub point_in : List PointCounts → List (List ℕ) → Result PointName RowStands
point_in plan fields = id_of plan fields >>= λ point. finished (words_fault point.kind fields) (named point fields)

unfoldable pub point_of : List PointCounts → List (List ℕ) → Result PointName RowStands
point_of plan fields = if length fields == CELLS then point_in plan fields else Err (stands.Cells (length fields))

-- ---- all records

abbrev pub same_id : PointId → PointId → Bool
same_id one other = ((one.substation == other.substation) && (number_of one.kind == number_of other.kind)) && (one.index == other.index)

-- the first of these points, counted from this number on, that is this one
abbrev pub first_same : ℕ → PointId → List PointName → Option ℕ
first_same n point [] = None
first_same n point (other ∷ more) = if same_id point other.point then Some n else first_same (suc n) point more

abbrev pub twice : Option ℕ → Option RowStands
twice None = None
twice (Some n) = Some (stands.Twice n)

-- one more behind those before it
abbrev pub grown : List PointCounts → List PointName → List (List ℕ) → Result (List PointName) RowStands
grown plan before fields =
    point_of plan fields >>= λ point. finished (twice (first_same 0 point.point before)) (before ++ point ∷ [])

abbrev pub in_row : ℕ → Result (List PointName) RowStands → (List PointName → Result (List PointName) PointsFault) → Result (List PointName) PointsFault
in_row n (Ok all) more = more all
in_row n (Err fault) more = Err (faults.Row n fault)

-- those from this number on behind those before them; the record behind the head has the number 0
abbrev pub points_from : List PointCounts → ℕ → List PointName → List Row → Result (List PointName) PointsFault
points_from plan n before [] = Ok before
points_from plan n before (row ∷ more) = in_row n (grown plan before (fields_of row)) (λ all. points_from plan (suc n) all more)

abbrev pub points_said : List PointCounts → List Row → Result (List PointName) PointsFault
points_said plan rows = points_from plan 0 [] rows

-- the words of the head
abbrev pub heads_the_point : List (List ℕ) → Bool
heads_the_point fields =
    bytes_eq (cell 0 fields) (codes "substation")
    && (bytes_eq (cell 1 fields) (codes "kind")
    && (bytes_eq (cell 2 fields) (codes "index")
    && bytes_eq (cell 3 fields) (codes "name")))

abbrev pub heads_the_rest : List (List ℕ) → Bool
heads_the_rest fields =
    bytes_eq (cell 4 fields) (codes "unit")
    && (bytes_eq (cell 5 fields) (codes "scale")
    && (bytes_eq (cell 6 fields) (codes "zero")
    && bytes_eq (cell 7 fields) (codes "one")))

unfoldable pub is_head : List (List ℕ) → Bool
is_head fields = (length fields == CELLS) && (heads_the_point fields && heads_the_rest fields)

unfoldable pub points_of : List PointCounts → List Row → Result (List PointName) PointsFault
points_of plan [] = Err faults.Head
points_of plan (head ∷ rows) = if is_head (fields_of head) then points_said plan rows else Err faults.Head

-- what people call a point, if they call it something
unfoldable pub name_of_point : List PointName → PointId → Option PointName
name_of_point points point = option_and_then (slice_get points) (first_same 0 point points)
