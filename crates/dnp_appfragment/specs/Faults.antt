-- Definition: why octets are no fragment: the first fault from left to right (IEEE Std 1815-2012, application
-- layer). Each of these facts says that all before the fault is in order, so that octets have one fault at
-- most.
use Rattle.std.specs.Prelude.{◌≡◌, ◌≢◌, ℕ, ◌<◌, Bool, true, false, ◌==◌, if◌then◌else◌, ◌⊎◌, List, ◌∷◌, ◌++◌, length, Some, None}
use Rattle.dnp_appfragment.specs.declared.fault.AppFault.{AppFault}
use Rattle.dnp_appfragment.specs.declared.fault.AppFault.TheVariants.{Short, FunctionUnknown, HeaderCut, QualifierUnknown, ObjectUnknown, RangeBackward, ObjectsCut, CommonTime}
use Rattle.dnp_appfragment.specs.declared.function.Function.{Function}
use Rattle.dnp_appfragment.specs.declared.header.Range.{Range}
use Rattle.dnp_appfragment.specs.declared.qualifier.TheConstants as qualifier
use Rattle.dnp_appfragment.specs.declared.table.Form.{Form}
use Rattle.dnp_appfragment.specs.declared.table.Form.TheVariants as form
use Rattle.dnp_appfragment.specs.Table.{function_octet, form_of, is_response, takes_of, allows, IsInTable}
use Rattle.dnp_appfragment.specs.Headers.{Head, qualifier_of, range_octets, NumbersFit, IsForward, objects_size, spelled, Context, AreHeaders, begin, context_past, head_after, is_relative, IsTimed}
use Rattle.dnp_appfragment.specs.Fragments.{looked_at}

-- the number of a fault
abbrev pub fault_number : AppFault → ℕ
fault_number Short = 1
fault_number FunctionUnknown = 2
fault_number HeaderCut = 3
fault_number QualifierUnknown = 4
fault_number ObjectUnknown = 5
fault_number RangeBackward = 6
fault_number ObjectsCut = 7
fault_number CommonTime = 8

-- ---- of a header

-- one or two octets, which are no header
pub record IsStub (octets : List ℕ) : Type 0 where
  pub some : 0 < length octets
  pub few : length octets < 3

-- the object does not stand in the table for this form
pub record LacksObject (f : Form) (octets : List ℕ) : Type 0 where
  pub group : ℕ
  pub variation : ℕ
  pub qualifier : ℕ
  pub rest : List ℕ
  pub whole : octets ≡ group ∷ variation ∷ qualifier ∷ rest
  pub unknown : takes_of f group variation ≡ None

-- it does, but does not take this qualifier
pub record LacksQualifier (f : Form) (octets : List ℕ) : Type 0 where
  pub group : ℕ
  pub variation : ℕ
  pub qualifier : ℕ
  pub rest : List ℕ
  pub takes : List ℕ
  pub whole : octets ≡ group ∷ variation ∷ qualifier ∷ rest
  pub object : takes_of f group variation ≡ Some takes
  pub unknown : allows takes qualifier ≡ false

-- how many octets of range a qualifier has
abbrev pub range_size : ℕ → ℕ
range_size q =
    if q == qualifier.SPAN then 2 else (if q == qualifier.WIDE_SPAN then 4 else (if q == qualifier.COUNT then 1
    else (if q == qualifier.WIDE_COUNT then 2 else (if q == qualifier.INDEXED then 1 else (if q == qualifier.WIDE_INDEXED then 2 else 0)))))

-- it does take it, but octets of the range are missing
pub record LacksRange (f : Form) (octets : List ℕ) : Type 0 where
  pub group : ℕ
  pub variation : ℕ
  pub qualifier : ℕ
  pub rest : List ℕ
  pub whole : octets ≡ group ∷ variation ∷ qualifier ∷ rest
  pub object : IsInTable f group variation qualifier
  pub few : length rest < range_size qualifier

-- the range is there, and its stop is under its start
pub record IsBackward (f : Form) (octets : List ℕ) : Type 0 where
  pub group : ℕ
  pub variation : ℕ
  pub range : Range
  pub rest : List ℕ
  pub whole : octets ≡ group ∷ variation ∷ qualifier_of range ∷ (range_octets range ++ rest)
  pub object : IsInTable f group variation (qualifier_of range)
  pub fits : NumbersFit range
  pub backward : IsForward range → ⊥

-- the range is a range, and octets of the objects are missing
pub record LacksObjects (f : Form) (octets : List ℕ) : Type 0 where
  pub group : ℕ
  pub variation : ℕ
  pub range : Range
  pub rest : List ℕ
  pub whole : octets ≡ group ∷ variation ∷ qualifier_of range ∷ (range_octets range ++ rest)
  pub object : IsInTable f group variation (qualifier_of range)
  pub fits : NumbersFit range
  pub forward : IsForward range
  pub few : length rest < objects_size f group variation range

-- the objects are there, and their times are given after a common time: there is none here, or a time is 2^48 ms or more
pub record LacksCommon (f : Form) (context : Context) (octets : List ℕ) : Type 0 where
  pub group : ℕ
  pub variation : ℕ
  pub range : Range
  pub objects : List ℕ
  pub rest : List ℕ
  pub whole : octets ≡ group ∷ variation ∷ qualifier_of range ∷ (range_octets range ++ (objects ++ rest))
  pub object : IsInTable f group variation (qualifier_of range)
  pub fits : NumbersFit range
  pub forward : IsForward range
  pub all : length objects ≡ objects_size f group variation range
  pub relative : is_relative group variation ≡ true
  pub untimed : IsTimed (head_after context group variation range objects) → ⊥

-- what is wrong where a header should begin
abbrev pub IsHeaderFault : Form → Context → List ℕ → AppFault → Type 0
IsHeaderFault f context octets HeaderCut = IsStub octets ⊎ LacksRange f octets
IsHeaderFault f context octets ObjectUnknown = LacksObject f octets
IsHeaderFault f context octets QualifierUnknown = LacksQualifier f octets
IsHeaderFault f context octets RangeBackward = IsBackward f octets
IsHeaderFault f context octets ObjectsCut = LacksObjects f octets
IsHeaderFault f context octets CommonTime = LacksCommon f context octets
IsHeaderFault f context octets Short = ⊥
IsHeaderFault f context octets FunctionUnknown = ⊥

-- ---- of a fragment

-- after headers in order, where they stand, comes one with this fault
pub record HasFaultFrom (f : Form) (context : Context) (octets : List ℕ) (fault : AppFault) : Type 0 where
  pub before : List Head
  pub rest : List ℕ
  pub each : AreHeaders f context before
  pub whole : octets ≡ spelled before ++ rest
  pub here : IsHeaderFault f (context_past context before) rest fault

-- and as the first of a fragment
abbrev pub HasHeaderFault : Form → List ℕ → AppFault → Type 0
HasHeaderFault f octets fault = HasFaultFrom f begin octets fault

-- the second octet is no function of a request (`response` false) or of a response
pub record LacksFunction (response : Bool) (octets : List ℕ) : Type 0 where
  pub control : ℕ
  pub code : ℕ
  pub body : List ℕ
  pub whole : octets ≡ control ∷ code ∷ body
  pub unknown : (function : Function) → is_response function ≡ response → function_octet function ≢ code

-- a request's function, and the fault of a header after it
pub record HasRequestFault (octets : List ℕ) (fault : AppFault) : Type 0 where
  pub control : ℕ
  pub function : Function
  pub body : List ℕ
  pub request : is_response function ≡ false
  pub whole : octets ≡ control ∷ function_octet function ∷ body
  pub headers : HasHeaderFault (form_of function) (looked_at (form_of function) body) fault

-- a response's function, two indications, and the fault of a header after them
pub record HasResponseFault (octets : List ℕ) (fault : AppFault) : Type 0 where
  pub control : ℕ
  pub function : Function
  pub one : ℕ
  pub two : ℕ
  pub body : List ℕ
  pub response : is_response function ≡ true
  pub whole : octets ≡ control ∷ function_octet function ∷ one ∷ two ∷ body
  pub headers : HasHeaderFault form.Response body fault

-- the octets are no request, for this fault
abbrev pub IsRequestFault : List ℕ → AppFault → Type 0
IsRequestFault octets Short = length octets < 2
IsRequestFault octets FunctionUnknown = LacksFunction false octets
IsRequestFault octets HeaderCut = HasRequestFault octets HeaderCut
IsRequestFault octets ObjectUnknown = HasRequestFault octets ObjectUnknown
IsRequestFault octets QualifierUnknown = HasRequestFault octets QualifierUnknown
IsRequestFault octets RangeBackward = HasRequestFault octets RangeBackward
IsRequestFault octets ObjectsCut = HasRequestFault octets ObjectsCut
IsRequestFault octets CommonTime = HasRequestFault octets CommonTime

-- the octets are no response, for this fault
abbrev pub IsResponseFault : List ℕ → AppFault → Type 0
IsResponseFault octets Short = length octets < 4
IsResponseFault octets FunctionUnknown = (3 < length octets) × LacksFunction true octets
IsResponseFault octets HeaderCut = HasResponseFault octets HeaderCut
IsResponseFault octets ObjectUnknown = HasResponseFault octets ObjectUnknown
IsResponseFault octets QualifierUnknown = HasResponseFault octets QualifierUnknown
IsResponseFault octets RangeBackward = HasResponseFault octets RangeBackward
IsResponseFault octets ObjectsCut = HasResponseFault octets ObjectsCut
IsResponseFault octets CommonTime = HasResponseFault octets CommonTime
