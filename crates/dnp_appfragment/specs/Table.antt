-- Definition: the functions, and which object goes with which qualifier under which function (IEEE Std
-- 1815-2012, application layer: function codes, object headers).
--
-- The list `rules` is the one table of that: reading, the conditions of writing and the proofs all look here,
-- so that a further object is one line of it.
use Rattle.std.specs.Prelude.{ℕ, Bool, true, false, IsTrue, ◌&&◌, ◌==◌, List, [], ◌∷◌, ◌++◌, map, is_some, Option, find}
use Rattle.std.specs.Option.{option_map, IsSomeAnd}
use Rattle.std.specs.List.{filter, list_any}
use Rattle.dnp_objects.specs.Objects.{Object, objects, writable}
use Rattle.dnp_appfragment.specs.declared.function.Function.{Function}
use Rattle.dnp_appfragment.specs.declared.function.Function.TheVariants as function
use Rattle.dnp_appfragment.specs.declared.table.Form.{Form}
use Rattle.dnp_appfragment.specs.declared.table.Form.TheVariants as form
use Rattle.dnp_appfragment.specs.declared.qualifier.TheConstants as qualifier

-- ---- the functions

-- a function's octet
abbrev pub function_octet : Function → ℕ
function_octet function.Confirm = 0
function_octet function.Read = 1
function_octet function.Write = 2
function_octet function.Select = 3
function_octet function.Operate = 4
function_octet function.DirectOperate = 5
function_octet function.DirectOperateNr = 6
function_octet function.EnableUnsolicited = 20
function_octet function.DisableUnsolicited = 21
function_octet function.DelayMeasure = 23
function_octet function.Response = 129
function_octet function.UnsolicitedResponse = 130

-- the functions that have one
unfoldable pub codes : List Function
codes =
    function.Confirm
    ∷ function.Read
    ∷ function.Write
    ∷ function.Select
    ∷ function.Operate
    ∷ function.DirectOperate
    ∷ function.DirectOperateNr
    ∷ function.EnableUnsolicited
    ∷ function.DisableUnsolicited
    ∷ function.DelayMeasure
    ∷ function.Response
    ∷ function.UnsolicitedResponse
    ∷ []

-- the function of an octet, if it is one's
unfoldable pub function_of : ℕ → Option Function
function_of octet = find (λ f. function_octet f == octet) codes

-- and which lines of the table are its own
abbrev pub form_of : Function → Form
form_of function.Confirm = form.Bare
form_of function.Read = form.Read
form_of function.Write = form.Write
form_of function.Select = form.Command
form_of function.Operate = form.Command
form_of function.DirectOperate = form.Command
form_of function.DirectOperateNr = form.Command
form_of function.EnableUnsolicited = form.Enable
form_of function.DisableUnsolicited = form.Enable
form_of function.DelayMeasure = form.Bare
form_of function.Response = form.Response
form_of function.UnsolicitedResponse = form.Response

abbrev pub form_eq : Form → Form → Bool
form_eq form.Bare form.Bare = true
form_eq form.Read form.Read = true
form_eq form.Write form.Write = true
form_eq form.Command form.Command = true
form_eq form.Enable form.Enable = true
form_eq form.Response form.Response = true
form_eq _ _ = false

-- the function is a response's, and not a request's
abbrev pub is_response : Function → Bool
is_response function = form_eq (form_of function) form.Response

-- ---- the qualifiers

-- all objects; those of a span, a start and a stop; so many; so many, each after its index. The
-- numbers of the second of two are wide
abbrev pub all : List ℕ
all = qualifier.ALL ∷ []

abbrev pub span : List ℕ
span = qualifier.SPAN ∷ qualifier.WIDE_SPAN ∷ []

abbrev pub count : List ℕ
count = qualifier.COUNT ∷ qualifier.WIDE_COUNT ∷ []

abbrev pub indexed : List ℕ
indexed = qualifier.INDEXED ∷ qualifier.WIDE_INDEXED ∷ []

-- the qualifier is one of these
abbrev pub allows : List ℕ → ℕ → Bool
allows takes q = list_any (λ t. t == q) takes

-- ---- the table

-- a line: in fragments of this form the object takes these qualifiers
pub record Rule : Type 0 where
  pub form : Form
  pub group : ℕ
  pub variation : ℕ
  pub takes : List ℕ

abbrev pub rule : Form → List ℕ → ℕ × ℕ → Rule
rule f takes object = record { form = f; group = object.0; variation = object.1; takes = takes }

-- in fragments of this form these objects, by group and variation, take these qualifiers
abbrev pub lines : Form → List (ℕ × ℕ) → List ℕ → List Rule
lines f os takes = map (rule f takes) os

-- the lines but those of a response's rows
abbrev pub listed : List Rule
listed =
    lines form.Read ((60, 1) ∷ []) all
    ++ lines form.Read ((60, 2) ∷ (60, 3) ∷ (60, 4) ∷ (2, 0) ∷ (2, 2) ∷ (22, 0) ∷ (22, 5) ∷ (32, 0) ∷ (32, 3) ∷ []) (all ++ count)
    ++ lines form.Read ((1, 0) ∷ (1, 2) ∷ (10, 0) ∷ (10, 2) ∷ (20, 0) ∷ (20, 1) ∷ (30, 0) ∷ (30, 1) ∷ []) (span ++ all)
    ++ lines form.Write ((80, 1) ∷ []) span
    ++ lines form.Write ((50, 1) ∷ []) count
    ++ lines form.Command ((12, 1) ∷ (41, 1) ∷ (41, 2) ∷ []) indexed
    ++ lines form.Enable ((60, 2) ∷ (60, 3) ∷ (60, 4) ∷ []) all
    ++ lines form.Response ((2, 3) ∷ (12, 1) ∷ (41, 1) ∷ (41, 2) ∷ []) indexed
    ++ lines form.Response ((40, 1) ∷ (40, 2) ∷ []) (span ++ indexed)
    ++ lines form.Response ((50, 1) ∷ (51, 1) ∷ (51, 2) ∷ (52, 2) ∷ []) count
    ++ lines form.Response ((1, 1) ∷ (80, 1) ∷ []) span

-- and in a response a line for each object of the object table that is written for rows
abbrev pub row_rule : Object → Rule
row_rule o = rule form.Response (span ++ indexed) (o.group, o.variation)

abbrev pub row_rules : List Object → List Rule
row_rules os = map row_rule (filter (λ o. is_some (writable o.content)) os)

unfoldable pub rules : List Rule
rules = listed ++ row_rules objects

abbrev pub is_rule : Form → ℕ → ℕ → Rule → Bool
is_rule f group variation r = form_eq r.form f && (r.group == group && r.variation == variation)

-- the qualifiers that the object takes in fragments of this form by a list of lines, if it stands in one
abbrev pub takes_in : List Rule → Form → ℕ → ℕ → Option (List ℕ)
takes_in rs f group variation = option_map (λ r. r.takes) (find (is_rule f group variation) rs)

unfoldable pub listed_for : Form → ℕ → ℕ → Option (List ℕ)
listed_for f group variation = takes_in listed f group variation

-- the qualifiers that the object takes in fragments of this form, if it stands in the table for them
unfoldable pub takes_of : Form → ℕ → ℕ → Option (List ℕ)
takes_of f group variation = takes_in rules f group variation

-- the object stands in the table for this form, and takes this qualifier
abbrev pub IsInTable : Form → ℕ → ℕ → ℕ → Type 0
IsInTable f group variation q = IsSomeAnd (takes_of f group variation) (λ takes. IsTrue (allows takes q))
