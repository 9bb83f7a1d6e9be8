-- Definition: the first place at which a text is wrong, for each cause to refuse it as a plan. The order of the places:
-- the plan's own keys, its substations' count, and then substation by substation, key by key, item by item.
use Rattle.std.specs.Prelude.{◌≡◌, ℕ, suc, ◌+◌, max, ℤ, pos, Bool, ◌==◌, not, ◌&&◌, nat_le, nat_lt, if◌then◌else◌, List, [], ◌∷◌, length, Option, Some, None, codes}
use Rattle.std.specs.Option.{is_some, option_or}
use Rattle.toml.specs.Data.{Data, string, integer, float, boolean, datetime, array, table, Items, no_items, item, get, as_integer, as_array, as_table}
use Rattle.toml.specs.Parse.{parse_document}
use Rattle.dnp_objects.specs.declared.limits.TheConstants.{CLASSES, LANES}
use Rattle.dnp_pointdb.specs.declared.limits.TheConstants.{INDICES, MAX_POINTS}
use Rattle.dnp_eventbuf.specs.declared.plain.TheConstants.{MAX_CAPACITY}
use Rattle.dnp_controls.specs.declared.limits.TheConstants.{MAX_OUTPUTS}
use Rattle.dnp_concentrator.specs.declared.limits.TheConstants.{INDEX_KINDS, MAX_RETRIES, MAX_SUBSTATIONS, MAX_TIMER_MS}
use Rattle.dnp_concentrator.specs.declared.plan.SubPlan.{SubPlan}
use Rattle.dnp_concentrator.specs.declared.index_kind.IndexKind.{IndexKind}
use Rattle.dnp_concentrator.specs.declared.index_kind.IndexKind.TheVariants as kinds
use Rattle.dnp_concentrator.specs.declared.span.Span.{Span}
use Rattle.dnp_concentrator.specs.declared.span.Spans.{Spans}
use Rattle.dnp_concentrator.specs.IndexKinds.{number_of}
use Rattle.dnp_concentrator.specs.IndexMap.{is_in, span_of}
use Rattle.dnp_concentrator.specs.Plan.{spans_of}
use Rattle.dnp_plantext.specs.declared.plan_text.PlanTextFault.{PlanTextFault}
use Rattle.dnp_plantext.specs.declared.plan_text.PlanTextFault.TheVariants as causes
use Rattle.dnp_plantext.specs.declared.plan_text.place.Found.{Found}
use Rattle.dnp_plantext.specs.declared.plan_text.place.Found.TheVariants as finds
use Rattle.dnp_plantext.specs.declared.plan_text.place.PlanKey.{PlanKey}
use Rattle.dnp_plantext.specs.declared.plan_text.place.PlanKey.TheVariants as keys
use Rattle.dnp_plantext.specs.declared.plan_text.place.PlanPlace.{PlanPlace}
use Rattle.dnp_plantext.specs.declared.plan_text.fields.TheConstants.{SUBSTATION_KEYS, PLAN_KEYS}
use Rattle.dnp_plantext.specs.declared.plan_text.fields.SubFields.{SubFields}
use Rattle.dnp_plantext.specs.declared.plan_text.fields.PlanFields.{PlanFields}
use Rattle.dnp_plantext.specs.PlanFields.{◌>>=◌, integer_under, bool_under, integers_under, has_keys}
use Rattle.dnp_plantext.specs.PlanRanges.{within}
use Rattle.dnp_plantext.specs.PlanText.{IsRefusedFor, fields_in, plan_said}

-- the first of two places, if there is one
infixl 10 ◌<|>◌
abbrev pub ◌<|>◌ : Option PlanPlace → Option PlanPlace → Option PlanPlace
first <|> second = option_or first second

abbrev pub place : Option ℕ → PlanKey → Option ℕ → Found → PlanPlace
place substation key number found = record { substation = substation; key = key; item = number; found = found }

-- ---- keys

abbrev pub name_of : PlanKey → List ℕ
name_of keys.ConfirmMs = codes "confirm_ms"
name_of keys.ResponseMs = codes "response_ms"
name_of keys.SelectMs = codes "select_ms"
name_of keys.Retries = codes "retries"
name_of keys.Unsolicited = codes "unsolicited"
name_of keys.Queue = codes "queue"
name_of keys.Queue2 = codes "queue2"
name_of keys.Substation = codes "substation"
name_of keys.Lanes = codes "lanes"
name_of keys.Binary = codes "binary"
name_of keys.Counter = codes "counter"
name_of keys.Analog = codes "analog"
name_of keys.Deadband = codes "deadband"
name_of keys.Outputs = codes "outputs"
name_of keys.Setpoints = codes "setpoints"
name_of keys.Base = codes "base"
name_of keys.Unknown = []

-- the order of the keys
abbrev pub own_keys : List PlanKey
own_keys =
    keys.ConfirmMs ∷ keys.ResponseMs ∷ keys.SelectMs ∷ keys.Retries ∷ keys.Unsolicited ∷ keys.Queue ∷ keys.Queue2 ∷ []

abbrev pub sub_keys : List PlanKey
sub_keys =
    keys.Lanes ∷ keys.Binary ∷ keys.Counter ∷ keys.Analog ∷ keys.Deadband ∷ keys.Outputs ∷ keys.Setpoints ∷ keys.Base ∷ []

-- ---- keys that are missing, or of another type or length

abbrev pub type_found : Data → Found
type_found (string s) = finds.Text
type_found (integer z) = finds.Whole
type_found (float x) = finds.Float
type_found (boolean b) = finds.Truth
type_found (datetime d) = finds.Datetime
type_found (array all) = finds.List
type_found (table all) = finds.Table

abbrev pub found_in : Option Data → Found
found_in None = finds.Missing
found_in (Some d) = type_found d

unfoldable pub found_under : List ℕ → Data → Found
found_under key t = found_in (get key t)

-- the whole value under the key
abbrev pub whole_place : Option ℕ → PlanKey → Data → PlanPlace
whole_place substation key t = place substation key None (found_under (name_of key) t)

abbrev pub integer_fault : Option ℕ → PlanKey → Data → Option PlanPlace
integer_fault substation key t = if is_some (integer_under (name_of key) t) then None else Some (whole_place substation key t)

abbrev pub bool_fault : Option ℕ → PlanKey → Data → Option PlanPlace
bool_fault substation key t = if is_some (bool_under (name_of key) t) then None else Some (whole_place substation key t)

-- the first item that is no whole number, where they are counted from this number on
abbrev pub first_other : Option ℕ → PlanKey → ℕ → Items → Option PlanPlace
first_other substation key n no_items = None
first_other substation key n (item first more) =
    if is_some (as_integer first) then first_other substation key (suc n) more
    else Some (place substation key (Some n) (type_found first))

-- of a value that is no list of whole numbers: that item, or the whole value
abbrev pub other_in : Option ℕ → PlanKey → Data → Option Items → Option PlanPlace
other_in substation key t None = Some (whole_place substation key t)
other_in substation key t (Some items) = first_other substation key 0 items

unfoldable pub wrong_list : Option ℕ → PlanKey → Data → Option PlanPlace
wrong_list substation key t = other_in substation key t (get (name_of key) t >>= as_array)

-- a list of another length
abbrev pub count_wrong : Option ℕ → PlanKey → Option ℕ → ℕ → Option PlanPlace
count_wrong substation key None n = None
count_wrong substation key (Some count) n = if n == count then None else Some (place substation key None (finds.Count n))

abbrev pub numbers_wrong : Option ℕ → PlanKey → Option ℕ → Data → Option (List ℤ) → Option PlanPlace
numbers_wrong substation key count t None = wrong_list substation key t
numbers_wrong substation key count t (Some numbers) = count_wrong substation key count (length numbers)

unfoldable pub list_fault : Option ℕ → PlanKey → Option ℕ → Data → Option PlanPlace
list_fault substation key count t = numbers_wrong substation key count t (integers_under (name_of key) t)

-- as many deadbands as there are analog inputs
unfoldable pub deadband_fault : Option ℕ → Data → Option PlanPlace
deadband_fault substation t =
    list_fault substation keys.Deadband (integers_under (codes "analog") t >>= (λ analog. Some (length analog))) t

-- what is wrong under the key, if something is
abbrev pub key_fault : Option ℕ → PlanKey → Data → Option PlanPlace
key_fault substation keys.Unsolicited t = bool_fault substation keys.Unsolicited t
key_fault substation keys.Queue t = list_fault substation keys.Queue (Some LANES) t
key_fault substation keys.Queue2 t = list_fault substation keys.Queue2 (Some LANES) t
key_fault substation keys.Lanes t = list_fault substation keys.Lanes (Some LANES) t
key_fault substation keys.Binary t = list_fault substation keys.Binary None t
key_fault substation keys.Counter t = list_fault substation keys.Counter None t
key_fault substation keys.Analog t = list_fault substation keys.Analog None t
key_fault substation keys.Deadband t = deadband_fault substation t
key_fault substation keys.Base t = list_fault substation keys.Base (Some INDEX_KINDS) t
key_fault substation key t = integer_fault substation key t

abbrev pub first_fault : Option ℕ → Data → List PlanKey → Option PlanPlace
first_fault substation t [] = None
first_fault substation t (key ∷ more) = key_fault substation key t <|> first_fault substation t more

-- a substation that is no table, and else the first of its keys
abbrev pub sub_fault : ℕ → Data → Option PlanPlace
sub_fault n t =
    if is_some (as_table t) then first_fault (Some n) t sub_keys
    else Some (place None keys.Substation (Some n) (type_found t))

-- of substations that are counted from this number on
abbrev pub subs_fault : ℕ → Items → Option PlanPlace
subs_fault n no_items = None
subs_fault n (item first more) = sub_fault n first <|> subs_fault (suc n) more

-- a key that no plan has, where the others are all there
abbrev pub unknown_fault : Option ℕ → ℕ → Data → Option PlanPlace
unknown_fault substation count t = if has_keys count t then None else Some (place substation keys.Unknown None finds.Unknown)

abbrev pub subs_unknown : ℕ → Items → Option PlanPlace
subs_unknown n no_items = None
subs_unknown n (item first more) = unknown_fault (Some n) SUBSTATION_KEYS first <|> subs_unknown (suc n) more

-- the substations, and only then keys that no plan has
abbrev pub fault_behind : Data → Option Items → Option PlanPlace
fault_behind t None = Some (whole_place None keys.Substation t)
fault_behind t (Some items) = subs_fault 0 items <|> unknown_fault None PLAN_KEYS t <|> subs_unknown 0 items

unfoldable pub field_fault : Data → Option PlanPlace
field_fault t = first_fault None t own_keys <|> fault_behind t (get (codes "substation") t >>= as_array)

-- ---- numbers outside their ranges

unfoldable pub is_within : ℕ → ℕ → ℤ → Bool
is_within least most number = is_some (within least most number)

abbrev pub number_fault : Option ℕ → PlanKey → ℕ → ℕ → ℤ → Option PlanPlace
number_fault substation key least most number =
    if is_within least most number then None else Some (place substation key None (finds.Number number))

-- the first of a list's items, counted from this number on
abbrev pub item_fault : Option ℕ → PlanKey → ℕ → ℕ → ℕ → List ℤ → Option PlanPlace
item_fault substation key least most n [] = None
item_fault substation key least most n (number ∷ more) =
    if is_within least most number then item_fault substation key least most (suc n) more
    else Some (place substation key (Some n) (finds.Number number))

-- too many points, or a class that doesn't fit 8 bits
abbrev pub points_fault : ℕ → PlanKey → List ℤ → Option PlanPlace
points_fault substation key classes =
    if nat_le (length classes) MAX_POINTS then item_fault (Some substation) key 0 255 0 classes
    else Some (place (Some substation) key None (finds.Count (length classes)))

unfoldable pub sub_range_fault : ℕ → SubFields → Option PlanPlace
sub_range_fault n fields =
    item_fault (Some n) keys.Lanes 1 MAX_CAPACITY 0 fields.lanes
    <|> points_fault n keys.Binary fields.binary
    <|> points_fault n keys.Counter fields.counter
    <|> points_fault n keys.Analog fields.analog
    <|> item_fault (Some n) keys.Deadband 0 4294967295 0 fields.deadband
    <|> number_fault (Some n) keys.Outputs 0 MAX_OUTPUTS fields.outputs
    <|> number_fault (Some n) keys.Setpoints 0 MAX_OUTPUTS fields.setpoints
    <|> item_fault (Some n) keys.Base 0 65535 0 fields.base

-- of substations that are counted from this number on
abbrev pub subs_range_fault : ℕ → List SubFields → Option PlanPlace
subs_range_fault n [] = None
subs_range_fault n (first ∷ more) = sub_range_fault n first <|> subs_range_fault (suc n) more

-- 1 to 16 substations
abbrev pub count_fault : ℕ → Option PlanPlace
count_fault n =
    if not (n == 0) && nat_le n MAX_SUBSTATIONS then None else Some (place None keys.Substation None (finds.Count n))

unfoldable pub range_fault : PlanFields → Option PlanPlace
range_fault fields =
    number_fault None keys.ConfirmMs 1 MAX_TIMER_MS fields.confirm_ms
    <|> number_fault None keys.ResponseMs 1 MAX_TIMER_MS fields.response_ms
    <|> number_fault None keys.SelectMs 1 MAX_TIMER_MS fields.select_ms
    <|> number_fault None keys.Retries 0 MAX_RETRIES fields.retries
    <|> item_fault None keys.Queue 1 MAX_CAPACITY 0 fields.queue
    <|> item_fault None keys.Queue2 1 MAX_CAPACITY 0 fields.queue2
    <|> count_fault (length fields.substations)
    <|> subs_range_fault 0 fields.substations

-- ---- classes over 3

abbrev pub class_fault : ℕ → PlanKey → ℕ → List ℕ → Option PlanPlace
class_fault substation key n [] = None
class_fault substation key n (class ∷ more) =
    if nat_le class CLASSES then class_fault substation key (suc n) more
    else Some (place (Some substation) key (Some n) (finds.Number (pos class)))

unfoldable pub sub_class_fault : ℕ → SubPlan → Option PlanPlace
sub_class_fault n substation =
    class_fault n keys.Binary 0 substation.binary
    <|> class_fault n keys.Counter 0 substation.counter
    <|> class_fault n keys.Analog 0 substation.analog

abbrev pub subs_class_fault : ℕ → List SubPlan → Option PlanPlace
subs_class_fault n [] = None
subs_class_fault n (first ∷ more) = sub_class_fault n first <|> subs_class_fault (suc n) more

-- ---- indices above that are over 65,535, or that two substations share

-- a substation's indices of a kind that end over the highest
abbrev pub wide_fault : ℕ → Spans → IndexKind → Option PlanPlace
wide_fault n spans kind =
    if nat_lt INDICES ((span_of spans kind).base + (span_of spans kind).count) then
    Some (place (Some n) keys.Base (Some (number_of kind)) (finds.Indices (span_of spans kind)))
    else None

unfoldable pub sub_wide_fault : ℕ → Spans → Option PlanPlace
sub_wide_fault n spans =
    wide_fault n spans kinds.Binary
    <|> wide_fault n spans kinds.Counter
    <|> wide_fault n spans kinds.Analog
    <|> wide_fault n spans kinds.Output
    <|> wide_fault n spans kinds.Setpoint

abbrev pub subs_wide_fault : ℕ → List SubPlan → Option PlanPlace
subs_wide_fault n [] = None
subs_wide_fault n (first ∷ more) = sub_wide_fault n (spans_of first) <|> subs_wide_fault (suc n) more

-- the greater of the bases is an index of both
abbrev pub meet : Span → Span → Bool
meet one other = is_in one (max one.base other.base) && is_in other (max one.base other.base)

-- a substation's indices of a kind, if another of these, counted from this number on, has one of them too
abbrev pub shared_fault : ℕ → IndexKind → Span → ℕ → List SubPlan → Option PlanPlace
shared_fault n kind span m [] = None
shared_fault n kind span m (other ∷ more) =
    if not (m == n) && meet span (span_of (spans_of other) kind) then
    Some (place (Some n) keys.Base (Some (number_of kind)) (finds.Shared m))
    else shared_fault n kind span (suc m) more

unfoldable pub sub_shared_fault : List SubPlan → ℕ → Spans → Option PlanPlace
sub_shared_fault all n spans =
    shared_fault n kinds.Binary spans.binary 0 all
    <|> shared_fault n kinds.Counter spans.counter 0 all
    <|> shared_fault n kinds.Analog spans.analog 0 all
    <|> shared_fault n kinds.Output spans.output 0 all
    <|> shared_fault n kinds.Setpoint spans.setpoint 0 all

abbrev pub subs_shared_fault : List SubPlan → ℕ → List SubPlan → Option PlanPlace
subs_shared_fault all n [] = None
subs_shared_fault all n (first ∷ more) = sub_shared_fault all n (spans_of first) <|> subs_shared_fault all (suc n) more

-- ---- the place in the text

abbrev pub field_place : List ℕ → Option PlanPlace
field_place text = do
  members ← parse_document text
  field_fault (table members)

abbrev pub range_place : List ℕ → Option PlanPlace
range_place text = do
  fields ← fields_in text
  range_fault fields

abbrev pub class_place : List ℕ → Option PlanPlace
class_place text = do
  plan ← plan_said text
  subs_class_fault 0 plan.substations

abbrev pub wide_place : List ℕ → Option PlanPlace
wide_place text = do
  plan ← plan_said text
  subs_wide_fault 0 plan.substations

abbrev pub shared_place : List ℕ → Option PlanPlace
shared_place text = do
  plan ← plan_said text
  subs_shared_fault plan.substations 0 plan.substations

-- the first place at which the text is wrong for this cause; of the others the cause alone is told
abbrev pub place_of : PlanTextFault → List ℕ → Option PlanPlace
place_of causes.Field text = field_place text
place_of causes.Range text = range_place text
place_of causes.Class text = class_place text
place_of causes.TooWide text = wide_place text
place_of causes.Overlap text = shared_place text
place_of _ text = None

-- the text is refused for this cause, and this is the first place at which it is wrong for it
pub record IsFaultOf (text : List ℕ) (cause : PlanTextFault) (at : Option PlanPlace) : Type 0 where
  pub refused : IsRefusedFor text cause
  pub first : at ≡ place_of cause text
