-- Definition: the keys of a plan's text: which there are, and of which type and length each is.
use Rattle.std.specs.Prelude.{ℕ, suc, ℤ, Bool, true, false, ◌==◌, if◌then◌else◌, List, [], ◌∷◌, length, Option, Some, None, option_and_then, codes}
use Rattle.toml.specs.Data.{Data, Items, no_items, item, Members, no_members, member, get, as_integer, as_bool, as_array, as_table}
use Rattle.dnp_concentrator.specs.declared.limits.TheConstants.{INDEX_KINDS}
use Rattle.dnp_objects.specs.declared.limits.TheConstants.{LANES}
use Rattle.dnp_plantext.specs.declared.plan_text.fields.TheConstants.{SUBSTATION_KEYS, PLAN_KEYS}
use Rattle.dnp_plantext.specs.declared.plan_text.fields.SubFields.{SubFields}
use Rattle.dnp_plantext.specs.declared.plan_text.fields.PlanFields.{PlanFields}

-- one step after the other, each only where the one before gave something
infixl 10 ◌>>=◌
abbrev pub ◌>>=◌ : {A B : Type 0} → Option A → (A → Option B) → Option B
o >>= f = option_and_then f o

-- a whole number under a key of a table
unfoldable pub integer_under : List ℕ → Data → Option ℤ
integer_under key t = do
  value ← get key t
  as_integer value

-- a truth value under a key
unfoldable pub bool_under : List ℕ → Data → Option Bool
bool_under key t = do
  value ← get key t
  as_bool value

-- what each of the items gives, if all of them give something
abbrev pub all_of : {A : Type 0} → (Data → Option A) → Items → Option (List A)
all_of f no_items = Some []
all_of f (item first items) = do
  here ← f first
  more ← all_of f items
  Some (here ∷ more)

-- all items as whole numbers
abbrev pub integers_of : Items → Option (List ℤ)
integers_of items = all_of as_integer items

-- a list of whole numbers under a key
unfoldable pub integers_under : List ℕ → Data → Option (List ℤ)
integers_under key t = do
  value ← get key t
  items ← as_array value
  integers_of items

-- a list of so many
unfoldable pub exactly : ℕ → Option (List ℤ) → Option (List ℤ)
exactly count list = do
  numbers ← list
  if length numbers == count then Some numbers else None

abbrev pub members_count : Members → ℕ
members_count no_members = 0
members_count (member key value members) = suc (members_count members)

-- so many keys: where that many are known to be there, there is no other
abbrev pub keys_are : ℕ → Option Members → Bool
keys_are count None = false
keys_are count (Some members) = members_count members == count

unfoldable pub has_keys : ℕ → Data → Bool
has_keys count t = keys_are count (as_table t)

-- the thing, under this condition
abbrev pub when : {A : Type 0} → Bool → A → Option A
when true x = Some x
when false x = None

-- a substation
unfoldable pub sub_fields_of : Data → Option SubFields
sub_fields_of t = do
  lanes ← exactly LANES (integers_under (codes "lanes") t)
  binary ← integers_under (codes "binary") t
  counter ← integers_under (codes "counter") t
  analog ← integers_under (codes "analog") t
  deadband ← exactly (length analog) (integers_under (codes "deadband") t)
  outputs ← integer_under (codes "outputs") t
  setpoints ← integer_under (codes "setpoints") t
  base ← exactly INDEX_KINDS (integers_under (codes "base") t)
  when (has_keys SUBSTATION_KEYS t) (record {
    lanes = lanes;
    binary = binary;
    counter = counter;
    analog = analog;
    deadband = deadband;
    outputs = outputs;
    setpoints = setpoints;
    base = base;
  })

-- each of a list of substations
abbrev pub all_sub_fields_of : Items → Option (List SubFields)
all_sub_fields_of items = all_of sub_fields_of items

unfoldable pub substations_under : Data → Option (List SubFields)
substations_under t = do
  value ← get (codes "substation") t
  items ← as_array value
  all_sub_fields_of items

-- a plan
unfoldable pub plan_fields_of : Data → Option PlanFields
plan_fields_of t = do
  confirm_ms ← integer_under (codes "confirm_ms") t
  response_ms ← integer_under (codes "response_ms") t
  select_ms ← integer_under (codes "select_ms") t
  retries ← integer_under (codes "retries") t
  unsolicited ← bool_under (codes "unsolicited") t
  queue ← exactly LANES (integers_under (codes "queue") t)
  queue2 ← exactly LANES (integers_under (codes "queue2") t)
  substations ← substations_under t
  when (has_keys PLAN_KEYS t) (record {
    confirm_ms = confirm_ms;
    response_ms = response_ms;
    select_ms = select_ms;
    retries = retries;
    unsolicited = unsolicited;
    queue = queue;
    queue2 = queue2;
    substations = substations;
  })
