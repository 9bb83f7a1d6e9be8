-- Definition: the ranges of a plan's numbers, and the plan that is made of them.
use Rattle.std.specs.Prelude.{ℕ, ◌==◌, nat_le, ℤ, pos, negsuc, not, ◌&&◌, if◌then◌else◌, List, [], ◌∷◌, length, Option, Some, None}
use Rattle.dnp_objects.specs.declared.limits.TheConstants.{LANES}
use Rattle.dnp_pointdb.specs.declared.limits.TheConstants.{MAX_POINTS}
use Rattle.dnp_pointdb.specs.declared.times.Times.{Times}
use Rattle.dnp_eventbuf.specs.declared.plain.TheConstants.{MAX_CAPACITY}
use Rattle.dnp_controls.specs.declared.limits.TheConstants.{MAX_OUTPUTS}
use Rattle.dnp_concentrator.specs.declared.limits.TheConstants.{MAX_RETRIES, MAX_SUBSTATIONS, MAX_TIMER_MS}
use Rattle.dnp_concentrator.specs.declared.plan.Plan.{Plan}
use Rattle.dnp_concentrator.specs.declared.plan.SubPlan.{SubPlan}
use Rattle.dnp_plantext.specs.declared.plan_text.fields.SubFields.{SubFields}
use Rattle.dnp_plantext.specs.declared.plan_text.fields.PlanFields.{PlanFields}
use Rattle.dnp_plantext.specs.PlanFields.{◌>>=◌}

-- the number, if it is in this range
abbrev pub within : ℕ → ℕ → ℤ → Option ℕ
within least most (pos n) = if nat_le least n && nat_le n most then Some n else None
within least most (negsuc n) = None

-- what each of a list gives, if all of them give something
abbrev pub each_of : {A B : Type 0} → (A → Option B) → List A → Option (List B)
each_of f [] = Some []
each_of f (first ∷ more) = do
  here ← f first
  rest ← each_of f more
  Some (here ∷ rest)

-- the numbers, if each is
abbrev pub all_within : ℕ → ℕ → List ℤ → Option (List ℕ)
all_within least most numbers = each_of (within least most) numbers

-- how many rows each lane takes
unfoldable pub capacities_of : List ℤ → Option (List ℕ)
capacities_of list = do
  numbers ← all_within 1 MAX_CAPACITY list
  if length numbers == LANES then Some numbers else None

-- the classes of at most 1,024 points, as numbers of 8 bits
unfoldable pub classes_of : List ℤ → Option (List ℕ)
classes_of list = if nat_le (length list) MAX_POINTS then all_within 0 255 list else None

-- the indices above of a substation's indices 0
unfoldable pub bases_of : List ℤ → Option (List ℕ)
bases_of (binary ∷ counter ∷ analog ∷ output ∷ setpoint ∷ []) = do
  binary ← within 0 65535 binary
  counter ← within 0 65535 counter
  analog ← within 0 65535 analog
  output ← within 0 65535 output
  setpoint ← within 0 65535 setpoint
  Some (binary ∷ counter ∷ analog ∷ output ∷ setpoint ∷ [])
bases_of _ = None

-- a substation; a class over 3 is another fault
unfoldable pub sub_plan_of : SubFields → Option SubPlan
sub_plan_of fields = do
  lanes ← capacities_of fields.lanes
  binary ← classes_of fields.binary
  counter ← classes_of fields.counter
  analog ← classes_of fields.analog
  deadband ← all_within 0 4294967295 fields.deadband
  outputs ← within 0 MAX_OUTPUTS fields.outputs
  setpoints ← within 0 MAX_OUTPUTS fields.setpoints
  base ← bases_of fields.base
  Some (record {
    lanes = lanes;
    binary = binary;
    counter = counter;
    analog = analog;
    deadband = deadband;
    outputs = outputs;
    setpoints = setpoints;
    base = base;
  })

abbrev pub sub_plans_of : List SubFields → Option (List SubPlan)
sub_plans_of all = each_of sub_plan_of all

-- timers and retries
unfoldable pub times_of : PlanFields → Option Times
times_of fields = do
  confirm_ms ← within 1 MAX_TIMER_MS fields.confirm_ms
  response_ms ← within 1 MAX_TIMER_MS fields.response_ms
  select_ms ← within 1 MAX_TIMER_MS fields.select_ms
  retries ← within 0 MAX_RETRIES fields.retries
  Some (record {
    confirm_ms = confirm_ms;
    response_ms = response_ms;
    select_ms = select_ms;
    retries = retries;
    unsolicited = fields.unsolicited;
  })

-- the whole plan, of 1 to 16 substations
unfoldable pub plan_of : PlanFields → Option Plan
plan_of fields =
    if not (length fields.substations == 0) && nat_le (length fields.substations) MAX_SUBSTATIONS then (do
      times ← times_of fields
      queue ← capacities_of fields.queue
      queue2 ← capacities_of fields.queue2
      substations ← sub_plans_of fields.substations
      Some (record { times = times; queue = queue; queue2 = queue2; substations = substations }))
    else None
