-- Definition: which plan a text says, and why it says none.
use Rattle.std.specs.Prelude.{◌≡◌, ℕ, List, Option, Some, None, IsSome}
use Rattle.toml.specs.Data.{table}
use Rattle.toml.specs.Parse.{parse_document}
use Rattle.dnp_concentrator.specs.Plan.{KeepsLimits, map_of}
use Rattle.dnp_concentrator.specs.IndexMap.{IsTooWide, Overlaps}
use Rattle.dnp_concentrator.specs.declared.plan.Plan.{Plan}
use Rattle.dnp_plantext.specs.declared.plan_text.PlanTextFault.{PlanTextFault}
use Rattle.dnp_plantext.specs.declared.plan_text.PlanTextFault.TheVariants.{Syntax, Field, Range, Class, TooWide, Overlap, Memory}
use Rattle.dnp_plantext.specs.declared.plan_text.fields.PlanFields.{PlanFields}
use Rattle.dnp_plantext.specs.PlanFields.{◌>>=◌}
use Rattle.dnp_plantext.specs.PlanFields.{plan_fields_of}
use Rattle.dnp_plantext.specs.PlanRanges.{plan_of}

-- the values of the text's keys, if all are there, no others, and each of its type and length
abbrev pub fields_in : List ℕ → Option PlanFields
fields_in text = do
  members ← parse_document text
  plan_fields_of (table members)

-- the plan of these values, if they are in their ranges
abbrev pub plan_said : List ℕ → Option Plan
plan_said text = do
  fields ← fields_in text
  plan_of fields

-- the text says this plan, with its classes and its index map
pub record IsPlanOf (text : List ℕ) (plan : Plan) : Type 0 where
  pub said : plan_said text ≡ Some plan
  pub limits : KeepsLimits plan
  pub narrow : IsTooWide (map_of plan) → ⊥
  pub apart : Overlaps (map_of plan) → ⊥

-- the text says a plan that is in its ranges, but for its classes
pub record HasClassOver (text : List ℕ) : Type 0 where
  pub plan : Plan
  pub said : plan_said text ≡ Some plan
  pub limits : KeepsLimits plan → ⊥

-- the text says a plan whose indices above don't fit
pub record HasWideIndex (text : List ℕ) : Type 0 where
  pub plan : Plan
  pub said : plan_said text ≡ Some plan
  pub limits : KeepsLimits plan
  pub wide : IsTooWide (map_of plan)

-- the text says a plan of which two substations share an index above
pub record HasSharedIndex (text : List ℕ) : Type 0 where
  pub plan : Plan
  pub said : plan_said text ≡ Some plan
  pub limits : KeepsLimits plan
  pub narrow : IsTooWide (map_of plan) → ⊥
  pub shared : Overlaps (map_of plan)

-- why a text says no plan; where memory runs out, nothing is said of it
abbrev pub IsRefusedFor : List ℕ → PlanTextFault → Type 0
IsRefusedFor text Syntax = parse_document text ≡ None
IsRefusedFor text Field = IsSome (parse_document text) × (fields_in text ≡ None)
IsRefusedFor text Range = IsSome (fields_in text) × (plan_said text ≡ None)
IsRefusedFor text Class = HasClassOver text
IsRefusedFor text TooWide = HasWideIndex text
IsRefusedFor text Overlap = HasSharedIndex text
IsRefusedFor text Memory = Unit
