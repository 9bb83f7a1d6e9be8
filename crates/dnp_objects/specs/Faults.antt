-- Definition: of several causes to refuse, the first one counts.
use Rattle.std.specs.Prelude.{ℕ, ◌<◌}
use Rattle.dnp_objects.specs.declared.fault.ObjectFault.{ObjectFault}
use Rattle.dnp_objects.specs.declared.fault.ObjectFault.TheVariants.{ObjectUnknown, Cut, ValueRange}

-- the fault is a cause, and none of those before it, by their places in an order, is
abbrev pub IsFirstOf : {Fault : Type 0} → (Fault → ℕ) → (Fault → Type 0) → Fault → Type 0
IsFirstOf {Fault = Fault} place IsCause fault =
    IsCause fault × ((other : Fault) → place other < place fault → IsCause other → ⊥)

-- the order in which causes to refuse objects are looked for
abbrev pub place : ObjectFault → ℕ
place ObjectUnknown = 0
place Cut = 1
place ValueRange = 2

abbrev pub IsFirst : (ObjectFault → Type 0) → ObjectFault → Type 0
IsFirst IsCause fault = IsFirstOf place IsCause fault
