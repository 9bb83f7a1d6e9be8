-- Definition: a thing for each centre.
use Rattle.std.specs.Prelude.{ℕ, ◌==◌, Bool, ◌||◌, if◌then◌else◌}
use Rattle.dnp_concentrator.specs.declared.per_centre.PerCentre.{PerCentre}

-- the one for this centre; a number that is no centre's counts as the last
abbrev pub at : {Thing : Type 0} → ℕ → PerCentre Thing → Thing
at centre t = if centre == 0 then t.first else t.second

abbrev pub with_at : {Thing : Type 0} → ℕ → PerCentre Thing → Thing → PerCentre Thing
with_at centre t thing = if centre == 0 then record t { first = thing } else record t { second = thing }

-- of each centre's number a thing
abbrev pub for_each : {Thing : Type 0} → (ℕ → Thing) → PerCentre Thing
for_each make = record { first = make 0; second = make 1 }

-- of a thing for each centre, the first centre's first
abbrev pub per_centre : {Thing : Type 0} → Thing × Thing → PerCentre Thing
per_centre things = record { first = things.0; second = things.1 }

abbrev pub pair_of : {Thing : Type 0} → PerCentre Thing → Thing × Thing
pair_of t = (t.first, t.second)

-- one of them is true
abbrev pub is_any : PerCentre Bool → Bool
is_any t = t.first || t.second

-- what is seen of each
abbrev pub of_each : {Thing Seen : Type 0} → (Thing → Seen) → PerCentre Thing → PerCentre Seen
of_each see t = record { first = see t.first; second = see t.second }
