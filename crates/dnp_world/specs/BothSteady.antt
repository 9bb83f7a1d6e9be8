-- Definition: a steady system with all its centres: to each of them it is steady, beside what stands at the others; and what happens to
-- it while a list of events is done (own rule: IEEE Std 1815-2012 speaks of one link at a time).
use Rattle.std.specs.Prelude.{◌≡◌, ◌==◌, ℕ, zero, suc, if◌then◌else◌, List, [], ◌++◌}
use Rattle.std.specs.List.{flat_map}
use Rattle.dnp_concentrator.specs.PerCentre.{at}
use Rattle.dnp_concentrator.specs.declared.per_centre.PerCentre.{PerCentre}
use Rattle.dnp_eventbuf.specs.Sides.{ForEach}
use Rattle.dnp_eventbuf.specs.declared.pair.TheConstants.{CENTRES}
use Rattle.dnp_objects.specs.declared.command.Command.{Command}
use Rattle.dnp_objects.specs.declared.row.Row.{Row}
use Rattle.dnp_world.specs.Behind.{Elsewhere, Links}
use Rattle.dnp_world.specs.Centres.{centre_at, is_there, seen_at}
use Rattle.dnp_world.specs.Kept.{KeptLists, commands_below, commands_in, kept_in, orders_in, report_of}
use Rattle.dnp_world.specs.ReportShown.{ListsAll}
use Rattle.dnp_world.specs.Reports.{Holds, IsFate}
use Rattle.dnp_world.specs.Steady as one
use Rattle.dnp_world.specs.Stations.{HasSameCounts}
use Rattle.dnp_world.specs.Steady.{IsSteadyBeside, rows_made_at}
use Rattle.dnp_world.specs.Systems.{System}
use Rattle.dnp_world.specs.Wholes.{Whole, seen_by}
use Rattle.dnp_world.specs.declared.event.Event.{Event}

-- what stands at a centre, for the others: what its link performed, and its book
abbrev pub side_of : Links → KeptLists → Elsewhere
side_of links k = record { performed = links.above.performed; orders = k.orders }

-- of a list for each of the first centres, so many, all but that of this one
abbrev pub all_but : {A : Type 0} → ℕ → (ℕ → List A) → ℕ → List A
all_but centre lists zero = []
all_but centre lists (suc n) = all_but centre lists n ++ (if centre == n then [] else lists n)

-- what stands at all others together
abbrev pub beside : ℕ → PerCentre Elsewhere → Elsewhere
beside centre sides = record {
  performed = all_but centre (λ n. (at n sides).performed) CENTRES;
  orders = all_but centre (λ n. (at n sides).orders) CENTRES;
}

-- the links of a centre stand behind what it sees, beside what stands at the others
pub record IsSteadyAmong (sides : PerCentre Elsewhere) (centre : ℕ) (s : System) : Type 0 where
  pub steady : IsSteadyBeside (beside centre sides) s
  pub side : at centre sides ≡ side_of steady.standing.links (kept_in s)

-- to each centre it is steady, beside what stands at the others
pub record AreSteady (w : Whole) : Type 0 where
  -- what stands at each
  pub sides : PerCentre Elsewhere
  pub among : ForEach (λ centre. IsSteadyAmong sides centre (seen_by centre w))

-- the links, and what stands elsewhere, have performed what the concentrator's book has
abbrev pub RelaysAs : Elsewhere → Links → System → Type 0
RelaysAs el links s =
    HasSameCounts (commands_below s.indices links.above.performed ++ commands_below s.indices el.performed) (orders_in (kept_in s).controls)

-- the centre's book, and those elsewhere, have what was issued
abbrev pub IssuesAs : Elsewhere → System → Type 0
IssuesAs el s =
    HasSameCounts (commands_below s.indices (commands_in (kept_in s).orders) ++ commands_below s.indices (commands_in el.orders)) (kept_in s).issued

-- steady again, with the same links, and nothing happened at the substations
pub record StaysBeside (el : Elsewhere) (links : Links) (old new : System) : Type 0 where
  pub steady : IsSteadyBeside el new
  pub same : steady.standing.links ≡ links
  pub fate : IsFate (λ i. []) (report_of old) (report_of new)

-- the commands in the concentrator's book are the same, and so are the centre's book and the index map
pub record LeavesBooks (old new : System) : Type 0 where
  pub indices : new.indices ≡ old.indices
  pub controls : HasSameCounts (orders_in (kept_in new).controls) (orders_in (kept_in old).controls)
  pub orders : (kept_in new).orders ≡ (kept_in old).orders

-- ---- what happens

-- What happened at the substations is what had happened, and these rows.
abbrev pub IsFateOfAll : (ℕ → List Row) → Whole → Whole → Type 0
IsFateOfAll made old new = ForEach (λ centre. IsFate made (report_of (seen_by centre old)) (report_of (seen_by centre new)))

-- What happened at each substation is what had happened, and the rows that these events make: all centres see the same substations.
abbrev pub Lasts : List Event → Whole → Whole → Type 0
Lasts events old new = IsFateOfAll (rows_made_at (seen_by 0 old) events) old new

-- it is steady again, and what happened is what had happened and these rows of each substation
pub record GoesOn (made : ℕ → List Row) (old new : Whole) : Type 0 where
  pub steady : AreSteady new
  pub fate : IsFateOfAll made old new

-- what holds at every moment, of what each centre sees
abbrev pub HoldsForAll : Whole → Type 0
HoldsForAll w = ForEach (λ centre. Holds (report_of (seen_by centre w)))

-- of the rows that a centre sees none is left out
abbrev pub ListsAllOfAll : Whole → Type 0
ListsAllOfAll w = ForEach (λ centre. ListsAll (seen_by centre w) (report_of (seen_by centre w)))

-- ---- what is issued

-- the command that an event issues, where there is its centre and the plan has its output
abbrev pub issued_by : Whole → Event → List (ℕ × Command)
issued_by w event = if is_there (centre_at event) then one.issued_by (seen_at (centre_at event) w) event else []

-- The list of what was issued is what it was, and the commands of these events.
abbrev pub Issues : List Event → Whole → Whole → Type 0
Issues events old new = new.history.issued ≡ old.history.issued ++ flat_map (issued_by old) events
