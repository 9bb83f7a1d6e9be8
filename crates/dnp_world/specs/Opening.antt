-- Definition: links that are quiet once they were opened (IEEE Std 1815-2012, application layer: unsolicited responses).
use Rattle.std.specs.Prelude.{◌≡◌, Bool, true, false, List, [], ◌∷◌, ◌++◌, slice_get, Option, Some, None}
use Rattle.dnp_world.specs.Rounds.{is_quiet_on}
use Rattle.dnp_world.specs.Centres.{centre_of, has_link, seen_at}
use Rattle.dnp_world.specs.Systems.{SubstationState, System}
use Rattle.dnp_world.specs.Wholes.{Whole}
use Rattle.dnp_world.specs.declared.event.Event.{Event}
use Rattle.dnp_world.specs.declared.event.Event.TheVariants.{Open}
use Rattle.dnp_world.specs.declared.event.Link.{Link}
use Rattle.dnp_world.specs.declared.event.Link.TheVariants.{Below, Above}

abbrev pub reports_at : Option SubstationState → Bool
reports_at None = false
reports_at (Some s) = s.core.times.unsolicited

-- the outstation of the link sends unsolicited responses
abbrev pub reports_on : System → Link → Bool
reports_on s (Below substation) = reports_at (slice_get s.substations substation)
reports_on s (Above centre) = s.concentrator.core.times.unsolicited

-- where the last of the events opened a link of the plan whose outstation sends none, that link is quiet
abbrev pub OpensQuiet : List Event → Whole → Type 0
OpensQuiet events w =
    (on : Link) (before : List Event) → events ≡ before ++ Open on ∷ [] → has_link w on ≡ true → reports_on (seen_at (centre_of on) w) on ≡ false
    → is_quiet_on (seen_at (centre_of on) w) on ≡ true
