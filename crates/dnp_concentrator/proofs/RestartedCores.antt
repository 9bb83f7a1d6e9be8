-- What a restart leaves of an outstation above comes of its points and its times alone.
use Rattle.std.proofs.Common.{◌≡◌, ℕ, List, refl, ap, ap₂, ◌∙◌}
use Rattle.dnp_objects.specs.declared.row.Row.{Row}
use Rattle.dnp_outstation.specs.Calls.{restarted_core}
use Rattle.dnp_outstation.specs.Links.{KeepsPoints}
use Rattle.dnp_outstation.specs.State.{Core}
use Rattle.dnp_outstation.specs.Station.{new_core, with_points}
use Rattle.dnp_pointdb.specs.Database.{Database, restarted}
use Rattle.dnp_pointdb.specs.declared.times.Times.{Times}
use Rattle.dnp_concentrator.specs.Below.{readings_set}
use Rattle.dnp_concentrator.specs.Concentrator.{without_link}
use Rattle.dnp_concentrator.specs.declared.span.Spans.{Spans}
use Rattle.dnp_concentrator.proofs.Forgets.{lost_forgets, readings_forgotten, twice_forgets}

core_same : (a b : Core) → restarted a.points ≡ restarted b.points → a.times ≡ b.times → restarted_core a ≡ restarted_core b
core_same a b points times = ap₂ (λ (d : Database) (t : Times). new_core d t) points times

pub kept_restarts : (old new : Core) → KeepsPoints old new → restarted_core new ≡ restarted_core old
kept_restarts old new kept = core_same new old (ap restarted kept.points) kept.times

pub again_restarts : (c : Core) → restarted_core (restarted_core c) ≡ restarted_core c
again_restarts c = core_same (restarted_core c) c (twice_forgets c.points) refl

pub read_restarts : (c : Core) (spans : List Spans) (substation : ℕ) (events statics : List Row)
    → restarted_core (with_points c (readings_set spans substation (readings_set spans substation c.points events) statics)) ≡ restarted_core c
read_restarts c spans substation events statics =
    core_same (with_points c (readings_set spans substation (readings_set spans substation c.points events) statics)) c
    (readings_forgotten spans substation (readings_set spans substation c.points events) statics ∙ readings_forgotten spans substation c.points events) refl

pub lost_restarts : (c : Core) (number : ℕ) → restarted_core (without_link c number) ≡ restarted_core c
lost_restarts c number = core_same (without_link c number) c (lost_forgets c.points number) refl
