-- One substation is written, and what was in its lanes is listed.
use Rattle.std.proofs.Common.{ℕ, ◌<◌, List, refl, ap, map, slice_set}
use Rattle.dnp_eventbuf.specs.declared.pair.TheConstants.{CENTRES}
use Rattle.dnp_objects.specs.declared.row.Row.{Row}
use Rattle.dnp_world.specs.SystemParts.{substation_of, history_of}
use Rattle.dnp_world.specs.Wholes.{seen_by}
use Rattle.dnp_world.proofs.OnResults.{at_err, at_ok, both_err, both_ok}
use Rattle.dnp_world.proofs.SystemPlaces.{changes_at, is_there, unchanged_at, viewed}
use Rattle.dnp_world.proofs.parts.Parts.restart_substation.Goals as goal

pub returns-clause-stopped : goal.returns-clause-stopped
returns-clause-stopped g c = λ well.
    rw (← c.self.view_is)
    (at_err c.restart.result (both_err _ _ c.restart.result c.restart.ensures.stopped c.restart.ensures.unlisted)
    (λ same. rw same.1
    (unchanged_at (viewed c.self.view_is).system c.self.inside.substations.items c.args.substation c.from.result c.index_mut-below.result.now
    c.restart.new.self refl c.from.ensures (rw (← c.self.view_is) at c.requires) c.index_mut-below.ensures.value same.0)))

pub returns-clause-done : goal.returns-clause-done
returns-clause-done g c = λ well.
    let old = (viewed c.self.view_is).system in
    let xs = c.self.inside.substations.items in
    rw (← c.self.view_is)
    (at_ok c.restart.result (both_ok _ _ c.restart.result c.restart.ensures.done c.restart.ensures.listed)
    (λ done. λ (centre : ℕ) (low : centre < CENTRES). changes_at c.args.substation c.from.result _ _ (seen_by centre old) _ xs
    c.index_mut-below.result.now c.restart.new.self refl c.from.ensures
    (rw c.from.ensures (is_there (seen_by 0 old) xs c.args.substation refl (rw (← c.self.view_is) at c.requires))) c.index_mut-below.ensures.value done.0
    (ap (λ (rows : List (ℕ × Row)). seen_by centre (record old {
      substations = map substation_of (slice_set xs c.from.result c.restart.new.self);
      history = record (history_of c.self.inside.history) { gone = rows };
    })) done.1)))
