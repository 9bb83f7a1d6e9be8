-- One substation is written, and what a full lane dropped is listed.
use Rattle.std.proofs.Common.{◌≡◌, ℕ, ◌<◌, true, refl, sym, map, subst}
use Rattle.std.specs.Prelude.{slice_get, Option, Some}
use Rattle.dnp_eventbuf.specs.declared.pair.TheConstants.{CENTRES}
use Rattle.dnp_pointdb.specs.Database.{answer_of}
use Rattle.dnp_world.specs.SystemParts.{substation_of}
use Rattle.dnp_world.specs.SystemRuns.{takes_reading}
use Rattle.dnp_world.specs.Systems.{SubstationState}
use Rattle.dnp_world.specs.Wholes.{seen_by}
use Rattle.dnp_world.proofs.OnResults.{at_err, at_ok, both_err, both_ok}
use Rattle.dnp_world.proofs.SystemPlaces.{is_there, there, unchanged_at, viewed}
use Rattle.dnp_world.proofs.SystemReadings.{reads_at}
use Rattle.dnp_world.proofs.parts.Parts.change.Goals as goal

pub returns-clause-stopped : goal.returns-clause-stopped
returns-clause-stopped g c = λ well.
    rw (← c.self.view_is)
    (at_err c.change.result (both_err _ _ c.change.result c.change.ensures.stopped c.change.ensures.unlisted)
    (λ same. rw same.1
    (unchanged_at (viewed c.self.view_is).system c.self.inside.substations.items c.args.substation c.from.result c.index_mut-below.result.now
    c.change.new.self refl c.from.ensures (rw (← c.self.view_is) at c.requires) c.index_mut-below.ensures.value same.0)))

pub returns-clause-named : goal.returns-clause-named
returns-clause-named g c =
    let xs = c.self.inside.substations.items in
    let was = c.index_mut-below.result.now in
    let low = is_there (seen_by 0 (viewed c.self.view_is).system) xs c.args.substation refl (rw (← c.self.view_is) at c.requires) in
    rw (← c.self.view_is)
    (at_err c.change.result c.change.ensures.named
    (subst (λ (o : Option SubstationState). takes_reading o c.args.kind c.args.index c.args.reading ≡ true)
    (sym (subst (λ (n : ℕ). slice_get (map substation_of xs) n ≡ Some (substation_of was)) c.from.ensures
    (there substation_of xs c.from.result was was (rw c.from.ensures low) c.index_mut-below.ensures.value)))))

pub returns-clause-done : goal.returns-clause-done
returns-clause-done g c = λ well.
    let planned = rw (← c.self.view_is) at c.requires in
    let old = (viewed c.self.view_is).system in
    let xs = c.self.inside.substations.items in
    let was = c.index_mut-below.result.now in
    let change = c.change.ensures in
    rw (← c.self.view_is)
    (at_ok c.change.result
    (both_ok _ _ c.change.result (both_ok _ _ c.change.result change.refused change.numbers) (both_ok _ _ c.change.result change.done change.listed))
    (λ done. λ (centre : ℕ) (low : centre < CENTRES). record {
      was = substation_of was;
      there = subst (λ (n : ℕ). slice_get (map substation_of xs) n ≡ Some (substation_of was)) c.from.ensures (there substation_of xs c.from.result was was
          (rw c.from.ensures (is_there (seen_by 0 old) xs c.args.substation refl planned)) c.index_mut-below.ensures.value);
      reads = reads_at (answer_of (substation_of was).core.points c.args.kind c.args.index c.args.reading) centre c.args.substation c.from.result c.args.kind
          c.args.index c.args.reading old xs was c.change.new.self c.change.new.overwritten.items refl c.from.ensures planned
          c.index_mut-below.ensures.value done.0.0 done.0.1 done.1.0 done.1.1;
    }))
