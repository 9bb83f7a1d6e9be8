-- A new system is the fresh one of its plan, which is steady.
use Rattle.std.proofs.Common.{ap, ◌∙◌, arith, refl, sym, subst}
use Rattle.dnp_concentrator.specs.IndexMap.{IsTooWide}
use Rattle.dnp_concentrator.specs.PerCentre.{for_each, of_each, per_centre}
use Rattle.dnp_concentrator.specs.Plan.{map_of}
use Rattle.dnp_concentrator.specs.declared.addresses.TheConstants.{CONCENTRATOR_ABOVE}
use Rattle.dnp_concentrator.specs.declared.per_centre.PerCentre.{PerCentre}
use Rattle.dnp_controls.specs.Book.{Ledger}
use Rattle.dnp_eventbuf.specs.Archive.{Archive}
use Rattle.dnp_eventbuf.specs.EventBuffer.{EventBuffer}
use Rattle.dnp_world.specs.BothSteady.{AreSteady}
use Rattle.dnp_world.specs.Channels.{fresh_channel}
use Rattle.dnp_world.specs.NewSystems.{CanBegin}
use Rattle.dnp_world.proofs.PerCentre.{at_every}
use Rattle.dnp_world.proofs.NewWholes.{new_whole}
use Rattle.dnp_world.proofs.OnResults.{handed_on, not_both, went_on}
use Rattle.dnp_world.proofs.Telling.{no_fault}
use Rattle.dnp_world.proofs.world.World.new.Goals as goal

pub returns-clause-fresh : goal.returns-clause-fresh
returns-clause-fresh g c =
    new_whole g.Q.PairLanes.contents g.J.JournalStore.archive g.A.Book.contents g.B.Book.contents c.args.plan.now c.args.queues c.args.journals
    c.args.controls c.args.orders
    (record {
      map = c.in_ok-map.map;
      substations = c.in-Ok.substations;
      concentrator = c.in_ok-concentrator.concentrator;
      centres = record { first = c.in_ok-first.first; second = c.in_ok-second.second };
      above = record { first = c.new-5.result; second = c.new-6.result };
      moment = 0;
      actions = c.none.result;
      history = c.new-7.result;
    })
    (record {
      indices = c.in_ok-map.ensures.found;
      substations = c.in-Ok.ensures;
      concentrator = record {
        cores = c.in_ok-concentrator.ensures.cores;
        points = c.in_ok-concentrator.ensures.plan;
        indices = c.in_ok-concentrator.ensures.indices;
        links = c.in_ok-concentrator.ensures.links;
        queue = c.in_ok-concentrator.ensures.queue;
        book = c.in_ok-concentrator.ensures.book;
      };
      centres = at_every _ (record {
        link = c.in_ok-first.ensures.link;
        indices = c.in_ok-first.ensures.indices;
        journal_is = c.in_ok-first.ensures.journal;
        book = c.in_ok-first.ensures.book;
      }) (record {
        link = c.in_ok-second.ensures.link;
        indices = c.in_ok-second.ensures.indices;
        journal_is = c.in_ok-second.ensures.journal;
        book = c.in_ok-second.ensures.book;
      });
      lines = at_every _ (c.new-5.ensures ∙ ap (fresh_channel CONCENTRATOR_ABOVE) c.centre_address.ensures)
          (c.new-6.ensures ∙ ap (fresh_channel CONCENTRATOR_ABOVE) c.centre_address-2.ensures);
      moment = refl;
      history = c.new-7.ensures;
    })

pub invariant_of-result : goal.invariant_of-result
invariant_of-result g c = λ well.
    let plan = c.args.plan.now in
    let queues : PerCentre EventBuffer = for_each (g.Q.PairLanes.contents c.args.queues) in
    let journals : PerCentre Archive = of_each g.J.JournalStore.archive (per_centre c.args.journals) in
    let controls = g.A.Book.contents c.args.controls in
    let orders : PerCentre Ledger = of_each g.B.Book.contents (per_centre c.args.orders) in
    let narrow : IsTooWide (map_of plan) → ⊥ = λ wide. not_both _ _ _ c.in_ok-map.was (c.new.ensures.too_wide.1 wide) in
    let begins : CanBegin plan = record {
      limits = c.requires.limits;
      lanes = c.plans_have_all_lanes.ensures.substations;
      narrow = narrow;
      apart = λ overlaps. not_both _ _ _ c.in_ok-map.was (c.new.ensures.overlap.1 (overlaps, narrow));
    } in
    let first : g.J.Sink.honest c.args.journals.0 = subst g.J.Sink.honest c.in_ok-first.ensures.journal (well.journals_are 0 (omega arith)) in
    let second : g.J.Sink.honest c.args.journals.1 = subst g.J.Sink.honest c.in_ok-second.ensures.journal (well.journals_are 1 (omega arith)) in
    let empty = c.requires.empty first second in
    ∣ subst AreSteady (sym (returns-clause-fresh g c))
    (c.steady_systems_stay_steady.ensures.at_first plan queues journals controls orders begins (at_every _ (empty 0 (omega arith)) (empty 1 (omega arith)))) ∣₁

-- ---- a plan whose map is refused is told as that, by whichever call comes first

pub returns-in_err-map-clause-too_wide : goal.returns-in_err-map-clause-too_wide
returns-in_err-map-clause-too_wide g c =
    handed_on _ c.from_residual.result _ _ c.in_err-map.was c.from_residual.ensures.1 c.new.ensures.too_wide

pub returns-in_err-concentrator-clause-too_wide : goal.returns-in_err-concentrator-clause-too_wide
returns-in_err-concentrator-clause-too_wide g c =
    handed_on _ c.from_residual-in_err-concentrator.result _ _ c.in_err-concentrator.was c.from_residual-in_err-concentrator.ensures.1 c.new-2.ensures.too_wide

pub returns-in_err-first-clause-too_wide : goal.returns-in_err-first-clause-too_wide
returns-in_err-first-clause-too_wide g c =
    handed_on _ c.from_residual-in_err-first.result _ _ c.in_err-first.was c.from_residual-in_err-first.ensures.1 c.new-3.ensures.too_wide

pub returns-in_err-second-clause-too_wide : goal.returns-in_err-second-clause-too_wide
returns-in_err-second-clause-too_wide g c =
    handed_on _ c.from_residual-in_err-second.result _ _ c.in_err-second.was c.from_residual-in_err-second.ensures.1 c.new-4.ensures.too_wide

pub returns-in_default-clause-too_wide : goal.returns-in_default-clause-too_wide
returns-in_default-clause-too_wide g c = went_on c.new.result c.in_ok-map.map _ _ c.in_ok-map.was (λ says. absurd (cc)) c.new.ensures.too_wide

pub returns-clause-too_wide : goal.returns-clause-too_wide
returns-clause-too_wide g c = went_on c.new.result c.in_ok-map.map _ _ c.in_ok-map.was (no_fault _ _) c.new.ensures.too_wide

pub returns-in_err-map-clause-overlap : goal.returns-in_err-map-clause-overlap
returns-in_err-map-clause-overlap g c =
    handed_on _ c.from_residual.result _ _ c.in_err-map.was c.from_residual.ensures.1 c.new.ensures.overlap

pub returns-in_err-concentrator-clause-overlap : goal.returns-in_err-concentrator-clause-overlap
returns-in_err-concentrator-clause-overlap g c =
    handed_on _ c.from_residual-in_err-concentrator.result _ _ c.in_err-concentrator.was c.from_residual-in_err-concentrator.ensures.1 c.new-2.ensures.overlap

pub returns-in_err-first-clause-overlap : goal.returns-in_err-first-clause-overlap
returns-in_err-first-clause-overlap g c =
    handed_on _ c.from_residual-in_err-first.result _ _ c.in_err-first.was c.from_residual-in_err-first.ensures.1 c.new-3.ensures.overlap

pub returns-in_err-second-clause-overlap : goal.returns-in_err-second-clause-overlap
returns-in_err-second-clause-overlap g c =
    handed_on _ c.from_residual-in_err-second.result _ _ c.in_err-second.was c.from_residual-in_err-second.ensures.1 c.new-4.ensures.overlap

pub returns-in_default-clause-overlap : goal.returns-in_default-clause-overlap
returns-in_default-clause-overlap g c = went_on c.new.result c.in_ok-map.map _ _ c.in_ok-map.was (λ says. absurd (cc)) c.new.ensures.overlap

pub returns-clause-overlap : goal.returns-clause-overlap
returns-clause-overlap g c = went_on c.new.result c.in_ok-map.map _ _ c.in_ok-map.was (no_fault _ _) c.new.ensures.overlap
