-- Event by event.
use Rattle.std.proofs.Common.{◌≡◌, ℕ, ◌<◌, List, [], sym, ap, ap₂, ◌∙◌, subst}
use Rattle.std.proofs.Math.Logic.{∥∥₁_elim}
use Rattle.std.proofs.Props.{props}
use Rattle.dnp_concentrator.specs.PerCentre.{at, for_each}
use Rattle.dnp_concentrator.specs.declared.per_centre.PerCentre.{PerCentre}
use Rattle.dnp_concentrator.specs.declared.plan.Plan.{Plan}
use Rattle.dnp_controls.specs.Book.{Ledger}
use Rattle.dnp_controls.specs.declared.book.Entry.{Entry}
use Rattle.dnp_eventbuf.specs.Archive.{Archive}
use Rattle.dnp_eventbuf.specs.EventBuffer.{EventBuffer}
use Rattle.dnp_eventbuf.specs.declared.pair.TheConstants.{CENTRES}
use Rattle.dnp_objects.specs.declared.command.Command.{Command}
use Rattle.dnp_world.specs.Behind.{Elsewhere, alone}
use Rattle.dnp_world.specs.BothSteady.{HoldsForAll, IsSteadyAmong, ListsAllOfAll, beside, side_of}
use Rattle.dnp_world.specs.FreshSystems.{fresh_system, fresh_whole}
use Rattle.dnp_world.specs.Kept.{kept_in}
use Rattle.dnp_world.specs.NewSystems.{AreEmpty, CanBegin}
use Rattle.dnp_world.specs.Steady.{IsSteadyBeside}
use Rattle.dnp_world.specs.Systems.{System}
use Rattle.dnp_world.specs.Wholes.{Whole, seen_by}
use Rattle.dnp_world.proofs.Beside.{none_but}
use Rattle.dnp_world.proofs.Both.{rows_follow}
use Rattle.dnp_world.proofs.Lasting.{LastingLaws, goes_by, goes_stopped, lasts, lasts_on, lasts_stopped}
use Rattle.dnp_world.proofs.NewWholes.{fresh_seen}
use Rattle.dnp_world.proofs.PerCentre.{made_there}
use Rattle.dnp_world.proofs.headline_laws.steady_systems_stay_steady.Goals as goal

laws_of : goal.After-what_stands_is_shown → LastingLaws
laws_of c = record {
  goes = c.every_event_keeps_both_steady.ensures;
  rows = rows_follow c.rows_are_made_by_events_alone.ensures;
  joined = c.lists_are_of_links.ensures.joined;
}

pub returns-clause-stays : goal.returns-clause-stays
returns-clause-stays c = λ old new events s ran. (goes_by (laws_of c) events old new s ran).steady

pub returns-clause-stays_stopped : goal.returns-clause-stays_stopped
returns-clause-stays_stopped c = λ old new events done s stop. (goes_stopped (laws_of c) events done old new s stop).steady

pub returns-clause-ran : goal.returns-clause-ran
returns-clause-ran c = λ old new events some ran. lasts (laws_of c) events old new some ran

pub returns-clause-stopped : goal.returns-clause-stopped
returns-clause-stopped c = λ old new events done some stop. lasts_stopped (laws_of c) events done old new some stop

pub returns-clause-joined : goal.returns-clause-joined
returns-clause-joined c = lasts_on (laws_of c)

-- as one centre sees it, whose link has performed nothing
fresh : goal.After-what_stands_is_shown → (plan : Plan) (centre : ℕ) (queue : EventBuffer) (journal : Archive) (controls orders : Ledger) → CanBegin plan
    → AreEmpty queue journal controls orders
    → (steady : IsSteadyBeside alone (fresh_system plan centre queue journal controls orders)) × (steady.standing.links.above.performed ≡ [])
fresh c plan centre queue journal controls orders begins empty =
    let (standing, none) = c.a_new_system_stands.ensures.stands plan centre queue journal controls orders begins empty in (
      record {
        standing = standing;
        happened = c.what_happened_can_be_reported.ensures.at_first plan centre queue journal controls orders;
        planned = c.systems_stay_as_planned.ensures.at_first plan centre queue journal controls orders begins.limits;
        settled = c.substations_stay_settled.ensures.at_first plan centre queue journal controls orders;
        controls = c.controls_stay_in_step.ensures.at_first plan centre queue journal controls orders empty.no_controls empty.no_orders;
      },
      none,
    )

-- nothing stands at any centre
abbrev no_sides : PerCentre Elsewhere
no_sides = for_each (λ n. alone)

nothing_there : (n : ℕ) → n < CENTRES → at n no_sides ≡ alone
nothing_there n low = made_there (λ n. alone) n low

nothing_beside : (centre : ℕ) → beside centre no_sides ≡ alone
nothing_beside centre =
    ap₂ (λ (performed : List Command) (orders : List Entry). let el : Elsewhere = record { performed = performed; orders = orders } in el)
    (none_but centre (λ n. (at n no_sides).performed) CENTRES (λ n low. ap (λ (x : Elsewhere). x.performed) (nothing_there n low)))
    (none_but centre (λ n. (at n no_sides).orders) CENTRES (λ n low. ap (λ (x : Elsewhere). x.orders) (nothing_there n low)))

-- beside what stands at the others, as it is said otherwise
among : (sides : PerCentre Elsewhere) (n : ℕ) (s : System) (el : Elsewhere) → el ≡ beside n sides → (steady : IsSteadyBeside el s)
    → at n sides ≡ side_of steady.standing.links (kept_in s) → IsSteadyAmong sides n s
among sides n s el is =
    subst (λ (x : Elsewhere). (steady : IsSteadyBeside x s) → at n sides ≡ side_of steady.standing.links (kept_in s) → IsSteadyAmong sides n s) (sym is)
    (λ steady side. record { steady = steady; side = side })

pub returns-clause-at_first : goal.returns-clause-at_first
returns-clause-at_first c = λ plan queues journals controls orders begins empty.
    let w : Whole = fresh_whole plan queues journals controls orders in
    record {
      sides = no_sides;
      among = λ n low.
          let s : System = fresh_system plan n (at n queues) (at n journals) controls (at n orders) in
          let (steady, none) = fresh c plan n (at n queues) (at n journals) controls (at n orders) begins (empty n low) in
          subst (IsSteadyAmong no_sides n) (sym (fresh_seen plan queues journals controls orders n low))
          (among no_sides n s alone (sym (nothing_beside n)) steady
          (nothing_there n low
          ∙ ap₂ (λ (performed : List Command) (entries : List Entry). let el : Elsewhere = record { performed = performed; orders = entries } in el)
          (sym none) (sym (empty n low).no_orders)));
    }

holds_once : (w : Whole) → IsProp (HoldsForAll w)
holds_once w = hlevel props

all_once : (w : Whole) → IsProp (ListsAllOfAll w)
all_once w = hlevel props

pub returns-clause-holds : goal.returns-clause-holds
returns-clause-holds c = λ w some.
    ∥∥₁_elim some (holds_once w) (λ s.
    λ n low. c.what_stands_is_shown.ensures.holds (seen_by n w) (beside n s.sides) ∣ (s.among n low).steady.standing ∣₁)

pub returns-clause-all : goal.returns-clause-all
returns-clause-all c = λ w some.
    ∥∥₁_elim some (all_once w) (λ s.
    λ n low. c.what_stands_is_shown.ensures.all (seen_by n w) (beside n s.sides) ∣ (s.among n low).steady.standing ∣₁)
