-- Definition: what crosses a carrier as events happen in a system (own rule: the standard knows no carrier under its lines).
use Rattle.std.specs.Prelude.{◌≡◌, ◌⊎◌, Bool, IsTrue, ℕ, List, [], ◌∷◌, Option, Some, None}
use Rattle.dnp_concentrator.specs.declared.cause.Cause.{Cause}
use Rattle.dnp_concentrator.specs.declared.cause.Cause.TheVariants.{Device}
use Rattle.dnp_world.specs.Centres.{HappensToAll, front_on}
use Rattle.dnp_world.specs.Wholes.{Whole}
use Rattle.dnp_world.specs.declared.event.Event.{Event}
use Rattle.dnp_world.specs.declared.event.Event.TheVariants as event
use Rattle.dnp_world.specs.declared.event.Link.{Link}
use Rattle.dnp_world.specs.declared.link_event.Way.{Way}

-- the front unit of a line crosses once; where there is none, nothing does
abbrev pub FrontCrosses : {C : Type 0} → (C → Link → Way → List ℕ → C → Type 0) → Link → Way → Option (List ℕ) → C → C → Type 0
FrontCrosses carries on way None old new = new ≡ old
FrontCrosses carries on way (Some unit) old new = carries old on way unit new

-- a unit that is delivered crosses the carrier once, and nothing else does
abbrev pub Crosses : {C : Type 0} → (C → Link → Way → List ℕ → C → Type 0) → Whole → Event → C → C → Type 0
Crosses carries w (event.Deliver on way) old new = FrontCrosses carries on way (front_on w on way) old new
Crosses carries w event old new = new ≡ old

-- the events happen one after the other, and what crosses with each
abbrev pub RunsOver : {C : Type 0} → (C → Link → Way → List ℕ → C → Type 0) → Whole → List Event → Whole → C → C → Type 0
RunsOver carries old [] new before after = (new ≡ old) × (after ≡ before)
RunsOver carries old (event ∷ events) new before after =
    (next : Whole) × (between : _) × HappensToAll old event next × Crosses carries old event before between
    × RunsOver carries next events new between after

-- a carrier may refuse a unit for this cause
abbrev pub MayRefuse : {C : Type 0} → (C → Cause → C → Type 0) → Cause → Type 0
MayRefuse refuses cause = (old : _) × (new : _) × refuses old cause new

-- A call of a system whose units are carried, by whether one of its stores has answered Device, before and after: it says Device only
-- where one has, or where the carrier may say it, and where it says it not they all run on.
pub record TellsDeviceOver {C : Type 0} (refuses : C → Cause → C → Type 0) (before after : Bool) (says : Type 0) : Type 0 where
  pub stopped : says → IsTrue after ⊎ MayRefuse refuses Device
  pub runs_on : (says → ⊥) → after ≡ before
