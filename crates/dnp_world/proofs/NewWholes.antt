-- What was made part by part is the fresh whole of its plan.
use Rattle.std.proofs.Common.{◌≡◌, ℕ, [], map, refl, sym, ap, ◌∙◌}
use Rattle.dnp_concentrator.specs.Addresses.{centre_address}
use Rattle.dnp_concentrator.specs.Below.{new_links}
use Rattle.dnp_concentrator.specs.Centre as centre
use Rattle.dnp_concentrator.specs.Concentrator as concentrator
use Rattle.dnp_concentrator.specs.PerCentre.{at, for_each, of_each, per_centre}
use Rattle.dnp_concentrator.specs.Plan.{map_of}
use Rattle.dnp_concentrator.specs.PointsAbove.{points_above}
use Rattle.dnp_concentrator.specs.Relaying.{new_relaying}
use Rattle.dnp_concentrator.specs.declared.addresses.TheConstants.{CONCENTRATOR_ABOVE}
use Rattle.dnp_concentrator.specs.declared.centre.Centre.{Centre}
use Rattle.dnp_concentrator.specs.declared.concentrator.Concentrator.{Concentrator}
use Rattle.dnp_concentrator.specs.declared.per_centre.PerCentre.{PerCentre}
use Rattle.dnp_concentrator.specs.declared.plan.Plan.{Plan}
use Rattle.dnp_controls.specs.Book.{Ledger}
use Rattle.dnp_eventbuf.specs.Archive.{Archive}
use Rattle.dnp_eventbuf.specs.Sides.{ForEach}
use Rattle.dnp_eventbuf.specs.EventBuffer.{EventBuffer}
use Rattle.dnp_world.specs.Channels.{fresh_channel, state_of}
use Rattle.dnp_world.specs.FreshSystems.{fresh_centre, fresh_core, fresh_substations, fresh_system, fresh_whole}
use Rattle.dnp_world.specs.SystemParts.{centre_of, history_of, substation_of, system_of}
use Rattle.dnp_world.specs.Wholes.{WholeHistory, seen_by}
use Rattle.dnp_world.specs.declared.parts.Parts.TheInside.{Inside}
use Rattle.dnp_world.proofs.PerCentre.{at_every, made_alike, made_there, same_each, seen_there}

-- what is said of a new concentrator
pub record IsNewConcentrator {Q A : Type 0} (plan : Plan) (queues : Q) (controls : A) (c : Concentrator Q A) : Type 0 where
  pub cores : ForEach (λ n. concentrator.core_of n c ≡ fresh_core plan)
  pub points : concentrator.plan_above c ≡ points_above plan
  pub indices : concentrator.indices_of c ≡ map_of plan
  pub links : concentrator.links_of c ≡ new_links plan
  pub queue : concentrator.queue_of c ≡ queues
  pub book : concentrator.book_of c ≡ controls

-- what is said of a new centre
pub record IsNewCentre {J B : Type 0} (plan : Plan) (journal : J) (orders : B) (k : Centre J B) : Type 0 where
  pub link : centre.link_of k ≡ new_relaying (points_above plan) plan.times
  pub indices : centre.indices_of k ≡ map_of plan
  pub journal_is : centre.journal_of k ≡ journal
  pub book : centre.book_of k ≡ orders

pub record IsNew {Q J A B : Type 0} (plan : Plan) (queues : Q) (journals : J × J) (controls : A) (orders : B × B) (p : Inside Q J A B) : Type 0 where
  pub indices : p.map ≡ map_of plan
  pub substations : map substation_of p.substations.items ≡ fresh_substations plan.times 0 plan.substations
  pub concentrator : IsNewConcentrator plan queues controls p.concentrator
  pub centres : ForEach (λ n. IsNewCentre plan (at n (per_centre journals)) (at n (per_centre orders)) (at n p.centres))
  pub lines : ForEach (λ n. state_of (at n p.above) ≡ fresh_channel CONCENTRATOR_ABOVE (centre_address n))
  pub moment : p.moment ≡ 0
  pub history : history_of p.history
      ≡ record { confirmed = []; overwritten = []; gone = []; dropped = for_each (λ n. []); issued = []; operated = [] }

-- a fresh whole as each centre sees it
pub fresh_seen : (plan : Plan) (queues : PerCentre EventBuffer) (journals : PerCentre Archive) (controls : Ledger) (orders : PerCentre Ledger)
    → ForEach (λ n. seen_by n (fresh_whole plan queues journals controls orders)
    ≡ fresh_system plan n (at n queues) (at n journals) controls (at n orders))
fresh_seen plan queues journals controls orders = at_every _ refl refl

pub new_whole : {Q J A B : Type 0} (buffer : Q → ℕ → EventBuffer) (archive : J → Archive) (ledger : A → Ledger) (orders_in : B → Ledger) (plan : Plan)
    (queues : Q) (journals : J × J) (controls : A) (orders : B × B) (p : Inside Q J A B) → IsNew plan queues journals controls orders p
    → system_of buffer archive ledger orders_in p
    ≡ fresh_whole plan (for_each (buffer queues)) (of_each archive (per_centre journals)) (ledger controls)
    (of_each orders_in (per_centre orders))
new_whole buffer archive ledger orders_in plan queues journals controls orders p new =
    let middle = new.concentrator in
    let journals_are : PerCentre Archive = of_each archive (per_centre journals) in
    let orders_are : PerCentre Ledger = of_each orders_in (per_centre orders) in
    let fresh = λ (n : ℕ). fresh_centre plan (at n journals_are) (at n orders_are) in
    let centres : of_each (centre_of archive orders_in) p.centres ≡ for_each fresh =
    same_each _ _ (λ n low.
    let k = new.centres n low in
    seen_there (centre_of archive orders_in) n p.centres
    ∙ rw (k.indices, k.link, k.journal_is, k.book, seen_there archive n (per_centre journals), seen_there orders_in n (per_centre orders))
    refl ∙ sym (made_there fresh n low)) in
    let lines : of_each state_of p.above ≡ for_each (λ n. fresh_channel CONCENTRATOR_ABOVE (centre_address n)) =
    same_each _ _ (λ n low. seen_there state_of n p.above ∙ new.lines n low
    ∙ sym (made_there (λ n. fresh_channel CONCENTRATOR_ABOVE (centre_address n)) n low)) in
    rw (
      new.indices,
      new.substations,
      made_alike (λ n. concentrator.core_of n p.concentrator) (λ n. fresh_core plan) middle.cores,
      middle.queue,
      middle.indices,
      middle.points,
      middle.book,
      middle.links,
      centres,
      lines,
      new.moment,
    ) (ap (λ (h : WholeHistory). record (fresh_whole plan (for_each (buffer queues)) journals_are (ledger controls) orders_are) { history = h }) new.history)
