-- What an event touches leaves the masters their plans, and the system its index map.
use Rattle.std.proofs.Common.{◌≡◌, ℕ, if◌then◌else◌, Bool, true, false, List, map, slice_set, Result, IfOk, refl, ap, ◌∙◌, subst}
use Rattle.dnp_concentrator.specs.Below.{link_in}
use Rattle.dnp_concentrator.specs.Relaying.{Relaying, relaying_after}
use Rattle.dnp_concentrator.specs.declared.span.Spans.{Spans}
use Rattle.dnp_master.specs.Calls.{Taking, ask_answer}
use Rattle.dnp_master.specs.State as master
use Rattle.dnp_master.specs.declared.fault.MasterFault.{MasterFault}
use Rattle.dnp_pointdb.specs.Plan as points
use Rattle.dnp_world.specs.SystemStanding.{points_asked}
use Rattle.dnp_world.specs.Systems.{System}
use Rattle.dnp_world.proofs.RelayLinks.{points_stay, step_points}
use Rattle.dnp_world.proofs.Restarting.{asked_of_map}
use Rattle.dnp_world.proofs.SystemPlans.{asked_still}
use Rattle.dnp_world.proofs.TakenPlans.{receiving_keeps_plan}
use Rattle.dnp_world.proofs.Touches.{Ends, Touched, Use, LinkOpens, LinkHangsUp, LinkAsks, LinkHears, LinkTicks, Used, Nothing, LinkUsed, CentreUsed, LinkRelays, CentreRelays, Performs, Issues, AllHangUp, after_use, after_used, ends_of, step_above, step_at}

-- the points that the masters ask for, and the index map
pub record Asked : Type 0 where
  pub below : List points.Plan
  pub above : points.Plan
  pub indices : List Spans

abbrev pub asked_of : Ends → Asked
asked_of e = record { below = map points_asked e.links; above = points_asked e.centre; indices = e.indices }

ticked_keeps : (s : master.State) (b : Bool) → (if b then master.closed s else s).plan ≡ s.plan
ticked_keeps s true = refl
ticked_keeps s false = refl

use_keeps : (r : Relaying) (call : Use r) → points_asked (after_use r call) ≡ points_asked r
use_keeps r LinkOpens = refl
use_keeps r LinkHangsUp = refl
use_keeps r (LinkAsks now task) = points_stay r.master now task (ask_answer r.master task)
use_keeps r (LinkHears now fragment t is) =
    subst (λ (x : Result Taking MasterFault). IfOk x (λ y. y.state.plan ≡ r.master.plan)) is (receiving_keeps_plan r.master now fragment)
use_keeps r (LinkTicks now) = ticked_keeps r.master (master.is_timed_out r.master now)

-- one master is another, that asks for the same
below_keeps : (e : Ends) (substation : ℕ) (r : Relaying) → points_asked r ≡ points_asked (link_in e.links substation)
    → asked_of (record e { links = slice_set e.links substation r }) ≡ asked_of e
below_keeps e substation r same = ap (λ (ps : List points.Plan). record (asked_of e) { below = ps }) (asked_still e.links substation r same)

above_keeps : (e : Ends) (r : Relaying) → points_asked r ≡ points_asked e.centre → asked_of (record e { centre = r }) ≡ asked_of e
above_keeps e r same = ap (λ (p : points.Plan). record (asked_of e) { above = p }) same

used_keeps : (e : Ends) (used : Used e) → asked_of (after_used e used) ≡ asked_of e
used_keeps e Nothing = refl
used_keeps e (LinkUsed substation call) = below_keeps e substation (after_use (link_in e.links substation) call) (use_keeps (link_in e.links substation) call)
used_keeps e (CentreUsed call) = above_keeps e (after_use e.centre call) (use_keeps e.centre call)
used_keeps e (LinkRelays substation now) =
    below_keeps e substation (relaying_after (link_in e.links substation) now (step_at e substation))
    (step_points (link_in e.links substation) now (step_at e substation))
used_keeps e (CentreRelays now) = above_keeps e (relaying_after e.centre now (step_above e)) (step_points e.centre now (step_above e))
used_keeps e (Performs spans commands) = refl
used_keeps e (Issues substation command above is fits) = refl
used_keeps e AllHangUp = ap (λ (ps : List points.Plan). record (asked_of e) { below = ps }) (asked_of_map e.links)

pub asked_keep : (old new : System) → Touched old new → asked_of (ends_of new) ≡ asked_of (ends_of old)
asked_keep old new touched = ap asked_of touched.after ∙ used_keeps (ends_of old) touched.used
