-- What names nothing in the plan does nothing.
use Rattle.std.proofs.Common.{◌≡◌, Bool, true, false, ◌&&◌, Some, refl, sym, ◌∙◌}
use Rattle.std.specs.Prelude.{nat_lt}
use Rattle.dnp_eventbuf.specs.declared.pair.TheConstants.{CENTRES}
use Rattle.dnp_world.specs.Centres.{ChangesAll, HappensToAll, centre_of, has_link, is_there, names_plan}
use Rattle.dnp_world.specs.SystemRuns.{IfThere}
use Rattle.dnp_world.specs.Systems as one_system
use Rattle.dnp_world.specs.Systems.{System}
use Rattle.dnp_world.specs.Wholes.{Whole}
use Rattle.dnp_world.specs.declared.event.Event.{Event}
use Rattle.dnp_world.specs.declared.event.Event.TheVariants as event
use Rattle.dnp_world.specs.declared.event.Link.{Link}
use Rattle.dnp_world.specs.declared.event.Link.TheVariants.{Below, Above}
use Rattle.dnp_world.specs.declared.event.Place.TheVariants as place
use Rattle.dnp_world.specs.declared.link_event.End.TheVariants as end
use Rattle.dnp_world.proofs.parts.Parts.happen.Goals as goal

none_there : (on : Link) (Change : System → System → Type 0) (w : Whole) → has_link w on ≡ false
    → IfThere (is_there (centre_of on)) (ChangesAll (centre_of on) (λ s t. IfThere (one_system.has_link s on) Change s t)) w w
none_there (Below substation) Change w none = λ centre low. rw none refl
none_there (Above n) Change w none = by (nat_lt n CENTRES) none
  where
    by : (b : Bool) → (b && true) ≡ false → IfThere b (ChangesAll (Some n) Change) w w
    by true e = absurd (cc)
    by false e = refl

unplanned : (w : Whole) (e : Event) → names_plan w e ≡ false → HappensToAll w e w
unplanned w (event.Open on) none = none_there on _ w none
unplanned w (event.HangUp on end) none = none_there on _ w none
unplanned w (event.Deliver on way) none = none_there on _ w none
unplanned w (event.Repeat on way) none = none_there on _ w none
unplanned w (event.Lose on way) none = none_there on _ w none
unplanned w (event.Damage on way octets) none = none_there on _ w none
unplanned w (event.Change substation kind index reading) none = none_there (Below substation) _ w none
unplanned w (event.Ask on task) none = none_there on _ w none
unplanned w (event.Issue centre substation command) none = none_there (Above centre) _ w none
unplanned w (event.Relay on) none = none_there on _ w none
unplanned w (event.Tick on end.Master) none = none_there on _ w none
unplanned w (event.Tick on end.Outstation) none = none_there on _ w none
unplanned w (event.Restart (place.Centre centre)) none = none_there (Above centre) _ w none
unplanned w (event.Restart (place.Substation substation)) none = none_there (Below substation) _ w none
unplanned w e none = absurd (cc)

pub returns-then-not-names_plan-clause-done : goal.returns-then-not-names_plan-clause-done
returns-then-not-names_plan-clause-done g c = λ well.
    unplanned c.args.self.now.system c.args.event.now (sym c.names_plan.ensures ∙ c.if-not-names_plan.true)
