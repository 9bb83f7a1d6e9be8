-- What is left is steady, and no row was made; what went all the way has moved its command, and what a status ends has moved none.
use Rattle.std.proofs.Common.{◌≡◌, ℕ, List, [], subst}
use Rattle.std.proofs.Math.Logic.{∥∥₁_elim, ∥∥₁_map}
use Rattle.std.proofs.Props.{props}
use Rattle.std.specs.Prelude.{OnOk, Result, Ok, Err, ⊤}
use Rattle.dnp_objects.specs.declared.command.Command.{Command}
use Rattle.dnp_world.specs.BothSteady.{AreSteady}
use Rattle.dnp_world.specs.Centres.{HappensToAll, may_stop}
use Rattle.dnp_world.specs.ControlMoves.{ControlMoves}
use Rattle.dnp_world.specs.Controls.{CanGo, ControlEnds, IsControl}
use Rattle.dnp_world.specs.Wholes.{Whole, seen_by}
use Rattle.dnp_world.specs.declared.round_fault.ControlFault.{ControlFault}
use Rattle.dnp_world.specs.declared.round_fault.ControlFault.TheVariants as control
use Rattle.dnp_world.proofs.Lasting.{fate_of, steady_of}
use Rattle.dnp_world.proofs.world.World.clean_control_by.Goals as goal

pub invariant_of-self : goal.invariant_of-self
invariant_of-self g c = λ well.
    let old = c.self.inside.parts.system in
    let new = c.clean_control.new.self.system in
    let ends = c.clean_control.ensures.ends well in
    steady_of (λ i. []) old new (c.self.invariant (c.clean_control.ensures.held well))
    (λ s. c.rounds_and_controls_keep_a_system_steady.ensures.control c.args.centre c.args.id old new c.clean_control.result s ends)

pub returns-clause-fate : goal.returns-clause-fate
returns-clause-fate g c = λ well.
    let old = c.self.inside.parts.system in
    let new = c.clean_control.new.self.system in
    let ends = c.clean_control.ensures.ends well in
    rw (← c.self.view_is)
    (fate_of (λ i. []) old new (c.self.invariant (c.clean_control.ensures.held well))
    (λ s. c.rounds_and_controls_keep_a_system_steady.ensures.control c.args.centre c.args.id old new c.clean_control.result s ends))

moved : (centre id : ℕ) (old new : Whole) (result : Result ⊤ ControlFault) → ∥ AreSteady old ∥₁
    → (AreSteady old → CanGo id (seen_by centre old) → IsControl HappensToAll (seen_by centre) centre id old new
    → ControlMoves id (seen_by centre old) (seen_by centre new))
    → ControlEnds HappensToAll (seen_by centre) may_stop centre id old result new
    → OnOk result ∥ ControlMoves id (seen_by centre old) (seen_by centre new) ∥₁
moved centre id old new (Ok done) some law (can, whole) = ∥∥₁_map some (λ s. law s can whole)
moved centre id old new (Err fault) some law ends = tt

pub returns-clause-operates : goal.returns-clause-operates
returns-clause-operates g c = λ well.
    let centre = c.args.centre in
    let old = c.self.inside.parts.system in
    let new = c.clean_control.new.self.system in
    rw (← c.self.view_is)
    (moved centre c.args.id old new c.clean_control.result (c.self.invariant (c.clean_control.ensures.held well))
    (λ s. c.a_clean_control_operates_for_its_centre.ensures.moves centre c.args.id old new c.requires s) (c.clean_control.ensures.ends well))

same_once : (xs ys : List (ℕ × Command)) → IsProp (xs ≡ ys)
same_once xs ys = hlevel props

pub returns-clause-rests : goal.returns-clause-rests
returns-clause-rests g c = λ well.
    let centre = c.args.centre in
    let old = c.self.inside.parts.system in
    let new = c.clean_control.new.self.system in
    rw (← c.self.view_is)
    (λ status is.
    let ends : ControlEnds HappensToAll (seen_by centre) may_stop centre c.args.id old (Err (control.Refused status)) new =
    subst (λ (r : Result ⊤ ControlFault). ControlEnds HappensToAll (seen_by centre) may_stop centre c.args.id old r new) is
    (c.clean_control.ensures.ends well) in
    ∥∥₁_elim (c.self.invariant (c.clean_control.ensures.held well)) (same_once new.history.operated old.history.operated)
    (λ s. c.a_clean_control_operates_for_its_centre.ensures.rests centre c.args.id status old new c.requires s ends.0 ends.1))

pub returns-clause-holds : goal.returns-clause-holds
returns-clause-holds g c = λ well.
    c.steady_systems_stay_steady.ensures.holds c.clean_control.new.self.system (invariant_of-self g c well)

pub returns-clause-none_issued : goal.returns-clause-none_issued
returns-clause-none_issued g c = λ well.
    let old = c.self.inside.parts.system in
    let new = c.clean_control.new.self.system in
    rw (← c.self.view_is)
    (c.rounds_and_controls_issue_nothing.ensures.control c.args.centre c.args.id old new c.clean_control.result (c.clean_control.ensures.ends well))
