-- What is left is steady, whatever the round ends with, and no row was made; the polled rows have moved.
use Rattle.std.proofs.Common.{◌≡◌, ◌↔◌, Bool, true, false, [], Result, Ok, Err, refl, ap}
use Rattle.std.proofs.Math.Logic.{∥∥₁_map}
use Rattle.std.specs.Prelude.{OnOk, ⊤}
use Rattle.dnp_world.specs.BothSteady.{AreSteady}
use Rattle.dnp_world.specs.Centres.{HappensToAll, centre_of, is_quiet_on, seen_at}
use Rattle.dnp_world.specs.Rounds.{IsRound}
use Rattle.dnp_world.specs.Shown.{Shown}
use Rattle.dnp_world.specs.WholeMoves.{RoundMovesAll}
use Rattle.dnp_world.specs.Wholes.{Whole}
use Rattle.dnp_world.specs.declared.event.Link.{Link}
use Rattle.dnp_world.specs.declared.round_fault.RoundFault.{RoundFault}
use Rattle.dnp_world.specs.declared.round_fault.RoundFault.TheVariants.{NotQuiet}
use Rattle.dnp_world.proofs.Lasting.{fate_of, round_leaves, steady_of}
use Rattle.dnp_world.proofs.world.World.clean_round_by.Goals as goal

pub invariant_of-self : goal.invariant_of-self
invariant_of-self g c = λ well.
    let on = c.args.on in
    let old = c.self.inside.parts.system in
    let new = c.clean_round.new.self.system in
    let keeps = c.rounds_and_controls_keep_a_system_steady.ensures in
    steady_of (λ i. []) old new (c.self.invariant (c.clean_round.ensures.held well))
    (λ s. round_leaves _ (seen_at (centre_of on)) on old new c.clean_round.result (λ round. keeps.round on old new s round)
    (λ stop. keeps.round_stopped on old new s stop) (λ same. keeps.rests old new s same)
    (c.clean_round.ensures.done well) (c.clean_round.ensures.stopped well)
    (λ is. ap (λ (shown : Shown _ _ _ _). shown.system) (c.clean_round.ensures.unchanged is)))

pub returns-clause-fate : goal.returns-clause-fate
returns-clause-fate g c = λ well.
    let on = c.args.on in
    let old = c.self.inside.parts.system in
    let new = c.clean_round.new.self.system in
    let keeps = c.rounds_and_controls_keep_a_system_steady.ensures in
    rw (← c.self.view_is)
    (fate_of (λ i. []) old new (c.self.invariant (c.clean_round.ensures.held well))
    (λ s. round_leaves _ (seen_at (centre_of on)) on old new c.clean_round.result (λ round. keeps.round on old new s round)
    (λ stop. keeps.round_stopped on old new s stop) (λ same. keeps.rests old new s same)
    (c.clean_round.ensures.done well) (c.clean_round.ensures.stopped well)
    (λ is. ap (λ (shown : Shown _ _ _ _). shown.system) (c.clean_round.ensures.unchanged is))))

-- where it is done the link was quiet
moves_so : (on : Link) (old new : Whole) (result : Result ⊤ RoundFault) → ((result ≡ Err NotQuiet) ↔ (is_quiet_on old on ≡ false))
    → ∥ AreSteady old ∥₁ → (AreSteady old → is_quiet_on old on ≡ true → IsRound HappensToAll (seen_at (centre_of on)) on old new → RoundMovesAll on old new)
    → OnOk result (IsRound HappensToAll (seen_at (centre_of on)) on old new) → OnOk result ∥ RoundMovesAll on old new ∥₁
moves_so on old new (Ok x) not_quiet some moves round = by (is_quiet_on old on) refl
  where
    by : (b : Bool) → is_quiet_on old on ≡ b → ∥ RoundMovesAll on old new ∥₁
    by true quiet = ∥∥₁_map some (λ s. moves s quiet round)
    by false quiet = absurd (let e : Ok x ≡ Err NotQuiet = not_quiet.1 quiet in cc)
moves_so on old new (Err fault) not_quiet some moves round = tt

pub returns-clause-moves : goal.returns-clause-moves
returns-clause-moves g c = λ well.
    let on = c.args.on in
    let old = c.self.inside.parts.system in
    let new = c.clean_round.new.self.system in
    rw (← c.self.view_is)
    (moves_so on old new c.clean_round.result c.clean_round.ensures.not_quiet (c.self.invariant (c.clean_round.ensures.held well))
    (λ s. c.a_clean_round_moves_rows_for_each_centre.ensures on old new s) (c.clean_round.ensures.done well))

pub returns-clause-holds : goal.returns-clause-holds
returns-clause-holds g c = λ well.
    c.steady_systems_stay_steady.ensures.holds c.clean_round.new.self.system (invariant_of-self g c well)

pub returns-clause-stopped : goal.returns-clause-stopped
returns-clause-stopped g c = rw (← c.self.view_is) c.clean_round.ensures.stopped

pub returns-clause-none_issued : goal.returns-clause-none_issued
returns-clause-none_issued g c = λ well.
    let on = c.args.on in
    let old = c.self.inside.parts.system in
    let new = c.clean_round.new.self.system in
    let law = c.rounds_and_controls_issue_nothing.ensures in
    rw (← c.self.view_is)
    (round_leaves _ (seen_at (centre_of on)) on old new c.clean_round.result (law.round on old new) (law.round_stopped on old new)
    (λ same. ap (λ (s : Whole). s.history.issued) same)
    (c.clean_round.ensures.done well) (c.clean_round.ensures.stopped well)
    (λ is. ap (λ (shown : Shown _ _ _ _). shown.system) (c.clean_round.ensures.unchanged is)))
