use Rattle.std.proofs.Common.{◌≡◌, ℕ, zero, suc, ◌<◌, refl, arith}
use Rattle.dnp_concentrator.specs.Plan.{map_of}
use Rattle.dnp_concentrator.specs.declared.plan.Plan.{Plan}
use Rattle.dnp_controls.specs.Book.{empty_ledger}
use Rattle.dnp_eventbuf.specs.EventBuffer.{empty_buffer}
use Rattle.dnp_eventbuf.specs.declared.pair.TheConstants.{CENTRES}
use Rattle.dnp_world.specs.FreshSystems.{fresh_system}
use Rattle.dnp_world.specs.Planned.{HappenedAsPlanned}
use Rattle.dnp_world.specs.Wholes.{seen_by}
use Rattle.dnp_daemons.specs.ScriptWorlds.{empty_archive, plain_system}
use Rattle.dnp_daemons.proofs.IdleScripts.{event_keeps}
use Rattle.dnp_daemons.proofs.script_laws.systems_stay_of_their_plan.Goals as goal

-- each centre has the plan's index map
map_at : (plan : Plan) (centre : ℕ) → centre < CENTRES → (seen_by centre (plain_system plan)).centre.indices ≡ map_of plan
map_at plan zero low = refl
map_at plan (suc zero) low = refl
map_at plan (suc (suc n)) low = absurd (omega arith)

pub returns-clause-at_first : goal.returns-clause-at_first
returns-clause-at_first c = λ plan limits centre low.
    let happened : HappenedAsPlanned plan (fresh_system plan centre (empty_buffer plan.queue) empty_archive empty_ledger empty_ledger) =
    c.what_happens_is_of_the_plan.ensures.at_first plan centre (empty_buffer plan.queue) empty_archive empty_ledger empty_ledger limits in
    record { points = happened.points; indices = map_at plan centre low; moment = omega arith }

pub returns-clause-kept : goal.returns-clause-kept
returns-clause-kept c = λ plan old new event of happens.
    event_keeps (record { kept = c.substations_keep_their_points.ensures }) plan event old new of happens
