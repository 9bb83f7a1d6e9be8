-- The station that was made, opened and asked is the one of the definitions.
use Rattle.std.proofs.Common.{◌≡◌, ℕ, List, [], sym, ap, ◌∙◌}
use Rattle.std.specs.Prelude.{replicate}
use Rattle.dnp_objects.specs.declared.limits.TheConstants.{LANES}
use Rattle.dnp_pointdb.specs.Plan.{Plan, plan_of}
use Rattle.dnp_pointdb.specs.Database.{Database, new_database}
use Rattle.dnp_eventbuf.specs.EventBuffer.{EventBuffer, empty_buffer}
use Rattle.dnp_controls.specs.Latches.{no_panel}
use Rattle.dnp_outstation.specs.State.{Core, State, Step, Actions}
use Rattle.dnp_outstation.specs.Station.{state_of, new_core}
use Rattle.dnp_outstation.specs.Calls.{opened_of, connection_after}
use Rattle.dnp_streams.specs.Station.{times, opened_station, responses}

-- from the parts, made one after the other, to what is sent
pub sends : (plan : Plan) (points : Database) (core : Core) (lanes made : EventBuffer) (opened : State) (first : Actions) (fragment : List ℕ) (after : State)
    (does : Actions)
    → plan ≡ plan_of [] [] [] → points ≡ new_database plan → core ≡ new_core points times → lanes ≡ made → made ≡ empty_buffer (replicate LANES 1)
    → opened_of (state_of core lanes no_panel) 0 ≡ record { state = opened; does = first }
    → connection_after opened no_panel 0 fragment ≡ record { state = after; does = does }
    → does.send ≡ responses fragment
sends plan points core lanes made opened first fragment after does plan_is points_is core_is lanes_are made_is opens receives =
    let database : points ≡ new_database (plan_of [] [] []) = points_is ∙ ap new_database plan_is in
    let core_now : core ≡ new_core (new_database (plan_of [] [] [])) times = core_is ∙ ap (λ (d : Database). new_core d times) database in
    let lanes_now : lanes ≡ empty_buffer (replicate LANES 1) = lanes_are ∙ made_is in
    let station : opened_station ≡ opened =
    ap (λ (k : Core). (opened_of (state_of k (empty_buffer (replicate LANES 1)) no_panel) 0).state) (sym core_now)
    ∙ (ap (λ (l : EventBuffer). (opened_of (state_of core l no_panel) 0).state) (sym lanes_now) ∙ ap (λ (s : Step). s.state) opens) in
    sym (ap (λ (s : State). (connection_after s no_panel 0 fragment).does.send) station ∙ ap (λ (s : Step). s.does.send) receives)
