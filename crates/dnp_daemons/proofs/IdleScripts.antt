-- Scripts without the lines that do nothing.
use Rattle.std.proofs.Common.{◌≡◌, ℕ, zero, suc, ◌+◌, ◌<◌, ◌^◌, ◌-◌, Bool, true, false, cond, List, [], ◌∷◌, ◌++◌, Option, Some, None, Result, Ok, Err, refl, sym, ap, ◌∙◌, subst, arith}
use Rattle.std.specs.Prelude.{⊤, slice_set}
use Rattle.std.specs.Option.{is_none}
use Rattle.std.proofs.lemmas.Option.{none-some}
use Rattle.dnp_concentrator.specs.declared.plan.Plan.{Plan}
use Rattle.dnp_line.specs.Lines.{LineState, delivered_on, repeated_on}
use Rattle.dnp_master.specs.Calls.{Taking, receive_of}
use Rattle.dnp_master.specs.State as master
use Rattle.dnp_master.specs.declared.fault.MasterFault.{MasterFault}
use Rattle.dnp_objects.specs.declared.command.Command.{Command}
use Rattle.dnp_objects.specs.declared.lane.LaneRow.{LaneRow}
use Rattle.dnp_objects.specs.declared.row.Kind.{Kind}
use Rattle.dnp_outstation.specs.State.{Step}
use Rattle.dnp_pointdb.specs.Database.{answer_of}
use Rattle.dnp_pointdb.specs.declared.fault.ChangeFault.{ChangeFault}
use Rattle.dnp_pointdb.specs.declared.reading.Reading.{Reading}
use Rattle.dnp_concentrator.specs.Mapped.{command_above}
use Rattle.dnp_concentrator.specs.Relaying.{Relaying}
use Rattle.dnp_world.specs.Channels.{ChannelState}
use Rattle.dnp_world.specs.Controls.{ControlEnds, First, IsAccepted, IsControlFor, IsRefusedFor, IsRefusedOn, PassesBack, AtCentre, AtConcentrator, Second, Third, substation_in}
use Rattle.dnp_world.specs.OneLinkEvents.{is_own}
use Rattle.dnp_world.specs.Planned.{HavePlannedPoints}
use Rattle.dnp_world.specs.Rounds.{Flushes, IsRound, deliveries, events_polled}
use Rattle.dnp_world.specs.SystemEvents.{AsksOn, ChangesAt, ComesOn, HangsUpOn, IsHeardUp, IssuesBy, LinesChange, MasterReceives, MasterTakes, MasterTicks, MiddleAnswers, MiddleSteps, OpensOn, OutstationTicks, Reads, ReadsBy, Refuses, RelaysOn, SendsDown, Steps, relaying_at, same_rest, taken_on, told}
use Rattle.dnp_world.specs.SystemEvents as happening
use Rattle.dnp_world.specs.Centres.{ChangesAll, HappensToAll, IsSeen, SeesElsewhere, centre_at, centre_of, is_elsewhere, is_there, may_stop, seen_at}
use Rattle.dnp_world.specs.SystemRuns.{Happens, IfThere, RunsTo}
use Rattle.dnp_world.specs.Systems.{SubstationState, System, standing_on}
use Rattle.dnp_world.specs.Wholes.{Whole, seen_by}
use Rattle.dnp_world.specs.declared.event.Event.{Event}
use Rattle.dnp_world.specs.declared.event.Event.TheVariants as event
use Rattle.dnp_world.specs.declared.event.Link.{Link}
use Rattle.dnp_world.specs.declared.event.Link.TheVariants as link
use Rattle.dnp_world.specs.declared.event.Place.TheVariants as place
use Rattle.dnp_world.specs.declared.link_event.End.{End}
use Rattle.dnp_world.specs.declared.link_event.End.TheVariants as end
use Rattle.dnp_world.specs.declared.link_event.Way.{Way}
use Rattle.dnp_world.specs.declared.link_event.Way.TheVariants as way
use Rattle.dnp_world.specs.declared.round_fault.ControlFault.{ControlFault}
use Rattle.dnp_world.specs.declared.round_fault.ControlFault.TheVariants as control
use Rattle.dnp_world.specs.declared.round_fault.RoundFault.{RoundFault}
use Rattle.dnp_world.specs.declared.round_fault.RoundFault.TheVariants as round
use Rattle.dnp_daemons.specs.IdleLines.{idle_reason}
use Rattle.dnp_daemons.specs.Centres.{number_of}
use Rattle.dnp_daemons.specs.IdleRuns.{IsOf, IsOfToOne, without_idle}
use Rattle.dnp_daemons.specs.ScriptRuns.{Does, DoesAll}
use Rattle.dnp_daemons.specs.ScriptWorlds.{RoundEnds, law_of_worlds}
use Rattle.dnp_daemons.specs.Scripted.{HappensTimes}
use Rattle.dnp_daemons.specs.declared.script.ScriptLine.{ScriptLine}
use Rattle.dnp_daemons.specs.declared.script.ScriptLine.TheVariants.{One, Flush, Round, Control}
use Rattle.dnp_daemons.specs.declared.script.idle.IdleReason.{IdleReason}
use Rattle.dnp_daemons.proofs.Idling.{idle_to_one}
use Rattle.dnp_daemons.proofs.Views.{unchanged_to_all}

-- what the crate of whole systems promises
pub record PointsKept : Type 0 where
  pub kept : (plan : Plan) (old new : System) (event : Event) → Happens old event new → HavePlannedPoints plan old → HavePlannedPoints plan new

-- ---- the index map and the moment

-- the centre keeps its index map, and the moment stays one of 64 bits
abbrev Stays : System → System → Type 0
Stays old new = (new.centre.indices ≡ old.centre.indices) × (old.now < 2 ^ 64 → new.now < 2 ^ 64)

as_it : (old new : System) → new ≡ old → Stays old new
as_it old new same = (ap (λ (s : System). s.centre.indices) same, λ low. subst (λ (s : System). s.now < 2 ^ 64) (sym same) low)

then : (a b c : System) → Stays a b → Stays b c → Stays a c
then a b c first second = (second.0 ∙ first.0, λ low. second.1 (first.1 low))

changes_stay : (substation : ℕ) (Change : SubstationState → SubstationState → Type 0) (rest : SubstationState → SubstationState → System → System)
    (old new : System) → ((was is : SubstationState) (s : System) → Stays s (rest was is s)) → ChangesAt substation Change rest old new → Stays old new
changes_stay substation Change rest old new stay h =
    let s : System = record old { substations = slice_set old.substations substation h.is } in
    then old (rest h.was h.is s) new (stay h.was h.is s) (as_it (rest h.was h.is s) new h.after)

rest_stays : (was is : SubstationState) (s : System) → Stays s (same_rest was is s)
rest_stays was is s = (refl, λ low. low)

lines_stay : (on : Link) (Change : ChannelState → ChannelState → Type 0) (old new : System) → LinesChange on Change old new → Stays old new
lines_stay (link.Below substation) Change old new h = changes_stay substation _ same_rest old new rest_stays h
lines_stay (link.Above centre) Change old new h =
    then old (record old { above = new.above }) new (refl, λ low. low) (as_it (record old { above = new.above }) new h.1)

middle_stays : (step : Step) (commands : List Command) (lines : ChannelState) (old new : System) → MiddleSteps step commands lines old new → Stays old new
middle_stays step commands lines old new h =
    (ap (λ (s : System). s.centre.indices) h.after, λ low. subst (λ (s : System). s.now < 2 ^ 64) (sym h.after) low)

sends_stay : (on : Link) (fragments : List (List ℕ)) (r : Relaying) (old new : System) → SendsDown on fragments r old new → Stays old new
sends_stay (link.Below substation) fragments r old new h =
    (ap (λ (s : System). s.centre.indices) h.after, λ low. subst (λ (s : System). s.now < 2 ^ 64) (sym h.after) low)
sends_stay (link.Above centre) fragments r old new h = (ap (λ (s : System). s.centre.indices) h.1, λ low. subst (λ (s : System). s.now < 2 ^ 64) (sym h.1) low)

-- ---- each event

opens_stay : (on : Link) (old new : System) → OpensOn on old new → Stays old new
opens_stay (link.Below substation) old new h = (ap (λ (s : System). s.centre.indices) h.after, λ low. subst (λ (s : System). s.now < 2 ^ 64) (sym h.after) low)
opens_stay (link.Above centre) old new h = (ap (λ (s : System). s.centre.indices) h.after, λ low. subst (λ (s : System). s.now < 2 ^ 64) (sym h.after) low)

hangs_stay : (on : Link) (e : End) (old new : System) → HangsUpOn on e old new → Stays old new
hangs_stay (link.Below substation) end.Master old new h =
    (ap (λ (s : System). s.centre.indices) h.after, λ low. subst (λ (s : System). s.now < 2 ^ 64) (sym h.after) low)
hangs_stay (link.Below substation) end.Outstation old new h =
    (ap (λ (s : System). s.centre.indices) h.after, λ low. subst (λ (s : System). s.now < 2 ^ 64) (sym h.after) low)
hangs_stay (link.Above centre) end.Master old new h = (ap (λ (s : System). s.centre.indices) h, λ low. subst (λ (s : System). s.now < 2 ^ 64) (sym h) low)
hangs_stay (link.Above centre) end.Outstation old new h = (ap (λ (s : System). s.centre.indices) h, λ low. subst (λ (s : System). s.now < 2 ^ 64) (sym h) low)

answers_stay : (given : List (List ℕ)) (old new : System) → MiddleAnswers given old new → Stays old new
answers_stay [] old new h = as_it old new h
answers_stay (fragment ∷ others) old new h = middle_stays _ _ _ old new h

taken_stays : (on : Link) (s : System) (t : Taking) → Stays s (taken_on s on t)
taken_stays (link.Below substation) s t = (refl, λ low. low)
taken_stays (link.Above centre) s t = (refl, λ low. low)

receives_stay : (on : Link) (r : Result Taking MasterFault) (old new : System) → MasterReceives on r old new → Stays old new
receives_stay on (Ok t) old new h = then old (taken_on old on t) new (taken_stays on old t) (lines_stay on _ (taken_on old on t) new h.1)
receives_stay on (Err fault) old new h = as_it old new h

takes_stay : (on : Link) (given : List (List ℕ)) (old new : System) → MasterTakes on given old new → Stays old new
takes_stay on [] old new h = as_it old new h
takes_stay on (fragment ∷ others) old new h = receives_stay on (receive_of (relaying_at old on).master old.now fragment) old new h

comes_stay : (left : LineState → LineState) (on : Link) (w : Way) (old new : System) → ComesOn left on w old new → Stays old new
comes_stay left (link.Below substation) way.Down old new h = changes_stay substation _ _ old new (λ was is s. (refl, λ low. low)) h.came
comes_stay left (link.Above centre) way.Down old new h =
    answers_stay h.given (record old { above = record old.above { down = left old.above.down; outstation_port = h.port } }) new h.came
comes_stay left (link.Below substation) way.Up old new h =
    then old h.between new (lines_stay (link.Below substation) _ old h.between h.heard) (takes_stay (link.Below substation) h.given h.between new h.came)
comes_stay left (link.Above centre) way.Up old new h =
    then old h.between new (lines_stay (link.Above centre) (IsHeardUp left h.given) old h.between h.heard)
    (takes_stay (link.Above centre) h.given h.between new h.came)

reads_stay : (made : Result (Option LaneRow) ChangeFault) (substation : ℕ) (kind : Kind) (index : ℕ) (reading : Reading) (was : SubstationState)
    (old new : System) → ReadsBy made substation kind index reading was old new → Stays old new
reads_stay (Ok made) substation kind index reading was old new h = changes_stay substation _ _ old new (λ was is s. (refl, λ low. low)) h.1
reads_stay (Err fault) substation kind index reading was old new h = as_it old new h

asks_stay : (own : Bool) (on : Link) (t : Rattle.dnp_master.specs.declared.task.Task.Task) (old new : System) → AsksOn own on t old new → Stays old new
asks_stay true on t old new h = sends_stay on _ _ old new h
asks_stay false on t old new h = as_it old new h

issues_stay : (o : Option Command) (substation : ℕ) (command : Command) (old new : System) → IssuesBy o substation command old new → Stays old new
issues_stay None substation command old new h = as_it old new h
issues_stay (Some above) substation command old new h = (ap (λ (s : System). s.centre.indices) h.2, λ low. subst (λ (s : System). s.now < 2 ^ 64) (sym h.2) low)

told_stays : (on : Link) (s : System) (step : Rattle.dnp_concentrator.specs.Relaying.Step) → Stays s (told s on step)
told_stays (link.Below substation) s step = (refl, λ low. low)
told_stays (link.Above centre) s step = (refl, λ low. low)

relays_stay : (on : Link) (old new : System) → RelaysOn on old new → Stays old new
relays_stay on old new (Steps operates sends) =
    then old (told old on (happening.step_on old on)) new (told_stays on old (happening.step_on old on)) (sends_stay on _ _ _ new sends)
relays_stay on old new (Refuses refused same) = as_it old new same

chosen_stays : (b : Bool) (old x y new : System) → Stays old x → Stays old y → new ≡ cond b x y → Stays old new
chosen_stays true old x y new first second same = then old x new first (as_it x new same)
chosen_stays false old x y new first second same = then old y new second (as_it y new same)

ticks_stay : (on : Link) (old new : System) → MasterTicks on old new → Stays old new
ticks_stay (link.Below substation) old new h =
    chosen_stays (master.is_timed_out (happening.relaying_at old (link.Below substation)).master old.now) old _ _ new (refl, λ low. low) (refl, λ low. low) h
ticks_stay (link.Above centre) old new h = (ap (λ (s : System). s.centre.indices) h, λ low. subst (λ (s : System). s.now < 2 ^ 64) (sym h) low)

outstation_ticks_stay : (on : Link) (old new : System) → OutstationTicks on old new → Stays old new
outstation_ticks_stay (link.Below substation) old new h = changes_stay substation _ same_rest old new rest_stays h
outstation_ticks_stay (link.Above centre) old new h =
    (ap (λ (s : System). s.centre.indices) h.after, λ low. subst (λ (s : System). s.now < 2 ^ 64) (sym h.after) low)

there_stays : (b : Bool) (Change : System → System → Type 0) (old new : System) → (Change old new → Stays old new) → IfThere b Change old new → Stays old new
there_stays true Change old new stay h = stay h
there_stays false Change old new stay h = as_it old new h

event_stays : (e : Event) (old new : System) → Happens old e new → Stays old new
event_stays (event.Open on) old new h = there_stays _ (OpensOn on) old new (opens_stay on old new) h
event_stays (event.HangUp on e) old new h = there_stays _ (HangsUpOn on e) old new (hangs_stay on e old new) h
event_stays (event.Deliver on w) old new h = there_stays _ (ComesOn delivered_on on w) old new (comes_stay delivered_on on w old new) h
event_stays (event.Repeat on w) old new h = there_stays _ (ComesOn repeated_on on w) old new (comes_stay repeated_on on w old new) h
event_stays (event.Lose on w) old new h = there_stays _ (happening.LosesOn on w) old new (lines_stay on _ old new) h
event_stays (event.Damage on w octets) old new h = there_stays _ (LinesChange on _) old new (lines_stay on _ old new) h
event_stays (event.Change substation kind index reading) old new h =
    there_stays _ (Reads substation kind index reading) old new
    (λ r. reads_stay (answer_of r.was.core.points kind index reading) substation kind index reading r.was old new r.reads) h
event_stays (event.Ask on t) old new h = there_stays _ (AsksOn (is_own t) on t) old new (asks_stay (is_own t) on t old new) h
event_stays (event.Issue centre substation command) old new h = issues_stay (command_above old.centre.indices substation command) substation command old new h
event_stays (event.Relay on) old new h = there_stays _ (RelaysOn on) old new (relays_stay on old new) h
event_stays (event.Pass ms) old new h =
    (ap (λ (s : System). s.centre.indices) h, λ low. subst (λ (s : System). s.now < 2 ^ 64) (sym h) (omega arith))
event_stays (event.Tick on end.Master) old new h = there_stays _ (MasterTicks on) old new (ticks_stay on old new) h
event_stays (event.Tick on end.Outstation) old new h = there_stays _ (OutstationTicks on) old new (outstation_ticks_stay on old new) h
event_stays (event.Restart (place.Centre centre)) old new h = hangs_stay (link.Above centre) end.Master old new h
event_stays (event.Restart place.Concentrator) old new h = (ap (λ (s : System). s.centre.indices) h, λ low. subst (λ (s : System). s.now < 2 ^ 64) (sym h) low)
event_stays (event.Restart (place.Substation substation)) old new h =
    there_stays _ (happening.SubstationRestarts substation) old new (λ r. changes_stay substation _ _ old new (λ was is s. (refl, λ low. low)) r) h

-- ---- each event, as a centre sees it

here_keeps : PointsKept → (plan : Plan) (e : Event) (old new : System) → IsOfToOne plan old → Happens old e new → IsOfToOne plan new
here_keeps law plan e old new of h =
    let stays : Stays old new = event_stays e old new h in
    record { points = law.kept plan old new e h of.points; indices = stays.0 ∙ of.indices; moment = stays.1 of.moment }

elsewhere_keeps : (plan : Plan) (old new : System) → IsOfToOne plan old → SeesElsewhere old new → IsOfToOne plan new
elsewhere_keeps plan old new of seen =
    subst (IsOfToOne plan) (sym seen.after) (record { points = of.points; indices = of.indices; moment = of.moment })

seen_keeps : PointsKept → (plan : Plan) (b : Bool) (e : Event) (old new : System) → IsOfToOne plan old → IsSeen b (λ s t. Happens s e t) old new
    → IsOfToOne plan new
seen_keeps law plan true e old new of seen = elsewhere_keeps plan old new of seen
seen_keeps law plan false e old new of h = here_keeps law plan e old new of h

-- ---- lists of events

pub event_keeps : PointsKept → (plan : Plan) (e : Event) (old new : Whole) → IsOf plan old → HappensToAll old e new → IsOf plan new
event_keeps law plan e old new of h = by (is_there (centre_at e)) h
  where
    by : (b : Bool) → IfThere b (ChangesAll (centre_at e) (λ s t. Happens s e t)) old new → IsOf plan new
    by true all = λ centre low.
        seen_keeps law plan (is_elsewhere centre (centre_at e)) e (seen_by centre old) (seen_by centre new) (of centre low) (all centre low)
    by false same = subst (IsOf plan) (sym same) of

runs_keep : PointsKept → (plan : Plan) (events : List Event) (old new : Whole) → IsOf plan old → RunsTo HappensToAll old events new → IsOf plan new
runs_keep law plan [] old new of h = subst (IsOf plan) (sym h) of
runs_keep law plan (e ∷ events) old new of (next, first, more) = runs_keep law plan events next new (event_keeps law plan e old next of first) more

-- an event that does nothing as each centre sees it
pub idle_event : (plan : Plan) (old new : Whole) (e : Event) (reason : IdleReason) → IsOf plan old
    → idle_reason plan (One e) ≡ Some reason → HappensToAll old e new → new ≡ old
idle_event plan old new e reason of is h = by (is_there (centre_at e)) refl h
  where
    by : (b : Bool) → is_there (centre_at e) ≡ b → IfThere b (ChangesAll (centre_at e) (λ s t. Happens s e t)) old new → new ≡ old
    by true there all =
        unchanged_to_all (centre_at e) (λ s t. Happens s e t) old new there
        (λ centre low here. idle_to_one plan (seen_by centre old) (seen_by centre new) e reason (of centre low) is here) all
    by false there same = same

-- ---- rounds and controls

flushes_keep : PointsKept → (plan : Plan) (see : Whole → System) (on : Link) (w : Way) (old new : Whole) → IsOf plan old
    → Flushes HappensToAll see on w old new → IsOf plan new
flushes_keep law plan see on w old new of h = runs_keep law plan (deliveries (standing_on (see old) on w) on w) old new of h

round_keeps : PointsKept → (plan : Plan) (see : Whole → System) (on : Link) (old new : Whole) → IsOf plan old → IsRound HappensToAll see on old new
    → IsOf plan new
round_keeps law plan see on old new of h =
    let asked : IsOf plan h.asked = event_keeps law plan (event.Ask on events_polled) old h.asked of h.asks in
    let answered : IsOf plan h.answered = flushes_keep law plan see on way.Down h.asked h.answered asked h.down in
    let taken : IsOf plan h.taken = flushes_keep law plan see on way.Up h.answered h.taken answered h.up in
    flushes_keep law plan see on way.Down h.taken new taken h.confirms

passes_keep : PointsKept → (plan : Plan) (see : Whole → System) (on : Link) (id : Option ℕ) (old new : Whole) → IsOf plan old
    → PassesBack HappensToAll see on id old new → IsOf plan new
passes_keep law plan see on id old new of h =
    let relayed : IsOf plan h.relayed = event_keeps law plan (event.Relay on) old h.relayed of h.step.relays in
    let answered : IsOf plan h.answered = flushes_keep law plan see on way.Down h.relayed h.answered relayed h.down in
    flushes_keep law plan see on way.Up h.answered new answered h.up

accepted_keeps : PointsKept → (plan : Plan) (see : Whole → System) (on : Link) (id : Option ℕ) (old new : Whole) → IsOf plan old
    → IsAccepted HappensToAll see on id old new → IsOf plan new
accepted_keeps law plan see on id old new of h =
    let selected : IsOf plan h.selected = passes_keep law plan see on id old h.selected of h.selects in
    let operated : IsOf plan h.operated = passes_keep law plan see on id h.selected h.operated selected h.operates in
    event_keeps law plan (event.Relay on) h.operated new operated h.finishes.relays

control_keeps : PointsKept → (plan : Plan) (see : Whole → System) (centre : ℕ) (substation : Option ℕ) (id : ℕ) (old new : Whole) → IsOf plan old
    → IsControlFor HappensToAll see centre substation id old new → IsOf plan new
control_keeps law plan see centre None id old new of h = accepted_keeps law plan see (link.Above centre) (Some id) old new of h
control_keeps law plan see centre (Some substation) id old new of (above, first, second) =
    accepted_keeps law plan see (link.Below substation) _ above new
    (accepted_keeps law plan see (link.Above centre) (Some id) old above of first) second

refused_keeps : PointsKept → (plan : Plan) (see : Whole → System) (on : Link) (id : Option ℕ) (status : ℕ) (old new : Whole) → IsOf plan old
    → IsRefusedOn HappensToAll see on id status old new → IsOf plan new
refused_keeps law plan see on id status old new of (First told) = event_keeps law plan (event.Relay on) old new of told.relays
refused_keeps law plan see on id status old new of (Second selected selects told) =
    event_keeps law plan (event.Relay on) selected new (passes_keep law plan see on id old selected of selects) told.relays
refused_keeps law plan see on id status old new of (Third selected operated selects operates told) =
    event_keeps law plan (event.Relay on) operated new
    (passes_keep law plan see on id selected operated (passes_keep law plan see on id old selected of selects) operates)
    told.relays

refused_for_keeps : PointsKept → (plan : Plan) (see : Whole → System) (centre : ℕ) (substation : Option ℕ) (id status : ℕ) (old new : Whole) → IsOf plan old
    → IsRefusedFor HappensToAll see centre substation id status old new → IsOf plan new
refused_for_keeps law plan see centre substation id status old new of (AtCentre refused) =
    refused_keeps law plan see (link.Above centre) (Some id) status old new of refused
refused_for_keeps law plan see centre substation id status old new of (AtConcentrator its above is accepted refused) =
    refused_keeps law plan see (link.Below its) _ status above new
    (accepted_keeps law plan see (link.Above centre) (Some id) old above of accepted) refused

-- ---- lines

times_keep : PointsKept → (plan : Plan) (n : ℕ) (e : Event) (old new : Whole) → IsOf plan old → HappensTimes law_of_worlds n e old new → IsOf plan new
times_keep law plan zero e old new of h = subst (IsOf plan) (sym h) of
times_keep law plan (suc n) e old new of (before, times, once) =
    runs_keep law plan (e ∷ []) before new (times_keep law plan n e old before of times) once

line_keeps : PointsKept → (plan : Plan) (line : ScriptLine) (old new : Whole) (text : List ℕ) → IsOf plan old → Does law_of_worlds old line new text
    → IsOf plan new
line_keeps law plan (One e) old new text of does = runs_keep law plan (e ∷ []) old new of does.0
line_keeps law plan (Flush on w) old new text of does = times_keep law plan _ (event.Deliver on w) old new of does.0
line_keeps law plan (Round on) old new text of (result, ends, said) = by result ends said
  where
    by : (r : Result ⊤ RoundFault) → RoundEnds old on r new → Rattle.dnp_daemons.specs.ScriptTexts.round_said on r ≡ Some text → IsOf plan new
    by (Ok done) ends said = round_keeps law plan (seen_at (centre_of on)) on old new of ends.1
    by (Err round.NotQuiet) ends said = subst (IsOf plan) (sym ends.1) of
    by (Err (round.Fault cause)) ends said = absurd (none-some text said)
line_keeps law plan (Control centre id) old new text of (result, ends, said) = by result ends said
  where
    by : (r : Result ⊤ ControlFault) → ControlEnds HappensToAll (seen_by (number_of centre)) may_stop (number_of centre) id old r new
        → Rattle.dnp_daemons.specs.ScriptTexts.control_said centre id r ≡ Some text → IsOf plan new
    by (Ok done) ends said =
        control_keeps law plan (seen_by (number_of centre)) (number_of centre) (substation_in (seen_by (number_of centre) old) id) id old new of ends.1
    by (Err control.NotQuiet) ends said = subst (IsOf plan) (sym ends.1) of
    by (Err control.NotNext) ends said = subst (IsOf plan) (sym ends.2) of
    by (Err (control.Refused status)) ends said =
        refused_for_keeps law plan (seen_by (number_of centre)) (number_of centre) (substation_in (seen_by (number_of centre) old) id) id status old new of
        ends.1
    by (Err (control.Fault cause)) ends said = absurd (none-some text said)

-- a line that does nothing prints nothing either
idle_line : (plan : Plan) (line : ScriptLine) (old new : Whole) (text : List ℕ) (reason : IdleReason) → IsOf plan old
    → idle_reason plan line ≡ Some reason → Does law_of_worlds old line new text → (new ≡ old) × (text ≡ [])
idle_line plan (One e) old new text reason of is ((next, happens, same), none) = (same ∙ idle_event plan old next e reason of is happens, none)
idle_line plan (Flush on w) old new text reason of is does = absurd (none-some reason is)
idle_line plan (Round on) old new text reason of is does = absurd (none-some reason is)
idle_line plan (Control centre id) old new text reason of is does = absurd (none-some reason is)

-- ---- scripts

pub does_without : PointsKept → (plan : Plan) (script : List ScriptLine) (old new : Whole) (text : List ℕ) → IsOf plan old
    → DoesAll law_of_worlds old script new text → DoesAll law_of_worlds old (without_idle plan script) new text
does_without law plan [] old new text of does = does
does_without law plan (line ∷ lines) old new text of (next, first, more, does, rest, whole) =
    by (does_without law plan lines next new more (line_keeps law plan line old next first of does) rest) (idle_reason plan line) refl
  where
    by : DoesAll law_of_worlds next (without_idle plan lines) new more → (o : Option IdleReason) → idle_reason plan line ≡ o
        → DoesAll law_of_worlds old (cond (is_none (idle_reason plan line)) (line ∷ without_idle plan lines) (without_idle plan lines)) new text
    by after None is = rw is (next, first, more, does, after, whole)
    by after (Some reason) is =
        let (same, none) = idle_line plan line old next first reason of is does in
        let text_is : more ≡ text = ap (λ (t : List ℕ). t ++ more) (sym none) ∙ sym whole in
        rw is
        (subst (λ (t : List ℕ). DoesAll law_of_worlds old (without_idle plan lines) new t) text_is
        (subst (λ (s : Whole). DoesAll law_of_worlds s (without_idle plan lines) new more) same after))
