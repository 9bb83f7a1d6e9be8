-- Events that do nothing on any system of a plan, as one centre sees it.
use Rattle.std.proofs.Common.{◌≡◌, ℕ, zero, suc, ◌+◌, ◌^◌, ◌-◌, min, Bool, true, false, not, ◌&&◌, ◌==◌, cond, List, [], ◌∷◌, length, map, Option, Some, None, Result, Err, refl, sym, ap, ◌∙◌, subst, arith}
use Rattle.std.specs.Prelude.{IfSome, slice_get, slice_index_or, slice_set, nat_lt, nat_le, is_some}
use Rattle.std.specs.Option.{IsSomeAnd, option_map}
use Rattle.std.proofs.lemmas.List.{length-map, set-get_or}
use Rattle.std.proofs.lemmas.Option.{none-some, same_Some}
use Rattle.dnp_concentrator.specs.Below.{no_link}
use Rattle.dnp_concentrator.specs.IndexKinds.{kind_of_points, kind_of_command}
use Rattle.dnp_concentrator.specs.IndexMap.{no_spans, span_of}
use Rattle.dnp_concentrator.specs.Mapped.{command_above}
use Rattle.dnp_concentrator.specs.Plan.{map_of, spans_of}
use Rattle.dnp_concentrator.specs.PointsAbove.{block_of, point_of, points_below}
use Rattle.dnp_concentrator.specs.Relaying.{Relaying}
use Rattle.dnp_concentrator.specs.declared.plan.Plan.{Plan}
use Rattle.dnp_concentrator.specs.declared.plan.SubPlan.{SubPlan}
use Rattle.dnp_concentrator.specs.declared.span.Spans.{Spans}
use Rattle.dnp_line.specs.Lines.{LineState}
use Rattle.dnp_line.specs.Ports.{PortState}
use Rattle.dnp_master.specs.Calls.{ask_answer, asked_by, may_follow}
use Rattle.dnp_master.specs.Requests.{has_class, has_some, is_good}
use Rattle.dnp_master.specs.State as master
use Rattle.dnp_master.specs.declared.fault.AskFault.{AskFault}
use Rattle.dnp_master.specs.declared.fault.AskFault.TheVariants.{Closed, Busy, BadTask}
use Rattle.dnp_master.specs.declared.task.Task.{Task}
use Rattle.dnp_master.specs.declared.task.Task.TheVariants as task
use Rattle.dnp_objects.specs.Commands.{index_of}
use Rattle.dnp_objects.specs.declared.command.Command.{Command}
use Rattle.dnp_objects.specs.declared.row.Kind.{Kind}
use Rattle.dnp_objects.specs.declared.row.Kind.TheVariants.{Binary, Counter, Analog}
use Rattle.dnp_pointdb.specs.Classes.{class_at, point_in}
use Rattle.dnp_pointdb.specs.Database.{checked, made_from, state_at}
use Rattle.dnp_pointdb.specs.Ranges.{is_carried, is_in_time}
use Rattle.dnp_pointdb.specs.declared.fault.ChangeFault.{ChangeFault}
use Rattle.dnp_pointdb.specs.declared.fault.ChangeFault.TheVariants as change
use Rattle.dnp_pointdb.specs.declared.point.Point.{Point}
use Rattle.dnp_pointdb.specs.declared.reading.Reading.{Reading}
use Rattle.dnp_pointdb.specs.declared.state.PointState.{PointState}
use Rattle.dnp_world.specs.Channels.{ChannelState, GoDown}
use Rattle.dnp_world.specs.OneLinkEvents.{is_own}
use Rattle.dnp_world.specs.Planned.{HasClassesBelow, HavePlannedPoints}
use Rattle.dnp_world.specs.SystemEvents.{AsksOn, IssuesBy, Reads, ReadsBy, SendsDown, relaying_at, request_of}
use Rattle.dnp_world.specs.SystemRuns.{Happens, IfThere}
use Rattle.dnp_world.specs.Systems.{SubstationState, System, has_link, has_substation, link_at}
use Rattle.dnp_world.specs.declared.event.Event.{Event}
use Rattle.dnp_world.specs.declared.event.Event.TheVariants as event
use Rattle.dnp_world.specs.declared.event.Link.{Link}
use Rattle.dnp_world.specs.declared.event.Link.TheVariants as link
use Rattle.dnp_daemons.specs.IdleLines.{has_index, idle_reason, reading_reason, task_reason}
use Rattle.dnp_daemons.specs.IdleRuns.{IsOfToOne}
use Rattle.dnp_daemons.specs.declared.script.ScriptLine.TheVariants.{One}
use Rattle.dnp_daemons.specs.declared.script.idle.IdleReason.{IdleReason}

-- ---- what is there

-- an event of a link that is not there does nothing either
only_there : (b : Bool) (Change : System → System → Type 0) (old new : System) → (Change old new → new ≡ old) → IfThere b Change old new → new ≡ old
only_there true Change old new same h = same h
only_there false Change old new same h = h

-- ---- readings

-- a point that can't have the reading refuses it
refused_reading : (o : Option PointState) (kind : Kind) (reading : Reading) (reason : IdleReason) → reading_reason kind reading ≡ Some reason
    → (fault : ChangeFault) × (checked o kind reading ≡ Err fault)
refused_reading None kind reading reason e = (change.NoPoint, refl)
refused_reading (Some state) kind reading reason e = by (is_carried kind reading) (is_in_time reading.time) refl refl
  where
    by : (a b : Bool) → is_carried kind reading ≡ a → is_in_time reading.time ≡ b
        → (fault : ChangeFault) × (checked (Some state) kind reading ≡ Err fault)
    by false b carried timed = (change.ValueRange, rw carried refl)
    by true false carried timed = (change.TimeRange, rw carried (rw timed refl))
    by true true carried timed = absurd (none-some reason (rw timed at (rw carried at e)))

-- a point of these classes has its index below their number
no_point_in : (classes : List ℕ) (index : ℕ) → nat_lt index (length classes) ≡ false → point_in (block_of 0 classes ∷ []) index ≡ None
no_point_in classes index out =
    ap (λ (b : Bool). cond b (slice_get (map point_of classes) (index - 0)) None) (by (nat_le 0 index))
  where
    low : nat_lt index (0 + length (map point_of classes)) ≡ false
    low = ap (λ (n : ℕ). nat_lt index n) (omega (arith, length-map classes point_of)) ∙ out

    by : (b : Bool) → b && nat_lt index (0 + length (map point_of classes)) ≡ false
    by true = low
    by false = refl

-- the substation of this number in a list
span_there : (plans : List SubPlan) (substation : ℕ) (planned : SubPlan) → slice_get plans substation ≡ Some planned
    → slice_index_or (map spans_of plans) substation no_spans ≡ spans_of planned
span_there [] substation planned there = absurd (none-some planned there)
span_there (x ∷ xs) zero planned there = ap spans_of (same_Some x planned there)
span_there (x ∷ xs) (suc substation) planned there = span_there xs substation planned there

-- the plan of a substation lacks the point
no_class : (planned : SubPlan) (kind : Kind) (index : ℕ) → nat_lt index (span_of (spans_of planned) (kind_of_points kind)).count ≡ false
    → class_at (points_below planned) kind index ≡ None
no_class planned Binary index out = ap (option_map (λ (point : Point). point.class)) (no_point_in planned.binary index out)
no_class planned Counter index out = ap (option_map (λ (point : Point). point.class)) (no_point_in planned.counter index out)
no_class planned Analog index out = ap (option_map (λ (point : Point). point.class)) (no_point_in planned.analog index out)

no_state : (o : Option PointState) → option_map (λ (state : PointState). state.point.class) o ≡ None → o ≡ None
no_state None e = refl
no_state (Some state) e = absurd (none-some state.point.class (sym e))

-- so its points lack it
unplanned : (plan : Plan) (s : System) (substation : ℕ) (was : SubstationState) (kind : Kind) (index : ℕ) → HavePlannedPoints plan s
    → slice_get s.substations substation ≡ Some was → has_index plan substation (kind_of_points kind) index ≡ false
    → state_at was.core.points kind index ≡ None
unplanned plan s substation was kind index planned there out = by (slice_get plan.substations substation) refl
  where
    Has : Option SubPlan → Type 0
    Has o = IsSomeAnd o (λ x. HasClassesBelow x was.core.points)

    had : Has (slice_get plan.substations substation)
    had = subst (λ (o : Option SubstationState). IfSome o (λ x. IsSomeAnd (slice_get plan.substations substation) (λ y. HasClassesBelow y x.core.points)))
        there (planned substation)

    by : (o : Option SubPlan) → slice_get plan.substations substation ≡ o → state_at was.core.points kind index ≡ None
    by None is = absurd (subst Has is had)
    by (Some x) is =
        let classes : HasClassesBelow x was.core.points = subst Has is had in
        let low : nat_lt index (span_of (spans_of x) (kind_of_points kind)).count ≡ false =
        subst (λ (spans : Spans). nat_lt index (span_of spans (kind_of_points kind)).count ≡ false) (span_there plan.substations substation x is) out in
        no_state (state_at was.core.points kind index) (classes kind index ∙ no_class x kind index low)

-- a reading that a new point refuses
idle_reading : (plan : Plan) (old new : System) (substation : ℕ) (kind : Kind) (index : ℕ) (reading : Reading) (reason : IdleReason)
    → HavePlannedPoints plan old → idle_reason plan (One (event.Change substation kind index reading)) ≡ Some reason
    → Reads substation kind index reading old new → new ≡ old
idle_reading plan old new substation kind index reading reason planned e r =
    by (has_index plan substation (kind_of_points kind) index) refl
  where
    refuses : (fault : ChangeFault) → checked (state_at r.was.core.points kind index) kind reading ≡ Err fault → new ≡ old
    refuses fault is =
        subst (λ (x : Result PointState ChangeFault). ReadsBy (made_from kind index reading x) substation kind index reading r.was old new) is r.reads

    by : (b : Bool) → has_index plan substation (kind_of_points kind) index ≡ b → new ≡ old
    by true is =
        let (fault, refused) = refused_reading (state_at r.was.core.points kind index) kind reading reason (rw is at e) in
        refuses fault refused
    by false is =
        refuses change.NoPoint
        (ap (λ (o : Option PointState). checked o kind reading) (unplanned plan old substation r.was kind index planned r.there is))

-- ---- commands

idle_command : (plan : Plan) (old new : System) (by_centre substation : ℕ) (command : Command) (reason : IdleReason)
    → old.centre.indices ≡ map_of plan → idle_reason plan (One (event.Issue by_centre substation command)) ≡ Some reason
    → IssuesBy (command_above old.centre.indices substation command) substation command old new → new ≡ old
idle_command plan old new by_centre substation command reason indices e issues =
    by (has_index plan substation (kind_of_command command) (index_of command)) refl
  where
    by : (b : Bool) → has_index plan substation (kind_of_command command) (index_of command) ≡ b → new ≡ old
    by true is = absurd (none-some reason (rw is at e))
    by false is =
        let none : command_above old.centre.indices substation command ≡ None =
        ap (λ (spans : List Spans). command_above spans substation command) indices ∙ rw is refl in
        subst (λ (o : Option Command). IssuesBy o substation command old new) none issues

-- ---- tasks

-- a bad task is refused in whatever state, where it is no OPERATE
bad_task : (s : master.State) (t : Task) → may_follow s.selected t ≡ true → is_good t ≡ false → (fault : AskFault) × (ask_answer s t ≡ Err fault)
bad_task s t follows bad = by s.is_open (is_some s.request) refl refl
  where
    by : (a b : Bool) → s.is_open ≡ a → is_some s.request ≡ b → (fault : AskFault) × (ask_answer s t ≡ Err fault)
    by false b open_is request_is = (Closed, rw open_is refl)
    by true true open_is request_is = (Busy, rw open_is (rw request_is refl))
    by true false open_is request_is = (BadTask, rw open_is (rw request_is (rw follows (rw bad refl))))

no_class_0 : (a b : Bool) → b ≡ true → a && not b ≡ false
no_class_0 true b e = rw e refl
no_class_0 false b e = refl

refused_task : (s : master.State) (t : Task) (reason : IdleReason) → task_reason t ≡ Some reason
    → (is_own t ≡ true) × ((fault : AskFault) × (ask_answer s t ≡ Err fault))
refused_task s (task.Poll classes) reason e = absurd (none-some reason e)
refused_task s task.ClearRestart reason e = absurd (none-some reason e)
refused_task s (task.Enable classes) reason e = by (has_class classes 0) refl
  where
    by : (b : Bool) → has_class classes 0 ≡ b
        → (is_own (task.Enable classes) ≡ true) × ((fault : AskFault) × (ask_answer s (task.Enable classes) ≡ Err fault))
    by true is = (refl, bad_task s (task.Enable classes) refl (no_class_0 (has_some classes) (has_class classes 0) is))
    by false is = absurd (none-some reason (rw is at e))
refused_task s (task.Disable classes) reason e = by (has_class classes 0) refl
  where
    by : (b : Bool) → has_class classes 0 ≡ b
        → (is_own (task.Disable classes) ≡ true) × ((fault : AskFault) × (ask_answer s (task.Disable classes) ≡ Err fault))
    by true is = (refl, bad_task s (task.Disable classes) refl (no_class_0 (has_some classes) (has_class classes 0) is))
    by false is = absurd (none-some reason (rw is at e))
refused_task s (task.WriteTime time) reason e = by (nat_lt time (2 ^ 48)) refl
  where
    by : (b : Bool) → nat_lt time (2 ^ 48) ≡ b → (is_own (task.WriteTime time) ≡ true) × ((fault : AskFault) × (ask_answer s (task.WriteTime time) ≡ Err fault))
    by false is = (refl, bad_task s (task.WriteTime time) refl is)
    by true is = absurd (none-some reason (rw is at e))
refused_task s (task.Select command) reason e = absurd (none-some reason e)
refused_task s (task.Operate command) reason e = absurd (none-some reason e)

-- where nothing goes down, the lines stay
none_down : (old new : ChannelState) → GoDown [] old new → new ≡ old
none_down old new down =
    down.after ∙ ap (λ (line : LineState). record old { down = line; master_port = new.master_port }) down.sent.0
    ∙ ap (λ (port : PortState). record old { master_port = port }) down.sent.1

set_there : {A : Type 0} (xs : List A) (i : ℕ) (x : A) → slice_get xs i ≡ Some x → slice_set xs i x ≡ xs
set_there [] i x there = refl
set_there (y ∷ ys) zero x there = ap (λ z. z ∷ ys) (sym (same_Some y x there))
set_there (y ∷ ys) (suc i) x there = ap (λ zs. y ∷ zs) (set_there ys i x there)

-- so does the system, and each master
none_sent : (old new : System) (on : Link) → SendsDown on [] (relaying_at old on) old new → new ≡ old
none_sent old new (link.Above centre) sends =
    sends.1 ∙ ap (λ (lines : ChannelState). record old { above = lines }) (none_down old.above new.above sends.0)
none_sent old new (link.Below substation) sends =
    let links : slice_set old.concentrator.links substation (link_at old.concentrator substation) ≡ old.concentrator.links =
    set-get_or old.concentrator.links substation no_link in
    let same : sends.is ≡ sends.was =
    sends.changed.1 ∙ ap (λ (lines : ChannelState). record sends.was { channel = lines }) (none_down sends.was.channel sends.is.channel sends.changed.0) in
    sends.after
    ∙ ap (λ (xs : List Relaying).
    record old { concentrator = record old.concentrator { links = xs }; substations = slice_set old.substations substation sends.is }) links
    ∙ ap (λ (x : SubstationState). record old { substations = slice_set old.substations substation x }) same
    ∙ ap (λ (xs : List SubstationState). record old { substations = xs }) (set_there old.substations substation sends.was sends.there)

idle_task : (old new : System) (on : Link) (t : Task) (reason : IdleReason) → task_reason t ≡ Some reason
    → AsksOn (is_own t) on t old new → new ≡ old
idle_task old new on t reason e asks =
    let (own, refused) = refused_task (relaying_at old on).master t reason e in
    let asked : AsksOn true on t old new = rw own at asks in
    none_sent old new on
    (subst (λ (answer : Result (List ℕ) AskFault). SendsDown on (request_of answer)
    (record (relaying_at old on) { master = asked_by (relaying_at old on).master old.now t answer }) old new) refused.1 asked)

-- ---- all events

pub idle_to_one : (plan : Plan) (old new : System) (happening : Event) (reason : IdleReason) → IsOfToOne plan old
    → idle_reason plan (One happening) ≡ Some reason → Happens old happening new → new ≡ old
idle_to_one plan old new (event.Change substation kind index reading) reason of e h =
    only_there (has_substation old substation) (Reads substation kind index reading) old new
    (λ r. idle_reading plan old new substation kind index reading reason of.points e r) h
idle_to_one plan old new (event.Issue by_centre substation command) reason of e h =
    idle_command plan old new by_centre substation command reason of.indices e h
idle_to_one plan old new (event.Ask on t) reason of e h =
    only_there (has_link old on) (AsksOn (is_own t) on t) old new (λ asks. idle_task old new on t reason e asks) h
idle_to_one plan old new (event.Pass ms) reason of e h = by (ms == 0) refl
  where
    by : (b : Bool) → (ms == 0) ≡ b → new ≡ old
    by true is =
        let none : ms ≡ 0 = grind arith in
        let moment : min (old.now + ms) (2 ^ 64 - 1) ≡ old.now = omega (arith, none, of.moment) in
        h ∙ ap (λ (now : ℕ). record old { now = now }) moment
    by false is = absurd (none-some reason (rw is at e))
idle_to_one plan old new (event.Open on) reason of e h = absurd (none-some reason e)
idle_to_one plan old new (event.HangUp on end) reason of e h = absurd (none-some reason e)
idle_to_one plan old new (event.Deliver on way) reason of e h = absurd (none-some reason e)
idle_to_one plan old new (event.Repeat on way) reason of e h = absurd (none-some reason e)
idle_to_one plan old new (event.Lose on way) reason of e h = absurd (none-some reason e)
idle_to_one plan old new (event.Damage on way octets) reason of e h = absurd (none-some reason e)
idle_to_one plan old new (event.Relay on) reason of e h = absurd (none-some reason e)
idle_to_one plan old new (event.Tick on end) reason of e h = absurd (none-some reason e)
idle_to_one plan old new (event.Restart place) reason of e h = absurd (none-some reason e)
