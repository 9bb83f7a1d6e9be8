-- A link that was opened is quiet, where its outstation sends no unsolicited responses.
use Rattle.std.proofs.Common.{◌≡◌, ℕ, arith, ◌<◌, Bool, true, false, not, ◌&&◌, if◌then◌else◌, List, [], ◌∷◌, ◌++◌, length, Option, Some, refl, sym, ap, ◌∙◌, subst, ltb-true}
use Rattle.std.specs.Prelude.{nat_lt, slice_get}
use Rattle.std.proofs.lemmas.Bool.{and_from, and_parts, both_ways, cond-false}
use Rattle.std.proofs.lemmas.List.{length-set}
use Rattle.dnp_concentrator.specs.Relaying as relaying
use Rattle.dnp_concentrator.specs.Relaying.{Relaying}
use Rattle.dnp_line.specs.Lines.{LineState, quiet_line}
use Rattle.dnp_master.specs.State.{is_idle}
use Rattle.dnp_outstation.specs.Calls.{opened_of}
use Rattle.dnp_outstation.specs.Connection.{at_end, has_enabled_rows, starts}
use Rattle.dnp_outstation.specs.Content.{Content, content_from, plain}
use Rattle.dnp_outstation.specs.Links.{begun}
use Rattle.dnp_outstation.specs.Offer.{pushed}
use Rattle.dnp_outstation.specs.State.{Core, State, Step, is_free, is_quiet, still}
use Rattle.dnp_pointdb.specs.declared.times.Times.{Times}
use Rattle.dnp_eventbuf.specs.declared.pair.TheConstants.{CENTRES}
use Rattle.dnp_world.specs.Centres.{HappensToAll, centre_of, is_there, seen_at}
use Rattle.dnp_world.specs.Channels.{ChannelState, GoUp, are_quiet, cleared, is_quiet_line}
use Rattle.dnp_world.specs.Opening.{OpensQuiet, reports_at, reports_on}
use Rattle.dnp_world.specs.Rounds.{is_quiet_at, is_quiet_on}
use Rattle.dnp_world.specs.SystemEvents.{OpensOn, with_link, with_substation}
use Rattle.dnp_world.specs.SystemRuns.{Happens, IfThere, RunsTo}
use Rattle.dnp_world.specs.Systems.{SubstationState, System, has_link, has_substation, link_at, middle_of, station_of}
use Rattle.dnp_world.specs.Wholes.{Whole}
use Rattle.dnp_world.specs.declared.event.Event.{Event}
use Rattle.dnp_world.specs.declared.event.Event.TheVariants.{Open}
use Rattle.dnp_world.specs.declared.event.Link.{Link}
use Rattle.dnp_world.specs.declared.event.Link.TheVariants.{Below, Above}
use Rattle.dnp_world.proofs.ArrivingLinks.{has_set}
use Rattle.dnp_world.proofs.Seen.{happens_seen, own_link}
use Rattle.dnp_world.proofs.ListedAt.{set_here}
use Rattle.dnp_world.proofs.SystemPlans.{link_here}

-- ---- the outstation

-- no call of it changes its times
started_times : (b : Bool) (now : ℕ) (step : Step) (content : Content)
    → (if b then starts step now content else step).state.core.times ≡ step.state.core.times
started_times true now step content = refl
started_times false now step content = refl

opening_times : (b : Bool) (now : ℕ) (step other : Step) (content : Content) → other.state.core.times ≡ step.state.core.times
    → (if b then starts step now content else other).state.core.times ≡ step.state.core.times
opening_times true now step other content same = refl
opening_times false now step other content same = same

may_start : State → Bool
may_start s = s.core.times.unsolicited && (s.core.announced && (s.core.is_open && (is_free s.core && has_enabled_rows s)))

ended_times : (now : ℕ) (step : Step) → (at_end now step).state.core.times ≡ step.state.core.times
unfolding may_start
ended_times now step =
    started_times (may_start step.state) now step (content_from (pushed step.state.lanes step.state.core.enabled))

opened_times : (s : State) (now : ℕ) → (opened_of s now).state.core.times ≡ s.core.times
opened_times s now =
    opening_times (s.core.times.unsolicited && not s.core.announced) now (still (begun s)) (at_end now (still (begun s))) (plain 0 [])
    (ended_times now (still (begun s)))

-- it starts nothing
opened_still : (s : State) (now : ℕ) → s.core.times.unsolicited ≡ false → opened_of s now ≡ still (begun s)
unfolding may_start
opened_still s now off =
    let new : State = begun s in
    let first : (s.core.times.unsolicited && not s.core.announced) ≡ false = ap (λ (b : Bool). b && not s.core.announced) off in
    let later : may_start new ≡ false =
    ap (λ (b : Bool). b && (new.core.announced && (new.core.is_open && (is_free new.core && has_enabled_rows new)))) off in
    cond-false (s.core.times.unsolicited && not s.core.announced) (starts (still new) now (plain 0 [])) (at_end now (still new)) first
    ∙ cond-false (may_start new) (starts (still new) now (content_from (pushed new.lanes new.core.enabled))) (still new) later

-- nothing goes up the lines, which were cleared
cleared_quiet : (c lines : ChannelState) (fragments : List (List ℕ)) → fragments ≡ [] → GoUp fragments (cleared c) lines → are_quiet lines ≡ true
cleared_quiet c lines fragments none h =
    let nothing : GoUp [] (cleared c) lines = subst (λ (fs : List (List ℕ)). GoUp fs (cleared c) lines) none h in
    ap (λ (x : ChannelState). are_quiet x) nothing.after
    ∙ ap (λ (l : LineState). is_quiet_line quiet_line && is_quiet_line l) nothing.sent.0

-- the station and its lines after the step
record OpenedQuiet (core : Core) (lines : ChannelState) : Type 0 where
  core_is : is_quiet core ≡ true
  lines_are : are_quiet lines ≡ true

opened_quiet : (s : State) (now : ℕ) (c lines : ChannelState) (core : Core) → core ≡ (opened_of s now).state.core → core.times.unsolicited ≡ false
    → GoUp (opened_of s now).does.send (cleared c) lines → OpenedQuiet core lines
opened_quiet s now c lines core is off h =
    let times : core.times ≡ s.core.times = ap (λ (x : Core). x.times) is ∙ opened_times s now in
    let quiet : s.core.times.unsolicited ≡ false = ap (λ (t : Times). t.unsolicited) (sym times) ∙ off in
    let step : opened_of s now ≡ still (begun s) = opened_still s now quiet in
    record {
      core_is = ap (λ (x : Core). is_quiet x) (is ∙ ap (λ (x : Step). x.state.core) step);
      lines_are = cleared_quiet c lines (opened_of s now).does.send (ap (λ (x : Step). x.does.send) step) h;
    }

-- ---- a link of the plan

opens_below : (substation : ℕ) (old new : System) → has_substation old substation ≡ true → reports_on new (Below substation) ≡ false
    → OpensOn (Below substation) old new → is_quiet_on new (Below substation) ≡ true
opens_below substation old new has off e =
    let link : Relaying = relaying.opened (link_at old.concentrator substation) in
    let set : System = with_link old substation link in
    let last : System = with_substation set substation e.is in
    let low : substation < length old.concentrator.links =
    ltb-true substation (length old.concentrator.links)
    ((and_parts (nat_lt substation (length old.substations)) (nat_lt substation (length old.concentrator.links)) has).1) in
    let idle : is_idle (link_at last.concentrator substation).master ≡ true =
    ap (λ (r : Relaying). is_idle r.master) (link_here old.concentrator.links substation link low) in
    let there : slice_get last.substations substation ≡ Some e.is = set_here old.substations substation e.was e.is e.there in
    let lists : System → ℕ → Bool = λ s count. nat_lt substation (length s.substations) && nat_lt substation count in
    let has_last : has_substation last substation ≡ true =
    has_set set substation substation e.is ∙ ap (λ (n : ℕ). lists old n) (length-set old.concentrator.links substation link) ∙ has in
    let off_last : e.is.core.times.unsolicited ≡ false =
    sym (ap (λ (o : Option SubstationState). reports_at o) there) ∙ sym (ap (λ (s : System). reports_on s (Below substation)) e.after) ∙ off in
    let q : OpenedQuiet e.is.core e.is.channel =
    opened_quiet (station_of e.was) old.now e.was.channel e.is.channel e.is.core (ap (λ (s : SubstationState). s.core) e.changed.after) off_last
    e.changed.sent in
    let quiet : is_quiet_at (slice_get last.substations substation) ≡ true =
    ap (λ (o : Option SubstationState). is_quiet_at o) there ∙ and_from (is_quiet e.is.core) (are_quiet e.is.channel) q.core_is q.lines_are in
    ap (λ (s : System). is_quiet_on s (Below substation)) e.after
    ∙ and_from (has_substation last substation)
    (is_idle (link_at last.concentrator substation).master && is_quiet_at (slice_get last.substations substation)) has_last
    (and_from (is_idle (link_at last.concentrator substation).master) (is_quiet_at (slice_get last.substations substation)) idle quiet)

opens_above : (centre : ℕ) (old new : System) → reports_on new (Above centre) ≡ false → OpensOn (Above centre) old new → is_quiet_on new (Above centre) ≡ true
opens_above centre old new off e =
    let q : OpenedQuiet new.concentrator.core new.above =
    opened_quiet (middle_of old.concentrator) old.now old.above new.above new.concentrator.core (ap (λ (s : System). s.concentrator.core) e.after) off
    e.sent in
    let idle : is_idle new.centre.link.master ≡ true = ap (λ (s : System). is_idle s.centre.link.master) e.after in
    and_from (is_idle new.centre.link.master) (is_quiet new.concentrator.core && are_quiet new.above) idle
    (and_from (is_quiet new.concentrator.core) (are_quiet new.above) q.core_is q.lines_are)

pub opens_quiet : (on : Link) (old new : System) → has_link old on ≡ true → reports_on new on ≡ false → Happens old (Open on) new
    → is_quiet_on new on ≡ true
opens_quiet (Below substation) old new has off h =
    opens_below substation old new has off (subst (λ (b : Bool). IfThere b (OpensOn (Below substation)) old new) has h)
opens_quiet (Above centre) old new has off h = opens_above centre old new off h

-- ---- after a list of events of the whole

-- the event as the centre of the link sees it
opened_there : (on : Link) (old new : Whole) → is_there (centre_of on) ≡ true → HappensToAll old (Open on) new
    → Happens (seen_at (centre_of on) old) (Open on) (seen_at (centre_of on) new)
opened_there (Below substation) old new there h = h 0 (omega arith)
opened_there (Above n) old new there h =
    happens_seen n (ltb-true n CENTRES there) (Open (Above n)) there (own_link n) old new h

-- a link that isn't there before its opening isn't there after it
last_opens : (on : Link) (b : Bool) (old new : System) → has_link old on ≡ b → has_link new on ≡ true → reports_on new on ≡ false
    → Happens old (Open on) new → is_quiet_on new on ≡ true
last_opens on true old new before has off h = opens_quiet on old new before off h
last_opens on false old new before has off h =
    let same : new ≡ old = subst (λ (b : Bool). IfThere b (OpensOn on) old new) before h in
    absurd (both_ways (has_link new on) (ap (λ (s : System). has_link s on) same ∙ before) has)

ends_quiet : (on : Link) (events : List Event) (old new : Whole) → is_there (centre_of on) ≡ true → has_link (seen_at (centre_of on) new) on ≡ true
    → reports_on (seen_at (centre_of on) new) on ≡ false → RunsTo HappensToAll old (events ++ Open on ∷ []) new
    → is_quiet_on (seen_at (centre_of on) new) on ≡ true
ends_quiet on [] old new there has off (next, h, end) =
    last_opens on (has_link (seen_at (centre_of on) old) on) (seen_at (centre_of on) old) (seen_at (centre_of on) new) refl has off
    (opened_there on old new there (subst (λ (w : Whole). HappensToAll old (Open on) w) (sym end) h))
ends_quiet on (event ∷ events) old new there has off (next, h, rest) = ends_quiet on events next new there has off rest

pub runs_quiet : (events : List Event) (old new : Whole) → RunsTo HappensToAll old events new → OpensQuiet events new
runs_quiet events old new ran =
    λ on before is has off.
    let both = and_parts (is_there (centre_of on)) (has_link (seen_at (centre_of on) new) on) has in
    ends_quiet on before old new both.0 both.1 off (subst (λ (es : List Event). RunsTo HappensToAll old es new) is ran)
