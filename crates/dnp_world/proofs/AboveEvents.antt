-- Events on the link between concentrator and centre, which keep what stands behind the system.
use Rattle.std.proofs.Common.{◌≡◌, ℕ, Bool, true, false, List, [], ◌∷◌, ◌++◌, Result, Ok, Err, refl, sym, ap, ◌∙◌, subst, append-nil}
use Rattle.std.specs.Prelude.{⊤}
use Rattle.dnp_concentrator.specs.Relaying as relaying
use Rattle.dnp_concentrator.specs.Relaying.{Relaying}
use Rattle.dnp_eventbuf.specs.EventBuffer.{lost_in}
use Rattle.dnp_master.specs.Calls.{ask_answer, asked_by}
use Rattle.dnp_master.specs.declared.fault.AskFault.{AskFault}
use Rattle.dnp_master.specs.declared.task.Task.{Task}
use Rattle.dnp_objects.specs.declared.command.Command.{Command}
use Rattle.dnp_objects.specs.declared.row.Row.{Row}
use Rattle.dnp_outstation.specs.Calls.{opened_of, tick_of}
use Rattle.dnp_outstation.specs.Connection.{closed}
use Rattle.dnp_outstation.specs.Links.{ReleasesNone}
use Rattle.dnp_outstation.specs.State.{State, Step}
use Rattle.dnp_world.specs.Behind.{Elsewhere}
use Rattle.dnp_world.specs.declared.event.Link.TheVariants as link
use Rattle.dnp_world.specs.declared.link_event.End.TheVariants as end
use Rattle.dnp_world.specs.declared.link_event.LinkEvent.{LinkEvent}
use Rattle.dnp_world.specs.declared.link_event.LinkEvent.TheVariants as event
use Rattle.dnp_world.specs.declared.link_event.Way.{Way}
use Rattle.dnp_world.specs.Channels.{ChannelState, DamagesAt, GoDown, cleared, hung_up_at, lost_at}
use Rattle.dnp_world.specs.Joined.{rows_made_by}
use Rattle.dnp_world.specs.OneLinkEvents.{AsksBy, AsksIfOwn, HappensOn, LinkState, Steps, is_own}
use Rattle.dnp_world.specs.Systems.{System, middle_of, middle_panel}
use Rattle.dnp_world.specs.SystemEvents.{AsksOn, HangsUpOn, LinesChange, LosesOn, MasterTicks, MiddleSteps, OpensOn, OutstationTicks, request_of}
use Rattle.dnp_world.specs.SystemStanding.{RowLists, lists_of, no_sink, seen, seen_above, IsStanding, Keeps}
use Rattle.dnp_world.proofs.AboveKeeps.{Above, above_keeps, changed_above, none_listed}
use Rattle.dnp_world.proofs.BelowCalls.{none_goes}
use Rattle.dnp_world.proofs.BelowEvents.{none_behind}
use Rattle.dnp_world.proofs.BelowKeeps.{Grounds, none_used}
use Rattle.dnp_world.proofs.Issuing.{same_keeps}

-- ---- events at which no row is released or taken

-- nothing of the concentrator's queue and of the journal changes
abbrev pub with_ends : System → State → Relaying → ChannelState → Above
with_ends s outstation r lines =
    record { core = outstation.core; queue = outstation.lanes; commands = []; link = r; journal = s.centre.journal; lines = lines }

pub quiet_above : Grounds → (old new : System) {el : Elsewhere} (h : IsStanding el old) (substation : ℕ) (outstation : State) (r : Relaying)
    (lines : ChannelState) (e : LinkEvent) → outstation.lanes ≡ old.concentrator.queue
    → rows_made_by old.concentrator.core.points (e ∷ []) ≡ []
    → HappensOn no_sink (middle_panel old.concentrator old.now) (seen_above old (lists_of h.links.above)) e
    (seen_above (changed_above (with_ends old outstation r lines) old) (lists_of h.links.above))
    → new ≡ changed_above (with_ends old outstation r lines) old → Keeps el substation [] old new
quiet_above grounds old new h substation outstation r lines e queue none happens after =
    let a : Above = with_ends old outstation r lines in
    above_keeps grounds old new h substation a [] [] (lists_of h.links.above) e
    (record { lost = ap lost_in queue; journal = none_behind _; performs = none_behind _; used = none_used _; same = refl })
    (none_listed h.links.above) none happens after

-- the lines alone change
pub loses_above : Grounds → (centre : ℕ) (old new : System) {el : Elsewhere} (substation : ℕ) (w : Way) → IsStanding el old
    → LosesOn (link.Above centre) w old new
    → Keeps el substation [] old new
loses_above grounds centre old new substation w h e =
    quiet_above grounds old new h substation (middle_of old.concentrator) old.centre.link (lost_at w old.above) (event.Lose w) refl refl refl
    (e.1 ∙ ap (λ (c : ChannelState). record old { above = c }) e.0)

pub damages_above : Grounds → (centre : ℕ) (old new : System) {el : Elsewhere} (substation : ℕ) (w : Way) (octets : List ℕ) → IsStanding el old
    → LinesChange (link.Above centre) (DamagesAt w octets) old new → Keeps el substation [] old new
damages_above grounds centre old new substation w octets h e =
    quiet_above grounds old new h substation (middle_of old.concentrator) old.centre.link new.above (event.Damage w (record { items = octets })) refl refl
    (record { damages = e.0; after = refl }) e.1

-- ---- an end hangs up

pub centre_hangs_up : Grounds → (centre : ℕ) (old new : System) {el : Elsewhere} (substation : ℕ) → IsStanding el old
    → HangsUpOn (link.Above centre) end.Master old new
    → Keeps el substation [] old new
centre_hangs_up grounds centre old new substation h e =
    quiet_above grounds old new h substation (middle_of old.concentrator) (relaying.hung_up old.centre.link) (hung_up_at end.Master old.above)
    (event.HangUp end.Master) refl refl refl e

pub concentrator_hangs_up : Grounds → (centre : ℕ) (old new : System) {el : Elsewhere} (substation : ℕ) → IsStanding el old
    → HangsUpOn (link.Above centre) end.Outstation old new
    → Keeps el substation [] old new
concentrator_hangs_up grounds centre old new substation h e =
    quiet_above grounds old new h substation (record (middle_of old.concentrator) { core = closed old.concentrator.core }) old.centre.link
    (hung_up_at end.Outstation old.above) (event.HangUp end.Outstation) refl refl refl e

-- ---- timers

pub centre_ticks : Grounds → (centre : ℕ) (old new : System) {el : Elsewhere} (substation : ℕ) → IsStanding el old → MasterTicks (link.Above centre) old new
    → Keeps el substation [] old new
centre_ticks grounds centre old new substation h e =
    quiet_above grounds old new h substation (middle_of old.concentrator) (relaying.ticked old.centre.link old.now) old.above
    (event.Tick end.Master) refl refl refl e

-- ---- steps of the concentrator's outstation

-- what the crate of an outstation promises of these
pub record AboveLaws : Type 0 where
  pub open_none : (s : State) (now : ℕ) → ReleasesNone s (opened_of s now)
  pub open_performs : (s : State) (now : ℕ) → (opened_of s now).state.performed ≡ s.performed
  pub tick_none : (s : State) (now : ℕ) → ReleasesNone s (tick_of s now)
  pub tick_performs : (s : State) (now : ℕ) → (tick_of s now).state.performed ≡ s.performed

-- a step that releases and performs nothing, over these lines and with this link
step_above : Grounds → (old new : System) {el : Elsewhere} (h : IsStanding el old) (substation : ℕ) (step : Step) (r : Relaying) (lines : ChannelState)
    (e : LinkEvent) → ReleasesNone (middle_of old.concentrator) step
    → step.state.performed ≡ (middle_of old.concentrator).performed
    → rows_made_by old.concentrator.core.points (e ∷ []) ≡ []
    → ((s' : LinkState ⊤) → Steps step (seen (middle_of old.concentrator) r.master lines old.now (lists_of h.links.above)) s'
    → HappensOn no_sink (middle_panel old.concentrator old.now) (seen_above old (lists_of h.links.above)) e s')
    → MiddleSteps step [] lines (record old { centre = record old.centre { link = r } }) new → Keeps el substation [] old new
step_above grounds old new h substation step r lines e none same made as_event m =
    let a : Above = with_ends old step.state r new.above in
    let lists : RowLists = lists_of h.links.above in
    let base : LinkState ⊤ = seen (middle_of old.concentrator) r.master lines old.now lists in
    let stepped : List Command → List Row → LinkState ⊤ = λ performed released.
    seen (record step.state { performed = performed }) r.master new.above old.now (record lists { released = released }) in
    let there : stepped (middle_of old.concentrator).performed lists.released ≡ stepped step.state.performed (lists.released ++ step.does.discarded) =
    ap (λ (p : List Command). stepped p lists.released) (sym same)
    ∙ ap (λ (xs : List Row). stepped step.state.performed xs)
    (sym (append-nil lists.released) ∙ ap (λ (xs : List Row). lists.released ++ xs) (sym none.discarded)) in
    quiet_above grounds old new h substation step.state r new.above e none.lanes made
    (as_event (seen_above (changed_above a old) lists) (record { goes = m.sent; after = there })) m.after

pub opens_above : Grounds → AboveLaws → (centre : ℕ) (old new : System) {el : Elsewhere} (substation : ℕ) → IsStanding el old
    → OpensOn (link.Above centre) old new
    → Keeps el substation [] old new
opens_above grounds laws centre old new substation h e =
    let s : State = middle_of old.concentrator in
    step_above grounds old new h substation (opened_of s old.now) (relaying.opened old.centre.link) (cleared old.above) event.Open
    (laws.open_none s old.now) (laws.open_performs s old.now) refl (λ s' steps. steps) e

pub concentrator_ticks : Grounds → AboveLaws → (centre : ℕ) (old new : System) {el : Elsewhere} (substation : ℕ) → IsStanding el old
    → OutstationTicks (link.Above centre) old new
    → Keeps el substation [] old new
concentrator_ticks grounds laws centre old new substation h e =
    let s : State = middle_of old.concentrator in
    step_above grounds old new h substation (tick_of s old.now) old.centre.link old.above (event.Tick end.Outstation)
    (laws.tick_none s old.now) (laws.tick_performs s old.now) refl (λ s' steps. steps) e

-- ---- a task is asked

asked_so : (old : System) (task : Task) (lines : ChannelState) (lists : RowLists) (answer : Result (List ℕ) AskFault)
    → (let r : Relaying = old.centre.link in ask_answer r.master task ≡ answer → GoDown (request_of answer) old.above lines
    → AsksBy answer task (seen_above old lists)
    (seen_above (record old { centre = record old.centre { link = relaying.asking r old.now task }; above = lines }) lists))
asked_so old task lines lists (Ok octets) answer down = record { goes = down; after = refl }
asked_so old task lines lists (Err fault) answer down =
    let r : Relaying = old.centre.link in
    ap (λ (c : ChannelState). seen (middle_of old.concentrator) (relaying.asking r old.now task).master c old.now lists) (none_goes old.above lines down)
    ∙ ap (λ (a : Result (List ℕ) AskFault). seen (middle_of old.concentrator) (asked_by r.master old.now task a) old.above old.now lists) answer

asks_if : Grounds → (centre : ℕ) (old new : System) {el : Elsewhere} (substation : ℕ) (task : Task) (own : Bool) → is_own task ≡ own → IsStanding el old
    → AsksOn own (link.Above centre) task old new → Keeps el substation [] old new
asks_if grounds centre old new substation task true own h e =
    let r : Relaying = old.centre.link in
    let lists : RowLists = lists_of h.links.above in
    let next : System = record old { centre = record old.centre { link = relaying.asking r old.now task }; above = new.above } in
    quiet_above grounds old new h substation (middle_of old.concentrator) (relaying.asking r old.now task) new.above (event.Ask task) refl refl
    (subst (λ (b : Bool). AsksIfOwn b task (seen_above old lists) (seen_above next lists)) (sym own)
    (asked_so old task new.above lists (ask_answer r.master task) refl e.0))
    e.1
asks_if grounds centre old new substation task false own h e = same_keeps substation old new h e

pub asks_above : Grounds → (centre : ℕ) (old new : System) {el : Elsewhere} (substation : ℕ) (task : Task) → IsStanding el old
    → AsksOn (is_own task) (link.Above centre) task old new
    → Keeps el substation [] old new
asks_above grounds centre old new substation task h e = asks_if grounds centre old new substation task (is_own task) refl h e
