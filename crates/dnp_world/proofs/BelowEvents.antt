-- Events on the link to a substation, which keep what stands behind the system.
use Rattle.std.proofs.Common.{◌≡◌, ℕ, ◌<◌, ◌≤◌, ◌^◌, if◌then◌else◌, Bool, true, false, List, [], ◌∷◌, ◌++◌, length, drop, Some, refl, sym, ap, ◌∙◌, subst, append-nil, arith}
use Rattle.std.specs.Prelude.{slice_get, ⊤}
use Rattle.std.proofs.lemmas.List.{drop_all}
use Rattle.dnp_objects.specs.declared.command.Command.{Command}
use Rattle.dnp_objects.specs.declared.row.Row.{Row}
use Rattle.dnp_controls.specs.Latches.{PlainState, plain_panel, is_latched}
use Rattle.dnp_concentrator.specs.Below.{link_in}
use Rattle.dnp_concentrator.specs.Relaying.{Relaying}
use Rattle.dnp_line.specs.Lines.{LineState, delivered_on, repeated_on}
use Rattle.dnp_controls.specs.Panel.{Panel}
use Rattle.dnp_eventbuf.specs.EventBuffer.{rows_in, without_all}
use Rattle.dnp_outstation.specs.Calls.{connection_after, restarted_core}
use Rattle.dnp_outstation.specs.Connection.{closed}
use Rattle.dnp_outstation.specs.State.{Step}
use Rattle.dnp_outstation.specs.Station.{with_points}
use Rattle.dnp_world.specs.declared.link_event.End.TheVariants as end
use Rattle.dnp_world.specs.declared.link_event.LinkEvent.{LinkEvent}
use Rattle.dnp_world.specs.declared.link_event.LinkEvent.TheVariants as event
use Rattle.dnp_world.specs.declared.link_event.Way.{Way}
use Rattle.dnp_world.specs.declared.link_event.Way.TheVariants as way
use Rattle.dnp_world.specs.declared.event.Link.TheVariants.{Below}
use Rattle.dnp_world.specs.Behind.{Elsewhere, rows_of}
use Rattle.dnp_world.specs.Channels.{ChannelState, lost_at, hung_up_at}
use Rattle.dnp_world.specs.Joined.{rows_made_by}
use Rattle.dnp_world.specs.LawLink.{LawLink}
use Rattle.dnp_world.specs.OneLinkEvents.{LinkState, HappensOn, ComesDown, ComeDown, Steps}
use Rattle.dnp_world.specs.OutstationSeen.{ShowOctets}
use Rattle.dnp_world.specs.Systems.{SubstationState, System, at_substation, in_state, panel_of, station_of}
use Rattle.dnp_world.specs.SystemEvents.{HangsUpOn, LosesOn, SubstationAnswers, SubstationSteps, ComesDownBelow, SubstationRestarts, with_substation}
use Rattle.dnp_world.specs.SystemStanding.{RowLists, lists_of, no_sink, seen, seen_below, IsJoinedBelow, IsStanding, Keeps}
use Rattle.dnp_world.proofs.BelowKeeps.{Grounds, Gone, IsListed, KeepsMiddle, Middle, changed_below, middle_in, middle_same, performs, below_keeps, some_of}

-- ---- outputs

-- outputs in memory show octets, whatever was performed
octets_shown : (outputs : PlainState) → outputs.outputs ≤ 2 ^ 16 → ShowOctets (plain_panel outputs)
octets_shown outputs few = record { outputs = few; status = λ index low. by (is_latched outputs.performed index) }
  where
    by : (b : Bool) → (if b then 0x81 else 0x01) < 2 ^ 8
    by true = omega arith
    by false = omega arith

pub none_behind : {A : Type 0} (xs : List A) → xs ≡ xs ++ []
none_behind xs = sym (append-nil xs)

abbrev pub nothing_gone : Gone
nothing_gone = record { confirmed = []; overwritten = []; emptied = [] }

pub nothing_listed : (l : LawLink) → IsListed l nothing_gone (lists_of l)
nothing_listed l = record { taken = refl; released = none_behind (rows_of l.released); left = none_behind (rows_of l.left) }

pub no_performs : (was is : SubstationState) → is.outputs.performed ≡ was.outputs.performed → performs was is ≡ []
no_performs was is same =
    ap (λ (xs : List Command). drop (length was.outputs.performed) xs) same ∙ drop_all (length was.outputs.performed) was.outputs.performed (omega arith)

-- the outputs of a substation that stands
pub few_outputs : (old : System) {el : Elsewhere} (h : IsStanding el old) (substation : ℕ) (was : SubstationState)
    → slice_get old.substations substation ≡ Some was
    → was.outputs.outputs ≤ 2 ^ 16
few_outputs old h substation was there =
    let joined_to : SubstationState → Type 0 = IsJoinedBelow old.now (link_in old.concentrator.links substation) (h.links.below substation) in
    (some_of joined_to (slice_get old.substations substation) was there (h.below substation)).shown.outputs

pub shown_with : (was is : SubstationState) → was.outputs.outputs ≤ 2 ^ 16 → is.outputs.outputs ≡ was.outputs.outputs → ShowOctets (panel_of is)
shown_with was is few same = octets_shown is.outputs (subst (λ (n : ℕ). n ≤ 2 ^ 16) (sym same) few)

-- ---- events at which no row is released or leaves

-- the substation of the link by itself
abbrev pub seen_at : System → ℕ → SubstationState → RowLists → LinkState ⊤
seen_at old substation was lists = seen_below old.now (link_in old.concentrator.links substation) was lists

-- the substation is another, and so is what the concentrator has of it
abbrev pub with_both : System → ℕ → SubstationState → Middle → System
with_both s substation is middle = record (with_substation s substation is) {
  concentrator = record s.concentrator { core = with_points s.concentrator.core middle.points; links = middle.links };
}

pub both_as : (old : System) (substation : ℕ) (was is : SubstationState) (middle : Middle) → is.outputs ≡ was.outputs
    → with_both old substation is middle ≡ changed_below substation was is middle nothing_gone old
both_as old substation was is middle same = rw (no_performs was is (ap (λ (o : PlainState). o.performed) same)) (simp append-nil)

pub quiet_with : Grounds → (old new : System) {el : Elsewhere} (h : IsStanding el old) (substation : ℕ) (was is : SubstationState) (middle : Middle)
    (e : LinkEvent) → slice_get old.substations substation ≡ Some was → KeepsMiddle substation middle old → is.outputs ≡ was.outputs
    → HappensOn no_sink (panel_of was) (seen_at old substation was (lists_of (h.links.below substation))) e
    (seen_below old.now (link_in middle.links substation) is (lists_of (h.links.below substation)))
    → new ≡ with_both old substation is middle → Keeps el substation (rows_made_by was.core.points (e ∷ [])) old new
quiet_with grounds old new h substation was is middle e there keeps same happens after =
    below_keeps grounds old new h substation was is middle nothing_gone (lists_of (h.links.below substation)) e there keeps
    (shown_with was is (few_outputs old h substation was there) (ap (λ (o : PlainState). o.outputs) same))
    (nothing_listed (h.links.below substation)) happens
    (after ∙ both_as old substation was is middle same)

pub quiet : Grounds → (old new : System) {el : Elsewhere} (h : IsStanding el old) (substation : ℕ) (was is : SubstationState) (e : LinkEvent)
    → slice_get old.substations substation ≡ Some was → is.outputs ≡ was.outputs
    → HappensOn no_sink (panel_of was) (seen_at old substation was (lists_of (h.links.below substation))) e
    (seen_at old substation is (lists_of (h.links.below substation)))
    → new ≡ with_substation old substation is → Keeps el substation (rows_made_by was.core.points (e ∷ [])) old new
quiet grounds old new h substation was is e there same happens after =
    quiet_with grounds old new h substation was is (middle_in old) e there (middle_same substation old) same happens after

-- a line loses its front unit
pub loses : Grounds → (old new : System) {el : Elsewhere} (substation : ℕ) (way : Way) → IsStanding el old → LosesOn (Below substation) way old new
    → Keeps el substation [] old new
loses grounds old new substation w h e =
    quiet grounds old new h substation e.was (record e.was { channel = lost_at w e.was.channel }) (event.Lose w) e.there refl refl
    (e.after ∙ ap (λ (s : SubstationState). with_substation old substation s)
    (e.changed.1 ∙ ap (λ (c : ChannelState). record e.was { channel = c }) e.changed.0))

-- the outstation hangs up
pub hangs_up : Grounds → (old new : System) {el : Elsewhere} (substation : ℕ) → IsStanding el old → HangsUpOn (Below substation) end.Outstation old new
    → Keeps el substation [] old new
hangs_up grounds old new substation h e =
    quiet grounds old new h substation e.was (record e.was { core = closed e.was.core; channel = hung_up_at end.Outstation e.was.channel })
    (event.HangUp end.Outstation) e.there refl refl (e.after ∙ ap (λ (s : SubstationState). with_substation old substation s) e.changed)

-- ---- it restarts, and its lanes are emptied

pub restarts : Grounds → (old new : System) {el : Elsewhere} (substation : ℕ) → IsStanding el old → SubstationRestarts substation old new
    → Keeps el substation [] old new
restarts grounds old new substation h e =
    let was : SubstationState = e.was in
    let is : SubstationState = record was {
      core = restarted_core was.core;
      lanes = without_all was.lanes;
      channel = hung_up_at end.Outstation was.channel;
    } in
    let l : LawLink = h.links.below substation in
    let gone : Gone = record { confirmed = []; overwritten = []; emptied = rows_in was.lanes } in
    let after : SubstationState → System = λ s. record (with_substation old substation s) {
      history = record old.history { gone = old.history.gone ++ at_substation substation (rows_in was.lanes) };
    } in
    below_keeps grounds old new h substation was is (middle_in old) gone
    (record (lists_of l) { left = rows_of l.left ++ rows_in was.lanes }) (event.Restart end.Outstation) e.there (middle_same substation old)
    (shown_with was is (few_outputs old h substation was e.there) refl)
    (record { taken = refl; released = none_behind (rows_of l.released); left = refl }) refl
    (e.after ∙ ap after e.changed ∙ rw (no_performs was is refl) (simp append-nil))

-- ---- steps of its outstation

-- these were released besides
abbrev pub with_released : RowLists → List Row → RowLists
with_released lists released = record lists { released = lists.released ++ released }

-- a step of the substation is a step of the link by itself, over these lines and with this master
pub stepped_on : (now : ℕ) (r : Relaying) (step : Step) (lines : ChannelState) (base is : SubstationState) (lists : RowLists)
    → SubstationSteps step lines base is
    → Steps step (seen (station_of base) r.master lines now lists) (seen_below now r is (with_released lists step.does.discarded))
stepped_on now r step lines base is lists steps = record {
  goes = steps.sent;
  after = ap (λ (s : SubstationState). seen_below now r s (with_released lists step.does.discarded)) steps.after;
}

stepped : (old : System) (substation : ℕ) (step : Step) (base is : SubstationState) (lists : RowLists) → SubstationSteps step base.channel base is
    → Steps step (seen_at old substation base lists) (seen_at old substation is (with_released lists step.does.discarded))
stepped old substation step base is lists steps =
    stepped_on old.now (link_in old.concentrator.links substation) step base.channel base is lists steps

-- a step that releases nothing, and at which these rows are dropped
pub step_keeps : Grounds → (old new : System) {el : Elsewhere} (h : IsStanding el old) (substation : ℕ) (was is : SubstationState) (e : LinkEvent) (step : Step)
    (dropped : List Row) → slice_get old.substations substation ≡ Some was → step.does.discarded ≡ [] → SubstationSteps step was.channel was is
    → ((s' : LinkState ⊤)
    → Steps step (seen_at old substation was (record (lists_of (h.links.below substation)) { left = rows_of (h.links.below substation).left ++ dropped })) s'
    → HappensOn no_sink (panel_of was) (seen_at old substation was (lists_of (h.links.below substation))) e s')
    → new ≡ record (with_substation old substation is) {
      history = record old.history {
        overwritten = old.history.overwritten ++ at_substation substation dropped;
        operated = old.history.operated ++ at_substation substation (performs was is);
      };
    }
    → Keeps el substation (rows_made_by was.core.points (e ∷ [])) old new
step_keeps grounds old new h substation was is e step dropped there none steps as_event after =
    let l : LawLink = h.links.below substation in
    let gone : Gone = record { confirmed = step.does.discarded; overwritten = dropped; emptied = [] } in
    let lists : RowLists = record (lists_of l) { left = rows_of l.left ++ dropped } in
    let is' : SubstationState = record (in_state was step.state) { channel = is.channel } in
    below_keeps grounds old new h substation was is (middle_in old) gone (with_released lists step.does.discarded) e there (middle_same substation old)
    (shown_with was is (few_outputs old h substation was there) (ap (λ (s : SubstationState). s.outputs.outputs) steps.after))
    (record { taken = refl; released = refl; left = ap (λ (xs : List Row). rows_of l.left ++ xs) (none_behind dropped) })
    (as_event (seen_at old substation is (with_released lists step.does.discarded)) (stepped old substation step was is lists steps))
    (after ∙ rw none (simp append-nil))

-- ---- the front unit comes to it

-- what a fragment, or none, makes of the substation is what it makes of the link by itself
answered : (old : System) (substation : ℕ) (l : LawLink) (base is : SubstationState) (given : List (List ℕ)) (released : List Row)
    → SubstationAnswers given old.now released base is
    → ComeDown (panel_of base) given (seen_at old substation base (lists_of l)) (seen_at old substation is (with_released (lists_of l) released))
answered old substation l base is [] released (none, stays) =
    ap (λ (s : SubstationState). seen_at old substation s (with_released (lists_of l) released)) stays
    ∙ ap (λ (xs : List Row). seen_at old substation base (with_released (lists_of l) xs)) none
    ∙ ap (λ (xs : List Row). seen_at old substation base (record (lists_of l) { released = xs })) (append-nil (rows_of l.released))
answered old substation l base is (fragment ∷ others) released (released_is, steps) =
    let step : Step = connection_after (station_of base) (panel_of base) old.now fragment in
    subst (λ (xs : List Row). Steps step (seen_at old substation base (lists_of l))
    (seen_at old substation is (with_released (lists_of l) xs))) (sym released_is)
    (stepped old substation step base is (lists_of l) steps)

outputs_stay : (given : List (List ℕ)) (now : ℕ) (released : List Row) (base is : SubstationState) → SubstationAnswers given now released base is
    → is.outputs.outputs ≡ base.outputs.outputs
outputs_stay [] now released base is (none, stays) = ap (λ (s : SubstationState). s.outputs.outputs) stays
outputs_stay (fragment ∷ others) now released base is (released_is, steps) = ap (λ (s : SubstationState). s.outputs.outputs) steps.after

comes : Grounds → (left : LineState → LineState) (e : LinkEvent)
    → ((s s' : LinkState ⊤) (panel : Panel) → ComesDown panel (left s.channel.down) s s' → HappensOn no_sink panel s e s')
    → (old new : System) {el : Elsewhere} (substation : ℕ) → IsStanding el old → (c : ComesDownBelow left substation old new)
    → Keeps el substation (rows_made_by c.came.was.core.points (e ∷ [])) old new
comes grounds left e as_event old new substation h c =
    let was : SubstationState = c.came.was in
    let is : SubstationState = c.came.is in
    let x = c.came.changed in
    let l : LawLink = h.links.below substation in
    let base : SubstationState = record was { channel = record was.channel { down = left was.channel.down; outstation_port = x.port } } in
    let gone : Gone = record { confirmed = c.released; overwritten = []; emptied = [] } in
    let lists : RowLists = record (lists_of l) { released = rows_of l.released ++ c.released } in
    below_keeps grounds old new h substation was is (middle_in old) gone lists e c.came.there (middle_same substation old)
    (shown_with was is (few_outputs old h substation was c.came.there) (outputs_stay x.given old.now c.released base is x.came))
    (record { taken = refl; released = refl; left = none_behind (rows_of l.left) })
    (as_event (seen_at old substation was (lists_of l)) (seen_at old substation is lists) (panel_of was)
    (record { port = x.port; given = x.given; heard = x.heard; came = answered old substation l base is x.given c.released x.came }))
    (c.came.after ∙ simp append-nil)

pub delivers : Grounds → (old new : System) {el : Elsewhere} (substation : ℕ) → IsStanding el old → ComesDownBelow delivered_on substation old new
    → Keeps el substation [] old new
delivers grounds old new substation h c = comes grounds delivered_on (event.Deliver way.Down) (λ s s' panel come. come) old new substation h c

pub repeats : Grounds → (old new : System) {el : Elsewhere} (substation : ℕ) → IsStanding el old → ComesDownBelow repeated_on substation old new
    → Keeps el substation [] old new
repeats grounds old new substation h c = comes grounds repeated_on (event.Repeat way.Down) (λ s s' panel come. come) old new substation h c
