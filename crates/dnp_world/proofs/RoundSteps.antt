-- What the parts of a clean round are to what it turns on: the two stations without their lines, and the lists of what became of rows.
use Rattle.std.proofs.Common.{◌≡◌, ◌≢◌, ℕ, zero, suc, ◌<◌, Bool, true, List, [], ◌∷◌, ◌++◌, length, append-nil, Option, Some, None, Result, Ok, refl, sym, ap, ◌∙◌, subst, arith}
use Rattle.std.specs.Prelude.{drop, option_map, slice_get, slice_set}
use Rattle.std.proofs.lemmas.Bool.{and_parts}
use Rattle.std.proofs.lemmas.List.{drop_all}
use Rattle.std.proofs.lemmas.Option.{none-some, same_Some}
use Rattle.dnp_concentrator.specs.Below.{link_in}
use Rattle.dnp_concentrator.specs.Relaying as relaying
use Rattle.dnp_concentrator.specs.Relaying.{Relaying}
use Rattle.dnp_controls.specs.Latches.{PlainState, plain_panel}
use Rattle.dnp_controls.specs.Panel.{Panel}
use Rattle.dnp_eventbuf.specs.EventBuffer.{EventBuffer}
use Rattle.dnp_master.specs.Calls.{Taking, ask_answer}
use Rattle.dnp_master.specs.declared.fault.AskFault.{AskFault}
use Rattle.dnp_objects.specs.declared.command.Command.{Command}
use Rattle.dnp_objects.specs.declared.row.Row.{Row}
use Rattle.dnp_outstation.specs.Calls.{connection_after}
use Rattle.dnp_outstation.specs.State.{Core, State, Step, is_quiet}
use Rattle.dnp_outstation.specs.Station.{state_of}
use Rattle.dnp_world.specs.Arriving.{Arrive, Arrives, TakesOn, SubstationTakes, answers_below}
use Rattle.dnp_world.specs.Channels.{ChannelState, are_quiet}
use Rattle.dnp_world.specs.Rounds.{events_polled, is_quiet_at}
use Rattle.dnp_world.specs.SystemEvents.{AsksOn, LinesChange, SendsDown, concentrator_taken, dropped_for, request_of, relaying_at, taken_below, with_link}
use Rattle.dnp_world.specs.SystemRuns.{IfThere}
use Rattle.dnp_world.specs.Systems.{CentreState, ConcentratorState, History, SubstationState, System, at_substation}
use Rattle.dnp_world.specs.declared.event.Link.{Link}
use Rattle.dnp_world.specs.declared.event.Link.TheVariants.{Below}
use Rattle.dnp_world.specs.declared.link_event.Way.{Way}
use Rattle.dnp_world.proofs.ListedAt.{set_here, set_there}

-- ---- one fragment, and none

pub one_arrives : (on : Link) (way : Way) (fragment : List ℕ) (answers : List (List ℕ)) (old new : System)
    → Arrive on way (fragment ∷ []) answers old new → Arrives on way fragment answers old new
one_arrives on way fragment answers old new (first, more, next, arrives, (none, same), joined) = record {
  heard = arrives.heard;
  hears = arrives.hears;
  takes = subst (λ (s : System). TakesOn on way fragment arrives.heard s) (sym same) arrives.takes;
  sends = joined ∙ ap (λ (ys : List (List ℕ)). first ++ ys) none ∙ append-nil first ∙ arrives.sends;
}

-- ---- the poll

pub asks_so : (on : Link) (old asked : System) (there : Bool) (octets : List ℕ) → there ≡ true
    → ask_answer (relaying_at old on).master events_polled ≡ Ok octets → IfThere there (AsksOn true on events_polled) old asked
    → SendsDown on (octets ∷ []) (relaying.asking (relaying_at old on) old.now events_polled) old asked
asks_so on old asked there octets is same h =
    subst
    (λ (r : Result (List ℕ) AskFault). SendsDown on (request_of r) (relaying.asking (relaying_at old on) old.now events_polled) old asked) same
    (subst (λ (b : Bool). IfThere b (AsksOn true on events_polled) old asked) is h)

-- ---- a substation without its lines

pub record Parts : Type 0 where
  pub core : Core
  pub lanes : EventBuffer
  pub outputs : PlainState

abbrev pub parts_of : SubstationState → Parts
parts_of s = record { core = s.core; lanes = s.lanes; outputs = s.outputs }

abbrev pub panel_in : Parts → Panel
panel_in p = plain_panel p.outputs

abbrev pub state_in : Parts → State
state_in p = state_of p.core p.lanes (panel_in p)

-- what a fragment makes of it
abbrev pub step_in : Parts → ℕ → List ℕ → Step
step_in p now fragment = connection_after (state_in p) (panel_in p) now fragment

abbrev pub parts_after : Parts → Step → Parts
parts_after p step = record { core = step.state.core; lanes = step.state.lanes; outputs = record p.outputs { performed = step.state.performed } }

-- what the round leaves alone
pub record Rest : Type 0 where
  pub others : ℕ → Option SubstationState
  pub centre : CentreState
  pub now : ℕ

abbrev pub rest_of : System → Rest
rest_of s = record { others = λ i. slice_get s.substations i; centre = s.centre; now = s.now }

-- rows of the substation of this number were confirmed
abbrev pub with_confirmed : ℕ → List Row → History → History
with_confirmed substation rows h = record h { confirmed = h.confirmed ++ at_substation substation rows }

abbrev pub with_dropped : List Row → History → History
with_dropped rows h = record h { dropped = h.dropped ++ rows }

-- the substation of this number, the concentrator and the history are these, and all else but lines is as it was
pub record IsNow (substation : ℕ) (rest : Rest) (p : Parts) (c : ConcentratorState) (h : History) (s : System) : Type 0 where
  pub parts : option_map parts_of (slice_get s.substations substation) ≡ Some p
  pub concentrator : s.concentrator ≡ c
  pub history : s.history ≡ h
  pub others : (i : ℕ) → i ≢ substation → slice_get s.substations i ≡ rest.others i
  pub centre : s.centre ≡ rest.centre
  pub now : s.now ≡ rest.now

parts_same : (o : Option SubstationState) (was : SubstationState) (p : Parts) → o ≡ Some was → option_map parts_of o ≡ Some p → parts_of was ≡ p
parts_same o was p there is = same_Some (parts_of was) p (ap (option_map parts_of) (sym there) ∙ is)

module _ (substation : ℕ) (rest : Rest) (p : Parts) (c : ConcentratorState) (h : History) where
  -- lines change
  pub lines_change : (Change : ChannelState → ChannelState → Type 0) (old new : System) → LinesChange (Below substation) Change old new
      → IsNow substation rest p c h old → IsNow substation rest p c h new
  lines_change Change old new change n =
      let was : SubstationState = change.was in
      let is : SubstationState = change.is in
      subst (IsNow substation rest p c h) (sym change.after) record {
        parts = ap (option_map parts_of) (set_here old.substations substation was is change.there)
            ∙ ap (λ (s : SubstationState). Some (parts_of s)) change.changed.1
            ∙ ap Some (parts_same (slice_get old.substations substation) was p change.there n.parts);
        concentrator = n.concentrator;
        history = n.history;
        others = λ i apart. set_there old.substations substation i is apart ∙ n.others i apart;
        centre = n.centre;
        now = n.now;
      }

  -- the substation answers, and performs nothing
  pub substation_steps : (fragment : List ℕ) (old new : System) → SubstationTakes substation fragment old new → IsNow substation rest p c h old
      → (step_in p rest.now fragment).state.performed ≡ p.outputs.performed
      → IsNow substation rest (parts_after p (step_in p rest.now fragment)) c (with_confirmed substation (step_in p rest.now fragment).does.discarded h) new
  substation_steps fragment old new takes n kept =
      let change = takes.answers in
      let was : SubstationState = change.was in
      let is : SubstationState = change.is in
      let of : Parts → ℕ → Step = λ q k. step_in q k fragment in
      let step : Step = of p rest.now in
      let same : parts_of was ≡ p = parts_same (slice_get old.substations substation) was p change.there n.parts in
      let step_is : of (parts_of was) old.now ≡ step = ap (λ (q : Parts). of q old.now) same ∙ ap (λ (k : ℕ). of p k) n.now in
      let performed : is.outputs.performed ≡ was.outputs.performed =
      ap (λ (s : SubstationState). s.outputs.performed) change.changed.1.after
      ∙ ap (λ (x : Step). x.state.performed) step_is ∙ kept ∙ sym (ap (λ (q : Parts). q.outputs.performed) same)
      in
      let none : drop (length was.outputs.performed) is.outputs.performed ≡ [] =
      ap (λ (xs : List Command). drop (length was.outputs.performed) xs) performed
      ∙ drop_all (length was.outputs.performed) was.outputs.performed (omega arith)
      in
      let made : History → List Row → List Command → History = λ x rows commands. record x {
        confirmed = x.confirmed ++ at_substation substation rows;
        operated = x.operated ++ at_substation substation commands;
      } in
      let commands : List Command = drop (length was.outputs.performed) is.outputs.performed in
      subst (IsNow substation rest (parts_after p step) c (with_confirmed substation step.does.discarded h)) (sym change.after) record {
        parts = ap (option_map parts_of) (set_here old.substations substation was is change.there)
            ∙ ap (λ (s : SubstationState). Some (parts_of s)) change.changed.1.after
            ∙ ap (λ (q : Parts). Some (parts_after q (of q old.now))) same
            ∙ ap (λ (k : ℕ). Some (parts_after p (of p k))) n.now;
        concentrator = n.concentrator;
        history = ap (λ (x : History). made x takes.released commands) n.history
            ∙ ap (λ (rows : List Row). made h rows commands) (change.changed.0 ∙ ap (λ (x : Step). x.does.discarded) step_is)
            ∙ ap (λ (xs : List Command). made h step.does.discarded xs) none
            ∙ ap (λ (xs : List (ℕ × Command)). record (with_confirmed substation step.does.discarded h) { operated = xs }) (append-nil h.operated);
        others = λ i apart. set_there old.substations substation i is apart ∙ n.others i apart;
        centre = n.centre;
        now = n.now;
      }

  -- what it sends back
  pub substation_sends : (fragment : List ℕ) (s : System) → IsNow substation rest p c h s
      → answers_below (slice_get s.substations substation) s.now fragment ≡ (step_in p rest.now fragment).does.send
  substation_sends fragment s n = by (slice_get s.substations substation) n.parts
    where
      by : (o : Option SubstationState) → option_map parts_of o ≡ Some p
          → answers_below o s.now fragment ≡ (step_in p rest.now fragment).does.send
      by None is = absurd (none-some p is)
      by (Some was) is =
          ap (λ (q : Parts). (step_in q s.now fragment).does.send) (same_Some (parts_of was) p is)
          ∙ ap (λ (k : ℕ). (step_in p k fragment).does.send) n.now

  -- the concentrator takes its rows
  pub rows_taken : (t : Taking) (s : System) → IsNow substation rest p c h s
      → IsNow substation rest p (concentrator_taken c substation t) (with_dropped (dropped_for c substation t) h) (taken_below s substation t)
  rows_taken t s n = record {
    parts = n.parts;
    concentrator = ap (λ (x : ConcentratorState). concentrator_taken x substation t) n.concentrator;
    history = ap (with_dropped (dropped_for s.concentrator substation t)) n.history
        ∙ ap (λ (x : ConcentratorState). with_dropped (dropped_for x substation t) h) n.concentrator;
    others = n.others;
    centre = n.centre;
    now = n.now;
  }

  -- the link's master is another
  pub link_set : (r : Relaying) (s : System) → IsNow substation rest p c h s
      → IsNow substation rest p (record c { links = slice_set c.links substation r }) h (with_link s substation r)
  link_set r s n = record {
    parts = n.parts;
    concentrator = ap (λ (x : ConcentratorState). record x { links = slice_set x.links substation r }) n.concentrator;
    history = n.history;
    others = n.others;
    centre = n.centre;
    now = n.now;
  }

pub set_link : (links : List Relaying) (i : ℕ) (r : Relaying) → i < length links → link_in (slice_set links i r) i ≡ r
set_link [] i r low = absurd (omega (arith, low))
set_link (x ∷ links) zero r low = refl
set_link (x ∷ links) (suc i) r low = set_link links i r (omega (arith, low))

-- a quiet substation is there
pub record QuietAt (o : Option SubstationState) : Type 0 where
  pub was : SubstationState
  pub there : o ≡ Some was
  pub quiet : is_quiet was.core ≡ true

pub quiet_at : (o : Option SubstationState) → is_quiet_at o ≡ true → QuietAt o
quiet_at None quiet = absurd (cc)
quiet_at (Some s) quiet = record { was = s; there = refl; quiet = (and_parts (is_quiet s.core) (are_quiet s.channel) quiet).0 }

-- what it is of
pub parts_there : (o : Option SubstationState) (p : Parts) → option_map parts_of o ≡ Some p → (s : SubstationState) × (o ≡ Some s) × (parts_of s ≡ p)
parts_there None p is = absurd (none-some p is)
parts_there (Some s) p is = (s, refl, same_Some (parts_of s) p is)
