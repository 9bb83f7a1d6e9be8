-- Fragments that arrive at the ends of the link to a substation, as fragments that come to its two stations, and what they leave alone.
use Rattle.std.proofs.Common.{◌≡◌, ℕ, ◌<◌, List, [], ◌∷◌, ◌++◌, length, drop, Option, Some, Result, Ok, Err, refl, sym, ap, ◌∙◌, subst, append_assoc, append-nil, arith}
use Rattle.std.specs.Prelude.{slice_get, slice_set}
use Rattle.std.proofs.lemmas.List.{drop_at, map-append, length-set}
use Rattle.std.proofs.lemmas.Option.{same_Some}
use Rattle.dnp_concentrator.specs.Relaying.{Relaying}
use Rattle.dnp_concentrator.specs.Relaying as relaying
use Rattle.dnp_concentrator.specs.declared.span.Spans.{Spans}
use Rattle.dnp_controls.specs.Latches.{plain_check}
use Rattle.dnp_controls.specs.Panel.{Panel}
use Rattle.dnp_master.specs.Calls.{Taking, receive_of}
use Rattle.dnp_master.specs.declared.fault.MasterFault.{MasterFault}
use Rattle.dnp_objects.specs.declared.command.Command.{Command}
use Rattle.dnp_outstation.specs.Calls.{connection_after, performed_in}
use Rattle.dnp_outstation.specs.State.{State, Step}
use Rattle.dnp_world.specs.Arriving.{Arrive, HearsAt, SubstationTakes, answers_below, confirms_of}
use Rattle.dnp_world.specs.Channels.{ChannelState}
use Rattle.dnp_world.specs.ControlExchanges.{AnswersAll, ChecksAs, HearsAnswer, HearsAnswers}
use Rattle.dnp_world.specs.SystemEvents.{LinesChange, MasterReceives, SubstationAnswers, with_substation}
use Rattle.dnp_world.specs.Systems.{CentreState, SubstationState, System, at_substation, in_state, link_at, panel_of, station_of}
use Rattle.dnp_world.specs.declared.event.Link.TheVariants.{Below}
use Rattle.dnp_world.specs.declared.link_event.Way.{Way}
use Rattle.dnp_world.specs.declared.link_event.Way.TheVariants as way
use Rattle.dnp_world.proofs.ListedAt.{set_here}
use Rattle.dnp_world.proofs.SystemPlans.{link_here}

-- ---- what the link to a substation leaves alone

pub record Beside : Type 0 where
  pub indices : List Spans
  pub now : ℕ
  pub centre : CentreState
  pub spans : List Spans

abbrev pub beside : System → Beside
beside s = record { indices = s.indices; now = s.now; centre = s.centre; spans = s.concentrator.indices }

-- and what the substation performed is listed
pub record KeptBelow (substation : ℕ) (commands : List Command) (old new : System) : Type 0 where
  pub beside_is : beside new ≡ beside old
  pub links : length new.concentrator.links ≡ length old.concentrator.links
  pub operated : new.history.operated ≡ old.history.operated ++ at_substation substation commands

pub join_below : (substation : ℕ) (first more : List Command) (a b c : System) → KeptBelow substation first a b → KeptBelow substation more b c
    → KeptBelow substation (first ++ more) a c
join_below substation first more a b c h k = record {
  beside_is = k.beside_is ∙ h.beside_is;
  links = k.links ∙ h.links;
  operated = k.operated
      ∙ ap (λ (xs : List (ℕ × Command)). xs ++ at_substation substation more) h.operated
      ∙ append_assoc a.history.operated (at_substation substation first) (at_substation substation more)
      ∙ ap (λ (xs : List (ℕ × Command)). a.history.operated ++ xs) (sym (map-append (λ (x : Command). (substation, x)) first more));
}

pub same_below : (substation : ℕ) (old new : System) → beside new ≡ beside old → length new.concentrator.links ≡ length old.concentrator.links
    → new.history.operated ≡ old.history.operated → KeptBelow substation [] old new
same_below substation old new beside_is links operated = record {
  beside_is = beside_is;
  links = links;
  operated = operated ∙ sym (append-nil old.history.operated);
}

-- the substation with these lines
abbrev pub on_lines : SubstationState → ChannelState → SubstationState
on_lines s lines = record s { channel = lines }

-- ---- down

-- what the crate of outstations promises of what is performed
abbrev pub PerformsLaw : Type 0
PerformsLaw = (s : State) (o : Panel) (now : ℕ) (octets : List ℕ)
    → (connection_after s o now octets).state.performed ≡ s.performed ++ performed_in s.core o now octets

-- its outputs are as many
pub record HasAsMany (was is : SubstationState) : Type 0 where
  pub outputs : is.outputs.outputs ≡ was.outputs.outputs
  pub setpoints : is.outputs.setpoints ≡ was.outputs.setpoints

pub record DownBelow (substation : ℕ) (command : Command) (was : SubstationState) (fragments answers : List (List ℕ)) (old new : System) : Type 0 where
  pub is : SubstationState
  pub there : slice_get new.substations substation ≡ Some is
  pub commands : List Command
  pub all : AnswersAll old.now (ChecksAs command (plain_check was.outputs.outputs was.outputs.setpoints command)) fragments (station_of was)
      (station_of is) answers commands
  pub many : HasAsMany was is
  pub kept : KeptBelow substation commands old new
  pub concentrator : new.concentrator ≡ old.concentrator

-- one fragment
record OneDown (substation : ℕ) (fragment : List ℕ) (was : SubstationState) (old new : System) : Type 0 where
  is : SubstationState
  there : slice_get new.substations substation ≡ Some is
  core : is.core ≡ (connection_after (station_of was) (panel_of was) old.now fragment).state.core
  many : HasAsMany was is
  kept : KeptBelow substation (performed_in was.core (panel_of was) old.now fragment) old new
  concentrator : new.concentrator ≡ old.concentrator

down_from : PerformsLaw → (substation : ℕ) (fragment : List ℕ) (was : SubstationState) (old new : System) (lines : ChannelState)
    → slice_get old.substations substation ≡ Some was → SubstationTakes substation fragment (with_substation old substation (on_lines was lines)) new
    → OneDown substation fragment was old new
down_from law substation fragment was old new lines there takes =
    let mid : SubstationState = on_lines was lines in
    let a = takes.answers in
    let step : Step = connection_after (station_of was) (panel_of was) old.now fragment in
    let here : slice_get (slice_set old.substations substation mid) substation ≡ Some mid = set_here old.substations substation was mid there in
    let same : a.was ≡ mid = same_Some a.was mid (sym a.there ∙ here) in
    let changed : SubstationAnswers (fragment ∷ []) old.now takes.released mid a.is =
    subst (λ (x : SubstationState). SubstationAnswers (fragment ∷ []) old.now takes.released x a.is) same a.changed in
    let is_as : a.is ≡ on_lines (in_state mid step.state) a.is.channel = changed.1.after in
    let performed : a.is.outputs.performed ≡ was.outputs.performed ++ performed_in was.core (panel_of was) old.now fragment =
    ap (λ (x : SubstationState). x.outputs.performed) is_as ∙ law (station_of was) (panel_of was) old.now fragment in
    let grown : drop (length a.was.outputs.performed) a.is.outputs.performed ≡ performed_in was.core (panel_of was) old.now fragment =
    ap (λ (x : SubstationState). drop (length x.outputs.performed) a.is.outputs.performed) same
    ∙ ap (λ (xs : List Command). drop (length was.outputs.performed) xs) performed
    ∙ drop_at was.outputs.performed (performed_in was.core (panel_of was) old.now fragment) (length was.outputs.performed) refl in
    record {
      is = a.is;
      there = ap (λ (s : System). slice_get s.substations substation) a.after
          ∙ set_here (slice_set old.substations substation mid) substation mid a.is here;
      core = ap (λ (x : SubstationState). x.core) is_as;
      many = record {
        outputs = ap (λ (x : SubstationState). x.outputs.outputs) is_as;
        setpoints = ap (λ (x : SubstationState). x.outputs.setpoints) is_as;
      };
      kept = record {
        beside_is = ap beside a.after;
        links = ap (λ (s : System). length s.concentrator.links) a.after;
        operated = ap (λ (s : System). s.history.operated) a.after
            ∙ ap (λ (xs : List Command). old.history.operated ++ at_substation substation xs) grown;
      };
      concentrator = ap (λ (s : System). s.concentrator) a.after;
    }

-- what was heard on the way there changed lines alone
heard_at : (substation : ℕ) (way : Way) (was : SubstationState) (old heard : System) → slice_get old.substations substation ≡ Some was
    → LinesChange (Below substation) (HearsAt way) old heard
    → (lines : ChannelState) × (heard ≡ with_substation old substation (on_lines was lines))
heard_at substation way was old heard there h = (
  h.is.channel,
  h.after
      ∙ ap (λ (x : SubstationState). with_substation old substation x)
      (h.changed.1 ∙ ap (λ (x : SubstationState). on_lines x h.is.channel) (same_Some h.was was (sym h.there ∙ there))),
)

pub below_down : PerformsLaw → (substation : ℕ) (command : Command) (was : SubstationState) (fragments answers : List (List ℕ)) (old new : System)
    → slice_get old.substations substation ≡ Some was → Arrive (Below substation) way.Down fragments answers old new
    → DownBelow substation command was fragments answers old new
below_down law substation command was [] answers old new there (answers_is, new_is) = record {
  is = was;
  there = ap (λ (s : System). slice_get s.substations substation) new_is ∙ there;
  commands = [];
  all = (refl, answers_is, refl);
  many = record { outputs = refl; setpoints = refl };
  kept = subst (KeptBelow substation [] old) (sym new_is) (same_below substation old old refl refl refl);
  concentrator = ap (λ (s : System). s.concentrator) new_is;
}
below_down law substation command was (f ∷ fs) answers old new there (first, more, next, arrives, rest, answers_is) =
    let (lines, heard) = heard_at substation way.Down was old arrives.heard there arrives.hears in
    let one : OneDown substation f was old next =
    down_from law substation f was old next lines there (subst (λ (s : System). SubstationTakes substation f s next) heard arrives.takes) in
    let sends : first ≡ (connection_after (station_of was) (panel_of was) old.now f).does.send =
    arrives.sends
    ∙ ap (λ (s : System). answers_below (slice_get s.substations substation) s.now f) heard
    ∙ ap (λ (o : Option SubstationState). answers_below o old.now f) (set_here old.substations substation was (on_lines was lines) there) in
    let h : DownBelow substation command one.is fs more next new = below_down law substation command one.is fs more next new one.there rest in
    let these : List Command = performed_in was.core (panel_of was) old.now f in
    let check : ℕ = plain_check was.outputs.outputs was.outputs.setpoints command in
    let same_check : plain_check one.is.outputs.outputs one.is.outputs.setpoints command ≡ check =
    ap (λ (n : ℕ). plain_check n one.is.outputs.setpoints command) one.many.outputs
    ∙ ap (λ (n : ℕ). plain_check was.outputs.outputs n command) one.many.setpoints in
    record {
      is = h.is;
      there = h.there;
      commands = these ++ h.commands;
      all = (
        panel_of was,
        station_of one.is,
        more,
        h.commands,
        record { some = omega arith; check = refl },
        one.core,
        answers_is ∙ ap (λ (xs : List (List ℕ)). xs ++ more) sends,
        refl,
        subst (λ (n : ℕ). AnswersAll n (ChecksAs command check) fs (station_of one.is) (station_of h.is) more h.commands)
            (ap (λ b. b.now) one.kept.beside_is)
            (subst (λ (n : ℕ). AnswersAll next.now (ChecksAs command n) fs (station_of one.is) (station_of h.is) more h.commands) same_check h.all),
      );
      many = record { outputs = h.many.outputs ∙ one.many.outputs; setpoints = h.many.setpoints ∙ one.many.setpoints };
      kept = join_below substation these h.commands old next new one.kept h.kept;
      concentrator = h.concentrator ∙ one.concentrator;
    }

-- ---- up

pub record UpBelow (substation : ℕ) (was : SubstationState) (fragments answers : List (List ℕ)) (old new : System) : Type 0 where
  pub is : SubstationState
  pub there : slice_get new.substations substation ≡ Some is
  pub stays : station_of is ≡ station_of was
  pub many : HasAsMany was is
  pub all : HearsAnswers old.now fragments (link_at old.concentrator substation) (link_at new.concentrator substation) answers
  pub kept : KeptBelow substation [] old new
  pub controls : new.concentrator.controls ≡ old.concentrator.controls

record OneUp (substation : ℕ) (r : Result Taking MasterFault) (was : SubstationState) (old new : System) : Type 0 where
  is : SubstationState
  there : slice_get new.substations substation ≡ Some is
  is_as : is ≡ on_lines was is.channel
  hears : HearsAnswer r (link_at old.concentrator substation) (link_at new.concentrator substation) (confirms_of r)
  kept : KeptBelow substation [] old new
  controls : new.concentrator.controls ≡ old.concentrator.controls

up_from : (substation : ℕ) (r : Result Taking MasterFault) (was : SubstationState) (old new : System) (lines : ChannelState)
    → slice_get old.substations substation ≡ Some was → substation < length old.concentrator.links
    → MasterReceives (Below substation) r (with_substation old substation (on_lines was lines)) new → OneUp substation r was old new
up_from substation (Ok t) was old new lines there long (numbers, b) =
    let mid : SubstationState = on_lines was lines in
    let here : slice_get (slice_set old.substations substation mid) substation ≡ Some mid = set_here old.substations substation was mid there in
    let same : b.was ≡ mid = same_Some b.was mid (sym b.there ∙ here) in
    let next : Relaying = relaying.received (link_at old.concentrator substation) t in
    record {
      is = b.is;
      there = ap (λ (s : System). slice_get s.substations substation) b.after ∙ set_here (slice_set old.substations substation mid) substation mid b.is here;
      is_as = b.changed.1 ∙ ap (λ (x : SubstationState). on_lines x b.is.channel) same;
      hears = (
        ap (λ (s : System). link_at s.concentrator substation) b.after ∙ link_here old.concentrator.links substation next long,
        refl,
      );
      kept = same_below substation old new (ap beside b.after)
          (ap (λ (s : System). length s.concentrator.links) b.after ∙ length-set old.concentrator.links substation next)
          (ap (λ (s : System). s.history.operated) b.after);
      controls = ap (λ (s : System). s.concentrator.controls) b.after;
    }
up_from substation (Err fault) was old new lines there long same =
    let mid : SubstationState = on_lines was lines in
    record {
      is = mid;
      there = ap (λ (s : System). slice_get s.substations substation) same ∙ set_here old.substations substation was mid there;
      is_as = refl;
      hears = (ap (λ (s : System). link_at s.concentrator substation) same, refl);
      kept = same_below substation old new (ap beside same) (ap (λ (s : System). length s.concentrator.links) same)
          (ap (λ (s : System). s.history.operated) same);
      controls = ap (λ (s : System). s.concentrator.controls) same;
    }

pub below_up : (substation : ℕ) (was : SubstationState) (fragments answers : List (List ℕ)) (old new : System) → slice_get old.substations substation ≡ Some was
    → substation < length old.concentrator.links → Arrive (Below substation) way.Up fragments answers old new → UpBelow substation was fragments answers old new
below_up substation was [] answers old new there long (answers_is, new_is) = record {
  is = was;
  there = ap (λ (s : System). slice_get s.substations substation) new_is ∙ there;
  stays = refl;
  many = record { outputs = refl; setpoints = refl };
  all = (ap (λ (s : System). link_at s.concentrator substation) new_is, answers_is);
  kept = subst (KeptBelow substation [] old) (sym new_is) (same_below substation old old refl refl refl);
  controls = ap (λ (s : System). s.concentrator.controls) new_is;
}
below_up substation was (f ∷ fs) answers old new there long (first, more, next, arrives, rest, answers_is) =
    let r : Result Taking MasterFault = receive_of (link_at old.concentrator substation).master old.now f in
    let (lines, heard) = heard_at substation way.Up was old arrives.heard there arrives.hears in
    let one : OneUp substation r was old next =
    up_from substation r was old next lines there long
    (subst (λ (s : System). MasterReceives (Below substation) (receive_of (link_at s.concentrator substation).master s.now f) s next) heard arrives.takes) in
    let h : UpBelow substation one.is fs more next new = below_up substation one.is fs more next new one.there (omega (arith, long, one.kept.links)) rest in
    let sends : first ≡ confirms_of r =
    arrives.sends ∙ ap (λ (s : System). confirms_of (receive_of (link_at s.concentrator substation).master s.now f)) heard in
    record {
      is = h.is;
      there = h.there;
      stays = h.stays ∙ ap station_of one.is_as;
      many = record {
        outputs = h.many.outputs ∙ ap (λ (x : SubstationState). x.outputs.outputs) one.is_as;
        setpoints = h.many.setpoints ∙ ap (λ (x : SubstationState). x.outputs.setpoints) one.is_as;
      };
      all = (
        link_at next.concentrator substation,
        first,
        more,
        subst (HearsAnswer r (link_at old.concentrator substation) (link_at next.concentrator substation)) (sym sends) one.hears,
        answers_is,
        subst (λ (n : ℕ). HearsAnswers n fs (link_at next.concentrator substation) (link_at new.concentrator substation) more)
            (ap (λ b. b.now) one.kept.beside_is) h.all,
      );
      kept = join_below substation [] [] old next new one.kept h.kept;
      controls = h.controls ∙ one.controls;
    }
