-- Fragments that arrive at the ends of the link above, as fragments that come to its two stations, and what they leave alone.
use Rattle.std.proofs.Common.{◌≡◌, ℕ, List, [], ◌∷◌, ◌++◌, Option, Some, Result, Ok, Err, refl, sym, ap, ◌∙◌, subst, arith}
use Rattle.dnp_concentrator.specs.Reserving.{Reserved}
use Rattle.dnp_concentrator.specs.BookOutputs.{added_for, all_added, relay_check}
use Rattle.dnp_concentrator.specs.Mapped.{command_below}
use Rattle.dnp_concentrator.specs.Relaying.{Relaying, Step, relaying_after}
use Rattle.dnp_concentrator.specs.declared.span.Spans.{Spans}
use Rattle.dnp_controls.specs.Book.{Ledger}
use Rattle.dnp_controls.specs.Panel.{Panel}
use Rattle.dnp_master.specs.Calls.{Taking, receive_of}
use Rattle.dnp_master.specs.declared.fault.MasterFault.{MasterFault}
use Rattle.dnp_objects.specs.declared.command.Command.{Command}
use Rattle.dnp_eventbuf.specs.EventBuffer.{EventBuffer}
use Rattle.dnp_outstation.specs.Calls.{connection_after, performed_in}
use Rattle.dnp_outstation.specs.State.{Core}
use Rattle.dnp_world.specs.Arriving.{Arrive, Arrives, HearsAt, UnderWay, confirms_of}
use Rattle.dnp_world.specs.Channels.{ChannelState}
use Rattle.dnp_world.specs.ControlExchanges.{AnswersAll, ChecksAs, ExchangeEnds, HearsAnswer, HearsAnswers, next_step, status_at, told_to}
use Rattle.dnp_world.specs.Controls.{PassesBack}
use Rattle.dnp_world.specs.SystemEvents.{LinesChange, MasterReceives, Refuses, RelaysOn, SendsDown, Steps, requests_of, told}
use Rattle.dnp_world.specs.SystemRuns.{Happens}
use Rattle.dnp_world.specs.Systems.{ConcentratorState, History, SubstationState, System, itself, middle_of, middle_panel}
use Rattle.dnp_world.specs.declared.event.Link.TheVariants.{Above}
use Rattle.dnp_world.specs.declared.link_event.Way.{Way}
use Rattle.dnp_world.specs.declared.link_event.Way.TheVariants as way
use Rattle.dnp_world.proofs.RoundAbove.{answered_in}
use Rattle.dnp_world.proofs.RoundBelow.{LineLaws}
use Rattle.dnp_world.proofs.ControlsAccepted.{Back, IsTaken, OverLink, Told}

-- ---- what the link above leaves alone

-- a system without its two stations above, the concentrator's book, and the lines between them
pub record Around : Type 0 where
  pub indices : List Spans
  pub substations : List SubstationState
  pub now : ℕ
  pub history : History
  pub links : List Relaying
  pub spans : List Spans
  pub reserved : ℕ → Reserved

abbrev pub around : System → Around
around s = record {
  indices = s.indices;
  substations = s.substations;
  now = s.now;
  history = s.history;
  links = s.concentrator.links;
  spans = s.concentrator.indices;
  reserved = s.concentrator.reserved;
}

abbrev pub KeepsAround : System → System → Type 0
KeepsAround old new = around new ≡ around old

-- the system with other lines above
abbrev pub with_above : System → ChannelState → System
with_above s lines = record s { above = lines }

-- ---- down

pub added_more : (spans : List Spans) (book : Ledger) (first more : List Command)
    → all_added spans (all_added spans book first) more ≡ all_added spans book (first ++ more)
added_more spans book [] more = refl
added_more spans book (command ∷ first) more = added_more spans (added_for book (command_below spans command)) first more

-- the concentrator's outstation has come into this state, and these commands are in its book
abbrev moved : List Spans → List Command → Core → EventBuffer → System → System
moved spans commands core queue s = record s {
  concentrator = record s.concentrator { core = core; queue = queue; controls = all_added spans s.concentrator.controls commands };
}

-- and nothing else but lines is another
pub record DownAbove (command : Command) (spans : List Spans) (reserved : Reserved) (fragments answers : List (List ℕ)) (old new : System) : Type 0 where
  pub commands : List Command
  pub all : AnswersAll old.now (ChecksAs command (relay_check spans reserved command)) fragments (middle_of old.concentrator)
      (middle_of new.concentrator) answers
      commands
  pub after : with_above new old.above ≡ moved spans commands new.concentrator.core new.concentrator.queue old

-- what was heard on the way there changed lines alone
heard_down : (centre : ℕ) (way : Way) (old heard : System) → LinesChange (Above centre) (HearsAt way) old heard → with_above heard old.above ≡ old
heard_down centre way old heard hears = ap (λ (s : System). with_above s old.above) hears.1

-- one fragment
one_down : (centre : ℕ) (fragment : List ℕ) (answers : List (List ℕ)) (old new : System) → Arrives (Above centre) way.Down fragment answers old new
    → with_above new old.above ≡ answered_in old fragment
one_down centre fragment answers old new a =
    ap (λ (s : System). with_above s old.above) a.takes.after
    ∙ ap (λ (s : System). answered_in s fragment) (heard_down centre way.Down old a.heard a.hears)

-- the outputs at the moment answer the command so
abbrev CheckedBy : List Spans → Option Command → System → Type 0
CheckedBy spans reserved s = (s.concentrator.indices ≡ spans) × (s.concentrator.reserved s.now ≡ reserved)

still_checked : (spans : List Spans) (reserved : Reserved) (old new : System) → KeepsAround old new → CheckedBy spans reserved old
    → CheckedBy spans reserved new
still_checked spans reserved old new keeps (indices, names) =
    (ap (λ a. a.spans) keeps ∙ indices, ap (λ a. a.reserved a.now) keeps ∙ names)

pub above_down : (centre : ℕ) (command : Command) (spans : List Spans) (reserved : Reserved) (fragments answers : List (List ℕ)) (old new : System)
    → CheckedBy spans reserved old → Arrive (Above centre) way.Down fragments answers old new
    → DownAbove command spans reserved fragments answers old new
above_down centre command spans reserved [] answers old new checked (answers_is, new_is) =
    subst (DownAbove command spans reserved [] answers old) (sym new_is) (record { commands = []; all = (refl, answers_is, refl); after = refl })
above_down centre command spans reserved (f ∷ fs) answers old new checked (first, more, next, arrives, rest, answers_is) =
    let one : with_above next old.above ≡ answered_in old f = one_down centre f first old next arrives in
    let h : DownAbove command spans reserved fs more next new =
    above_down centre command spans reserved fs more next new (still_checked spans reserved old next (ap around one) checked) rest in
    let c = old.concentrator in
    let these : List Command = performed_in c.core (middle_panel c old.now) old.now f in
    let ends : Ledger → System = λ book. record old {
      concentrator = record c { core = new.concentrator.core; queue = new.concentrator.queue; controls = book };
    } in
    record {
      commands = these ++ h.commands;
      all = (
        middle_panel c old.now,
        middle_of next.concentrator,
        more,
        h.commands,
        record {
          some = omega arith;
          check = ap (λ (x : List Spans). relay_check x (c.reserved old.now) command) checked.0
              ∙ ap (λ (o : Option Command). relay_check spans o command) checked.1;
        },
        ap (λ (s : System). s.concentrator.core) one,
        answers_is
            ∙ ap (λ (xs : List (List ℕ)). xs ++ more) (arrives.sends
            ∙ ap (λ (s : System). (connection_after (middle_of s.concentrator) (middle_panel s.concentrator s.now) s.now f).does.send)
            (heard_down centre way.Down old arrives.heard arrives.hears)),
        refl,
        subst (λ (n : ℕ). AnswersAll n (ChecksAs command (relay_check spans reserved command)) fs (middle_of next.concentrator)
            (middle_of new.concentrator) more h.commands) (ap (λ (s : System). s.now) one) h.all,
      );
      after = ap (λ (s : System). with_above s old.above) h.after
          ∙ ap (moved spans h.commands new.concentrator.core new.concentrator.queue) one
          ∙ ap (λ (x : List Spans). ends (all_added spans (all_added x c.controls these) h.commands)) checked.0
          ∙ ap ends (added_more spans c.controls these h.commands);
    }

-- ---- up

-- a system without the link above, the centre's journal, and the lines between
pub record Beyond : Type 0 where
  pub around : Around
  pub orders : Ledger
  pub concentrator : ConcentratorState

abbrev beyond : System → Beyond
beyond s = record { around = around s; orders = s.centre.orders; concentrator = s.concentrator }

pub record UpAbove (fragments answers : List (List ℕ)) (old new : System) : Type 0 where
  pub all : HearsAnswers old.now fragments old.centre.link new.centre.link answers
  pub keeps : beyond new ≡ beyond old

abbrev OneUp : Result Taking MasterFault → System → System → Type 0
OneUp r old new = HearsAnswer r old.centre.link new.centre.link (confirms_of r) × (beyond new ≡ beyond old)

up_from : (centre : ℕ) (r : Result Taking MasterFault) (old new : System) (lines : ChannelState)
    → MasterReceives (Above centre) r (with_above old lines) new → OneUp r old new
up_from centre (Ok t) old new lines (numbers, down) = ((ap (λ (s : System). s.centre.link) down.1, refl), ap beyond down.1)
up_from centre (Err fault) old new lines same = ((ap (λ (s : System). s.centre.link) same, refl), ap beyond same)

pub above_up : (centre : ℕ) (fragments answers : List (List ℕ)) (old new : System) → Arrive (Above centre) way.Up fragments answers old new
    → UpAbove fragments answers old new
above_up centre [] answers old new (answers_is, new_is) = record { all = (ap (λ (s : System). s.centre.link) new_is, answers_is); keeps = ap beyond new_is }
above_up centre (f ∷ fs) answers old new (first, more, next, arrives, rest, answers_is) =
    let r : Result Taking MasterFault = receive_of old.centre.link.master old.now f in
    let one : OneUp r old next =
    up_from centre r old next arrives.heard.above
    (subst (λ (s : System). MasterReceives (Above centre) (receive_of s.centre.link.master s.now f) s next) arrives.hears.1 arrives.takes) in
    let h : UpAbove fs more next new = above_up centre fs more next new rest in
    let sends : first ≡ confirms_of r = arrives.sends ∙ ap (λ (s : System). confirms_of (receive_of s.centre.link.master s.now f)) arrives.hears.1 in
    record {
      all = (
        next.centre.link,
        first,
        more,
        subst (HearsAnswer r old.centre.link next.centre.link) (sym sends) one.0,
        answers_is,
        subst (λ (n : ℕ). HearsAnswers n fs next.centre.link new.centre.link more) (ap (λ (b : Beyond). b.around.now) one.1) h.all,
      );
      keeps = h.keeps ∙ one.1;
    }

-- ---- a step of relaying, and what comes of it

-- the ends of the link above
abbrev pub ends_above : System → List (List ℕ) → ExchangeEnds
ends_above s going = record { link = s.centre.link; book = s.centre.orders; station = middle_of s.concentrator; going = going }

pub record SeenAbove (centre : ℕ) (spans : List Spans) (reserved : Reserved) (s : System) (ends : ExchangeEnds) : Type 0 where
  pub going : List (List ℕ)
  pub is : ends ≡ ends_above s going
  pub under : UnderWay (Above centre) going [] s
  pub checked : (s.concentrator.indices ≡ spans) × (s.concentrator.reserved s.now ≡ reserved)

-- commands that were performed above are in the concentrator's book
pub record KeptAbove (spans : List Spans) (commands : List Command) (old new : System) : Type 0 where
  pub keeps : KeepsAround old new
  pub controls : new.concentrator.controls ≡ all_added spans old.concentrator.controls commands

pub join_above : (spans : List Spans) (first more : List Command) (a b c : System) → KeptAbove spans first a b → KeptAbove spans more b c
    → KeptAbove spans (first ++ more) a c
join_above spans first more a b c h k = record {
  keeps = k.keeps ∙ h.keeps;
  controls = k.controls
      ∙ ap (λ (book : Ledger). all_added spans book more) h.controls
      ∙ added_more spans a.concentrator.controls first more;
}

record RelayedAbove (centre : ℕ) (going : List (List ℕ)) (old relayed : System) : Type 0 where
  under : UnderWay (Above centre) (going ++ requests_of (next_step 0 (ends_above old going)) old.centre.link.master.seq) [] relayed
  sends : SendsDown (Above centre) (requests_of (next_step 0 (ends_above old going)) old.centre.link.master.seq)
      (relaying_after old.centre.link old.now (next_step 0 (ends_above old going))) (told old (Above centre) (next_step 0 (ends_above old going))) relayed

relayed_above : LineLaws → (centre : ℕ) (old relayed : System) (going : List (List ℕ)) → UnderWay (Above centre) going [] old
    → RelaysOn (Above centre) old relayed → IsTaken 0 (ends_above old going) → RelayedAbove centre going old relayed
relayed_above laws centre old relayed going under (Refuses refused same) taken = absurd (taken refused)
relayed_above laws centre old relayed going under (Steps pending sends) taken =
    let step : Step = next_step 0 (ends_above old going) in
    let requests : List (List ℕ) = requests_of step old.centre.link.master.seq in
    let link : Relaying = relaying_after old.centre.link old.now step in
    let still : UnderWay (Above centre) going [] (told old (Above centre) step) =
    record { channel = under.channel; there = under.there; down_is = under.down_is; up_is = under.up_is } in
    record { under = laws.asked (Above centre) requests going [] link (told old (Above centre) step) relayed still sends; sends = sends }

pub back_from : LineLaws → (centre : ℕ) (spans : List Spans) (reserved : Reserved) (id : ℕ) (command : Command) (old new : System)
    (going : List (List ℕ)) → UnderWay (Above centre) going [] old → CheckedBy spans reserved old
    → PassesBack Happens itself (Above centre) (Some id) old new → IsTaken 0 (ends_above old going)
    → Back (SeenAbove centre spans reserved) (KeptAbove spans) 0 id (relay_check spans reserved command) command old new (ends_above old going)
back_from laws centre spans reserved id command old new going under checked p taken =
    let r : RelayedAbove centre going old p.relayed = relayed_above laws centre old p.relayed going under p.step.relays taken in
    let after = r.sends.1 in
    let book_is : p.relayed.centre.orders ≡ told_to 0 (ends_above old going) = ap (λ (s : System). s.centre.orders) after in
    let same : p.relayed.concentrator ≡ old.concentrator = ap (λ (s : System). s.concentrator) after in
    let now_is : p.relayed.now ≡ old.now = ap (λ (s : System). s.now) after in
    let requests : List (List ℕ) = requests_of (next_step 0 (ends_above old going)) old.centre.link.master.seq in
    let (answers, arrive, under') = laws.down (Above centre) (going ++ requests) [] p.relayed p.answered r.under p.down in
    let d : DownAbove command spans reserved (going ++ requests) answers p.relayed p.answered =
    above_down centre command spans reserved (going ++ requests) answers p.relayed p.answered
    (still_checked spans reserved old p.relayed (ap around after) checked) arrive in
    let (confirms, arrive_up, under_up) = laws.up (Above centre) [] answers p.answered new under' p.up in
    let u : UpAbove answers confirms p.answered new = above_up centre answers confirms p.answered new arrive_up in
    let Outputs : Panel → Type 0 = ChecksAs command (relay_check spans reserved command) in
    let keeps : KeepsAround old new = ap (λ (b : Beyond). b.around) u.keeps ∙ ap around d.after ∙ ap around after in
    let middle_is : new.concentrator ≡ p.answered.concentrator = ap (λ (b : Beyond). b.concentrator) u.keeps in
    record {
      after = ends_above new confirms;
      now = old.now;
      commands = d.commands;
      view = record { going = confirms; is = refl; under = under_up; checked = still_checked spans reserved old new keeps checked };
      goes = record {
        sent = answers;
        answered = subst (λ (n : ℕ). AnswersAll n Outputs (going ++ requests) (middle_of old.concentrator) (middle_of new.concentrator) answers d.commands)
            now_is
            (subst (λ (c : ConcentratorState). AnswersAll p.relayed.now Outputs (going ++ requests) (middle_of c)
            (middle_of new.concentrator) answers d.commands)
            same
            (subst (λ (c : ConcentratorState). AnswersAll p.relayed.now Outputs (going ++ requests) (middle_of p.relayed.concentrator) (middle_of c) answers
            d.commands) (sym middle_is) d.all));
        heard = subst (λ (n : ℕ). HearsAnswers n answers (relaying_after old.centre.link old.now (next_step 0 (ends_above old going))) new.centre.link confirms)
            (ap (λ (s : System). s.now) d.after ∙ now_is)
            (subst (λ (x : Relaying). HearsAnswers p.answered.now answers x new.centre.link confirms)
            (ap (λ (s : System). s.centre.link) d.after ∙ ap (λ (s : System). s.centre.link) after) u.all);
        told = ap (λ (b : Beyond). b.orders) u.keeps ∙ ap (λ (s : System). s.centre.orders) d.after ∙ book_is;
      };
      kept = record {
        keeps = keeps;
        controls = ap (λ (c : ConcentratorState). c.controls) middle_is
            ∙ ap (λ (s : System). s.concentrator.controls) d.after
            ∙ ap (λ (c : ConcentratorState). all_added spans c.controls d.commands) same;
      };
      told = λ status says. p.step.passes status (ap (λ (b : Ledger). status_at b id) book_is ∙ says);
    }

pub step_from : LineLaws → (centre : ℕ) (spans : List Spans) (old new : System) (going : List (List ℕ)) → UnderWay (Above centre) going [] old
    → RelaysOn (Above centre) old new → IsTaken 0 (ends_above old going)
    → Told (KeptAbove spans) 0 (λ s. s.centre.orders) old new (ends_above old going)
step_from laws centre spans old new going under relays taken =
    let r : RelayedAbove centre going old new = relayed_above laws centre old new going under relays taken in
    let after = r.sends.1 in
    record {
      kept = record { keeps = ap around after; controls = ap (λ (s : System). s.concentrator.controls) after };
      is = ap (λ (s : System). s.centre.orders) after;
    }

unfoldable pub over_above : LineLaws → (centre : ℕ) (spans : List Spans) (reserved : Reserved) (id : ℕ) (command : Command)
    → OverLink (Above centre) 0 id (relay_check spans reserved command) command
over_above laws centre spans reserved id command = record {
  View = SeenAbove centre spans reserved;
  Kept = KeptAbove spans;
  book = λ s. s.centre.orders;
  join = join_above spans;
  back = λ old new ends seen p taken.
      subst (Back (SeenAbove centre spans reserved) (KeptAbove spans) 0 id (relay_check spans reserved command) command old new) (sym seen.is)
      (back_from laws centre spans reserved id command old new seen.going seen.under seen.checked p (subst (IsTaken 0) seen.is taken));
  step = λ old new ends seen relays taken.
      subst (Told (KeptAbove spans) 0 (λ s. s.centre.orders) old new) (sym seen.is)
      (step_from laws centre spans old new seen.going seen.under relays (subst (IsTaken 0) seen.is taken));
  says = λ s. refl;
}
