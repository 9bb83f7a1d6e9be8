-- Rounds and controls of the whole, as the centre at which they are sees them, and as one sees them to which they are elsewhere.
use Rattle.std.proofs.Common.{◌≡◌, ℕ, zero, suc, ◌<◌, Bool, true, false, not, List, [], ◌++◌, append-nil, append_assoc, Option, Some, None, refl, sym, ap, ◌∙◌, subst, arith, eq-eqb}
use Rattle.std.specs.Prelude.{nat_lt}
use Rattle.std.proofs.lemmas.Bool.Decides.{nat_tests}
use Rattle.dnp_concentrator.specs.BookOutputs.{all_added}
use Rattle.dnp_concentrator.specs.declared.span.Spans.{Spans}
use Rattle.dnp_controls.specs.Book.{Ledger}
use Rattle.dnp_eventbuf.specs.declared.pair.TheConstants.{CENTRES}
use Rattle.dnp_objects.specs.declared.command.Command.{Command}
use Rattle.dnp_world.specs.Centres.{ChangesAll, HappensToAll, IsSeen, SeesElsewhere, centre_at, centre_of, is_elsewhere, is_there}
use Rattle.dnp_world.specs.Controls.{AtCentre, AtConcentrator, First, IsAccepted, IsControl, IsControlFor, IsRefusedControl, IsRefusedOn, IsTold, Passes, PassesBack, Second, Third, next_below, substation_in}
use Rattle.dnp_world.specs.Rounds.{Flushes, IsRound, deliveries, events_polled}
use Rattle.dnp_world.specs.SystemRuns.{Happens, IfThere, RunsTo}
use Rattle.dnp_world.specs.Systems.{System, itself, standing_on}
use Rattle.dnp_world.specs.Wholes.{Whole, seen_by}
use Rattle.dnp_world.specs.declared.event.Event.{Event}
use Rattle.dnp_world.specs.declared.event.Event.TheVariants.{Ask, Deliver, Relay}
use Rattle.dnp_world.specs.declared.event.Link.{Link}
use Rattle.dnp_world.specs.declared.event.Link.TheVariants.{Below, Above}
use Rattle.dnp_world.specs.declared.link_event.Way.{Way}
use Rattle.dnp_world.specs.declared.link_event.Way.TheVariants.{Down, Up}
use Rattle.dnp_world.proofs.ControlsAbove.{added_more}

-- ---- an event

if_there : (b : Bool) (Change : Whole → Whole → Type 0) (old new : Whole) → b ≡ true → IfThere b Change old new → Change old new
if_there true Change old new is h = h
if_there false Change old new is h = absurd (cc)

seen : (b : Bool) (Change : System → System → Type 0) (old new : System) → b ≡ false → IsSeen b Change old new → Change old new
seen true Change old new is h = absurd (cc)
seen false Change old new is h = h

not_seen : (b : Bool) (Change : System → System → Type 0) (old new : System) → b ≡ true → IsSeen b Change old new → SeesElsewhere old new
not_seen true Change old new is h = h
not_seen false Change old new is h = absurd (cc)

-- as a centre sees it to which it isn't elsewhere
pub happens_seen : (centre : ℕ) → centre < CENTRES → (e : Event) → is_there (centre_at e) ≡ true → is_elsewhere centre (centre_at e) ≡ false
    → (old new : Whole) → HappensToAll old e new → Happens (seen_by centre old) e (seen_by centre new)
happens_seen centre low e there own old new h =
    seen (is_elsewhere centre (centre_at e)) (λ s t. Happens s e t) (seen_by centre old) (seen_by centre new) own
    (if_there (is_there (centre_at e)) (ChangesAll (centre_at e) (λ s t. Happens s e t)) old new there h centre low)

-- and as one sees it to which it is
pub happens_elsewhere : (centre : ℕ) → centre < CENTRES → (e : Event) → is_there (centre_at e) ≡ true → is_elsewhere centre (centre_at e) ≡ true
    → (old new : Whole) → HappensToAll old e new → SeesElsewhere (seen_by centre old) (seen_by centre new)
happens_elsewhere centre low e there other old new h =
    not_seen (is_elsewhere centre (centre_at e)) (λ s t. Happens s e t) (seen_by centre old) (seen_by centre new) other
    (if_there (is_there (centre_at e)) (ChangesAll (centre_at e) (λ s t. Happens s e t)) old new there h centre low)

-- ---- over a link that isn't elsewhere

-- what is done over a link of which the one sees as much as the other
module _ (see : Whole → System) (centre : ℕ) (low : centre < CENTRES) (on : Link) (there : is_there (centre_of on) ≡ true)
    (own : is_elsewhere centre (centre_of on) ≡ false)
    (alike : (w : Whole) (way : Way) → standing_on (see w) on way ≡ standing_on (seen_by centre w) on way) where
  delivered : (n : ℕ) (way : Way) (old new : Whole) → RunsTo HappensToAll old (deliveries n on way) new
      → RunsTo Happens (seen_by centre old) (deliveries n on way) (seen_by centre new)
  delivered zero way old new same = ap (seen_by centre) same
  delivered (suc n) way old new (next, h, rest) =
      (seen_by centre next, happens_seen centre low (Deliver on way) there own old next h, delivered n way next new rest)

  pub flush_seen : (way : Way) (old new : Whole) → Flushes HappensToAll see on way old new
      → Flushes Happens itself on way (seen_by centre old) (seen_by centre new)
  flush_seen way old new ran =
      subst (λ (n : ℕ). RunsTo Happens (seen_by centre old) (deliveries n on way) (seen_by centre new)) (alike old way)
      (delivered (standing_on (see old) on way) way old new ran)

  pub round_seen : (old new : Whole) → IsRound HappensToAll see on old new → IsRound Happens itself on (seen_by centre old) (seen_by centre new)
  round_seen old new r = record {
    asked = seen_by centre r.asked;
    answered = seen_by centre r.answered;
    taken = seen_by centre r.taken;
    asks = happens_seen centre low (Ask on events_polled) there own old r.asked r.asks;
    down = flush_seen Down r.asked r.answered r.down;
    up = flush_seen Up r.answered r.taken r.up;
    confirms = flush_seen Down r.taken new r.confirms;
  }

-- ---- controls

-- of a centre's control over a link on its way
module _ (centre : ℕ) (low : centre < CENTRES) (on : Link) (there : is_there (centre_of on) ≡ true)
    (own : is_elsewhere centre (centre_of on) ≡ false) where
  flushed : (way : Way) (old new : Whole) → Flushes HappensToAll (seen_by centre) on way old new
      → Flushes Happens itself on way (seen_by centre old) (seen_by centre new)
  flushed = flush_seen (seen_by centre) centre low on there own (λ w way. refl)

  passes_seen : (id : Option ℕ) (old new : Whole) → Passes HappensToAll (seen_by centre) on id old new
      → Passes Happens itself on id (seen_by centre old) (seen_by centre new)
  passes_seen id old new p = record { relays = happens_seen centre low (Relay on) there own old new p.relays; passes = p.passes }

  back_seen : (id : Option ℕ) (old new : Whole) → PassesBack HappensToAll (seen_by centre) on id old new
      → PassesBack Happens itself on id (seen_by centre old) (seen_by centre new)
  back_seen id old new p = record {
    relayed = seen_by centre p.relayed;
    answered = seen_by centre p.answered;
    step = passes_seen id old p.relayed p.step;
    down = flushed Down p.relayed p.answered p.down;
    up = flushed Up p.answered new p.up;
  }

  accepted_seen : (id : Option ℕ) (old new : Whole) → IsAccepted HappensToAll (seen_by centre) on id old new
      → IsAccepted Happens itself on id (seen_by centre old) (seen_by centre new)
  accepted_seen id old new p = record {
    selected = seen_by centre p.selected;
    operated = seen_by centre p.operated;
    selects = back_seen id old p.selected p.selects;
    operates = back_seen id p.selected p.operated p.operates;
    finishes = passes_seen id p.operated new p.finishes;
  }

  told_seen : (id : Option ℕ) (status : ℕ) (old new : Whole) → IsTold HappensToAll (seen_by centre) on id status old new
      → IsTold Happens itself on id status (seen_by centre old) (seen_by centre new)
  told_seen id status old new t =
      record { relays = happens_seen centre low (Relay on) there own old new t.relays; says = t.says; other = t.other }

  refused_on_seen : (id : Option ℕ) (status : ℕ) (old new : Whole) → IsRefusedOn HappensToAll (seen_by centre) on id status old new
      → IsRefusedOn Happens itself on id status (seen_by centre old) (seen_by centre new)
  refused_on_seen id status old new (First t) = First (told_seen id status old new t)
  refused_on_seen id status old new (Second selected b t) =
      Second (seen_by centre selected) (back_seen id old selected b) (told_seen id status selected new t)
  refused_on_seen id status old new (Third selected operated b d t) =
      Third (seen_by centre selected) (seen_by centre operated) (back_seen id old selected b) (back_seen id selected operated d)
      (told_seen id status operated new t)

-- a centre's own link is there, and not elsewhere
pub own_there : (centre : ℕ) → centre < CENTRES → is_there (Some centre) ≡ true
own_there centre low = by (nat_lt centre CENTRES) refl
  where
    by : (b : Bool) → nat_lt centre CENTRES ≡ b → nat_lt centre CENTRES ≡ true
    by true is = is
    by false is = absurd (grind (arith, nat_tests, low, is))

pub own_link : (centre : ℕ) → is_elsewhere centre (Some centre) ≡ false
own_link centre = ap not (eq-eqb centre centre refl)

pub control_seen : (centre : ℕ) → centre < CENTRES → (id : ℕ) (old new : Whole) → IsControl HappensToAll (seen_by centre) centre id old new
    → IsControl Happens itself centre id (seen_by centre old) (seen_by centre new)
control_seen centre low id old new control = by (substation_in (seen_by centre old) id) control
  where
    by : (substation : Option ℕ) → IsControlFor HappensToAll (seen_by centre) centre substation id old new
        → IsControlFor Happens itself centre substation id (seen_by centre old) (seen_by centre new)
    by None accepted = accepted_seen centre low (Above centre) (own_there centre low) (own_link centre) (Some id) old new accepted
    by (Some substation) (above, first, second) = (
      seen_by centre above,
      accepted_seen centre low (Above centre) (own_there centre low) (own_link centre) (Some id) old above first,
      accepted_seen centre low (Below substation) refl refl (next_below (seen_by centre above) substation) above new second,
    )

pub refused_seen : (centre : ℕ) → centre < CENTRES → (id status : ℕ) (old new : Whole)
    → IsRefusedControl HappensToAll (seen_by centre) centre id status old new
    → IsRefusedControl Happens itself centre id status (seen_by centre old) (seen_by centre new)
refused_seen centre low id status old new (AtCentre r) =
    AtCentre (refused_on_seen centre low (Above centre) (own_there centre low) (own_link centre) (Some id) status old new r)
refused_seen centre low id status old new (AtConcentrator its above is accepted r) =
    AtConcentrator its (seen_by centre above) is
    (accepted_seen centre low (Above centre) (own_there centre low) (own_link centre) (Some id) old above accepted)
    (refused_on_seen centre low (Below its) refl refl (next_below (seen_by centre above) its) status above new r)

-- ---- over a link that is elsewhere

pub sees_same : (old new : System) → new ≡ old → SeesElsewhere old new
sees_same old new same = subst (SeesElsewhere old) (sym same) (record { commands = []; issues = []; after = simp append-nil })

-- one after the other
sees_both : (old mid new : System) → SeesElsewhere old mid → SeesElsewhere mid new → SeesElsewhere old new
sees_both old mid new x y =
    let spans : List Spans = old.concentrator.indices in
    let set : Ledger → List (ℕ × Command) → System = λ book issued. record old {
      concentrator = record old.concentrator { controls = book; reserved = new.concentrator.reserved };
      history = record old.history { issued = issued };
    } in
    record {
      commands = x.commands ++ y.commands;
      issues = x.issues ++ y.issues;
      after = y.after
          ∙ ap (λ (s : System). record s {
            concentrator = record s.concentrator {
              controls = all_added s.concentrator.indices s.concentrator.controls y.commands;
              reserved = new.concentrator.reserved;
            };
            history = record s.history { issued = s.history.issued ++ y.issues };
          }) x.after
          ∙ ap (λ (book : Ledger). set book ((old.history.issued ++ x.issues) ++ y.issues)) (added_more spans old.concentrator.controls x.commands y.commands)
          ∙ ap (set (all_added spans old.concentrator.controls (x.commands ++ y.commands)))
          (append_assoc old.history.issued x.issues y.issues);
    }

module _ (centre : ℕ) (low : centre < CENTRES) (on : Link) (there : is_there (centre_of on) ≡ true)
    (other : is_elsewhere centre (centre_of on) ≡ true) where
  delivered_elsewhere : (n : ℕ) (way : Way) (old new : Whole) → RunsTo HappensToAll old (deliveries n on way) new
      → SeesElsewhere (seen_by centre old) (seen_by centre new)
  delivered_elsewhere zero way old new same = sees_same (seen_by centre old) (seen_by centre new) (ap (seen_by centre) same)
  delivered_elsewhere (suc n) way old new (next, h, rest) =
      sees_both (seen_by centre old) (seen_by centre next) (seen_by centre new) (happens_elsewhere centre low (Deliver on way) there other old next h)
      (delivered_elsewhere n way next new rest)

  pub round_elsewhere : (see : Whole → System) (old new : Whole) → IsRound HappensToAll see on old new
      → SeesElsewhere (seen_by centre old) (seen_by centre new)
  round_elsewhere see old new r =
      sees_both (seen_by centre old) (seen_by centre r.taken) (seen_by centre new)
      (sees_both (seen_by centre old) (seen_by centre r.answered) (seen_by centre r.taken)
      (sees_both (seen_by centre old) (seen_by centre r.asked) (seen_by centre r.answered)
      (happens_elsewhere centre low (Ask on events_polled) there other old r.asked r.asks) (delivered_elsewhere _ Down r.asked r.answered r.down))
      (delivered_elsewhere _ Up r.answered r.taken r.up)) (delivered_elsewhere _ Down r.taken new r.confirms)
