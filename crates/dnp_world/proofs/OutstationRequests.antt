-- A request that comes to an outstation, for the first time or again, as moves of its link.
use Rattle.std.proofs.Common.{◌≡◌, ◌≢◌, ℕ, ◌<◌, ◌^◌, Bool, true, false, if◌then◌else◌, ◌&&◌, List, [], ◌∷◌, length, inl, inr, ◌⊎◌, refl, sym, ap, ◌∙◌, subst, append-nil, Option, Some, None, IfSome, IsSome, is_some, is_none, option_map}
use Rattle.std.specs.List.{All}
use Rattle.dnp_objects.specs.declared.limits.TheConstants.{LANES}
use Rattle.dnp_objects.specs.declared.command.Command.{Command}
use Rattle.dnp_objects.specs.Counts.{IsCoveredBy}
use Rattle.dnp_controls.specs.Panel.{Panel}
use Rattle.dnp_outstation.specs.declared.session.Reply.{Reply}
use Rattle.dnp_outstation.specs.declared.session.Reply.TheVariants.{Held, Silent, First, Further}
use Rattle.dnp_outstation.specs.declared.session.LastRequest.{LastRequest}
use Rattle.dnp_outstation.specs.declared.session.Session.{Session}
use Rattle.dnp_outstation.specs.Connection.{control_in, awaits, asked, on_request, waiting, on_again, control_for, fragment_of}
use Rattle.dnp_outstation.specs.Content.{Executed, source_of}
use Rattle.dnp_outstation.specs.Controls.{content_at}
use Rattle.dnp_outstation.specs.Links.{Reports, KeepsConnection}
use Rattle.dnp_eventbuf.specs.EventBuffer.{EventBuffer}
use Rattle.dnp_outstation.specs.Said.{AreWritable}
use Rattle.dnp_outstation.specs.State.{State, Step, sending, still, with_session}
use Rattle.dnp_world.specs.LawLink as link
use Rattle.dnp_world.specs.LawLink.{Down, Asks, Up, Responds, NothingSent, FirstSent, LawOutstation, LawLink}
use Rattle.dnp_world.specs.Moves.{IsOther, Receive, Repeat, received, repeated}
use Rattle.dnp_world.specs.Octets.{seq_in, commands_in}
use Rattle.dnp_world.specs.OutstationSeen.{ShowOctets, last_seen, awaited_seen, reply_seen, HasIds}
use Rattle.dnp_world.specs.Standing.{IsReply, CarriesLaw}
use Rattle.dnp_world.proofs.Counting.{covered_nil}
use Rattle.dnp_world.proofs.OutstationAnswers.{SeesRest, kept_rest, goes_replied}
use Rattle.dnp_world.proofs.OutstationFragments.{same_seq, seq_below}
use Rattle.dnp_world.proofs.OutstationLaws.{AnswerLaws}
use Rattle.dnp_world.proofs.OutstationSteps.{Grown, grown_both, grown_sends, Sees, Goes, goes_still}

-- ---- a request that isn't the last one again

pub other_request : (session : Session) (octets : List ℕ) (last : Option LastRequest) → (IsSome last → octets ≢ session.request)
    → IsOther octets (option_map (last_seen session) last)
other_request session octets None other = tt
other_request session octets (Some last) other = λ same. other refl (sym same)

-- it was received, and then this step goes on from there
from_received : (step : Step) (l : LawLink) (q : List ℕ) (rest : List Down) (those : List Command) → l.down ≡ Asks q ∷ rest → l.outstation.is_open ≡ true
    → IsOther q l.outstation.last → IsCoveredBy those (commands_in q) → Goes [] [] step (received q those l) → Goes [] those step l
from_received step l q rest those down_is opens other few goes =
    let next : LawLink = received q those l in
    let first : Grown l next [] [] [] [] those =
    grown_sends l next [] those (Receive q rest those down_is opens other few refl) (record { master = refl; down = refl; took = refl; asked = refl })
    refl (sym (append-nil l.up)) refl refl refl in
    record {
      link = goes.link;
      sent = goes.sent;
      grown = subst (λ (cs : List Command). Grown l goes.link [] goes.sent step.does.discarded step.does.overwritten cs) (append-nil those)
          (grown_both l next goes.link [] [] [] goes.sent [] step.does.discarded [] step.does.overwritten those [] first goes.grown);
      sees = goes.sees;
      octets = goes.octets;
    }

-- the state that executes it shows that it was received
asked_rest : (s : State) (octets : List ℕ) (those : List Command) (l : LawLink) → Sees s l → SeesRest (asked s octets) (received octets those l)
asked_rest s octets those l sees = record {
  is_open = ap (λ (o : LawOutstation). o.is_open) sees.outstation;
  report = ap (λ (o : LawOutstation). o.report) sees.outstation;
  next = ap (λ (o : LawOutstation). o.next) sees.outstation;
  lanes = record { rows = sees.lanes.rows; last_id = sees.lanes.last_id };
  sound = sees.sound;
  points = sees.points;
}

pub goes_asks : AnswerLaws → (s : State) (o : Panel) (now : ℕ) (octets : List ℕ) (those : List Command) (l : LawLink) (rest : List Down) → ShowOctets o
    → All (λ octet. octet < 2 ^ 8) octets → Sees s l → l.down ≡ Asks octets ∷ rest → s.core.is_open ≡ true
    → (IsSome s.core.session.last → octets ≢ s.core.session.request) → IsCoveredBy those (commands_in octets)
    → Goes [] those (on_request s o now octets) l
goes_asks laws s o now octets those l rest shown small sees down_is opens other few =
    let t : State = asked s octets in
    let x : Executed = content_at t o now octets in
    let seq : ℕ = (control_in octets).seq in
    let keeps : KeepsConnection t x.state = laws.keeps t o now octets in
    let writable : AreWritable (source_of t o) = laws.writable (source_of t o) sees.points shown.outputs shown.status in
    let request : octets ≡ x.state.core.session.request = sym keeps.request in
    from_received (on_request s o now octets) l octets rest those down_is (sym (ap (λ (o : LawOutstation). o.is_open) sees.outstation) ∙ opens)
    (subst (λ (o : LawOutstation). IsOther octets o.last) sees.outstation (other_request s.core.session octets s.core.session.last other)) few
    (goes_replied x.state now seq x.content x.time (received octets those l)
    (kept_rest t x.state (received octets those l) (asked_rest s octets those l sees) keeps)
    (ap (λ (q : List ℕ). Some (record { request = q; reply = NothingSent; more = false })) request) refl keeps.awaited
    (same_seq octets ∙ ap seq_in request)
    (λ c is. (
      subst (λ (lanes : EventBuffer). Reports lanes (fragment_of x.state true seq c) (control_for true seq c) c.upto) (sym keeps.lanes)
          (laws.answer t x.state o now octets seq c sees.sound writable small (seq_below octets) is),
      laws.ids t o now octets c is,
    )))

-- a READ that is held
pub goes_waits : (s : State) (octets : List ℕ) (l : LawLink) (rest : List Down) → Sees s l → l.down ≡ Asks octets ∷ rest → s.core.is_open ≡ true
    → (IsSome s.core.session.last → octets ≢ s.core.session.request) → Goes [] [] (still (record s { core = waiting s.core octets })) l
goes_waits s octets l rest sees down_is opens other =
    let t : State = record s { core = waiting s.core octets } in
    from_received (still t) l octets rest [] down_is (sym (ap (λ (o : LawOutstation). o.is_open) sees.outstation) ∙ opens)
    (subst (λ (o : LawOutstation). IsOther octets o.last) sees.outstation (other_request s.core.session octets s.core.session.last other))
    (covered_nil (commands_in octets))
    (goes_still t (received octets [] l) record {
      outstation = ap (λ (o : LawOutstation). record o { last = Some (record { request = octets; reply = NothingSent; more = false }); awaited = None })
          sees.outstation;
      lanes = record { rows = sees.lanes.rows; last_id = sees.lanes.last_id };
      sound = sees.sound;
      points = sees.points;
      ids = record { awaited = tt; first = tt };
    })

-- ---- the last request again

-- a kept first fragment is the current one
kept_octets : (l : LawLink) (q octets upto : List ℕ) (more : Bool) → l.outstation.is_open ≡ true
    → l.outstation.last ≡ Some (record { request = q; reply = FirstSent octets upto; more = more }) → CarriesLaw l → l.current.octets ≡ octets
kept_octets l q octets upto more opens e s =
    let kept : IsReply l.phase l.current q more (FirstSent octets upto) =
    subst (λ (last : Option link.LastRequest). IfSome last (λ a. IsReply l.phase l.current a.request a.more a.reply)) e (s.solicited opens).reply in
    sym kept.0

abbrev again_state : State → ℕ → ℕ → List ℕ → Bool → State
again_state s now seq upto b =
    if b then with_session s (record s.core.session { awaited = awaits now s.core.times.confirm_ms seq upto }) else s

again_awaited : (s : State) (now seq : ℕ) (upto : List ℕ) (b : Bool)
    → (option_map awaited_seen (again_state s now seq upto b).core.session.awaited ≡ option_map awaited_seen s.core.session.awaited)
    ⊎ (option_map awaited_seen (again_state s now seq upto b).core.session.awaited ≡ Some (record { seq = seq; upto = upto }))
again_awaited s now seq upto true = inr refl
again_awaited s now seq upto false = inl refl

again_sees : (s : State) (now seq : ℕ) (upto : List ℕ) (b : Bool) (l : LawLink) → length upto ≡ LANES → Sees s l
    → Sees (again_state s now seq upto b) (repeated (option_map awaited_seen (again_state s now seq upto b).core.session.awaited) l)
again_sees s now seq upto true l nine sees = record {
  outstation = ap (λ (o : LawOutstation). record o { awaited = Some (record { seq = seq; upto = upto }) }) sees.outstation;
  lanes = record { rows = sees.lanes.rows; last_id = sees.lanes.last_id };
  sound = sees.sound;
  points = sees.points;
  ids = record { awaited = nine; first = sees.ids.first };
}
again_sees s now seq upto false l nine sees = record {
  outstation = ap (λ (o : LawOutstation). record o { awaited = option_map awaited_seen s.core.session.awaited }) sees.outstation;
  lanes = record { rows = sees.lanes.rows; last_id = sees.lanes.last_id };
  sound = sees.sound;
  points = sees.points;
  ids = sees.ids;
}

goes_first_again : (s : State) (now seq : ℕ) (upto : List ℕ) (more b : Bool) (l : LawLink) → Sees s l → CarriesLaw l → s.core.is_open ≡ true
    → option_map (last_seen s.core.session) s.core.session.last
    ≡ Some (record { request = s.core.session.request; reply = FirstSent s.core.session.response upto; more = more })
    → length upto ≡ LANES → seq ≡ seq_in s.core.session.request
    → Goes [] [] (record { state = again_state s now seq upto b; does = sending s.core.session.response }) l
goes_first_again s now seq upto more b l sees stands opens last_is nine number =
    let q : List ℕ = s.core.session.request in
    let octets : List ℕ = s.core.session.response in
    let awaited : Option link.Awaited = option_map awaited_seen (again_state s now seq upto b).core.session.awaited in
    let shown : l.outstation.last ≡ Some (record { request = q; reply = FirstSent octets upto; more = more }) =
    sym (ap (λ (o : LawOutstation). o.last) sees.outstation) ∙ last_is in
    let was : option_map awaited_seen s.core.session.awaited ≡ l.outstation.awaited = ap (λ (o : LawOutstation). o.awaited) sees.outstation in
    let may : (awaited ≡ l.outstation.awaited) ⊎ (awaited ≡ Some (record { seq = seq_in q; upto = upto })) =
    elim (again_awaited s now seq upto b) [
      | inl e ↦ inl (e ∙ was)
      | inr e ↦ inr (e ∙ ap (λ (n : ℕ). Some (record { seq = n; upto = upto })) number)
    ] in
    let opens' : l.outstation.is_open ≡ true = sym (ap (λ (o : LawOutstation). o.is_open) sees.outstation) ∙ opens in
    let new : LawLink = repeated awaited l in
    record {
      link = new;
      sent = Responds l.current ∷ [];
      grown = grown_sends l new (Responds l.current ∷ []) [] (Repeat q octets upto more awaited shown may refl)
          (record { master = refl; down = refl; took = refl; asked = refl }) refl refl refl refl (sym (append-nil l.performed));
      sees = again_sees s now seq upto b l nine sees;
      octets = ap (λ (o : List ℕ). o ∷ []) (kept_octets l q octets upto more opens' shown stands);
    }

pub goes_again : (s : State) (now : ℕ) (octets : List ℕ) (last : LastRequest) (l : LawLink) → Sees s l → CarriesLaw l → s.core.is_open ≡ true
    → s.core.session.last ≡ Some last → octets ≡ s.core.session.request → Goes [] [] (on_again s now octets last) l
goes_again s now octets last l sees stands opens last_is same = by last.reply refl
  where
    by : (reply : Reply) → last.reply ≡ reply → Goes [] [] (on_again s now octets (record { reply = reply; stood = last.stood; left = last.left })) l
    by Held is = goes_still s l sees
    by Silent is = goes_still s l sees
    by Further is = goes_still s l sees
    by (First f) is =
        let seen : option_map (last_seen s.core.session) s.core.session.last
        ≡ Some (record { request = s.core.session.request; reply = FirstSent s.core.session.response f.upto; more = is_some last.left }) =
        ap (λ (x : Option LastRequest). option_map (last_seen s.core.session) x) last_is
        ∙ ap (λ (r : Reply). Some (record { request = s.core.session.request; reply = reply_seen s.core.session.response r; more = is_some last.left })) is in
        let all : HasIds last.reply =
        subst (λ (x : Option LastRequest). IfSome x (λ y. HasIds y.reply)) last_is sees.ids.first in
        let nine : length f.upto ≡ LANES = subst HasIds is all in
        goes_first_again s now (control_in octets).seq f.upto (is_some last.left) (f.is_awaited && is_none s.core.session.unsolicited) l sees stands opens
        seen nine (same_seq octets ∙ ap seq_in same)
