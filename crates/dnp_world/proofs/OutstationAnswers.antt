-- What an outstation sends for a request, as a move of its link.
use Rattle.std.proofs.Common.{◌≡◌, ℕ, Bool, true, false, if◌then◌else◌, List, [], ◌∷◌, length, refl, sym, ap, ◌∙◌, subst, append-nil, Option, Some, None, IfSome, is_some, is_none, option_map}
use Rattle.dnp_objects.specs.declared.limits.TheConstants.{LANES}
use Rattle.dnp_controls.specs.Selecting.{deadline}
use Rattle.dnp_eventbuf.specs.Buffered.{buffered_in}
use Rattle.dnp_eventbuf.specs.Sound.{IsSoundBuffer}
use Rattle.dnp_eventbuf.specs.EventBuffer.{EventBuffer}
use Rattle.dnp_pointdb.specs.Sound as points
use Rattle.dnp_outstation.specs.declared.offer.place.ReadPlace.{ReadPlace}
use Rattle.dnp_outstation.specs.declared.session.Awaited.{Awaited}
use Rattle.dnp_outstation.specs.declared.session.Unsolicited.{Unsolicited}
use Rattle.dnp_outstation.specs.Connection.{asks_confirm, control_for, fragment_of, responds, responds_further, no_response, replied}
use Rattle.dnp_outstation.specs.Items.{last_in}
use Rattle.dnp_outstation.specs.Content.{Content, Executed}
use Rattle.dnp_outstation.specs.Links.{Reports, KeepsConnection}
use Rattle.dnp_outstation.specs.State.{State, Step, with_session}
use Rattle.dnp_world.specs.Lanes.{HasLanes}
use Rattle.dnp_world.specs.LawLink as link
use Rattle.dnp_world.specs.LawLink.{SentFragment, Down, Confirms, Up, Responds, seq_of, fin_of, NothingSent, FirstSent, FurtherSent, LawOutstation, LawLink}
use Rattle.dnp_world.specs.Moves.{MayAwait, Move, Respond, Continue, responded, continued}
use Rattle.dnp_world.specs.Octets.{after, seq_in, fin_in}
use Rattle.dnp_world.specs.OutstationSeen.{awaited_seen, report_seen}
use Rattle.dnp_world.proofs.OutstationFragments.{made_of, reported_seq, reported_fin, reported_offer}
use Rattle.dnp_world.proofs.OutstationSteps.{grown_sends, Sees, Goes, goes_still, outstation_is}

-- what is shown of a state but for the last request and the wait
pub record SeesRest (t : State) (l : LawLink) : Type 0 where
  pub is_open : t.core.is_open ≡ l.outstation.is_open
  pub report : option_map (report_seen t.core.session) t.core.session.unsolicited ≡ l.outstation.report
  pub next : t.core.session.next ≡ l.outstation.next
  pub lanes : HasLanes t.lanes l
  pub sound : IsSoundBuffer t.lanes
  pub points : points.IsSoundDatabase t.core.points

pub rest_seen : (s : State) (l : LawLink) → Sees s l → SeesRest s l
rest_seen s l sees = record {
  is_open = ap (λ (o : LawOutstation). o.is_open) sees.outstation;
  report = ap (λ (o : LawOutstation). o.report) sees.outstation;
  next = ap (λ (o : LawOutstation). o.next) sees.outstation;
  lanes = sees.lanes;
  sound = sees.sound;
  points = sees.points;
}

-- what leaves the connection alone shows the same
pub kept_rest : (t x : State) (l : LawLink) → SeesRest t l → KeepsConnection t x → SeesRest x l
kept_rest t x l rest keeps = record {
  is_open = keeps.is_open ∙ rest.is_open;
  report = same_report ∙ rest.report;
  next = keeps.next ∙ rest.next;
  lanes = record {
    rows = rest.lanes.rows ∙ ap buffered_in (sym keeps.lanes);
    last_id = rest.lanes.last_id ∙ ap (λ (y : EventBuffer). y.last_id)
        (sym keeps.lanes);
  };
  sound = subst IsSoundBuffer (sym keeps.lanes) rest.sound;
  points = subst points.IsSoundDatabase (sym keeps.points) rest.points;
}
  where
    same_report : option_map (report_seen x.core.session) x.core.session.unsolicited ≡ option_map (report_seen t.core.session) t.core.session.unsolicited
    same_report =
        ap (λ (u : Option Unsolicited). option_map (report_seen x.core.session) u) keeps.unsolicited
        ∙ ap (λ (o : List ℕ). option_map (λ (w : Unsolicited). let r : link.AwaitedReport = record { octets = o; seq = w.seq; upto = w.upto } in r)
        t.core.session.unsolicited) keeps.unsolicited_response

-- ---- what is awaited then

may_await : (b : Bool) (w : Awaited) (f : SentFragment) → seq_of f ≡ w.seq → f.upto ≡ w.upto
    → MayAwait f (option_map awaited_seen (if b then Some w else None))
may_await true w f e k = (sym e, sym k)
may_await false w f e k = tt

awaited_ids : (b : Bool) (w : Awaited) → length w.upto ≡ LANES → IfSome (if b then Some w else None) (λ x. length x.upto ≡ LANES)
awaited_ids true w nine = nine
awaited_ids false w nine = tt

more_goes_on : (left : Option ReadPlace) → is_some left ≡ true → is_none left ≡ false
more_goes_on None e = absurd (cc)
more_goes_on (Some place) e = refl

-- ---- the first fragment

pub goes_responds : (t : State) (now stood seq : ℕ) (c : Content) (was_more : Bool) (l : LawLink) → SeesRest t l
    → l.outstation.last ≡ Some (record { request = t.core.session.request; reply = NothingSent; more = was_more })
    → seq ≡ seq_in t.core.session.request → Reports t.lanes (fragment_of t true seq c) (control_for true seq c) c.upto
    → length c.upto ≡ LANES → Goes [] [] (responds t now stood seq c) l
goes_responds t now stood seq c was_more l sees last_is number reports nine =
    let octets : List ℕ = fragment_of t true seq c in
    let f : SentFragment = made_of octets c.upto l in
    let w : Awaited = record { seq = seq; upto = c.upto; ends = deadline now t.core.times.confirm_ms } in
    let awaited : Option link.Awaited = option_map awaited_seen (if asks_confirm c then Some w else None) in
    let q : List ℕ = t.core.session.request in
    let more : Bool = is_some c.left in
    let new : LawLink = responded q f more awaited l in
    let seq_is : seq_in octets ≡ seq = reported_seq t.lanes octets (control_for true seq c) c.upto reports in
    let fin_is : fin_in octets ≡ is_none c.left = reported_fin t.lanes octets (control_for true seq c) c.upto reports in
    let move : Move l new = Respond q f was_more more awaited last_is (seq_is ∙ number)
    (reported_offer t.lanes octets (control_for true seq c) c.upto reports false l refl sees.lanes)
    (λ goes_on. fin_is ∙ more_goes_on c.left goes_on) (may_await (asks_confirm c) w f seq_is refl) refl in
    record {
      link = new;
      sent = Responds f ∷ [];
      grown = grown_sends l new (Responds f ∷ []) [] move (record { master = refl; down = refl; took = refl; asked = refl }) refl refl refl refl
          (sym (append-nil l.performed));
      sees = record {
        outstation = outstation_is t.core.is_open l.outstation.is_open
            (Some (record { request = q; reply = FirstSent octets c.upto; more = more }))
            (Some (record { request = q; reply = FirstSent octets c.upto; more = more })) awaited awaited
            (option_map (report_seen t.core.session) t.core.session.unsolicited) l.outstation.report t.core.session.next l.outstation.next
            sees.is_open refl refl sees.report sees.next;
        lanes = record { rows = sees.lanes.rows; last_id = sees.lanes.last_id };
        sound = sees.sound;
        points = sees.points;
        ids = record { awaited = awaited_ids (asks_confirm c) w nine; first = nine };
      };
      octets = refl;
    }

-- ---- a further fragment

pub goes_further : (t : State) (now stood seq : ℕ) (c : Content) (a : link.LastRequest) (l : LawLink) (rest : List Down) → SeesRest t l
    → l.outstation.last ≡ Some a → a.request ≡ t.core.session.request → a.more ≡ true → l.down ≡ Confirms (seq_of l.current) ∷ rest
    → seq ≡ after (seq_of l.current) → Reports t.lanes (fragment_of t false seq c) (control_for false seq c) c.upto → length c.upto ≡ LANES
    → Goes [] [] (responds_further t now stood seq c) l
goes_further t now stood seq c a l rest sees last_is request_is more_left down_is number reports nine =
    let octets : List ℕ = fragment_of t false seq c in
    let f : SentFragment = made_of octets c.upto l in
    let w : Awaited = record { seq = seq; upto = c.upto; ends = deadline now t.core.times.confirm_ms } in
    let awaited : Option link.Awaited = option_map awaited_seen (if asks_confirm c then Some w else None) in
    let more : Bool = is_some c.left in
    let new : LawLink = continued a.request f more awaited l in
    let seq_is : seq_in octets ≡ seq = reported_seq t.lanes octets (control_for false seq c) c.upto reports in
    let fin_is : fin_in octets ≡ is_none c.left = reported_fin t.lanes octets (control_for false seq c) c.upto reports in
    let move : Move l new = Continue a rest f more awaited down_is last_is more_left (seq_is ∙ number)
    (reported_offer t.lanes octets (control_for false seq c) c.upto reports false l refl sees.lanes)
    (λ goes_on. fin_is ∙ more_goes_on c.left goes_on) (may_await (asks_confirm c) w f seq_is refl) refl in
    record {
      link = new;
      sent = Responds f ∷ [];
      grown = grown_sends l new (Responds f ∷ []) [] move (record { master = refl; down = refl; took = refl; asked = refl }) refl refl refl refl
          (sym (append-nil l.performed));
      sees = record {
        outstation = outstation_is t.core.is_open l.outstation.is_open
            (Some (record { request = t.core.session.request; reply = FurtherSent; more = more }))
            (Some (record { request = a.request; reply = FurtherSent; more = more })) awaited awaited
            (option_map (report_seen t.core.session) t.core.session.unsolicited) l.outstation.report t.core.session.next l.outstation.next
            sees.is_open (ap (λ (q : List ℕ). Some (record { request = q; reply = FurtherSent; more = more })) (sym request_is)) refl sees.report
            sees.next;
        lanes = record { rows = sees.lanes.rows; last_id = sees.lanes.last_id };
        sound = sees.sound;
        points = sees.points;
        ids = record { awaited = awaited_ids (asks_confirm c) w nine; first = tt };
      };
      octets = refl;
    }

-- ---- an answer, or none

abbrev pub executed : State → Option Content → Option ℕ → Executed
executed t content time = record { state = t; content = content; time = time }

goes_timed : (time : Option ℕ) (step : Step) (l : LawLink) → Goes [] [] step l → Goes [] [] (record step { does = record step.does { time = time } }) l
goes_timed time step l goes = record { link = goes.link; sent = goes.sent; grown = goes.grown; sees = goes.sees; octets = goes.octets }

pub goes_answers : (t : State) (now seq : ℕ) (c : Content) (time : Option ℕ) (was_more : Bool) (l : LawLink) → SeesRest t l
    → l.outstation.last ≡ Some (record { request = t.core.session.request; reply = NothingSent; more = was_more })
    → seq ≡ seq_in t.core.session.request → Reports t.lanes (fragment_of t true seq c) (control_for true seq c) c.upto
    → length c.upto ≡ LANES → Goes [] [] (replied now seq (executed t (Some c) time)) l
goes_answers t now seq c time was_more l sees last_is number reports nine =
    goes_timed time (responds t now (last_in t.lanes) seq c) l (goes_responds t now (last_in t.lanes) seq c was_more l sees last_is number reports nine)

pub goes_replied : (t : State) (now seq : ℕ) (content : Option Content) (time : Option ℕ) (l : LawLink) → SeesRest t l
    → l.outstation.last ≡ Some (record { request = t.core.session.request; reply = NothingSent; more = false })
    → l.outstation.awaited ≡ None → t.core.session.awaited ≡ None → seq ≡ seq_in t.core.session.request
    → ((c : Content) → content ≡ Some c → Reports t.lanes (fragment_of t true seq c) (control_for true seq c) c.upto × (length c.upto ≡ LANES))
    → Goes [] [] (replied now seq (executed t content time)) l
goes_replied t now seq (Some c) time l sees last_is none_awaited none number made =
    goes_answers t now seq c time false l sees last_is number (made c refl).0 (made c refl).1
goes_replied t now seq None time l sees last_is none_awaited none number made =
    let q : List ℕ = t.core.session.request in
    goes_still (with_session t (no_response t.core.session)) l record {
      outstation = outstation_is t.core.is_open l.outstation.is_open (Some (record { request = q; reply = NothingSent; more = false }))
          l.outstation.last (option_map awaited_seen t.core.session.awaited) l.outstation.awaited
          (option_map (report_seen t.core.session) t.core.session.unsolicited) l.outstation.report t.core.session.next l.outstation.next
          sees.is_open (sym last_is) (ap (λ (w : Option Awaited). option_map awaited_seen w) none ∙ sym none_awaited) sees.report sees.next;
      lanes = sees.lanes;
      sound = sees.sound;
      points = sees.points;
      ids = record { awaited = subst (λ (w : Option Awaited). IfSome w (λ x. length x.upto ≡ LANES)) (sym none) tt; first = tt };
    }
