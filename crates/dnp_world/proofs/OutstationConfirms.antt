-- A confirm that comes to an outstation, of a response or of a report, as moves of its link.
use Rattle.std.proofs.Common.{◌≡◌, ℕ, ◌+◌, ◌%◌, true, List, [], ◌∷◌, ◌++◌, length, map, refl, sym, ap, ◌∙◌, subst, append-nil, Option, Some, None, IfSome, is_some, option_map, Result, Ok, Err}
use Rattle.dnp_objects.specs.declared.limits.TheConstants.{LANES}
use Rattle.dnp_objects.specs.declared.row.Row.{Row}
use Rattle.dnp_appfragment.specs.declared.fault.AppFault.{AppFault}
use Rattle.dnp_appfragment.specs.Fragments.{Asked}
use Rattle.dnp_appfragment.specs.Meaning.{request_at}
use Rattle.dnp_controls.specs.Panel.{Panel}
use Rattle.dnp_eventbuf.specs.Buffered.{buffered_row}
use Rattle.dnp_eventbuf.specs.EventBuffer.{EventBuffer, without, all_up_to}
use Rattle.dnp_outstation.specs.declared.offer.place.ReadPlace.{ReadPlace}
use Rattle.dnp_outstation.specs.declared.session.Reply.{Reply}
use Rattle.dnp_outstation.specs.declared.session.Reply.TheVariants.{Held, Silent, First, Further}
use Rattle.dnp_outstation.specs.declared.session.LastRequest.{LastRequest}
use Rattle.dnp_outstation.specs.declared.session.Awaited.{Awaited}
use Rattle.dnp_outstation.specs.declared.session.Session.{Session}
use Rattle.dnp_outstation.specs.Connection.{discarding, marked, confirmed, goes_on, on_confirm, responds_further}
use Rattle.dnp_outstation.specs.Content.{Content, source_of, read_content}
use Rattle.dnp_outstation.specs.Laws.{IsTidy}
use Rattle.dnp_outstation.specs.Said.{AreWritable}
use Rattle.dnp_outstation.specs.State.{State, Step, still, with_session}
use Rattle.dnp_outstation.specs.Tidy.{LeavesNothing}
use Rattle.dnp_world.specs.Lanes.{HasLanes}
use Rattle.dnp_world.specs.LawLink as link
use Rattle.dnp_world.specs.LawLink.{Down, Confirms, ConfirmsReport, seq_of, LawOutstation, LawLink}
use Rattle.dnp_world.specs.Moves as moves
use Rattle.dnp_world.specs.Moves.{MayAwait, Move, Confirm, ConfirmReport, released}
use Rattle.dnp_world.specs.Octets.{after}
use Rattle.dnp_world.specs.OutstationSeen.{ShowOctets, last_seen, awaited_seen, report_seen, HasIds}
use Rattle.dnp_world.specs.Standing.{CarriesLaw}
use Rattle.dnp_world.proofs.OutstationAnswers.{rest_seen, goes_further}
use Rattle.dnp_world.proofs.OutstationLaws.{AnswerLaws, ReleaseLaws, FurtherLaws}
use Rattle.dnp_world.proofs.OutstationSteps.{number_below, Grown, one_move, grown_both, Sees, Goes, goes_still, outstation_is}

-- ---- a release

-- a step that releases and overwrites nothing
pub record GoesOn (step : Step) (l : LawLink) : Type 0 where
  pub goes : Goes [] [] step l
  pub gone : step.does.discarded ≡ []

pub stays_on : (s : State) (l : LawLink) → Sees s l → GoesOn (still s) l
stays_on s l sees = record { goes = goes_still s l sees; gone = refl }

pub grown_releases : ReleaseLaws → (s : EventBuffer) (upto : List ℕ) (l : LawLink) (o : LawOutstation) → length upto ≡ length s.lanes → HasLanes s l
    → Move l (record (released upto l) { outstation = o }) → Grown l (record (released upto l) { outstation = o }) [] [] (all_up_to s upto) [] []
grown_releases laws s upto l o nine lanes move = record {
  moves = one_move l (record (released upto l) { outstation = o }) move;
  master = record { master = refl; down = refl; took = refl; asked = refl };
  stood = sym (append-nil (map buffered_row l.stood));
  up = sym (append-nil l.up);
  released = laws.given s upto l nine lanes;
  left = sym (append-nil (map buffered_row l.left));
  performed = sym (append-nil l.performed);
}

-- what is released first, and then this step
pub from_release : (s : EventBuffer) (upto : List ℕ) (step : Step) (old : State) (l next : LawLink) → Grown l next [] [] (all_up_to s upto) [] []
    → s ≡ old.lanes → GoesOn step next → Goes [] [] (discarding old upto step) l
from_release s upto step old l next first same on =
    let goes : Goes [] [] step next = on.goes in
    let rows : all_up_to s upto ++ step.does.discarded ≡ all_up_to old.lanes upto =
    ap (λ (xs : List Row). all_up_to s upto ++ xs) on.gone ∙ append-nil (all_up_to s upto) ∙ ap (λ (x : EventBuffer). all_up_to x upto) same in
    record {
      link = goes.link;
      sent = goes.sent;
      grown = subst (λ (xs : List Row). Grown l goes.link [] goes.sent xs step.does.overwritten []) rows
          (grown_both l next goes.link [] [] [] goes.sent (all_up_to s upto) step.does.discarded [] step.does.overwritten [] [] first goes.grown);
      sees = goes.sees;
      octets = goes.octets;
    }

-- ---- the confirm of a response

-- the link doesn't see the mark
marked_same : (session : Session) (last : Option LastRequest)
    → option_map (last_seen (confirmed session)) (option_map marked last) ≡ option_map (last_seen session) last
marked_same session None = refl
marked_same session (Some last) = by last.reply
  where
    by : (reply : Reply) → (let x : LastRequest = record { reply = reply; stood = last.stood; left = last.left } in
        Some (last_seen (confirmed session) (marked x)) ≡ Some (last_seen session x))
    by Held = refl
    by Silent = refl
    by (First f) = refl
    by Further = refl

marked_ids : (last : Option LastRequest) → IfSome last (λ x. HasIds x.reply) → IfSome (option_map marked last) (λ x. HasIds x.reply)
marked_ids None h = tt
marked_ids (Some last) h = by last.reply h
  where
    by : (reply : Reply) → HasIds reply
        → (let x : LastRequest = marked (record { reply = reply; stood = last.stood; left = last.left }) in HasIds x.reply)
    by Held h = tt
    by Silent h = tt
    by (First f) h = h
    by Further h = tt

-- the state after the release
abbrev pub confirmed_state : State → Awaited → State
confirmed_state s w = record (with_session s (confirmed s.core.session)) { lanes = without s.lanes w.upto }

abbrev confirmed_link : Awaited → LawLink → LawLink
confirmed_link w l = moves.confirmed (awaited_seen w) l

confirmed_sees : ReleaseLaws → (s : State) (w : Awaited) (l : LawLink) → Sees s l → length w.upto ≡ LANES → Sees (confirmed_state s w) (confirmed_link w l)
confirmed_sees laws s w l sees nine =
    let lanes : HasLanes (without s.lanes w.upto) (released w.upto l) =
    laws.left s.lanes w.upto l (nine ∙ sym sees.sound.nine) sees.lanes in
    record {
      outstation = outstation_is s.core.is_open l.outstation.is_open
          (option_map (last_seen (confirmed s.core.session)) (option_map marked s.core.session.last)) l.outstation.last None None
          (option_map (report_seen s.core.session) s.core.session.unsolicited) l.outstation.report s.core.session.next l.outstation.next
          (ap (λ (o : LawOutstation). o.is_open) sees.outstation)
          (marked_same s.core.session s.core.session.last ∙ ap (λ (o : LawOutstation). o.last) sees.outstation) refl
          (ap (λ (o : LawOutstation). o.report) sees.outstation) (ap (λ (o : LawOutstation). o.next) sees.outstation);
      lanes = record { rows = lanes.rows; last_id = lanes.last_id };
      sound = laws.sound s.lanes w.upto sees.sound nine;
      points = sees.points;
      ids = record { awaited = tt; first = marked_ids s.core.session.last sees.ids.first };
    }

-- a response that goes on at a place of which all but what was confirmed has left
record IsPlace (t : State) (left : Option ReadPlace) : Type 0 where
  tidy : (place : ReadPlace) → left ≡ Some place → IsTidy t.lanes place.given × (length place.given ≡ LANES)

goes_on_goes : AnswerLaws → FurtherLaws → (t : State) (o : Panel) (now seq : ℕ) (last : Option LastRequest) (l : LawLink) (rest : List Down) → ShowOctets o
    → Sees t l → t.core.session.last ≡ last → IfSome last (λ x. IsPlace t x.left) → l.down ≡ Confirms (seq_of l.current) ∷ rest
    → seq ≡ after (seq_of l.current) → GoesOn (goes_on t o now seq last) l
goes_on_goes answers laws t o now seq None l rest shown sees last_is places down_is number = stays_on t l sees
goes_on_goes answers laws t o now seq (Some last) l rest shown sees last_is places down_is number = from_place last.left refl
  where
    from_place : (left : Option ReadPlace) → last.left ≡ left
        → GoesOn (goes_on t o now seq (Some (record { reply = last.reply; stood = last.stood; left = left }))) l
    from_place None is = stays_on t l sees
    from_place (Some place) is = of_request (request_at t.core.session.request) refl
      where
        of_request : (r : Result Asked AppFault) → request_at t.core.session.request ≡ r
            → GoesOn (goes_on t o now seq (Some (record { reply = last.reply; stood = last.stood; left = Some place }))) l
        of_request (Err fault) there = rw there (stays_on t l sees)
        of_request (Ok r) there =
            let c : Content = read_content t o last.stood place r.headers in
            let tidy : IsTidy t.lanes place.given × (length place.given ≡ LANES) = places.tidy place is in
            let writable : AreWritable (source_of t o) = answers.writable (source_of t o) sees.points shown.outputs shown.status in
            let a : link.LastRequest = last_seen t.core.session last in
            let seen : l.outstation.last ≡ Some a =
            sym (ap (λ (o : LawOutstation). o.last) sees.outstation)
            ∙ ap (λ (x : Option LastRequest). option_map (last_seen t.core.session) x) last_is in
            let more : a.more ≡ true = ap (λ (x : Option ReadPlace). is_some x) is in
            let goes : Goes [] [] (responds_further t now last.stood seq c) l =
            goes_further t now last.stood seq c a l rest (rest_seen t l sees) seen refl more down_is number
            (laws.further t o last.stood place r.headers seq sees.sound writable tidy.0 tidy.1 (number_below (seq_of l.current) seq number))
            (laws.ids t o last.stood place r.headers) in
            let on : GoesOn (responds_further t now last.stood seq c) l = record { goes = goes; gone = refl } in
            rw there on

marked_places : (s : State) (w : Awaited) (last : Option LastRequest)
    → ((x : LastRequest) (place : ReadPlace) → last ≡ Some x → x.left ≡ Some place → IsTidy (without s.lanes w.upto) place.given × (length place.given ≡ LANES))
    → IfSome (option_map marked last) (λ x. IsPlace (confirmed_state s w) x.left)
marked_places s w None tidy = tt
marked_places s w (Some last) tidy = record { tidy = λ place is. tidy last place refl is }

pub goes_confirm : AnswerLaws → ReleaseLaws → FurtherLaws → (s : State) (o : Panel) (now : ℕ) (w : Awaited) (l : LawLink) (rest : List Down) → ShowOctets o
    → Sees s l → LeavesNothing s → CarriesLaw l → s.core.is_open ≡ true → s.core.session.awaited ≡ Some w → l.down ≡ Confirms w.seq ∷ rest
    → Goes [] [] (on_confirm s o now w) l
goes_confirm answers releases laws s o now w l rest shown sees tidy stands opens waits down_is =
    let opens' : l.outstation.is_open ≡ true = sym (ap (λ (o : LawOutstation). o.is_open) sees.outstation) ∙ opens in
    let waits' : l.outstation.awaited ≡ Some (awaited_seen w) =
    sym (ap (λ (o : LawOutstation). o.awaited) sees.outstation) ∙ ap (λ (x : Option Awaited). option_map awaited_seen x) waits in
    let number : w.seq ≡ seq_of l.current = (subst (λ (x : Option link.Awaited). MayAwait l.current x) waits' (stands.solicited opens').wait).0 in
    let nine : length w.upto ≡ LANES = subst (λ (x : Option Awaited). IfSome x (λ y. length y.upto ≡ LANES)) waits sees.ids.awaited in
    let next : LawLink = confirmed_link w l in
    let t : State = confirmed_state s w in
    let move : Move l next = Confirm (awaited_seen w) rest down_is opens' waits' refl in
    let first : Grown l next [] [] (all_up_to s.lanes w.upto) [] [] =
    grown_releases releases s.lanes w.upto l (record l.outstation { awaited = None }) (nine ∙ sym sees.sound.nine) sees.lanes move in
    let on : GoesOn (goes_on t o now ((w.seq + 1) % 16) t.core.session.last) next =
    goes_on_goes answers laws t o now ((w.seq + 1) % 16) t.core.session.last next rest shown (confirmed_sees releases s w l sees nine) refl
    (marked_places s w s.core.session.last (λ last place last_is left_is. laws.tidy s w last place sees.sound tidy waits last_is left_is))
    (down_is ∙ ap (λ (n : ℕ). Confirms n ∷ rest) number) (ap after number) in
    from_release s.lanes w.upto (goes_on t o now ((w.seq + 1) % 16) t.core.session.last) s l next first refl on
