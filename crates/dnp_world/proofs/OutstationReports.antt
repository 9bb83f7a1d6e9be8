-- The confirm of a report that comes to an outstation, as moves of its link: a READ that was held is answered after it.
use Rattle.std.proofs.Common.{◌≡◌, ℕ, ◌≤◌, true, false, List, [], ◌∷◌, length, refl, sym, ap, ◌∙◌, subst, Option, Some, None, IfSome, IsSome, is_some, option_map}
use Rattle.std.proofs.lemmas.Bool.{both_ways}
use Rattle.dnp_objects.specs.declared.limits.TheConstants.{LANES}
use Rattle.dnp_controls.specs.Panel.{Panel}
use Rattle.dnp_eventbuf.specs.EventBuffer.{EventBuffer, without, all_up_to}
use Rattle.dnp_outstation.specs.declared.case.Case.TheVariants as case
use Rattle.dnp_outstation.specs.declared.session.Reply.{Reply}
use Rattle.dnp_outstation.specs.declared.session.Reply.TheVariants.{Held, Silent, First, Further}
use Rattle.dnp_outstation.specs.declared.session.LastRequest.{LastRequest}
use Rattle.dnp_outstation.specs.declared.session.Unsolicited.{Unsolicited}
use Rattle.dnp_outstation.specs.Calls.{connection_after}
use Rattle.dnp_outstation.specs.Connection.{control_in, control_for, fragment_of, discarding, replied, at_end, case_of}
use Rattle.dnp_outstation.specs.Content.{Content, Executed, content_of, source_of}
use Rattle.dnp_outstation.specs.Links.{Reports, KeepsConnection, unsolicited_confirmed}
use Rattle.dnp_outstation.specs.Said.{AreWritable}
use Rattle.dnp_outstation.specs.State.{State, Step, still, holds_read}
use Rattle.dnp_outstation.specs.Tidy.{LeavesNothing}
use Rattle.dnp_world.specs.Lanes.{HasLanes}
use Rattle.dnp_world.specs.LawLink.{Down, ConfirmsReport, NothingSent, LawOutstation, LawLink}
use Rattle.dnp_world.specs.Moves as moves
use Rattle.dnp_world.specs.Moves.{Move, ConfirmReport, released}
use Rattle.dnp_world.specs.OutstationSeen.{ShowOctets, last_seen, report_seen, reply_seen}
use Rattle.dnp_world.specs.Octets.{seq_in}
use Rattle.dnp_world.specs.Standing.{CarriesLaw}
use Rattle.dnp_world.proofs.OutstationAnswers.{rest_seen, kept_rest, executed, goes_answers}
use Rattle.dnp_world.proofs.OutstationConfirms.{GoesOn, stays_on, grown_releases, from_release}
use Rattle.dnp_world.proofs.OutstationFragments.{same_seq, seq_below}
use Rattle.dnp_world.proofs.OutstationLaws.{AnswerLaws, ReleaseLaws, HeldLaws, EndLaws}
use Rattle.dnp_world.proofs.OutstationSteps.{Grown, Sees, Goes, goes_end}

-- ---- a READ that was held

held_answered : AnswerLaws → HeldLaws → (t : State) (o : Panel) (now : ℕ) (last : LastRequest) (l : LawLink) → ShowOctets o → Sees t l
    → t.core.session.last ≡ Some last → last.reply ≡ Held
    → GoesOn (replied now (control_in t.core.session.request).seq (content_of t o t.core.session.request)) l
held_answered answers laws t o now last l shown sees last_is held = by x.content refl
  where
    q : List ℕ
    q = t.core.session.request

    x : Executed
    x = content_of t o q

    by : (content : Option Content) → (content_of t o t.core.session.request).content ≡ content
        → (let y : Executed = content_of t o t.core.session.request in
        GoesOn (replied now (control_in t.core.session.request).seq (executed y.state content y.time)) l)
    by None none = absurd (both_ways false refl (subst (λ (c : Option Content). IsSome c) none (laws.answers t o t.core.session.request)))
    by (Some c) is =
        let y : Executed = content_of t o t.core.session.request in
        let seq : ℕ = (control_in t.core.session.request).seq in
        let keeps : KeepsConnection t y.state = laws.keeps t o t.core.session.request in
        let writable : AreWritable (source_of t o) = answers.writable (source_of t o) sees.points shown.outputs shown.status in
        let seen : l.outstation.last ≡ Some (record { request = y.state.core.session.request; reply = NothingSent; more = is_some last.left }) =
        sym (ap (λ (o : LawOutstation). o.last) sees.outstation)
        ∙ ap (λ (z : Option LastRequest). option_map (last_seen t.core.session) z) last_is
        ∙ ap (λ (r : Reply). Some (record { request = t.core.session.request; reply = reply_seen t.core.session.response r; more = is_some last.left })) held
        ∙ ap (λ (r : List ℕ). Some (record { request = r; reply = NothingSent; more = is_some last.left })) (sym keeps.request) in
        record {
          goes = goes_answers y.state now seq c y.time (is_some last.left) l (kept_rest t y.state l (rest_seen t l sees) keeps) seen
              (same_seq t.core.session.request ∙ ap seq_in (sym keeps.request))
              (subst (λ (lanes : EventBuffer). Reports lanes (fragment_of y.state true seq c) (control_for true seq c) c.upto) (sym keeps.lanes)
              (laws.held t y.state o t.core.session.request seq c sees.sound writable (seq_below t.core.session.request) is))
              (laws.ids t o t.core.session.request c is);
          gone = refl;
        }

-- ---- the confirm

abbrev confirmed_link : State → Unsolicited → LawLink → LawLink
confirmed_link s w l = moves.report_confirmed (report_seen s.core.session w) l

confirmed_sees : ReleaseLaws → (s : State) (w : Unsolicited) (l : LawLink) → Sees s l → length w.upto ≡ LANES
    → Sees (unsolicited_confirmed s w) (confirmed_link s w l)
confirmed_sees laws s w l sees nine =
    let lanes : HasLanes (without s.lanes w.upto) (released w.upto l) =
    laws.left s.lanes w.upto l (nine ∙ sym sees.sound.nine) sees.lanes in
    record {
      outstation = ap (λ (o : LawOutstation). record o { report = None }) sees.outstation;
      lanes = record { rows = lanes.rows; last_id = lanes.last_id };
      sound = laws.sound s.lanes w.upto sees.sound nine;
      points = sees.points;
      ids = record { awaited = sees.ids.awaited; first = sees.ids.first };
    }

holds_none : (last : LastRequest) (reply : Reply) → last.reply ≡ reply
    → holds_read (Some (record { reply = reply; stood = last.stood; left = last.left })) ≡ false
    → holds_read (Some last) ≡ false
holds_none last reply is none = subst (λ (r : Reply). holds_read (Some (record { reply = r; stood = last.stood; left = last.left })) ≡ false) (sym is) none

pub goes_report_confirm : EndLaws → AnswerLaws → ReleaseLaws → HeldLaws → (s : State) (o : Panel) (now : ℕ) (octets : List ℕ) (w : Unsolicited) (l : LawLink)
    (rest : List Down) → ShowOctets o → Sees s l → LeavesNothing s → CarriesLaw l → s.core.is_open ≡ true
    → case_of s.core octets ≡ case.ConfirmsUnsolicited → s.core.session.unsolicited ≡ Some w → l.down ≡ ConfirmsReport w.seq ∷ rest
    → length (connection_after s o now octets).state.core.enabled ≤ 3 → Goes [] [] (connection_after s o now octets) l
goes_report_confirm ends answers releases laws s o now octets w l rest shown sees tidy stands opens case_is waits down_is classes =
    by_last s.core.session.last refl
  where
    t : State
    t = unsolicited_confirmed s w

    nine : length w.upto ≡ LANES
    nine = subst (λ (x : Option Unsolicited). IfSome x (λ y. length y.upto ≡ LANES)) waits tidy.unsolicited

    first : Grown l (confirmed_link s w l) [] [] (all_up_to s.lanes w.upto) [] []
    first =
        grown_releases releases s.lanes w.upto l (record l.outstation { report = None }) (nine ∙ sym sees.sound.nine) sees.lanes
        (ConfirmReport (report_seen s.core.session w) rest down_is (sym (ap (λ (o : LawOutstation). o.is_open) sees.outstation) ∙ opens)
        (sym (ap (λ (o : LawOutstation). o.report) sees.outstation)
        ∙ ap (λ (x : Option Unsolicited). option_map (report_seen s.core.session) x) waits) refl)

    -- the end of the call after a step that goes on
    ended : (step : Step) → connection_after s o now octets ≡ at_end now (discarding s w.upto step) → GoesOn step (confirmed_link s w l)
        → Goes [] [] (connection_after s o now octets) l
    ended step is on =
        subst (λ (x : Step). Goes [] [] x l) (sym is)
        (goes_end ends [] [] now (discarding s w.upto step) l stands (subst (λ (x : Step). length x.state.core.enabled ≤ 3) is classes)
        (from_release s.lanes w.upto step s l (confirmed_link s w l) first refl on))

    none_held : holds_read s.core.session.last ≡ false → Goes [] [] (connection_after s o now octets) l
    none_held none =
        ended (still (unsolicited_confirmed s w)) (laws.none_held s o now octets w case_is waits none)
        (stays_on (unsolicited_confirmed s w) (confirmed_link s w l) (confirmed_sees releases s w l sees nine))

    by_last : (last : Option LastRequest) → s.core.session.last ≡ last → Goes [] [] (connection_after s o now octets) l
    by_last None is = none_held (ap holds_read is)
    by_last (Some last) is = by_reply last.reply refl
      where
        other : (reply : Reply) → last.reply ≡ reply → holds_read (Some (record { reply = reply; stood = last.stood; left = last.left })) ≡ false
            → Goes [] [] (connection_after s o now octets) l
        other reply reply_is none = none_held (ap holds_read is ∙ holds_none last reply reply_is none)

        by_reply : (reply : Reply) → last.reply ≡ reply → Goes [] [] (connection_after s o now octets) l
        by_reply Held held =
            ended (replied now (control_in s.core.session.request).seq (content_of (unsolicited_confirmed s w) o s.core.session.request))
            (laws.answered s o now octets w last case_is waits is held)
            (held_answered answers laws (unsolicited_confirmed s w) o now last (confirmed_link s w l) shown (confirmed_sees releases s w l sees nine) is held)
        by_reply Silent reply_is = other Silent reply_is refl
        by_reply (First f) reply_is = other (First f) reply_is refl
        by_reply Further reply_is = other Further reply_is refl
