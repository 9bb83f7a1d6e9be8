-- What lower crates promise of lanes and of an outstation, as far as its link sees it.
use Rattle.std.proofs.Common.{◌≡◌, ◌≢◌, ◌⊎◌, ℕ, ◌+◌, ◌<◌, ◌≤◌, ◌^◌, true, false, List, ◌++◌, length, map, None, Some, IsSome}
use Rattle.std.specs.List.{All}
use Rattle.dnp_objects.specs.declared.limits.TheConstants.{LANES}
use Rattle.dnp_appfragment.specs.declared.function.Function.TheVariants as function
use Rattle.dnp_appfragment.specs.Headers.{Head}
use Rattle.dnp_appfragment.specs.Table.{function_octet}
use Rattle.dnp_controls.specs.Panel.{Panel}
use Rattle.dnp_controls.specs.Selecting.{deadline}
use Rattle.dnp_eventbuf.specs.Buffered.{buffered_row}
use Rattle.dnp_eventbuf.specs.Sound.{IsSoundBuffer}
use Rattle.dnp_eventbuf.specs.EventBuffer.{EventBuffer, without, all_up_to}
use Rattle.dnp_pointdb.specs.Sound as points
use Rattle.dnp_outstation.specs.declared.case.Case.TheVariants as case
use Rattle.dnp_outstation.specs.declared.offer.place.ReadPlace.{ReadPlace}
use Rattle.dnp_outstation.specs.declared.session.Awaited.{Awaited}
use Rattle.dnp_outstation.specs.declared.session.LastRequest.{LastRequest}
use Rattle.dnp_outstation.specs.declared.session.Reply.TheVariants as reply
use Rattle.dnp_outstation.specs.declared.session.Unsolicited.{Unsolicited}
use Rattle.dnp_outstation.specs.Items.{Source}
use Rattle.dnp_outstation.specs.Offer.{pushed}
use Rattle.dnp_outstation.specs.Laws.{IsTidy}
use Rattle.dnp_outstation.specs.Said.{AreWritable}
use Rattle.dnp_outstation.specs.Links.{Reports, KeepsConnection, EndsAs, Performs, ExecutesNothing, CaseSays, IsInOrder, unsolicited_confirmed}
use Rattle.dnp_outstation.specs.State.{Core, State, Step, nothing, sending, still, holds_read}
use Rattle.dnp_outstation.specs.Content.{Content, content_of, content_from, read_content, source_of}
use Rattle.dnp_outstation.specs.Controls.{content_at}
use Rattle.dnp_outstation.specs.Connection.{control_for, control_in, fragment_of, function_in, unsolicited_of, case_of, waiting, replied, discarding, at_end, solicited_timer, closed}
use Rattle.dnp_outstation.specs.Calls.{connection_after, tick_of}
use Rattle.dnp_outstation.specs.Tidy.{LeavesNothing}
use Rattle.dnp_world.specs.Lanes.{HasLanes}
use Rattle.dnp_world.specs.LawLink.{LawLink}
use Rattle.dnp_world.specs.Moves.{released}

-- of an unsolicited response, and of the end of a call
pub record EndLaws : Type 0 where
  pub unsolicited : (s : State) → IsSoundBuffer s.lanes → length s.core.enabled ≤ 3 → s.core.session.next < 16
      → (let content : Content = content_from (pushed s.lanes s.core.enabled) in
      Reports s.lanes (unsolicited_of s content) (record { fir = true; fin = true; con = true; uns = true; seq = s.core.session.next }) content.upto)
  pub ends : (now : ℕ) (step : Step) → EndsAs now step

-- of the answer to a request
pub record AnswerLaws : Type 0 where
  pub writable : (s : Source) → points.IsSoundDatabase s.points → s.panel.outputs ≤ 2 ^ 16
      → ((index : ℕ) → index < s.panel.outputs → s.panel.status index < 2 ^ 8) → AreWritable s
  pub answer : (s after : State) (o : Panel) (now : ℕ) (octets : List ℕ) (seq : ℕ) (content : Content) → IsSoundBuffer s.lanes → AreWritable (source_of s o)
      → All (λ octet. octet < 2 ^ 8) octets → seq < 16 → (content_at s o now octets).content ≡ Some content
      → Reports s.lanes (fragment_of after true seq content) (control_for true seq content) content.upto
  pub keeps : (s : State) (o : Panel) (now : ℕ) (octets : List ℕ) → KeepsConnection s (content_at s o now octets).state
  pub ids : (s : State) (o : Panel) (now : ℕ) (octets : List ℕ) (content : Content) → (content_at s o now octets).content ≡ Some content
      → length content.upto ≡ LANES

-- of lanes from which a confirm releases rows
pub record ReleaseLaws : Type 0 where
  pub left : (s : EventBuffer) (upto : List ℕ) (l : LawLink) → length upto ≡ length s.lanes → HasLanes s l → HasLanes (without s upto) (released upto l)
  pub given : (s : EventBuffer) (upto : List ℕ) (l : LawLink) → length upto ≡ length s.lanes → HasLanes s l
      → map buffered_row (released upto l).released ≡ map buffered_row l.released ++ all_up_to s upto
  pub sound : (s : EventBuffer) (upto : List ℕ) → IsSoundBuffer s → length upto ≡ LANES → IsSoundBuffer (without s upto)

-- of a response that goes on after a confirm
pub record FurtherLaws : Type 0 where
  pub tidy : (s : State) (w : Awaited) (last : LastRequest) (place : ReadPlace) → IsSoundBuffer s.lanes → LeavesNothing s → s.core.session.awaited ≡ Some w
      → s.core.session.last ≡ Some last → last.left ≡ Some place → IsTidy (without s.lanes w.upto) place.given × (length place.given ≡ LANES)
  pub further : (s : State) (o : Panel) (stood : ℕ) (place : ReadPlace) (headers : List Head) (seq : ℕ) → IsSoundBuffer s.lanes → AreWritable (source_of s o)
      → IsTidy s.lanes place.given → length place.given ≡ LANES → seq < 16
      → (let content : Content = read_content s o stood place headers in
      Reports s.lanes (fragment_of s false seq content) (control_for false seq content) content.upto)
  pub ids : (s : State) (o : Panel) (stood : ℕ) (place : ReadPlace) (headers : List Head) → length (read_content s o stood place headers).upto ≡ LANES

-- of a READ that is held until an unsolicited response is confirmed
pub record HeldLaws : Type 0 where
  pub held : (s after : State) (o : Panel) (octets : List ℕ) (seq : ℕ) (content : Content) → IsSoundBuffer s.lanes → AreWritable (source_of s o) → seq < 16
      → (content_of s o octets).content ≡ Some content
      → Reports s.lanes (fragment_of after true seq content) (control_for true seq content) content.upto
  pub keeps : (s : State) (o : Panel) (octets : List ℕ) → KeepsConnection s (content_of s o octets).state
  pub answers : (s : State) (o : Panel) (octets : List ℕ) → IsSome (content_of s o octets).content
  pub ids : (s : State) (o : Panel) (octets : List ℕ) (content : Content) → (content_of s o octets).content ≡ Some content
      → length content.upto ≡ LANES
  pub answered : (s : State) (o : Panel) (now : ℕ) (octets : List ℕ) (w : Unsolicited) (last : LastRequest)
      → case_of s.core octets ≡ case.ConfirmsUnsolicited → s.core.session.unsolicited ≡ Some w → s.core.session.last ≡ Some last → last.reply ≡ reply.Held
      → (let request : List ℕ = s.core.session.request in connection_after s o now octets
      ≡ at_end now (discarding s w.upto (replied now (control_in request).seq (content_of (unsolicited_confirmed s w) o request))))
  pub none_held : (s : State) (o : Panel) (now : ℕ) (octets : List ℕ) (w : Unsolicited) → case_of s.core octets ≡ case.ConfirmsUnsolicited
      → s.core.session.unsolicited ≡ Some w → holds_read s.core.session.last ≡ false
      → connection_after s o now octets ≡ at_end now (discarding s w.upto (still (unsolicited_confirmed s w)))
  pub waits : (s : State) (o : Panel) (now : ℕ) (octets : List ℕ) → case_of s.core octets ≡ case.Waits
      → connection_after s o now octets ≡ still (record s { core = waiting s.core octets })

-- of what comes
pub record CallLaws : Type 0 where
  pub says : (c : Core) (octets : List ℕ) → CaseSays c octets (case_of c octets)
  pub performed : (s : State) (o : Panel) (now : ℕ) (octets : List ℕ) → Performs o octets s.performed (connection_after s o now octets).state.performed
  pub only : (s : State) (o : Panel) (now : ℕ) (octets : List ℕ) → function_in octets ≢ function_octet function.Operate
      → function_in octets ≢ function_octet function.DirectOperate → function_in octets ≢ function_octet function.DirectOperateNr
      → (connection_after s o now octets).state.performed ≡ s.performed
  pub again : (s : State) (o : Panel) (now : ℕ) (octets : List ℕ) → case_of s.core octets ≡ case.Again
      → ExecutesNothing s (connection_after s o now octets).state
  pub order : (s : State) (o : Panel) (now : ℕ) (octets : List ℕ) → IsInOrder s.core → IsInOrder (connection_after s o now octets).state.core
  pub tidy : (s : State) (o : Panel) (now : ℕ) (octets : List ℕ) → IsSoundBuffer s.lanes → LeavesNothing s
      → LeavesNothing (connection_after s o now octets).state

-- of time
pub record TimerLaws : Type 0 where
  pub closed_ticks : (s : State) (now : ℕ) → s.core.is_open ≡ false → tick_of s now ≡ still s
  pub none : (s : State) (now : ℕ) → s.core.is_open ≡ true → s.core.session.unsolicited ≡ None
      → tick_of s now ≡ at_end now (still (record s { core = solicited_timer s.core now }))
  pub waits : (s : State) (now : ℕ) (w : Unsolicited) → s.core.is_open ≡ true → s.core.session.unsolicited ≡ Some w → now < w.ends
      → tick_of s now ≡ still (record s { core = solicited_timer s.core now })
  pub repeats : (s : State) (now : ℕ) (w : Unsolicited) → s.core.is_open ≡ true → s.core.session.unsolicited ≡ Some w → w.ends ≤ now
      → holds_read s.core.session.last ≡ false → w.repeats < s.core.times.retries
      → (let core : Core = solicited_timer s.core now in tick_of s now ≡ record {
        state = record s {
          core = record core {
            session = record core.session {
              unsolicited = Some (record w { ends = deadline now s.core.times.confirm_ms; repeats = w.repeats + 1 });
            };
          };
        };
        does = sending s.core.session.unsolicited_response;
      })
  pub closes : (s : State) (now : ℕ) (w : Unsolicited) → s.core.is_open ≡ true → s.core.session.unsolicited ≡ Some w → w.ends ≤ now
      → (holds_read s.core.session.last ≡ true) ⊎ (s.core.times.retries ≤ w.repeats)
      → tick_of s now ≡ record { state = record s { core = closed s.core }; does = record nothing { close = true } }
  pub performed : (s : State) (now : ℕ) → (tick_of s now).state.performed ≡ s.performed
  pub order : (s : State) (now : ℕ) → IsInOrder s.core → IsInOrder (tick_of s now).state.core
  pub tidy : (s : State) (now : ℕ) → LeavesNothing s → LeavesNothing (tick_of s now).state
