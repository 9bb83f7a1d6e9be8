-- What comes of a poll that is taken for the last request: nothing, or an unsolicited response that starts then.
use Rattle.std.proofs.Common.{◌≡◌, ◌≢◌, ℕ, ◌<◌, ◌≤◌, Bool, true, false, not, ◌&&◌, ◌||◌, ◌==◌, if◌then◌else◌, nat_le, nat_lt, List, length, Option, Some, is_none, is_some, option_map, Ok, Err, refl, sym, ap, ◌∙◌, subst, eq-eqb}
use Rattle.std.specs.List.{All}
use Rattle.std.proofs.lemmas.Bool.{and_parts}
use Rattle.std.proofs.lemmas.Option.{none-some, same_Some}
use Rattle.dnp_appfragment.specs.Control.{ControlBits, IsControl}
use Rattle.dnp_appfragment.specs.EventRows.{events_in}
use Rattle.dnp_appfragment.specs.Fragments.{Answered, confirmation, request_octets, response_octets}
use Rattle.dnp_appfragment.specs.Meaning.{response_at}
use Rattle.dnp_appfragment.specs.Table.{function_octet, is_response}
use Rattle.dnp_appfragment.specs.declared.function.Function.TheVariants as function
use Rattle.dnp_controls.specs.Panel.{Panel}
use Rattle.dnp_controls.specs.Selecting.{deadline}
use Rattle.dnp_eventbuf.specs.Sound.{IsSoundBuffer}
use Rattle.dnp_eventbuf.specs.EventBuffer.{EventBuffer, all_up_to, without}
use Rattle.dnp_master.specs.Calls.{Taking, asked, asking, heard, receive_of, report_taken, unheeded}
use Rattle.dnp_master.specs.Rows.{is_reported}
use Rattle.dnp_master.specs.State as master
use Rattle.dnp_master.specs.declared.fault.MasterFault.TheVariants.{Stranger}
use Rattle.dnp_objects.specs.declared.command.Command.{Command}
use Rattle.dnp_outstation.specs.Calls.{connection_after, received, with_that}
use Rattle.dnp_outstation.specs.Connection.{at_end, awaited_number, case_of, control_in, function_in, has_enabled_rows, is_last_request, is_number, on_again, starts, unsolicited_of}
use Rattle.dnp_outstation.specs.Content.{Content, content_from, indications}
use Rattle.dnp_outstation.specs.Controls.{is_control}
use Rattle.dnp_outstation.specs.Forms.{may_each}
use Rattle.dnp_outstation.specs.Items.{Item, enabled_lanes, lane_items}
use Rattle.dnp_outstation.specs.Layout.{headers_of}
use Rattle.dnp_outstation.specs.Links.{IsInOrder}
use Rattle.dnp_outstation.specs.Links as links
use Rattle.dnp_outstation.specs.Offer.{held_laid, offered_of, pushed}
use Rattle.dnp_outstation.specs.Polled.{Portion, no_rows, poll_octets, reported}
use Rattle.dnp_outstation.specs.State.{Core, State, Step, is_free, still}
use Rattle.dnp_outstation.specs.declared.case.Case.TheVariants.{Again, Asks, Confirms, ConfirmsUnsolicited, PassedOver, Stray, Waits}
use Rattle.dnp_outstation.specs.declared.session.LastRequest.{LastRequest}
use Rattle.dnp_outstation.specs.declared.session.Reply.{Reply}
use Rattle.dnp_outstation.specs.declared.session.Reply.TheVariants.{Further}
use Rattle.dnp_outstation.specs.declared.session.Unsolicited.{Unsolicited}
use Rattle.dnp_world.specs.Movement.{first_reported}
use Rattle.dnp_world.specs.Rounds.{events_polled}
use Rattle.dnp_world.proofs.PolledTaken.{SaidLaw, from_plan, polled_by}
use Rattle.dnp_world.proofs.RoundExchange.{AgainLaw, Answer, AreFit, Exchange, Exchanges, Frees, Passes, ReleaseLaw, master_after, polled_step}

abbrev report_confirm : ℕ → List ℕ
report_confirm seq = request_octets (confirmation seq true)

-- what lower crates promise of unsolicited responses
pub record ReportLaws : Type 0 where
  pub again : AgainLaw
  pub said : SaidLaw
  pub released : ReleaseLaw
  pub confirmed : (c : Core) (seq : ℕ) (w : Unsolicited) → seq < 16 → c.is_open ≡ true → c.session.unsolicited ≡ Some w → w.seq ≡ seq
      → case_of c (report_confirm seq) ≡ ConfirmsUnsolicited
  pub read : (answered : Answered) (s : EventBuffer) (enabled : List Bool) → answered.headers ≡ (pushed s enabled).headers → IsControl answered.control
      → is_response answered.function ≡ true → IsSoundBuffer s → length enabled ≤ 3 → response_at (response_octets answered) ≡ Ok answered
  pub releases : (s : State) (o : Panel) (now : ℕ) (octets : List ℕ) (w : Unsolicited) → case_of s.core octets ≡ ConfirmsUnsolicited
      → s.core.session.unsolicited ≡ Some w → links.Releases s w.upto (connection_after s o now octets)
  pub only : (s : State) (o : Panel) (now : ℕ) (octets : List ℕ) → function_in octets ≢ function_octet function.Operate
      → function_in octets ≢ function_octet function.DirectOperate → function_in octets ≢ function_octet function.DirectOperateNr
      → (connection_after s o now octets).state.performed ≡ s.performed

-- ---- the last request again, after its first fragment

-- the response went past its first fragment
pub record WentOn (s : State) : Type 0 where
  pub last : LastRequest
  pub is : s.core.session.last ≡ Some last
  pub further : last.reply ≡ Further

passed_over : AgainLaw → (s : State) (o : Panel) (now seq : ℕ) → seq < 16 → s.core.is_open ≡ true → is_last_request s.core.session (poll_octets seq) ≡ true
    → WentOn s → polled_step s o now seq ≡ at_end now (still s)
passed_over law s o now seq low opens again went =
    let octets : List ℕ = poll_octets seq in
    ap (received s o now octets) (law s.core seq low opens again)
    ∙ ap (λ (last : Option LastRequest). at_end now (with_that s last (on_again s now octets))) went.is
    ∙ ap (λ (reply : Reply). at_end now (on_again s now octets (record { reply = reply; stood = went.last.stood; left = went.last.left }))) went.further

-- ---- an unsolicited response

abbrev report_control : ℕ → ControlBits
report_control seq = record { fir = true; fin = true; con = true; uns = true; seq = seq }

-- what an unsolicited response of these classes is made of
pushed_headers : (s : EventBuffer) (enabled : List Bool) → (pushed s enabled).headers ≡ headers_of (held_laid may_each (lane_items s (enabled_lanes 0 enabled)))
unfolding offered_of
pushed_headers s enabled = refl

pushed_ids : (s : EventBuffer) (enabled : List Bool) → (pushed s enabled).upto ≡ (reported s enabled).ids
unfolding offered_of
pushed_ids s enabled = refl

module _ (laws : ReportLaws) (m : master.State) (now : ℕ) (s : State) (o : Panel) (fit : AreFit m s o) (order : IsInOrder s.core)
    (asked_for : All (λ row. is_reported m.plan row ≡ true) (reported s.lanes s.core.enabled).rows) where
  abbrev enabled : List Bool
  enabled = s.core.enabled

  opens : s.core.is_open ≡ true
  opens = (and_parts s.core.is_open (is_free s.core) fit.quiet).0

  abbrev content : Content
  content = content_from (pushed s.lanes enabled)

  abbrev next : ℕ
  next = s.core.session.next

  abbrev started : Step
  started = starts (still s) now content

  abbrev waits : Unsolicited
  waits = record { seq = next; upto = content.upto; ends = deadline now s.core.times.confirm_ms; repeats = 0 }

  abbrev said : Answered
  said = record {
    control = report_control next;
    function = function.UnsolicitedResponse;
    iin = indications s content.upto content.bits;
    headers = content.headers;
  }

  read_is : response_at (unsolicited_of s content) ≡ Ok said
  read_is = laws.read said s.lanes enabled refl order.number refl fit.sound order.classes

  rows_are : events_in said.headers ≡ (reported s.lanes enabled).rows
  rows_are =
      ap events_in (pushed_headers s.lanes enabled) ∙ laws.said s.lanes enabled fit.sound order.classes

  abbrev taken : Taking
  taken = report_taken (asking m now events_polled) said

  taken_is : receive_of (asked m now events_polled) now (unsolicited_of s content) ≡ Ok taken
  unfolding receive_of
  taken_is =
      let asked_once : master.State = asking m now events_polled in
      let octets : List ℕ = unsolicited_of s content in
      ap (λ (a : master.State). if a.is_open then heard a now (response_at octets) else Ok (unheeded a)) (polled_by m now fit.idle)
      ∙ ap (λ (b : Bool). if b then heard asked_once now (response_at octets) else Ok (unheeded asked_once))
      (and_parts m.is_open (is_none m.request) fit.idle).0
      ∙ ap (heard asked_once now) read_is
      ∙ ap (λ (b : Bool). if b then Ok taken else Err Stranger) (from_plan m.plan said (reported s.lanes enabled).rows rows_are asked_for)

  freed : (performed : List Command) (p : Panel) → Frees (reported s.lanes enabled) s.lanes performed
      (connection_after (record { core = started.state.core; lanes = started.state.lanes; performed = performed }) p now (report_confirm next))
  freed performed p =
      let after : State = record { core = started.state.core; lanes = started.state.lanes; performed = performed } in
      let r = laws.releases after p now (report_confirm next) waits
      (laws.confirmed after.core next waits order.number opens refl refl) refl in
      record {
        lanes = r.lanes ∙ ap (without s.lanes) (pushed_ids s.lanes enabled);
        discarded = r.discarded ∙ ap (all_up_to s.lanes) (pushed_ids s.lanes enabled) ∙ laws.released s.lanes enabled fit.sound order.classes;
        performed_is = laws.only after p now (report_confirm next) (λ e. cc) (λ e. cc) (λ e. cc);
      }

  exchanges : polled_step s o now m.seq ≡ started → Exchange m now s o (reported s.lanes enabled)
  exchanges is = record {
    fragment = unsolicited_of s content;
    sent = ap (λ (x : Step). x.does.send) is;
    discarded = ap (λ (x : Step). x.does.discarded) is;
    lanes = ap (λ (x : Step). x.state.lanes) is;
    performed = ap (λ (x : Step). x.state.performed) is;
    released = laws.released s.lanes enabled fit.sound order.classes;
    taken = taken;
    is_taken = taken_is;
    events = rows_are;
    confirm = Some (report_confirm next);
    confirm_is = refl;
    frees = λ octets e performed p.
        subst
        (λ (x : Step). Frees (reported s.lanes enabled) s.lanes performed
        (connection_after (record { core = x.state.core; lanes = x.state.lanes; performed = performed }) p now octets))
        (sym is)
        (subst
        (λ (x : List ℕ). Frees (reported s.lanes enabled) s.lanes performed
        (connection_after (record { core = started.state.core; lanes = started.state.lanes; performed = performed }) p now x))
        (same_Some (report_confirm next) octets e) (freed performed p));
    none = λ e. absurd (none-some (report_confirm next) (sym e));
    no_control = λ octets e. ap is_control (sym (same_Some (report_confirm next) octets e));
  }

  -- ---- nothing, or that

  -- what comes of it, and the master waits on
  pub record Repeated (portion : Portion) : Type 0 where
    pub answer : Answer m now s o portion
    pub busy : is_some (master_after m now s o portion answer).request ≡ true

  abbrev starts_report : Bool
  starts_report = s.core.times.unsolicited && (s.core.announced && (s.core.is_open && (is_free s.core && has_enabled_rows s)))

  by_end : (b : Bool) → polled_step s o now m.seq ≡ (if b then started else still s) → Repeated (if b then reported s.lanes enabled else no_rows)
  unfolding exchanges
  by_end true is = record { answer = Exchanges (exchanges is); busy = refl }
  by_end false is = record { answer = Passes is refl; busy = ap (λ (a : master.State). is_some a.request) (polled_by m now fit.idle) }

  pub repeated : is_last_request s.core.session (poll_octets m.seq) ≡ true → WentOn s → Repeated (first_reported s)
  repeated again went = by_end starts_report (passed_over laws.again s o now m.seq fit.seq opens again went)
