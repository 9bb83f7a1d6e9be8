-- What goes over a quiet link in a round: a fragment up, and its confirm down.
use Rattle.std.proofs.Common.{◌≡◌, ℕ, ◌<◌, ◌≤◌, ◌^◌, Bool, true, false, if◌then◌else◌, List, [], ◌∷◌, length, Option, Some, None, Ok, refl, sym, ap, ◌∙◌, subst, arith}
use Rattle.std.specs.List.{All}
use Rattle.std.proofs.lemmas.Option.{none-some, same_Some}
use Rattle.dnp_controls.specs.Panel.{Panel}
use Rattle.dnp_eventbuf.specs.Sound.{IsSoundBuffer}
use Rattle.dnp_eventbuf.specs.EventBuffer.{EventBuffer, all_up_to, without}
use Rattle.dnp_master.specs.Calls.{Taking, ask_answer, asked, receive_of}
use Rattle.dnp_master.specs.Rows.{is_reported}
use Rattle.dnp_master.specs.State as master
use Rattle.dnp_objects.specs.declared.command.Command.{Command}
use Rattle.dnp_outstation.specs.Calls.{connection_after}
use Rattle.dnp_outstation.specs.Connection.{case_of, is_last_request}
use Rattle.dnp_outstation.specs.Content.{source_of}
use Rattle.dnp_outstation.specs.Controls.{is_control}
use Rattle.dnp_outstation.specs.Items.{Source}
use Rattle.dnp_outstation.specs.Polled.{Awaits, Offers, Portion, ReleasesPolled, confirm_octets, no_rows, poll_octets, polled, polled_ids, polled_rows, reported}
use Rattle.dnp_outstation.specs.Said.{AreWritable}
use Rattle.dnp_outstation.specs.State.{Core, State, Step, is_quiet, still}
use Rattle.dnp_outstation.specs.declared.case.Case.TheVariants.{Again}
use Rattle.dnp_pointdb.specs.Sound as points
use Rattle.dnp_world.specs.Polled.{Takes}
use Rattle.dnp_world.specs.Rounds.{events_polled}

-- a release of a fragment's ids takes its rows, in their order
abbrev pub ReleaseLaw : Type 0
ReleaseLaw = (s : EventBuffer) (enabled : List Bool) → IsSoundBuffer s → length enabled ≤ 3 → all_up_to s (reported s enabled).ids ≡ (reported s enabled).rows

-- the READ of an open outstation's last request is recognized
abbrev pub AgainLaw : Type 0
AgainLaw = (c : Core) (seq : ℕ) → seq < 16 → c.is_open ≡ true → is_last_request c.session (poll_octets seq) ≡ true
    → case_of c (poll_octets seq) ≡ Again

-- what is promised of the two stations
pub record StationLaws : Type 0 where
  pub offered : (s : State) (o : Panel) (now seq : ℕ) → IsSoundBuffer s.lanes → AreWritable (source_of s o) → is_quiet s.core ≡ true → seq < 16
      → is_last_request s.core.session (poll_octets seq) ≡ false → Offers seq s (connection_after s o now (poll_octets seq))
  pub confirmed : (s : State) (o : Panel) (now seq : ℕ) → seq < 16 → IsSoundBuffer s.lanes → s.core.is_open ≡ true
      → Awaits seq (polled_ids s.lanes) s → ReleasesPolled s (connection_after s o now (confirm_octets seq))
  pub again : AgainLaw
  pub released : ReleaseLaw
  pub asks : (m : master.State) → master.is_idle m ≡ true → ask_answer m events_polled ≡ Ok (poll_octets m.seq)
  pub takes : (m : master.State) (before now : ℕ) (s : State) (step : Step) → master.is_idle m ≡ true → IsSoundBuffer s.lanes
      → (offer : Offers m.seq s step) → All (λ row. is_reported m.plan row ≡ true) (polled_rows s.lanes)
      → Takes m.seq (polled_rows s.lanes) offer.con (receive_of (asked m before events_polled) now offer.fragment)
  pub writable : (s : Source) → points.IsSoundDatabase s.points → s.panel.outputs ≤ 2 ^ 16
      → ((index : ℕ) → index < s.panel.outputs → s.panel.status index < 2 ^ 8) → AreWritable s

-- ---- the answer to a poll

abbrev pub polled_step : State → Panel → ℕ → ℕ → Step
polled_step s o now seq = connection_after s o now (poll_octets seq)

-- the portion leaves these lanes, and nothing is performed
pub record Frees (portion : Portion) (old : EventBuffer) (performed : List Command) (step : Step) : Type 0 where
  pub lanes : step.state.lanes ≡ without old portion.ids
  pub discarded : step.does.discarded ≡ portion.rows
  pub performed_is : step.state.performed ≡ performed

-- One fragment is sent back, of which the master takes the portion; where it asks for a confirm, that releases the portion, whatever
-- the outputs show by then.
pub record Exchange (m : master.State) (now : ℕ) (s : State) (o : Panel) (portion : Portion) : Type 0 where
  pub fragment : List ℕ
  pub sent : (polled_step s o now m.seq).does.send ≡ fragment ∷ []
  pub discarded : (polled_step s o now m.seq).does.discarded ≡ []
  pub lanes : (polled_step s o now m.seq).state.lanes ≡ s.lanes
  pub performed : (polled_step s o now m.seq).state.performed ≡ s.performed
  pub released : all_up_to s.lanes portion.ids ≡ portion.rows
  pub taken : Taking
  pub is_taken : receive_of (asked m now events_polled) now fragment ≡ Ok taken
  pub events : taken.events ≡ portion.rows
  pub confirm : Option (List ℕ)
  pub confirm_is : taken.confirm ≡ confirm
  pub frees : (octets : List ℕ) → confirm ≡ Some octets → (performed : List Command) (p : Panel)
      → Frees portion s.lanes performed (connection_after (record {
        core = (polled_step s o now m.seq).state.core;
        lanes = (polled_step s o now m.seq).state.lanes;
        performed = performed;
      }) p now octets)
  pub none : confirm ≡ None → portion.rows ≡ []
  pub no_control : (octets : List ℕ) → confirm ≡ Some octets → is_control octets ≡ false

-- a poll that is passed over moves no row
pub data Answer (m : master.State) (now : ℕ) (s : State) (o : Panel) (portion : Portion) : Type 0 where
  Exchanges : Exchange m now s o portion → Answer m now s o portion
  Passes : polled_step s o now m.seq ≡ still s → portion ≡ no_rows → Answer m now s o portion

-- the master then
abbrev pub master_after : (m : master.State) (now : ℕ) (s : State) (o : Panel) (portion : Portion) → Answer m now s o portion → master.State
master_after m now s o portion (Exchanges x) = x.taken.state
master_after m now s o portion (Passes still none) = asked m now events_polled

-- ---- what stands of the two stations

pub record AreFit (m : master.State) (s : State) (o : Panel) : Type 0 where
  pub idle : master.is_idle m ≡ true
  pub quiet : is_quiet s.core ≡ true
  pub sound : IsSoundBuffer s.lanes
  pub writable : AreWritable (source_of s o)
  pub seq : m.seq < 16

-- ---- a poll that is answered

pub polled_exchange : StationLaws → (m : master.State) (now : ℕ) (s : State) (o : Panel) → AreFit m s o
    → All (λ row. is_reported m.plan row ≡ true) (polled_rows s.lanes) → is_last_request s.core.session (poll_octets m.seq) ≡ false
    → Exchange m now s o (polled s.lanes)
polled_exchange laws m now s o fit asked_for other = record {
  fragment = offer.fragment;
  sent = offer.sent;
  discarded = offer.discarded;
  lanes = offer.lanes;
  performed = offer.performed;
  released = laws.released s.lanes (true ∷ true ∷ true ∷ []) fit.sound (omega arith);
  taken = took.taken;
  is_taken = took.is;
  events = took.events;
  confirm = if offer.con then Some (confirm_octets m.seq) else None;
  confirm_is = took.confirm;
  frees = frees;
  none = λ none. offer.none (no_confirm offer.con none);
  no_control = λ octets e. ap is_control (sym (a_confirm offer.con octets e).1);
}
  where
    offer : Offers m.seq s (polled_step s o now m.seq)
    offer = laws.offered s o now m.seq fit.sound fit.writable fit.quiet fit.seq other

    took : Takes m.seq (polled_rows s.lanes) offer.con (receive_of (asked m now events_polled) now offer.fragment)
    took = laws.takes m now now s (polled_step s o now m.seq) fit.idle fit.sound offer asked_for

    no_confirm : (b : Bool) → (if b then Some (confirm_octets m.seq) else None) ≡ None → b ≡ false
    no_confirm true e = absurd (none-some (confirm_octets m.seq) (sym e))
    no_confirm false e = refl

    a_confirm : (b : Bool) (octets : List ℕ) → (if b then Some (confirm_octets m.seq) else None) ≡ Some octets
        → (b ≡ true) × (confirm_octets m.seq ≡ octets)
    a_confirm true octets e = (refl, same_Some (confirm_octets m.seq) octets e)
    a_confirm false octets e = absurd (none-some octets e)

    frees : (octets : List ℕ) → (if offer.con then Some (confirm_octets m.seq) else None) ≡ Some octets → (performed : List Command) (p : Panel)
        → Frees (polled s.lanes) s.lanes performed (connection_after (record {
          core = (polled_step s o now m.seq).state.core;
          lanes = (polled_step s o now m.seq).state.lanes;
          performed = performed;
        }) p now octets)
    frees octets e performed p =
        let step : Step = polled_step s o now m.seq in
        let after : State = record { core = step.state.core; lanes = step.state.lanes; performed = performed } in
        let both = a_confirm offer.con octets e in
        let was : Awaits m.seq (polled_ids s.lanes) step.state = offer.awaits both.0 in
        let awaits : Awaits m.seq (polled_ids s.lanes) after = record { wait = was.wait; is = was.is; seq_is = was.seq_is; upto_is = was.upto_is } in
        let r : ReleasesPolled after (connection_after after p now (confirm_octets m.seq)) =
        laws.confirmed after p now m.seq fit.seq (subst IsSoundBuffer (sym offer.lanes) fit.sound) offer.is_open
        (subst (λ (lanes : EventBuffer). Awaits m.seq (polled_ids lanes) after) (sym offer.lanes) awaits) in
        subst (λ (x : List ℕ). Frees (polled s.lanes) s.lanes performed (connection_after after p now x)) both.1
        (record {
          lanes = r.lanes ∙ ap (λ (lanes : EventBuffer). without lanes (polled_ids lanes)) offer.lanes;
          discarded = r.discarded ∙ ap polled_rows offer.lanes;
          performed_is = r.performed;
        })
