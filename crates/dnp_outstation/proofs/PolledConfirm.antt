-- What an outstation makes of the confirm of what was polled, and of that of an unsolicited response.
use Rattle.std.proofs.Common.{◌≡◌, ◌≢◌, Bool, true, false, not, ◌&&◌, ◌||◌, ◌==◌, if◌then◌else◌, refl, ap, ◌∙◌, ℕ, ◌<◌, nat_le, nat_lt, List, length, Option, Some, option_map, eq-eqb}
use Rattle.dnp_appfragment.specs.Control.{ControlBits}
use Rattle.dnp_appfragment.specs.Fragments.{confirmation, request_octets}
use Rattle.dnp_appfragment.specs.Table.{function_octet}
use Rattle.dnp_appfragment.specs.declared.function.Function.TheVariants as function
use Rattle.dnp_controls.specs.Panel.{Panel}
use Rattle.dnp_eventbuf.specs.Sound.{IsSoundBuffer}
use Rattle.dnp_eventbuf.specs.EventBuffer.{all_up_to, without}
use Rattle.dnp_objects.specs.declared.limits.TheConstants.{MAX_FRAGMENT}
use Rattle.dnp_outstation.specs.Calls.{connection_after}
use Rattle.dnp_outstation.specs.Connection.{awaited_number, case_of, control_in, function_in, is_number}
use Rattle.dnp_outstation.specs.Links as links
use Rattle.dnp_outstation.specs.State.{Core, State}
use Rattle.dnp_outstation.specs.declared.case.Case.{Case}
use Rattle.dnp_outstation.specs.declared.case.Case.TheVariants.{Confirms, ConfirmsUnsolicited, PassedOver, Stray}
use Rattle.dnp_outstation.specs.declared.session.Awaited.{Awaited}
use Rattle.dnp_outstation.specs.declared.session.Unsolicited.{Unsolicited}
use Rattle.dnp_outstation.specs.Polled.{Awaits, ReleasesPolled, confirm_octets, polled_ids}
use Rattle.dnp_outstation.proofs.PolledAnswer.{ControlLaw}
use Rattle.dnp_outstation.proofs.PolledOrder.{released_is}

-- what lower crates promise of a control octet, and the crate of outstations of a confirm
pub record ConfirmLaws : Type 0 where
  pub is_control : ControlLaw
  pub releases : (s : State) (o : Panel) (now : ℕ) (octets : List ℕ) (w : Awaited) → case_of s.core octets ≡ Confirms
      → s.core.session.awaited ≡ Some w → links.Releases s w.upto (connection_after s o now octets)
  pub only : (s : State) (o : Panel) (now : ℕ) (octets : List ℕ) → function_in octets ≢ function_octet function.Operate
      → function_in octets ≢ function_octet function.DirectOperate → function_in octets ≢ function_octet function.DirectOperateNr
      → (connection_after s o now octets).state.performed ≡ s.performed

abbrev confirm_control : ℕ → Bool → ControlBits
confirm_control seq uns = record { fir = true; fin = true; con = false; uns = uns; seq = seq }

-- by its number, of whichever kind
confirms_by : ControlLaw → (c : Core) (seq : ℕ) (uns : Bool) → seq < 16 → c.is_open ≡ true
    → case_of c (request_octets (confirmation seq uns)) ≡ (if is_number (awaited_number c.session uns) seq then if uns then ConfirmsUnsolicited else Confirms else Stray)
confirms_by law c seq uns low opens =
    let octets : List ℕ = request_octets (confirmation seq uns) in
    let bits : ControlBits → Bool = λ k. (k.fir && k.fin) && (nat_lt (function_in octets) 129 && (not k.uns || function_in octets == 0)) in
    let by_number : ControlBits → Case = λ k.
    if is_number (awaited_number c.session k.uns) k.seq then if k.uns then ConfirmsUnsolicited else Confirms else Stray in
    ap (λ (b : Bool). if not ((b && (nat_le 2 (length octets) && nat_le (length octets) MAX_FRAGMENT)) && bits (control_in octets)) then PassedOver
    else by_number (control_in octets)) opens
    ∙ ap (λ (k : ControlBits). if not ((true && (nat_le 2 (length octets) && nat_le (length octets) MAX_FRAGMENT)) && bits k) then PassedOver
    else by_number k) (law (confirm_control seq uns) low)
    ∙ by uns
  where
    by : (b : Bool) → (if not (not b || true) then PassedOver else if is_number (awaited_number c.session b) seq then if b then ConfirmsUnsolicited else Confirms else Stray)
        ≡ (if is_number (awaited_number c.session b) seq then if b then ConfirmsUnsolicited else Confirms else Stray)
    by true = refl
    by false = refl

confirms : ControlLaw → (s : State) (seq : ℕ) (upto : List ℕ) → seq < 16 → s.core.is_open ≡ true → Awaits seq upto s
    → case_of s.core (confirm_octets seq) ≡ Confirms
confirms law s seq upto low opens awaits =
    confirms_by law s.core seq false low opens
    ∙ ap (λ (o : Option Awaited). if is_number (option_map (λ w. w.seq) o) seq then Confirms else Stray) awaits.is
    ∙ ap (λ (b : Bool). if b then Confirms else Stray) (eq-eqb awaits.wait.seq seq awaits.seq_is)

pub confirms_report : ControlLaw → (c : Core) (seq : ℕ) (w : Unsolicited) → seq < 16 → c.is_open ≡ true → c.session.unsolicited ≡ Some w → w.seq ≡ seq
    → case_of c (request_octets (confirmation seq true)) ≡ ConfirmsUnsolicited
confirms_report law c seq w low opens waits same =
    confirms_by law c seq true low opens
    ∙ ap (λ (o : Option Unsolicited). if is_number (option_map (λ x. x.seq) o) seq then ConfirmsUnsolicited else Stray) waits
    ∙ ap (λ (b : Bool). if b then ConfirmsUnsolicited else Stray) (eq-eqb w.seq seq same)

pub releases_rows : ConfirmLaws → (s : State) (o : Panel) (now seq : ℕ) → seq < 16 → IsSoundBuffer s.lanes → s.core.is_open ≡ true
    → Awaits seq (polled_ids s.lanes) s → ReleasesPolled s (connection_after s o now (confirm_octets seq))
releases_rows laws s o now seq low sound opens awaits =
    let r = laws.releases s o now (confirm_octets seq) awaits.wait (confirms laws.is_control s seq (polled_ids s.lanes) low opens awaits) awaits.is in
    record {
      lanes = r.lanes ∙ ap (without s.lanes) awaits.upto_is;
      discarded = r.discarded ∙ ap (all_up_to s.lanes) awaits.upto_is ∙ released_is s.lanes sound;
      performed = laws.only s o now (confirm_octets seq) (λ e. cc) (λ e. cc) (λ e. cc);
    }
