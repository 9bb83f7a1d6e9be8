-- The select that stands at an outstation that carries out one command of a request, whatever is called.
use Rattle.std.proofs.Common.{◌≡◌, ◌⊎◌, inl, inr, ℕ, ◌+◌, Bool, true, false, not, ◌&&◌, ◌||◌, ◌==◌, if◌then◌else◌, nat_le, List, [], Option, None, Some, refl, sym, ◌∙◌, subst}
use Rattle.dnp_appfragment.specs.declared.function.Function.TheVariants as function
use Rattle.dnp_appfragment.specs.Table.{function_octet}
use Rattle.dnp_controls.specs.Panel.{Panel}
use Rattle.dnp_controls.specs.Selecting.{Select, deadline}
use Rattle.dnp_outstation.specs.Calls.{connection_after, opened_of, received, tick_of}
use Rattle.dnp_outstation.specs.Connection.{asked, at_end, case_of, closed, control_in, function_in, has_ended, has_enabled_rows, on_request, replied, solicited_timer, starts, unsolicited_timer}
use Rattle.dnp_outstation.specs.Content.{Content, Executed, content_from, content_of, plain}
use Rattle.dnp_outstation.specs.Controls.{content_at, control_content}
use Rattle.dnp_outstation.specs.Links.{CaseSays, ExecutesNothing, IsMade}
use Rattle.dnp_outstation.specs.Offer.{pushed}
use Rattle.dnp_outstation.specs.State.{Core, State, Step, holds_read, is_free, new_session, nothing, sending, still, with_session}
use Rattle.dnp_outstation.specs.declared.case.Case.{Case}
use Rattle.dnp_outstation.specs.declared.case.Case.TheVariants.{PassedOver, Confirms, ConfirmsUnsolicited, Stray, Again, Waits, Asks}
use Rattle.dnp_outstation.specs.declared.session.Awaited.{Awaited}
use Rattle.dnp_outstation.specs.declared.session.Unsolicited.{Unsolicited}
use Rattle.dnp_concentrator.specs.Reserving.{NamesOne}
use Rattle.dnp_concentrator.proofs.OneNamed.{control_one}

-- ---- the end of a call leaves the select

ended_same : (now : ℕ) (step : Step) → (at_end now step).state.core.session.selects ≡ step.state.core.session.selects
ended_same now step =
    by (step.state.core.times.unsolicited &&
    (step.state.core.announced && (step.state.core.is_open && (is_free step.state.core && has_enabled_rows step.state))))
  where
    by : (b : Bool) → (if b then starts step now (content_from (pushed step.state.lanes step.state.core.enabled)) else step).state.core.session.selects
        ≡ step.state.core.session.selects
    by true = refl
    by false = refl

replied_same : (now seq : ℕ) (x : Executed) → (replied now seq x).state.core.session.selects ≡ x.state.core.session.selects
replied_same now seq x = go x.content
  where
    go : (content : Option Content)
        → (replied now seq (record { state = x.state; content = content; time = x.time })).state.core.session.selects ≡ x.state.core.session.selects
    go None = refl
    go (Some content) = refl

-- ---- a SELECT

-- what a request begins with is what stood, or nothing
asked_one : (s : State) (octets : List ℕ) → NamesOne s.core.session.selects → NamesOne (asked s octets).core.session.selects
asked_one s octets kept = by (function_in octets == function_octet function.Operate)
  where
    by : (b : Bool) → NamesOne (if b then s.core.session.selects else None)
    by true = kept
    by false = tt {0}

content_one : (s : State) (o : Panel) (now : ℕ) (octets : List ℕ) → o.most ≡ 1 → NamesOne s.core.session.selects
    → function_in octets ≡ function_octet function.Select → NamesOne (content_at s o now octets).state.core.session.selects
content_one s o now octets one kept select =
    subst (λ (n : ℕ). NamesOne (if nat_le 3 n && nat_le n 6 then control_content s o now octets else content_of s o octets).state.core.session.selects)
    (sym select) (control_one s o now octets one kept)

-- a select that this request made
made_stands : (s : State) (o : Panel) (now : ℕ) (octets : List ℕ) → o.most ≡ 1 → NamesOne s.core.session.selects
    → ((case_of s.core octets ≡ Again) → ExecutesNothing s (connection_after s o now octets).state)
    → function_in octets ≡ function_octet function.Select → (case : Case) → case_of s.core octets ≡ case → CaseSays s.core octets case
    → NamesOne (connection_after s o now octets).state.core.session.selects
made_stands s o now octets one kept again select PassedOver is says =
    subst (λ (k : Case). NamesOne (received s o now octets k).state.core.session.selects) (sym is) kept
made_stands s o now octets one kept again select Confirms is says = absurd (let no = sym select ∙ says.function_is in cc)
made_stands s o now octets one kept again select ConfirmsUnsolicited is says = absurd (let no = sym select ∙ says.function_is in cc)
made_stands s o now octets one kept again select Stray is says = absurd (let no = sym select ∙ says.function_is in cc)
made_stands s o now octets one kept again select Again is says = subst NamesOne (sym (again is).selects) kept
made_stands s o now octets one kept again select Waits is says = absurd (let no = sym select ∙ says.1 in cc)
made_stands s o now octets one kept again select Asks is says =
    subst (λ (k : Case). NamesOne (received s o now octets k).state.core.session.selects) (sym is)
    (subst NamesOne
    (sym (ended_same now (on_request s o now octets) ∙ replied_same now (control_in octets).seq (content_at (asked s octets) o now octets)))
    (content_one (asked s octets) o now octets one (asked_one s octets kept) select))

-- ---- the calls

pub received_one : (s : State) (o : Panel) (now : ℕ) (octets : List ℕ) → o.most ≡ 1 → NamesOne s.core.session.selects
    → ((select : Select) → (connection_after s o now octets).state.core.session.selects ≡ Some select
    → (s.core.session.selects ≡ Some select) ⊎ IsMade now octets select)
    → ((case_of s.core octets ≡ Again) → ExecutesNothing s (connection_after s o now octets).state)
    → CaseSays s.core octets (case_of s.core octets)
    → NamesOne (connection_after s o now octets).state.core.session.selects
received_one s o now octets one kept made again says = by (connection_after s o now octets).state.core.session.selects refl
  where
    by : (after : Option Select) → (connection_after s o now octets).state.core.session.selects ≡ after → NamesOne after
    by None is = tt {0}
    by (Some select) is = elim (made select is) [
      | inl stood ↦ subst NamesOne stood kept
      | inr m ↦ subst NamesOne is (made_stands s o now octets one kept again m.function_is (case_of s.core octets) refl says)
    ]

pub opened_one : (s : State) (now : ℕ) → NamesOne (opened_of s now).state.core.session.selects
opened_one s now = by (s.core.times.unsolicited && not s.core.announced)
  where
    begun : State
    begun = record s { core = record s.core { is_open = true; session = new_session } }

    by : (b : Bool) → NamesOne (if b then starts (still begun) now (plain 0 []) else at_end now (still begun)).state.core.session.selects
    by true = tt {0}
    by false = subst NamesOne (sym (ended_same now (still begun))) (tt {0})

solicited_same : (c : Core) (now : ℕ) → (solicited_timer c now).session.selects ≡ c.session.selects
solicited_same c now = go c.session.awaited
  where
    go : (awaited : Option Awaited)
        → (solicited_timer (record c { session = record c.session { awaited = awaited } }) now).session.selects ≡ c.session.selects
    go None = refl
    go (Some w) = by (has_ended now w.ends)
      where
        by : (b : Bool) → (if b then record c { session = record c.session { awaited = None } }
            else record c { session = record c.session { awaited = Some w } }).session.selects ≡ c.session.selects
        by true = refl
        by false = refl

unsolicited_one : (s : State) (now : ℕ) → NamesOne s.core.session.selects → NamesOne (unsolicited_timer s now).state.core.session.selects
unsolicited_one s now kept = go s.core.session.unsolicited
  where
    waiting : Option Unsolicited → State
    waiting unsolicited = with_session s (record s.core.session { unsolicited = unsolicited })

    go : (unsolicited : Option Unsolicited)
        → NamesOne (unsolicited_timer (with_session s (record s.core.session { unsolicited = unsolicited })) now).state.core.session.selects
    go None = kept
    go (Some w) = by (not (has_ended now w.ends)) (holds_read s.core.session.last || nat_le s.core.times.retries w.repeats)
      where
        again : Step
        again = record {
          state = with_session s (record s.core.session {
            unsolicited = Some (record w { ends = deadline now s.core.times.confirm_ms; repeats = w.repeats + 1 });
          });
          does = sending s.core.session.unsolicited_response;
        }

        ends : Step
        ends = record {
          state = record s { core = closed (record s.core { session = record s.core.session { unsolicited = Some w } }) };
          does = record nothing { close = true };
        }

        by : (b c : Bool)
            → NamesOne (if b then still (with_session s (record s.core.session { unsolicited = Some w })) else if c then ends else again).state.core.session.selects
        by true c = kept
        by false true = tt {0}
        by false false = kept

pub ticked_one : (s : State) (now : ℕ) → NamesOne s.core.session.selects → NamesOne (tick_of s now).state.core.session.selects
ticked_one s now kept = by s.core.is_open
  where
    after : State
    after = record s { core = solicited_timer s.core now }

    by : (b : Bool) → NamesOne (if b then at_end now (unsolicited_timer after now) else still s).state.core.session.selects
    by true =
        subst NamesOne (sym (ended_same now (unsolicited_timer after now)))
        (unsolicited_one after now (subst NamesOne (sym (solicited_same s.core now)) kept))
    by false = kept
