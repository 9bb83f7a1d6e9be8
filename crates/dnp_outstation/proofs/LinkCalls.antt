-- What calls leave alone, and when they send nothing.
use Rattle.std.proofs.Common.{◌≡◌, ◌≢◌, inl, inr, Bool, true, false, if◌then◌else◌, refl, ap, ℕ, ◌==◌, ◌&&◌, ◌||◌, not, nat_le, nat_lt, is_none, List, [], length, Option, None, Some, IsSome, option_to_list}
use Rattle.std.proofs.lemmas.Bool.{and_parts, and_left, and_right}
use Rattle.dnp_objects.specs.declared.lane.LaneRow.{LaneRow}
use Rattle.dnp_objects.specs.declared.limits.TheConstants.{MAX_FRAGMENT}
use Rattle.dnp_objects.specs.declared.row.Kind.{Kind}
use Rattle.dnp_pointdb.specs.Database.{changed_of}
use Rattle.dnp_pointdb.specs.declared.reading.Reading.{Reading}
use Rattle.dnp_appfragment.specs.declared.function.Function.TheVariants as function
use Rattle.dnp_appfragment.specs.Table.{function_octet}
use Rattle.dnp_controls.specs.Panel.{Panel}
use Rattle.dnp_eventbuf.specs.EventBuffer.{with_rows, dropped_by}
use Rattle.dnp_outstation.specs.declared.case.Case.TheVariants.{PassedOver}
use Rattle.dnp_outstation.specs.Offer.{pushed}
use Rattle.dnp_outstation.specs.State.{Core, State, Step, nothing, still, holds_read, is_free}
use Rattle.dnp_outstation.specs.Content.{content_from, content_of}
use Rattle.dnp_outstation.specs.Controls.{content_at}
use Rattle.dnp_outstation.specs.Connection.{is_looked_at, control_in, function_in, case_of, starts, at_end, has_enabled_rows}
use Rattle.dnp_outstation.specs.Calls.{received, connection_after, tick_of, change_of}
use Rattle.dnp_outstation.specs.Links.{KeepsConnection, EndsAs}
use Rattle.dnp_outstation.proofs.ContentOf.{AnyHeaders, any_fine, content_answered, content_done, content_some}

-- ---- content

pub content_keeps : (s : State) (o : Panel) (now : ℕ) (octets : List ℕ) → KeepsConnection s (content_at s o now octets).state
content_keeps s o now octets = (content_done AnyHeaders s o now octets (any_fine octets)).keeps

pub held_keeps : (s : State) (o : Panel) (octets : List ℕ) → KeepsConnection s (content_of s o octets).state
held_keeps s o octets = (content_answered AnyHeaders s o tt tt octets).done.keeps

pub request_some : (s : State) (o : Panel) (now : ℕ) (octets : List ℕ) → function_in octets ≢ function_octet function.DirectOperateNr
    → IsSome (content_at s o now octets).content
request_some s o now octets other = content_some AnyHeaders s o now octets (any_fine octets) other

pub held_some : (s : State) (o : Panel) (octets : List ℕ) → IsSome (content_of s o octets).content
held_some s o octets = (content_answered AnyHeaders s o tt tt octets).some

-- ---- closed

closed_case : (c : Core) (octets : List ℕ) → c.is_open ≡ false → case_of c octets ≡ PassedOver
closed_case c octets closed =
    let none : is_looked_at c octets ≡ false =
    ap (λ (opened : Bool). (opened && (nat_le 2 (length octets) && nat_le (length octets) MAX_FRAGMENT))
    && (((control_in octets).fir && (control_in octets).fin)
    && (nat_lt (function_in octets) 129 && (not (control_in octets).uns || function_in octets == 0)))) closed
    in
    rw none refl

pub closed_received : (s : State) (o : Panel) (now : ℕ) (octets : List ℕ) → s.core.is_open ≡ false → connection_after s o now octets ≡ still s
closed_received s o now octets closed = ap (received s o now octets) (closed_case s.core octets closed)

pub closed_ticked : (s : State) (now : ℕ) → s.core.is_open ≡ false → tick_of s now ≡ still s
closed_ticked s now closed = rw closed refl

-- a closed outstation starts nothing at the end
pub closed_end : (now : ℕ) (step : Step) → step.state.core.is_open ≡ false → at_end now step ≡ step
closed_end now step closed =
    ap (λ (b : Bool). if b then starts step now (content_from (pushed step.state.lanes step.state.core.enabled)) else step)
    (and_right (step.state.core.times.unsolicited)
    (step.state.core.announced && (step.state.core.is_open && (is_free step.state.core && has_enabled_rows step.state)))
    (and_right step.state.core.announced (step.state.core.is_open && (is_free step.state.core && has_enabled_rows step.state))
    (and_left step.state.core.is_open (is_free step.state.core && has_enabled_rows step.state) closed)))

pub closed_changed : (s : State) (now : ℕ) (kind : Kind) (index : ℕ) (reading : Reading) (made : Option LaneRow) → s.core.is_open ≡ false
    → (change_of s now kind index reading made).does.send ≡ []
closed_changed s now kind index reading made closed =
    let after : State =
    record s { core = record s.core { points = changed_of s.core.points kind index reading }; lanes = with_rows s.lanes (option_to_list made) } in
    ap (λ (step : Step). step.does.send)
    (closed_end now (record { state = after; does = record nothing { overwritten = dropped_by s.lanes (option_to_list made) } }) closed)

-- ---- the end of a call

none_is : {A : Type 0} (o : Option A) → is_none o ≡ true → o ≡ None
none_is None is = refl
none_is (Some x) is = cc

is_false : (b : Bool) → not b ≡ true → b ≡ false
is_false true is = cc
is_false false is = refl

starts_by : (on announced opened free rows : Bool) → (on && (announced && (opened && (free && rows)))) ≡ true
    → (on ≡ true) × (announced ≡ true) × (opened ≡ true) × (free ≡ true)
starts_by on announced opened free rows is =
    let a = and_parts on (announced && (opened && (free && rows))) is in
    let b = and_parts announced (opened && (free && rows)) a.1 in
    let c = and_parts opened (free && rows) b.1 in
    let d = and_parts free rows c.1 in
    (a.0, b.0, c.0, d.0)

pub ends_as : (now : ℕ) (step : Step) → EndsAs now step
ends_as now step =
    by (step.state.core.times.unsolicited &&
    (step.state.core.announced && (step.state.core.is_open && (is_free step.state.core && has_enabled_rows step.state)))) refl
  where
    by : (b : Bool)
        → (step.state.core.times.unsolicited &&
        (step.state.core.announced && (step.state.core.is_open && (is_free step.state.core && has_enabled_rows step.state)))) ≡ b
        → EndsAs now step
    by false is = inl (ap (λ (b : Bool). if b then starts step now (content_from (pushed step.state.lanes step.state.core.enabled)) else step) is)
    by true is =
        let both = starts_by (step.state.core.times.unsolicited) step.state.core.announced step.state.core.is_open (is_free step.state.core)
        (has_enabled_rows step.state) is in
        let awaits =
        and_parts (is_none step.state.core.session.awaited)
        (is_none step.state.core.session.unsolicited && not (holds_read step.state.core.session.last)) both.3 in
        let others = and_parts (is_none step.state.core.session.unsolicited) (not (holds_read step.state.core.session.last)) awaits.1 in
        inr (record {
          is_open = both.2;
          awaits_none = none_is step.state.core.session.awaited awaits.0;
          awaits_no_unsolicited = none_is step.state.core.session.unsolicited others.0;
          holds_none = is_false (holds_read step.state.core.session.last) others.1;
          is_on = both.0;
          is_announced = both.1;
          is = ap (λ (b : Bool). if b then starts step now (content_from (pushed step.state.lanes step.state.core.enabled)) else step) is;
        })
