-- A row after a common time: the time is put in front of it where it isn't the last one, and there is room for both or none.
use Rattle.std.proofs.Common.{◌≡◌, ℕ, ◌+◌, ◌<◌, ◌≤◌, Bool, true, false, cond, ◌&&◌, ◌||◌, Option, Some, None}
use Rattle.std.proofs.Common.{refl, sym, ap, subst, ◌∙◌, arith, nat_le, leb-true, le-leb, leb-false, ltb-true}
use Rattle.std.specs.Prelude.{slice_set}
use Rattle.std.specs.Option.{IsSomeAnd, unwrap_or}
use Rattle.std.proofs.lemmas.Bool.{and_parts}
use Rattle.dnp_objects.specs.Equality.{kind_eq}
use Rattle.dnp_objects.specs.Objects.{content_of, objects}
use Rattle.dnp_objects.specs.Relative.{FitsRelative}
use Rattle.dnp_objects.specs.Rows.{flags_fit, time_fits, value_fits}
use Rattle.dnp_objects.specs.declared.limits.TheConstants.{MAX_FRAGMENT, MAX_RELATIVE, MAX_TIME}
use Rattle.dnp_objects.specs.declared.row.Kind.{Kind}
use Rattle.dnp_objects.specs.declared.row.Kind.TheVariants.{Binary, Counter, Analog}
use Rattle.dnp_objects.specs.declared.row.Row.{Row}
use Rattle.dnp_appfragment.specs.Built.{Built, context_of, size, with_object}
use Rattle.dnp_appfragment.specs.Written.{relative}
use Rattle.dnp_outstation.specs.declared.offer.grouping.Coming.{Coming}
use Rattle.dnp_outstation.specs.declared.offer.writer.Run.TheVariants.{OfLane}
use Rattle.dnp_outstation.specs.declared.offer.writer.Writer.{Writer}
use Rattle.dnp_objects.specs.Events.{IsEvent}
use Rattle.dnp_outstation.specs.Forms.{is_in_reach, told_after}
use Rattle.dnp_outstation.specs.Items.{place_after}
use Rattle.dnp_outstation.specs.steps.Filling.{continues, begun, built_for, put_laid, fits}
use Rattle.dnp_outstation.specs.steps.Grouping.{item_in}
use Rattle.dnp_outstation.specs.steps.Putting.{least_octets}
use Rattle.dnp_outstation.proofs.Grouped.{near_tells}
use Rattle.dnp_outstation.proofs.OfferRoom.{group_begins, group_grows}

-- ---- a row that can tell its time after a common one

-- it is a binary with a time below 2^48
pub record IsTimedBinary (row : Row) : Type 0 where
  pub kind_is : row.kind ≡ Binary
  pub low : IsSomeAnd row.time (λ time. time < MAX_TIME)

binary_is : (k : Kind) → kind_eq k Binary ≡ true → k ≡ Binary
binary_is Binary is = refl
binary_is Counter is = cc
binary_is Analog is = cc

low_in : (time : Option ℕ) → time_fits true time ≡ true → IsSomeAnd time (λ time. time < MAX_TIME)
low_in None is = cc
low_in (Some t) is = ltb-true t MAX_TIME is

pub timed_binary : (common : ℕ) (row : Row) → FitsRelative common row → IsTimedBinary row
unfolding content_of objects
timed_binary common row fits =
    let k : Bool = kind_eq row.kind Binary in
    let v : Bool = value_fits Binary 0 row.value in
    let f : Bool = flags_fit Binary true row.flags in
    let last = and_parts ((k && v) && f) (time_fits true row.time) fits.event in
    record { kind_is = binary_is row.kind (and_parts k v (and_parts (k && v) f last.0).0).0; low = low_in row.time last.1 }

-- so is the common one
pub low_time : (common : ℕ) (row : Row) → FitsRelative common row → common < MAX_TIME
low_time common row fits = go row.time (timed_binary common row fits).low fits.near
  where
    go : (time : Option ℕ) → IsSomeAnd time (λ time. time < MAX_TIME) → IsSomeAnd time (λ time. (common ≤ time) × (time ≤ common + MAX_RELATIVE)) → common < MAX_TIME
    go None low near = absurd near
    go (Some t) low near = let before = near.0 in omega arith

-- so is an event's own
pub low_event : (time : ℕ) (row : Row) → kind_eq row.kind Binary ≡ true → row.time ≡ Some time → IsEvent row → time < MAX_TIME
low_event time row binary timed event =
    let within = le-leb time (time + MAX_RELATIVE) (omega arith) in
    let near : is_in_reach (Some time) (Some time) ≡ true =
    ap (λ (b : Bool). b && nat_le time (time + MAX_RELATIVE)) (le-leb time time (omega arith)) ∙ within in
    let reached : is_in_reach (Some time) row.time ≡ true = ap (is_in_reach (Some time)) timed ∙ near in
    low_time time row (near_tells time row (ap (λ (b : Bool). b && is_in_reach (Some time) row.time) binary ∙ reached) event)

-- ---- the row after it

-- what the builder asks of the row, and what it puts
pub tells_there : (b : Built) (t : ℕ) (row : Row) → context_of b ≡ Some t → FitsRelative t row → IsSomeAnd (context_of b) (λ common. FitsRelative common row)
tells_there b t row there fits = subst (λ (o : Option ℕ). IsSomeAnd o (λ common. FitsRelative common row)) (sym there) fits

pub said_there : (b : Built) (t : ℕ) (row : Row) → context_of b ≡ Some t
    → with_object b (relative (unwrap_or (context_of b) 0) row) ≡ with_object b (relative t row)
said_there b t row there = ap (λ (o : Option ℕ). with_object b (relative (unwrap_or o 0) row)) there

-- a writer with the common time of a run, if it wasn't there
abbrev with_time : Writer → ℕ → ℕ → Writer
with_time w lane t = record w { builder = built_for w (OfLane lane (Some t)) }

-- and with a row after it
abbrev with_row : Writer → ℕ → Coming → Writer
with_row u t x = record u {
  builder = with_object u.builder (relative t x.row.row);
  run = OfLane x.lane (Some t);
  place = place_after u.place (item_in x);
  upto = slice_set u.upto x.lane x.row.id;
}

-- where the rows that stand last are told after it, it isn't put again
pub stands : (w : Writer) (lane t : ℕ) → continues w (OfLane lane (Some t)) ≡ true → w ≡ with_time w lane t
stands w lane t on = sym (ap (λ (b : Bool). record w { builder = cond b w.builder (begun w.builder (Some t)) }) on)

pub after_put : (w u w' : Writer) (t : ℕ) (x : Coming) → u ≡ with_time w x.lane t → w' ≡ with_row u t x
    → w' ≡ put_laid w (told_after t (item_in x))
after_put w u w' t x u_is w_is = w_is ∙ ap (λ (v : Writer). with_row v t x) u_is

abbrev row_size : Writer → ℕ → Coming → ℕ
row_size u t x = size (with_object u.builder (relative t x.row.row))

put_size : (w u : Writer) (t : ℕ) (x : Coming) → u ≡ with_time w x.lane t → row_size u t x ≡ size (put_laid w (told_after t (item_in x))).builder
put_size w u t x u_is = ap (λ (v : Writer). row_size v t x) u_is

pub after_fits : (w u : Writer) (t : ℕ) (x : Coming) (fit : Bool) → u ≡ with_time w x.lane t → fit ≡ nat_le (row_size u t x) MAX_FRAGMENT
    → fit ≡ fits (put_laid w (told_after t (item_in x)))
after_fits w u t x fit u_is room = room ∙ ap (λ (n : ℕ). nat_le n MAX_FRAGMENT) (put_size w u t x u_is)

-- ---- room

-- where a group begins, the row takes 20 octets
begins_by : (w : Writer) (t : ℕ) (x : Coming) → continues w (OfLane x.lane (Some t)) ≡ false
    → size (put_laid w (told_after t (item_in x))).builder ≡ size w.builder + 20
begins_by w t x other =
    ap (λ (b : Bool). size (with_object (cond b w.builder (begun w.builder (Some t))) (relative t x.row.row))) other
    ∙ group_begins w.builder t x.row.row

-- where there is no room for a common time and a row, the row doesn't fit
pub no_room : (w : Writer) (t : ℕ) (x : Coming) → false ≡ (continues w (OfLane x.lane (Some t)) || nat_le (size w.builder + 20) MAX_FRAGMENT)
    → false ≡ fits (put_laid w (told_after t (item_in x)))
no_room w t x none = by (continues w (OfLane x.lane (Some t))) refl none
  where
    by : (b : Bool) → continues w (OfLane x.lane (Some t)) ≡ b → false ≡ (b || nat_le (size w.builder + 20) MAX_FRAGMENT)
        → false ≡ fits (put_laid w (told_after t (item_in x)))
    by true on it = cc
    by false other it = it ∙ ap (λ (n : ℕ). nat_le n MAX_FRAGMENT) (sym (begins_by w t x other))

-- where there is, and it doesn't, no common time was put
pub none_put : (w u w' : Writer) (t : ℕ) (x : Coming) → u ≡ with_time w x.lane t
    → true ≡ (continues w (OfLane x.lane (Some t)) || nat_le (size w.builder + 20) MAX_FRAGMENT)
    → false ≡ nat_le (row_size u t x) MAX_FRAGMENT → w' ≡ u → w' ≡ w
none_put w u w' t x u_is room past same = by (continues w (OfLane x.lane (Some t))) refl room
  where
    by : (b : Bool) → continues w (OfLane x.lane (Some t)) ≡ b → true ≡ (b || nat_le (size w.builder + 20) MAX_FRAGMENT) → w' ≡ w
    by true on it = same ∙ u_is ∙ ap (λ (b : Bool). record w { builder = cond b w.builder (begun w.builder (Some t)) }) on
    by false other it =
        let fits = leb-true (size w.builder + 20) MAX_FRAGMENT (sym it) in
        let over = leb-false (row_size u t x) MAX_FRAGMENT (sym past) in
        let is = put_size w u t x u_is ∙ begins_by w t x other in
        absurd (omega arith)

-- a fragment is longer by the row at least
pub grows_by : (w u w' : Writer) (t : ℕ) (x : Coming) → FitsRelative t x.row.row → u ≡ with_time w x.lane t → w' ≡ with_row u t x
    → size w.builder + least_octets x.row.row.kind ≤ size w'.builder
grows_by w u w' t x fits u_is w_is = by (continues w (OfLane x.lane (Some t))) refl
  where
    three : least_octets x.row.row.kind ≡ 3
    three = ap least_octets (timed_binary t x.row.row fits).kind_is

    is : size w'.builder ≡ size (put_laid w (told_after t (item_in x))).builder
    is = ap (λ (v : Writer). size v.builder) (after_put w u w' t x u_is w_is)

    by : (b : Bool) → continues w (OfLane x.lane (Some t)) ≡ b → size w.builder + least_octets x.row.row.kind ≤ size w'.builder
    by true on =
        let same : size (put_laid w (told_after t (item_in x))).builder ≡ size (with_object w.builder (relative t x.row.row)) =
        ap (λ (b : Bool). size (with_object (cond b w.builder (begun w.builder (Some t))) (relative t x.row.row))) on in
        let grown = group_grows w.builder t x.row.row in
        omega (arith, three, is)
    by false other = omega (arith, three, is, begins_by w t x other)

-- and no longer than fits
pub short_by : (u w' : Writer) (t : ℕ) (x : Coming) → w' ≡ with_row u t x → true ≡ nat_le (row_size u t x) MAX_FRAGMENT → size w'.builder ≤ MAX_FRAGMENT
short_by u w' t x w_is room =
    let same : size w'.builder ≡ row_size u t x = ap (λ (v : Writer). size v.builder) w_is in
    let within = leb-true (row_size u t x) MAX_FRAGMENT (sym room) in
    omega arith
