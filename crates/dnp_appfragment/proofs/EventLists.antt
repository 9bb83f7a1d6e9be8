-- Events of one object, as many as they are: each goes as that object, and a header of so many stands where they are put.
use Rattle.std.proofs.Common.{◌≡◌, Bool, true, false, IsTrue, refl, sym, ◌∙◌, ap, subst, ℕ, suc, ◌+◌, ◌*◌, ◌^◌, ◌<◌, ◌≤◌, List, [], ◌∷◌, ◌++◌, length, take, map, arith, Option, Some, None, IsSome}
use Rattle.std.specs.Prelude.{All, is_some, slice_index_or}
use Rattle.std.specs.Option.{IsSomeAnd, unwrap_or}
use Rattle.std.proofs.lemmas.List.{length-take-le, length-append}
use Rattle.std.proofs.lemmas.List.Elements.{All-head, All-tail, All-take}
use Rattle.dnp_objects.specs.Events.{IsEvent, event_object}
use Rattle.dnp_objects.specs.Objects.{objects, content_of, object_size}
use Rattle.dnp_objects.specs.Relative.{FitsRelative, relative_octets}
use Rattle.dnp_objects.specs.Rows.{Fits, written}
use Rattle.dnp_objects.specs.declared.row.Kind.{Kind}
use Rattle.dnp_objects.specs.declared.row.Kind.TheVariants.{Binary, Counter, Analog}
use Rattle.dnp_objects.specs.declared.row.Row.{Row}
use Rattle.dnp_appfragment.specs.declared.function.Function.{Function}
use Rattle.dnp_appfragment.specs.declared.header.Range.TheVariants as range
use Rattle.dnp_appfragment.specs.declared.table.Form.{Form}
use Rattle.dnp_appfragment.specs.declared.table.Form.TheVariants as form
use Rattle.dnp_appfragment.specs.Table.{rules, takes_of, form_of, is_response, IsInTable}
use Rattle.dnp_appfragment.specs.Headers.{Head, Context, octets_of, IsHeader, IsHeaderAt, IsTimed, is_relative, is_common}
use Rattle.dnp_appfragment.specs.Written.{IsOf, event, indexed, relative}
use Rattle.dnp_appfragment.specs.steps.Listed.{after_index, all_after, many, one_object}
use Rattle.dnp_appfragment.proofs.JoinedTimes.{join_timed}
use Rattle.dnp_appfragment.proofs.ListedRows.{each_long, taken_long}
use Rattle.dnp_appfragment.proofs.ObjectHeaders.{RowsFill, response_form}
use Rattle.dnp_appfragment.proofs.Places.{any_place}
use Rattle.dnp_appfragment.proofs.RelativePut.{RelativesLow, relative_timed}

-- ---- the object of each

object_is : (kind : Kind) (time : Option ℕ) (has_time : Bool) → is_some time ≡ has_time → event_object kind time ≡ one_object kind has_time
object_is Binary (Some t) true is = refl
object_is Binary (Some t) false is = cc
object_is Binary None true is = cc
object_is Binary None false is = refl
object_is Counter (Some t) true is = refl
object_is Counter (Some t) false is = cc
object_is Counter None true is = cc
object_is Counter None false is = refl
object_is Analog (Some t) true is = refl
object_is Analog (Some t) false is = cc
object_is Analog None true is = cc
object_is Analog None false is = refl

same_object : (kind : Kind) (has_time : Bool) (g v : ℕ) (row : Row) → one_object kind has_time ≡ (g, v) → IsOf kind has_time row
    → event_object row.kind row.time ≡ (g, v)
same_object kind has_time g v row named is =
    ap (λ (k : Kind). event_object k row.time) is.kind_is ∙ object_is kind row.time has_time is.time_is ∙ named

pub all_fit : (kind : Kind) (has_time : Bool) (g v : ℕ) (rows : List Row) → one_object kind has_time ≡ (g, v) → All IsEvent rows
    → All (IsOf kind has_time) rows → All (Fits g v) rows
all_fit kind has_time g v rows named events same = λ k d less.
    let row = slice_index_or rows k d in
    subst (λ (o : ℕ × ℕ). Fits o.0 o.1 row) (same_object kind has_time g v row named (same k d less)) (events k d less)

pub events_are : (kind : Kind) (has_time : Bool) (g v : ℕ) (rows : List Row) → one_object kind has_time ≡ (g, v) → All (IsOf kind has_time) rows
    → map event rows ≡ map (λ (row : Row). many None g v 1 (after_index (written g v) row)) rows
events_are kind has_time g v [] named same = refl
events_are kind has_time g v (row ∷ rows) named same =
    (λ i. (let o = same_object kind has_time g v row named (All-head (IsOf kind has_time) row rows same) in
    let one : event row ≡ many None g v 1 (after_index (written g v) row) = ap (λ (o : ℕ × ℕ). indexed o.0 o.1 row.index (written o.0 o.1 row)) o in one i)
    ∷ events_are kind has_time g v rows named (All-tail (IsOf kind has_time) row rows same) i)

-- ---- the object itself

pub record IsEventObject (g v : ℕ) : Type 0 where
  pub in_table : IsInTable form.Response g v 0x28
  pub sized : IsSome (object_size g v)
  pub whole : is_relative g v ≡ false
  pub other : is_common (many None g v 1 []) ≡ false

one_of_kind : (kind : Kind) (has_time : Bool) → IsEventObject (one_object kind has_time).0 (one_object kind has_time).1
unfolding takes_of rules objects content_of
one_of_kind Binary true = record { in_table = refl; sized = refl; whole = refl; other = refl }
one_of_kind Binary false = record { in_table = refl; sized = refl; whole = refl; other = refl }
one_of_kind Counter true = record { in_table = refl; sized = refl; whole = refl; other = refl }
one_of_kind Counter false = record { in_table = refl; sized = refl; whole = refl; other = refl }
one_of_kind Analog true = record { in_table = refl; sized = refl; whole = refl; other = refl }
one_of_kind Analog false = record { in_table = refl; sized = refl; whole = refl; other = refl }

pub event_object_is : (kind : Kind) (has_time : Bool) (g v : ℕ) → one_object kind has_time ≡ (g, v) → IsEventObject g v
event_object_is kind has_time g v named = subst (λ (o : ℕ × ℕ). IsEventObject o.0 o.1) named (one_of_kind kind has_time)

-- ---- the header of so many

many_header : (o : Option ℕ) (g v s n : ℕ) (octets : List ℕ) → IsInTable form.Response g v 0x28 → object_size g v ≡ Some s → n < 2 ^ 16
    → length octets ≡ n * (2 + s) → IsHeader form.Response (many o g v n octets)
many_header o g v s n octets object sized few long =
    record { object = object; fits = few; forward = tt; objects = long ∙ sym (ap (octets_of n 2) sized) }

some_same : (a b : ℕ) → Some a ≡ Some b → a ≡ b
some_same a b is = cc

long_by : RowsFill → (g v s : ℕ) (row : Row) → object_size g v ≡ Some s → Fits g v row → length (after_index (written g v) row) ≡ 2 + s
long_by law g v s row sized fits =
    let size : s ≡ length (written g v row) = some_same s _ (sym sized ∙ law g v row fits) in omega arith

pub events_stand : RowsFill → (f : Function) (context : Context) (g v n : ℕ) (rows : List Row) → IsTrue (is_response f) → IsEventObject g v
    → All (Fits g v) rows → n ≤ length rows → n < 2 ^ 16
    → IsHeaderAt (form_of f) context (many None g v n (all_after (written g v) (take n rows)))
events_stand law f context g v n rows response object fits few low = go (object_size g v) refl object.sized
  where
    go : (o : Option ℕ) → object_size g v ≡ o → IsSome o → IsHeaderAt (form_of f) context (many None g v n (all_after (written g v) (take n rows)))
    go None sized some = cc
    go (Some s) sized some =
        let long = taken_long (written g v) (2 + s) n rows
        (each_long (Fits g v) (written g v) (2 + s) rows (λ row fit. long_by law g v s row sized fit) fits) few in
        any_place (form_of f) context _
        (subst (λ (x : Form). IsHeader x (many None g v n (all_after (written g v) (take n rows)))) (sym (response_form f response))
        (many_header None g v s n _ object.in_table sized low long))
        refl object.whole

-- ---- those after a common time

all_timed : RelativesLow → (common : ℕ) (rows : List Row) → All (FitsRelative common) rows
    → IsTimed (many (Some common) 2 3 (length rows) (all_after (relative_octets common) rows))
all_timed law common [] fits = record { common = common; there = refl; sums = λ k below. absurd (omega arith) }
all_timed law common (row ∷ rows) fits =
    join_timed (relative common row) (many (Some common) 2 3 (length rows) (all_after (relative_octets common) rows)) (range.Indexed true (suc (length rows)))
    (relative_timed law common row (All-head (FitsRelative common) row rows fits))
    (all_timed law common rows (All-tail (FitsRelative common) row rows fits))
    refl refl refl (let more : suc (length rows) ≡ 1 + length rows = omega arith in more) refl

relative_object : IsInTable form.Response 2 3 0x28 × (object_size 2 3 ≡ Some 3)
unfolding takes_of rules objects content_of
relative_object = (refl, refl)

pub relatives_stand : RelativesLow → (f : Function) (context : Context) (common n : ℕ) (rows : List Row) → IsTrue (is_response f) → context ≡ Some common
    → All (FitsRelative common) rows → n ≤ length rows → n < 2 ^ 16
    → IsHeaderAt (form_of f) context (many (Some common) 2 3 n (all_after (relative_octets common) (take n rows)))
relatives_stand law f context common n rows response there fits few low =
    let octets = all_after (relative_octets common) (take n rows) in
    let long = taken_long (relative_octets common) 5 n rows
    (each_long (FitsRelative common) (relative_octets common) 5 rows (λ row fit. refl) fits) few in
    subst (λ (x : Form). IsHeaderAt x context (many (Some common) 2 3 n octets)) (sym (response_form f response))
    (record {
      header = many_header (Some common) 2 3 3 n octets relative_object.0 relative_object.1 low long;
      common = sym there;
      timed = λ _.
          subst (λ (k : ℕ). IsTimed (many (Some common) 2 3 k octets)) (length-take-le n rows few)
          (all_timed law common (take n rows) (All-take (FitsRelative common) n rows fits));
    })

pub all_unwrapped : (o : Option ℕ) (rows : List Row) → IsSomeAnd o (λ common. All (FitsRelative common) rows)
    → (o ≡ Some (unwrap_or o 0)) × All (FitsRelative (unwrap_or o 0)) rows
all_unwrapped None rows fits = absurd fits
all_unwrapped (Some common) rows fits = (refl, fits)
