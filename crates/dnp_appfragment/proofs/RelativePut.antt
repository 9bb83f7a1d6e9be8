-- What a common time and a row after it are put as stands where it is put.
use Rattle.std.proofs.Common.{◌≡◌, refl, sym, ◌∙◌, ap, subst, ℕ, suc, zero, ◌+◌, ◌<◌, true, IsTrue, List, [], ◌∷◌, ◌++◌, length, drop, arith, Option, Some, None, IsSome}
use Rattle.std.specs.Option.{IsSomeAnd, unwrap_or}
use Rattle.byteorder.specs.Endian.{little_number, little_bytes}
use Rattle.dnp_objects.specs.Objects.{objects, content_of, object_size}
use Rattle.dnp_objects.specs.Relative.{FitsRelative, relative_octets}
use Rattle.dnp_objects.specs.declared.limits.TheConstants.{MAX_TIME}
use Rattle.dnp_objects.specs.declared.row.Row.{Row}
use Rattle.dnp_appfragment.specs.declared.function.Function.{Function}
use Rattle.dnp_appfragment.specs.declared.table.Form.{Form}
use Rattle.dnp_appfragment.specs.declared.table.Form.TheVariants as form
use Rattle.dnp_appfragment.specs.Table.{rules, takes_of, form_of, is_response, IsInTable}
use Rattle.dnp_appfragment.specs.Headers.{Head, Context, IsHeader, IsHeaderAt, IsTimed, time_after}
use Rattle.dnp_appfragment.specs.Written.{common_head, relative}
use Rattle.dnp_appfragment.proofs.ObjectHeaders.{response_form}
use Rattle.dnp_appfragment.proofs.Places.{any_place}

-- by the law that such a row's time is under 2^48 ms
abbrev pub RelativesLow : Type 0
RelativesLow = (common : ℕ) (row : Row) → FitsRelative common row → common + little_number 2 (drop 1 (relative_octets common row)) < MAX_TIME

common_is : (time : ℕ) → IsHeader form.Response (common_head time)
unfolding takes_of rules objects content_of
common_is time = record { object = refl; fits = omega arith; forward = tt; objects = refl }

pub common_put : (f : Function) (context : Context) (time : ℕ) → IsTrue (is_response f) → IsHeaderAt (form_of f) context (common_head time)
common_put f context time response =
    subst (λ (x : Form). IsHeaderAt x context (common_head time)) (sym (response_form f response))
    (any_place form.Response context (common_head time) (common_is time) refl refl)

relative_is : (common : ℕ) (row : Row) → IsHeader form.Response (relative common row)
unfolding takes_of rules objects content_of
relative_is common row = record { object = refl; fits = omega arith; forward = tt; objects = refl }

pub relative_timed : RelativesLow → (common : ℕ) (row : Row) → FitsRelative common row → IsTimed (relative common row)
relative_timed law common row fits = record {
  common = common;
  there = refl;
  sums = λ k below. one k below;
}
  where
    one : (k : ℕ) → k < 1 → common + time_after (relative common row) k < MAX_TIME
    one zero below = law common row fits
    one (suc k) below = absurd (omega arith)

pub relative_put : RelativesLow → (f : Function) (context : Context) (common : ℕ) (row : Row) → IsTrue (is_response f) → context ≡ Some common
    → FitsRelative common row → IsHeaderAt (form_of f) context (relative common row)
relative_put law f context common row response there fits =
    subst (λ (x : Form). IsHeaderAt x context (relative common row)) (sym (response_form f response))
    (record { header = relative_is common row; common = sym there; timed = λ _. relative_timed law common row fits })

pub fits_unwrapped : (o : Option ℕ) (row : Row) → IsSomeAnd o (λ common. FitsRelative common row)
    → (o ≡ Some (unwrap_or o 0)) × FitsRelative (unwrap_or o 0) row
fits_unwrapped None row fits = absurd fits
fits_unwrapped (Some common) row fits = (refl, fits)

pub relative_sized : IsSome (object_size 2 3)
unfolding objects content_of
relative_sized = refl
