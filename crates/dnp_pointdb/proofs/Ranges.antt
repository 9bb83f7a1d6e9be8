-- The readings in range are those that objects carry.
use Rattle.std.proofs.Common.{◌≡◌, ℕ, ◌⊎◌, ◌↔◌, ◌<◌, ◌^◌, ◌*◌, ◌-◌, inl, inr, ltb-true, lt-ltb, Bool, true, false, ◌&&◌, Option, Some, None, refl, sym, ◌∙◌, ap, subst, arith, rules, ℤ, pos, negsuc}
use Rattle.std.specs.Prelude.{IsTrue, IfSome, nat_lt}
use Rattle.std.specs.Option.{IsSomeAnd, option_and_then}
use Rattle.dnp_objects.specs.declared.row.Kind.{Kind}
use Rattle.dnp_objects.specs.declared.row.Kind.TheVariants.{Binary, Counter, Analog}
use Rattle.dnp_objects.specs.declared.table.Shape.{Shape}
use Rattle.dnp_objects.specs.declared.table.Content.{Content}
use Rattle.dnp_objects.specs.declared.table.Content.TheVariants as content_of_row
use Rattle.dnp_objects.specs.Equality.{kind_eq}
use Rattle.dnp_objects.specs.Objects.{objects, content_of, shape_written, writable, IsShape, IsNumber, IsContent}
use Rattle.dnp_objects.specs.Rows.{row_fits, value_fits, flags_fit, time_fits}
use Rattle.dnp_pointdb.specs.declared.reading.Reading.{Reading}
use Rattle.dnp_pointdb.specs.Events.{row_of}
use Rattle.dnp_pointdb.specs.Ranges.{is_carried}
use Rattle.dnp_pointdb.proofs.ByKind.{same_kind}

-- ---- what is wider

pub both : (a b : Bool) → a && b ≡ true → (a ≡ true) × (b ≡ true)
both true b is = (refl, is)
both false b is = absurd (cc)

counter_wider : (n w : ℕ) → (w ≡ 2) ⊎ (w ≡ 4) → nat_lt n (2 ^ (8 * w)) ≡ true → nat_lt n (2 ^ (8 * 4)) ≡ true
counter_wider n w (inl two) fits =
    let below : n < 2 ^ (8 * 2) = ltb-true n (2 ^ (8 * 2)) (ap (λ (x : ℕ). nat_lt n (2 ^ (8 * x))) (sym two) ∙ fits) in
    lt-ltb n (2 ^ (8 * 4)) (omega arith)
counter_wider n w (inr four) fits = ap (λ (x : ℕ). nat_lt n (2 ^ (8 * x))) (sym four) ∙ fits

analog_wider : (n w : ℕ) → (w ≡ 2) ⊎ (w ≡ 4) → nat_lt n (2 ^ (8 * w - 1)) ≡ true → nat_lt n (2 ^ (8 * 4 - 1)) ≡ true
analog_wider n w (inl two) fits =
    let below : n < 2 ^ (8 * 2 - 1) = ltb-true n (2 ^ (8 * 2 - 1)) (ap (λ (x : ℕ). nat_lt n (2 ^ (8 * x - 1))) (sym two) ∙ fits) in
    lt-ltb n (2 ^ (8 * 4 - 1)) (omega arith)
analog_wider n w (inr four) fits = ap (λ (x : ℕ). nat_lt n (2 ^ (8 * x - 1))) (sym four) ∙ fits

wider : (kind : Kind) (flagged : Bool) (w : ℕ) (value : ℤ) → IsNumber kind flagged w → value_fits kind w value ≡ true → value_fits kind 4 value ≡ true
wider Binary flagged w (pos n) number fits = fits
wider Binary flagged w (negsuc n) number fits = fits
wider Counter flagged w (pos n) number fits = counter_wider n w number fits
wider Counter flagged w (negsuc n) number fits = fits
wider Analog flagged w (pos n) number fits = analog_wider n w number fits
wider Analog flagged w (negsuc n) number fits = analog_wider n w number fits

with_flags : (kind : Kind) (flagged : Bool) (flags : ℕ) → flags_fit kind flagged flags ≡ true → flags_fit kind true flags ≡ true
with_flags Binary flagged flags fits = fits
with_flags Counter flagged flags fits = refl
with_flags Analog flagged flags fits = refl

from_true : (b : Bool) → IsTrue b → b ≡ true
from_true true h = refl
from_true false h = absurd (grind (arith, h))

pub to_true : (b : Bool) → b ≡ true → IsTrue b
to_true true h = search rules
to_true false h = absurd (cc)

-- what fits an object of some shape is carried by the widest
from_shape : (shape : Shape) (kind : Kind) (index : ℕ) (reading : Reading) → IsShape shape
    → IsTrue (row_fits shape (row_of kind index reading)) → is_carried kind reading ≡ true
from_shape shape kind index reading sound fits =
    let all = both (kind_eq kind shape.kind && value_fits shape.kind shape.width reading.value && flags_fit shape.kind shape.flags reading.flags)
    (time_fits shape.time reading.time) (from_true (row_fits shape (row_of kind index reading)) fits) in
    let front = both (kind_eq kind shape.kind && value_fits shape.kind shape.width reading.value) (flags_fit shape.kind shape.flags reading.flags) all.0 in
    let parts = both (kind_eq kind shape.kind) (value_fits shape.kind shape.width reading.value) front.0 in
    let value : value_fits shape.kind 4 reading.value ≡ true = wider shape.kind shape.flags shape.width reading.value sound.number parts.1 in
    let flags : flags_fit shape.kind true reading.flags ≡ true = with_flags shape.kind shape.flags reading.flags front.1 in
    subst (λ (k : Kind). value_fits k 4 reading.value && flags_fit k true reading.flags ≡ true) (sym (same_kind kind shape.kind parts.0))
    (ap (λ (b : Bool). b && flags_fit shape.kind true reading.flags) value ∙ flags)

from_content : (content : Option Content) (kind : Kind) (index : ℕ) (reading : Reading) → IfSome content IsContent
    → IsSomeAnd (option_and_then writable content) (λ shape. IsTrue (row_fits shape (row_of kind index reading)))
    → is_carried kind reading ≡ true
from_content None kind index reading sound fits = absurd (grind (arith, fits))
from_content (Some (content_of_row.Row shape)) kind index reading sound fits = from_shape shape kind index reading sound fits
from_content (Some (content_of_row.WrittenRow shape)) kind index reading sound fits = from_shape shape kind index reading sound fits
from_content (Some content_of_row.Block) kind index reading sound fits = absurd (grind (arith, fits))
from_content (Some (content_of_row.Setpoint w)) kind index reading sound fits = absurd (grind (arith, fits))
from_content (Some (content_of_row.Other n)) kind index reading sound fits = absurd (grind (arith, fits))

-- ---- each kind has a wide object

abbrev wide : Kind → ℕ → Shape
wide kind width = record { kind = kind; flags = true; width = width; time = false }

wide_fits : (kind : Kind) (width : ℕ) (index : ℕ) (reading : Reading) → value_fits kind width reading.value ≡ true
    → flags_fit kind true reading.flags ≡ true → kind_eq kind kind ≡ true → row_fits (wide kind width) (row_of kind index reading) ≡ true
wide_fits kind width index reading value flags same =
    ap (λ (b : Bool). b && value_fits kind width reading.value && flags_fit kind true reading.flags && true) same
    ∙ ap (λ (b : Bool). b && flags_fit kind true reading.flags && true) value
    ∙ ap (λ (b : Bool). b && true) flags

binary_value : (value : ℤ) → value_fits Binary 4 value ≡ true → value_fits Binary 0 value ≡ true
binary_value (pos n) fits = fits
binary_value (negsuc n) fits = fits

has_object : (kind : Kind) (index : ℕ) (reading : Reading) → is_carried kind reading ≡ true
    → (group : ℕ) × (variation : ℕ) × IsSomeAnd (shape_written group variation) (λ shape. IsTrue (row_fits shape (row_of kind index reading)))
unfolding content_of objects
has_object Binary index reading is =
    let parts = both (value_fits Binary 4 reading.value) (flags_fit Binary true reading.flags) is in
    (2, 1, to_true (row_fits (wide Binary 0) (row_of Binary index reading)) (wide_fits Binary 0 index reading (binary_value reading.value parts.0) parts.1 refl))
has_object Counter index reading is =
    let parts = both (value_fits Counter 4 reading.value) (flags_fit Counter true reading.flags) is in
    (22, 1, to_true (row_fits (wide Counter 4) (row_of Counter index reading)) (wide_fits Counter 4 index reading parts.0 parts.1 refl))
has_object Analog index reading is =
    let parts = both (value_fits Analog 4 reading.value) (flags_fit Analog true reading.flags) is in
    (32, 1, to_true (row_fits (wide Analog 4) (row_of Analog index reading)) (wide_fits Analog 4 index reading parts.0 parts.1 refl))

-- by the law of the widths of objects
pub carried_exactly : ((group variation : ℕ) → IfSome (content_of group variation) IsContent) → (kind : Kind) (index : ℕ) (reading : Reading)
    → (is_carried kind reading ≡ true)
    ↔ ((group : ℕ) × (variation : ℕ)
    × IsSomeAnd (shape_written group variation) (λ shape. IsTrue (row_fits shape (row_of kind index reading))))
carried_exactly law kind index reading = (
  has_object kind index reading,
  λ found. from_content (content_of found.0 found.1) kind index reading (law found.0 found.1) found.2,
)
