-- The octets of a row after a common time and the row of octets undo each other.
use Rattle.std.proofs.Common.{◌≡◌, ℕ, ◌+◌, ◌-◌, ◌*◌, ◌/◌, ◌%◌, ◌<◌, ◌≤◌, suc, Bool, true, false, List, [], ◌∷◌, length, drop, get_or, refl, sym, ◌∙◌, ap, subst, arith, Option, Some, None}
use Rattle.std.specs.Prelude.{pos, nat_lt}
use Rattle.std.specs.Option.{IsSomeAnd, unwrap_or}
use Rattle.std.proofs.lemmas.Bool.{and_parts, and_from, ltb-true, lt-ltb}
use Rattle.std.proofs.Math.Nat.{mod-lt}
use Rattle.byteorder.specs.Endian.{little_number, little_bytes}
use Rattle.byteorder.specs.Numbers.{little_from-lt, length-bytes_low_first}
use Rattle.dnp_objects.specs.declared.row.Kind.TheVariants.{Binary}
use Rattle.dnp_objects.specs.declared.row.Row.{Row}
use Rattle.dnp_objects.specs.declared.table.Shape.{Shape}
use Rattle.dnp_objects.specs.declared.fault.ObjectFault.{ObjectFault}
use Rattle.dnp_objects.specs.declared.fault.ObjectFault.TheVariants.{ObjectUnknown, Cut, ValueRange}
use Rattle.dnp_objects.specs.declared.limits.TheConstants.{MAX_TIME, MAX_RELATIVE}
use Rattle.dnp_objects.specs.Objects.{objects, content_of, shape}
use Rattle.dnp_objects.specs.Parts.{row_of}
use Rattle.dnp_objects.specs.Rows.{Fits, row_fits, row_octets, flags_octet}
use Rattle.dnp_objects.specs.Relative.{FitsRelative, IsRelative, IsRelativeReadFault, relative_octets, relative_row}
use Rattle.dnp_objects.proofs.Spelling.{row_back}
use Rattle.dnp_objects.proofs.Values.{AreOctets, number_in_all, octets_of_number}

-- how a row of 2.2 lies
abbrev whole : Shape
whole = shape Binary true 0 true

whole_fits : (row : Row) → Fits 2 2 row → row_fits whole row ≡ true
unfolding content_of objects
whole_fits row fits = fits

fits_whole : (row : Row) → row_fits whole row ≡ true → Fits 2 2 row
unfolding content_of objects
fits_whole row fits = fits

-- ---- from a row to octets and back

time_back : (common : ℕ) (time : Option ℕ) → IsSomeAnd time (λ t. (common ≤ t) × (t ≤ common + MAX_RELATIVE))
    → Some (common + little_number 2 (little_bytes 2 (unwrap_or time 0 - common))) ≡ time
time_back common None near = absurd near
time_back common (Some t) near =
    let after : little_number 2 (little_bytes 2 (t - common)) ≡ (t - common) % 65536 = number_in_all 2 (t - common) in
    let from : common ≤ t = near.0 in
    let upto : t ≤ common + 65535 = near.1 in
    ap Some (omega arith)

pub relative_back : (common : ℕ) (row : Row) → FitsRelative common row → relative_row row.index (relative_octets common row) common ≡ row
relative_back common row fits =
    let back : row_of whole row.index (row_octets whole row) ≡ row = row_back Binary true 0 true row (refl, refl) (whole_fits row fits.event) in
    let time = time_back common row.time fits.near in
    λ i. record { kind = (back i).kind; index = row.index; flags = (back i).flags; value = (back i).value; time = time i }

-- the row is the one that the octets give
pub only_relative : (index : ℕ) (octets : List ℕ) (common : ℕ) (row : Row) → IsRelative index octets common row → row ≡ relative_row index octets common
only_relative index octets common row is =
    sym (relative_back common row is.fits)
    ∙ ap (λ (n : ℕ). relative_row n (relative_octets common row) common) is.index_is
    ∙ ap (λ (os : List ℕ). relative_row index os common) (sym is.spelled)

pub one_relative : (index : ℕ) (octets : List ℕ) (common : ℕ) (a b : Row) → IsRelative index octets common a → IsRelative index octets common b → a ≡ b
one_relative index octets common a b p q = only_relative index octets common a p ∙ sym (only_relative index octets common b q)

-- ---- from octets to a row

pub is_relative : (index : ℕ) (octets : List ℕ) (common : ℕ) → AreOctets octets → length octets ≡ 3 → common + little_number 2 (drop 1 octets) < MAX_TIME
    → IsRelative index octets common (relative_row index octets common)
is_relative index [] common small size low = absurd (omega arith)
is_relative index (f ∷ []) common small size low = absurd (omega arith)
is_relative index (f ∷ a ∷ []) common small size low = absurd (omega arith)
is_relative index (f ∷ a ∷ b ∷ c ∷ more) common small size low = absurd (omega arith)
is_relative index (f ∷ a ∷ b ∷ []) common small size low =
    let octets : List ℕ = a ∷ b ∷ [] in
    let first : f < 256 = small 0 in
    let own : AreOctets octets = λ i. small (suc i) in
    let n : ℕ = little_number 2 octets in
    let below : n < 65536 = little_from-lt 0 2 octets own in
    let row : Row = relative_row index (f ∷ octets) common in
    let fits : row_fits whole row ≡ true =
    and_from _ _ (and_from _ _ (and_from _ _ refl (lt-ltb (f / 128) 2 (omega arith))) (lt-ltb (f % 128) 128 (mod-lt f (omega arith))))
    (lt-ltb (common + n) MAX_TIME low) in
    let flags : f ≡ flags_octet Binary (f % 128) (pos (f / 128)) = omega arith in
    let after : n ≡ common + n - common = omega arith in
    let bytes : octets ≡ little_bytes 2 (common + n - common) = sym (octets_of_number 2 octets own (omega arith)) ∙ ap (little_bytes 2) after in
    record {
      index_is = refl;
      fits = record { event = fits_whole row fits; near = (omega arith, omega arith) };
      spelled = ap (λ (x : ℕ). x ∷ octets) flags ∙ ap (λ (os : List ℕ). flags_octet Binary (f % 128) (pos (f / 128)) ∷ os) bytes;
    }

-- as it is read
pub read_so : (index common after : ℕ) (row : Row) (octets : List ℕ) → AreOctets octets → length octets ≡ 3
    → after ≡ get_or octets 1 0 + get_or octets 2 0 * 256 → common + after < MAX_TIME
    → row ≡ record { kind = Binary; index = index; flags = get_or octets 0 0 % 128; value = pos (get_or octets 0 0 / 128); time = Some (common + after) }
    → IsRelative index octets common row
read_so index common after row octets small size after_is low row_is =
    let number : after ≡ little_number 2 (drop 1 octets) = three octets size after_is in
    let same : relative_row index octets common ≡ row =
    ap (λ (n : ℕ). let r : Row = record {
      kind = Binary;
      index = index;
      flags = get_or octets 0 0 % 128;
      value = pos (get_or octets 0 0 / 128);
      time = Some (common + n);
    } in r) (sym number)
    ∙ sym row_is in
    subst (IsRelative index octets common) same (is_relative index octets common small size (omega (arith, number, low)))
  where
    three : (octets : List ℕ) → length octets ≡ 3 → after ≡ get_or octets 1 0 + get_or octets 2 0 * 256 → after ≡ little_number 2 (drop 1 octets)
    three [] size is = absurd (omega arith)
    three (f ∷ []) size is = absurd (omega arith)
    three (f ∷ a ∷ []) size is = absurd (omega arith)
    three (f ∷ a ∷ b ∷ []) size is = omega arith
    three (f ∷ a ∷ b ∷ c ∷ more) size is = absurd (omega arith)

-- ---- refusals

time_low : (row : Row) (time : ℕ) → row.time ≡ Some time → Fits 2 2 row → time < MAX_TIME
time_low row time is fits =
    let parts = and_parts _ _ (whole_fits row fits) in
    let low : nat_lt time MAX_TIME ≡ true = subst (λ (t : Option ℕ). time_is t ≡ true) is parts.1 in
    ltb-true time MAX_TIME low
  where
    time_is : Option ℕ → Bool
    time_is None = false
    time_is (Some t) = nat_lt t MAX_TIME

pub no_relative_fault : (index : ℕ) (octets : List ℕ) (common : ℕ) (row : Row) (e : ObjectFault) → IsRelative index octets common row
    → IsRelativeReadFault octets common e → ⊥
no_relative_fault index octets common row ObjectUnknown is fault = fault
no_relative_fault index octets common row Cut is fault =
    fault (ap length is.spelled ∙ (let e = length-bytes_low_first 0 2 (unwrap_or row.time 0 - common) in omega arith))
no_relative_fault index octets common row ValueRange is fault =
    let same = only_relative index octets common row is in
    let low = time_low row (common + little_number 2 (drop 1 octets)) (ap (λ (r : Row). r.time) same) is.fits.event in
    omega arith

pub relative_low : (common : ℕ) (row : Row) → FitsRelative common row → common + little_number 2 (drop 1 (relative_octets common row)) < MAX_TIME
relative_low common row fits =
    time_low row (common + little_number 2 (drop 1 (relative_octets common row)))
    (sym (ap (λ (r : Row). r.time) (relative_back common row fits))) fits.event
