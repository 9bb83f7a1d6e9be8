-- The octets of a row and the row of octets undo each other.
use Rattle.std.proofs.Common.{◌≡◌, ℕ, ◌+◌, ◌-◌, ◌*◌, ◌/◌, ◌%◌, ◌^◌, ◌<◌, ◌≤◌, Bool, true, false, List, [], ◌∷◌, ◌++◌, length, take, drop, refl, sym, ◌∙◌, ap, subst, arith, Option, Some, None}
use Rattle.std.specs.Prelude.{ℤ, pos, negsuc, if◌then◌else◌}
use Rattle.std.specs.Int.{w64, cast_unsigned}
use Rattle.std.proofs.lemmas.Bool.{and_parts, and_from, ltb-true, lt-ltb, eqb-true}
use Rattle.std.proofs.lemmas.List.{append_assoc, take-append-drop, drop-drop, drop_at, take_all, length-drop, length-append, nil_from_length}
use Rattle.std.proofs.Math.Nat.{mod-lt, mod-eq_of_lt}
use Rattle.byteorder.specs.Endian.{little_number, little_bytes, twos_complement}
use Rattle.byteorder.specs.Numbers.{little_from-lt, length-bytes_low_first}
use Rattle.byteorder.proofs.Bytes.{pow256}
use Rattle.dnp_objects.specs.declared.row.Kind.{Kind}
use Rattle.dnp_objects.specs.declared.row.Kind.TheVariants.{Binary, Counter, Analog}
use Rattle.dnp_objects.specs.declared.row.Row.{Row}
use Rattle.dnp_objects.specs.declared.table.Shape.{Shape}
use Rattle.dnp_objects.specs.declared.limits.TheConstants.{MAX_TIME}
use Rattle.dnp_objects.specs.Equality.{kind_eq}
use Rattle.dnp_objects.specs.Objects.{shape, IsNumber, IsShape, shape_size, flags_size}
use Rattle.dnp_objects.specs.Parts.{first_of, flags_of, value_of, row_of}
use Rattle.dnp_objects.specs.Rows.{value_fits, flags_fit, time_fits, row_fits, flags_octet, flags_octets, time_octets, row_octets, carried, IsReading}
use Rattle.dnp_objects.proofs.EqualityTests.{Decides-kind_eq}
use Rattle.dnp_objects.proofs.Values.{AreOctets, dropped_octets, number_in, number_in_all, low_octets, octets_of_number, signed_fits, signed_octets, signed_read}

-- ---- from octets to a row and back

-- what is read as a value fits, and its octets are those that it was read from
value_read : (k : Kind) (f : Bool) (w first : ℕ) (number : List ℕ) → IsNumber k f w → first < 256 → AreOctets number → w ≤ length number
    → (value_fits k w (value_of k w first (little_number w number)) ≡ true)
    × (little_bytes w (cast_unsigned w64 (value_of k w first (little_number w number))) ≡ take w number)
value_read Binary f w first number is small octets long =
    (lt-ltb (first / 128) 2 (omega arith), subst (λ (n : ℕ). little_bytes n (first / 128) ≡ take n number) (sym is.0) refl)
value_read Counter f w first number is small octets long =
    let below : little_number w number < 256 ^ w = little_from-lt 0 w number octets in
    let same_power : 256 ^ w ≡ 2 ^ (8 * w) = pow256 w in
    (lt-ltb (little_number w number) (2 ^ (8 * w)) (omega arith), octets_of_number w number octets long)
value_read Analog f w first number is small octets long =
    let below : little_number w number < 256 ^ w = little_from-lt 0 w number octets in
    let same : cast_unsigned w64 (twos_complement w (little_number w number)) % 256 ^ w ≡ little_number w number % 256 ^ w =
    signed_octets w (little_number w number) is below ∙ sym (mod-eq_of_lt below) in
    (signed_fits w (little_number w number) is below, low_octets w (cast_unsigned w64 (twos_complement w (little_number w number))) (little_number w number) same ∙ octets_of_number w number octets long)

-- the flags octet that a row was read from is the row's
flags_read : (k : Kind) (w first number : ℕ) → flags_octet k (flags_of k first) (value_of k w first number) ≡ first
flags_read Binary w first number = omega arith
flags_read Counter w first number = refl
flags_read Analog w first number = refl

flags_fit_read : (k : Kind) (f : Bool) (w : ℕ) (octets : List ℕ) (t : Bool) → flags_fit k f (flags_of k (first_of (shape k f w t) octets)) ≡ true
flags_fit_read Binary f w octets t =
    lt-ltb (first_of (shape Binary f w t) octets % 128) 128 (mod-lt (first_of (shape Binary f w t) octets) (omega arith))
flags_fit_read Counter true w octets t = refl
flags_fit_read Counter false w octets t = refl
flags_fit_read Analog true w octets t = refl
flags_fit_read Analog false w octets t = refl

kind_eq-same : (k : Kind) → kind_eq k k ≡ true
kind_eq-same Binary = refl
kind_eq-same Counter = refl
kind_eq-same Analog = refl

-- the flags octets of what was read begin the octets
front_read : (k : Kind) (f : Bool) (w : ℕ) (t : Bool) (number : ℕ) (octets : List ℕ) → flags_size (shape k f w t) ≤ length octets
    → (if f then flags_octet k (flags_of k (first_of (shape k f w t) octets)) (value_of k w (first_of (shape k f w t) octets) number) ∷ [] else [])
    ≡ take (flags_size (shape k f w t)) octets
front_read k true w t number [] long = absurd (omega arith)
front_read k true w t number (o ∷ octets) long = ap (λ (x : ℕ). let one : List ℕ = x ∷ [] in one) (flags_read k w o number)
front_read k false w t number octets long = refl

-- and the octets of its time, if it has one, end them
time_read : (t : Bool) (octets : List ℕ) → AreOctets octets → length octets ≡ (if t then 6 else 0)
    → (time_fits t (if t then Some (little_number 6 octets) else None) ≡ true)
    × (time_octets t (if t then Some (little_number 6 octets) else None) ≡ octets)
time_read true octets small size =
    let below : little_number 6 octets < 256 ^ 6 = little_from-lt 0 6 octets small in
    (lt-ltb (little_number 6 octets) MAX_TIME (omega arith), octets_of_number 6 octets small (omega arith) ∙ take_all 6 octets (omega arith))
time_read false octets small size = (refl, sym (nil_from_length octets size))

carried_read : (k : Kind) (f : Bool) (w : ℕ) (t : Bool) (i : ℕ) (octets : List ℕ)
    → carried (shape k f w t) (row_of (shape k f w t) i octets) ≡ row_of (shape k f w t) i octets
carried_read k f w true i octets = refl
carried_read k f w false i octets = refl

first_small : (k : Kind) (f : Bool) (w : ℕ) (t : Bool) (octets : List ℕ) → AreOctets octets → first_of (shape k f w t) octets < 256
first_small k true w t octets small = small 0
first_small k false w t octets small = omega arith

-- octets of the right number are those of the row that they give
pub is_reading : (k : Kind) (f : Bool) (w : ℕ) (t : Bool) (i : ℕ) (octets : List ℕ) → IsNumber k f w → AreOctets octets
    → length octets ≡ shape_size (shape k f w t) → IsReading (shape k f w t) i octets (row_of (shape k f w t) i octets)
is_reading k f w t i octets is small size =
    let s : Shape = shape k f w t in
    let a : ℕ = flags_size s in
    let first : ℕ = first_of s octets in
    let number : List ℕ = drop a octets in
    let behind : List ℕ = drop (a + w) octets in
    let number_size : length number ≡ length octets - a = length-drop a octets in
    let behind_size : length behind ≡ length octets - (a + w) = length-drop (a + w) octets in
    let value = value_read k f w first number is (first_small k f w t octets small) (dropped_octets a octets small) (omega arith) in
    let clock = time_read t behind (dropped_octets (a + w) octets small) (omega arith) in
    let front = front_read k f w t (little_number w number) octets (omega arith) in
    let fits : row_fits s (row_of s i octets) ≡ true =
    and_from _ _ (and_from _ _ (and_from _ _ (kind_eq-same k) value.0) (flags_fit_read k f w octets t)) clock.0 in
    let split : behind ≡ drop w number = sym (drop-drop w a octets) in
    let joined : octets ≡ take a octets ++ take w number ++ behind =
    sym (take-append-drop a octets) ∙ ap (λ (l : List ℕ). take a octets ++ l) (sym (take-append-drop w number) ∙ ap (λ (l : List ℕ). take w number ++ l) (sym split))
    ∙ sym (append_assoc (take a octets) (take w number) behind) in
    let r : Row = row_of s i octets in
    let spelled : octets ≡ row_octets s r =
    joined ∙ ap (λ (l : List ℕ). l ++ take w number ++ behind) (sym front)
    ∙ ap (λ (l : List ℕ). flags_octets s r ++ l ++ behind) (sym value.1)
    ∙ ap (λ (l : List ℕ). flags_octets s r ++ little_bytes w (cast_unsigned w64 r.value) ++ l) (sym clock.1) in
    record { index_is = refl; carried_is = carried_read k f w t i octets; row_is = record { fits = fits; spelled = spelled } }

-- ---- from a row to octets and back

-- the flags octet of a row, or 01 where the object has none
first_octet : Kind → Bool → ℕ → ℤ → ℕ
first_octet k f flags value = if f then flags_octet k flags value else 1

first_back : (k : Kind) (f : Bool) (w : ℕ) (t : Bool) (r : Row) → first_of (shape k f w t) (row_octets (shape k f w t) r) ≡ first_octet k f r.flags r.value
unfolding first_octet
first_back k true w t r = refl
first_back k false w t r = refl

-- what stands after the flags
behind_flags : (k : Kind) (f : Bool) (w : ℕ) (t : Bool) (r : Row)
    → drop (flags_size (shape k f w t)) (row_octets (shape k f w t) r) ≡ little_bytes w (cast_unsigned w64 r.value) ++ time_octets t r.time
behind_flags k true w t r = refl
behind_flags k false w t r = refl

behind_value : (k : Kind) (f : Bool) (w : ℕ) (t : Bool) (r : Row)
    → drop (flags_size (shape k f w t) + w) (row_octets (shape k f w t) r) ≡ time_octets t r.time
behind_value k f w t r =
    sym (drop-drop w (flags_size (shape k f w t)) (row_octets (shape k f w t) r))
    ∙ ap (drop w) (behind_flags k f w t r)
    ∙ drop_at (little_bytes w (cast_unsigned w64 r.value)) (time_octets t r.time) w (length-bytes_low_first 0 w (cast_unsigned w64 r.value))

flags_back : (k : Kind) (f : Bool) (w flags : ℕ) (value : ℤ) → IsNumber k f w → value_fits k w value ≡ true → flags_fit k f flags ≡ true
    → flags_of k (first_octet k f flags value) ≡ flags
unfolding first_octet
flags_back Binary true w flags (pos n) is fits flags_are =
    let below : n < 2 = ltb-true n 2 fits in
    let small : flags < 128 = ltb-true flags 128 flags_are in
    omega arith
flags_back Binary true w flags (negsuc n) is fits flags_are = cc
flags_back Binary false w flags value is fits flags_are = cc
flags_back Counter true w flags value is fits flags_are = refl
flags_back Counter false w flags value is fits flags_are = sym (eqb-true flags 1 flags_are)
flags_back Analog true w flags value is fits flags_are = refl
flags_back Analog false w flags value is fits flags_are = sym (eqb-true flags 1 flags_are)

value_back : (k : Kind) (f : Bool) (w flags : ℕ) (value : ℤ) (rest : List ℕ) → IsNumber k f w → value_fits k w value ≡ true → flags_fit k f flags ≡ true
    → value_of k w (first_octet k f flags value) (little_number w (little_bytes w (cast_unsigned w64 value) ++ rest)) ≡ value
unfolding first_octet
value_back Binary true w flags (pos n) rest is fits flags_are =
    let below : n < 2 = ltb-true n 2 fits in
    let small : flags < 128 = ltb-true flags 128 flags_are in
    ap pos (omega arith)
value_back Binary true w flags (negsuc n) rest is fits flags_are = cc
value_back Binary false w flags value rest is fits flags_are = cc
value_back Counter f w flags (pos n) rest is fits flags_are =
    let below : n < 2 ^ (8 * w) = ltb-true n (2 ^ (8 * w)) fits in
    let same_power : 256 ^ w ≡ 2 ^ (8 * w) = pow256 w in
    let small : n < 256 ^ w = omega arith in
    ap pos (number_in w n rest ∙ mod-eq_of_lt small)
value_back Counter f w flags (negsuc n) rest is fits flags_are = cc
value_back Analog f w flags value rest is fits flags_are =
    ap (twos_complement w) (number_in w (cast_unsigned w64 value) rest) ∙ signed_read w value is fits

time_back : (t : Bool) (time : Option ℕ) → time_fits t time ≡ true
    → (if t then Some (little_number 6 (time_octets t time)) else None) ≡ (if t then time else None)
time_back false time fits = refl
time_back true None fits = cc
time_back true (Some x) fits =
    let below : x < MAX_TIME = ltb-true x MAX_TIME fits in
    ap Some (number_in_all 6 x ∙ omega arith)

-- the row that the octets of a row give is that row, without a time that the object lacks
pub row_back : (k : Kind) (f : Bool) (w : ℕ) (t : Bool) (r : Row) → IsNumber k f w → row_fits (shape k f w t) r ≡ true
    → row_of (shape k f w t) r.index (row_octets (shape k f w t) r) ≡ carried (shape k f w t) r
row_back k f w t r is fits =
    let parts = and_parts _ (time_fits t r.time) fits in
    let before = and_parts _ (flags_fit k f r.flags) parts.0 in
    let kind_value = and_parts (kind_eq r.kind k) (value_fits k w r.value) before.0 in
    let s : Shape = shape k f w t in
    let same_kind : k ≡ r.kind = sym ((Decides-kind_eq r.kind k).0 kind_value.0) in
    let first : first_of s (row_octets s r) ≡ first_octet k f r.flags r.value = first_back k f w t r in
    let flags : flags_of k (first_of s (row_octets s r)) ≡ r.flags =
    ap (flags_of k) first ∙ flags_back k f w r.flags r.value is kind_value.1 before.1 in
    let value : value_of k w (first_of s (row_octets s r)) (little_number w (drop (flags_size s) (row_octets s r))) ≡ r.value =
    ap (λ (x : ℕ). value_of k w x (little_number w (drop (flags_size s) (row_octets s r)))) first
    ∙ ap (λ (l : List ℕ). value_of k w (first_octet k f r.flags r.value) (little_number w l)) (behind_flags k f w t r)
    ∙ value_back k f w r.flags r.value (time_octets t r.time) is kind_value.1 before.1 in
    let time : (if t then Some (little_number 6 (drop (flags_size s + w) (row_octets s r))) else None) ≡ (if t then r.time else None) =
    ap (λ (l : List ℕ). if t then Some (little_number 6 l) else None) (behind_value k f w t r) ∙ time_back t r.time parts.1 in
    λ i. record { kind = same_kind i; index = r.index; flags = flags i; value = value i; time = time i }

-- a reading is the row that its octets give
pub only_reading : (s : Shape) (i : ℕ) (octets : List ℕ) (row : Row) → IsShape s → IsReading s i octets row → row ≡ row_of s i octets
only_reading s i octets row is reading =
    sym reading.carried_is
    ∙ sym (row_back s.kind s.flags s.width s.time row is.number reading.row_is.fits)
    ∙ ap (λ (n : ℕ). row_of s n (row_octets s row)) reading.index_is
    ∙ ap (row_of s i) (sym reading.row_is.spelled)

-- ---- sizes

time_length : (t : Bool) (time : Option ℕ) → time_fits t time ≡ true → length (time_octets t time) ≡ (if t then 6 else 0)
time_length false time fits = refl
time_length true None fits = cc
time_length true (Some x) fits = length-bytes_low_first 0 6 x

flags_length : (k : Kind) (f : Bool) (w : ℕ) (t : Bool) (r : Row) → length (flags_octets (shape k f w t) r) ≡ flags_size (shape k f w t)
flags_length k true w t r = refl
flags_length k false w t r = refl

-- a row that fits takes the object's octets
pub length-row_octets : (s : Shape) (r : Row) → row_fits s r ≡ true → length (row_octets s r) ≡ shape_size s
length-row_octets s r fits =
    let parts = and_parts _ (time_fits s.time r.time) fits in
    let flags = flags_length s.kind s.flags s.width s.time r in
    let value = length-bytes_low_first 0 s.width (cast_unsigned w64 r.value) in
    let time = time_length s.time r.time parts.1 in
    let both = length-append (flags_octets s r) (little_bytes s.width (cast_unsigned w64 r.value)) in
    let all = length-append (flags_octets s r ++ little_bytes s.width (cast_unsigned w64 r.value)) (time_octets s.time r.time) in
    omega (arith, flags, value, time, both, all)
