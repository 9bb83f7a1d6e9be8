-- A row that was read is one that an event object of its kind carries.
use Rattle.std.proofs.Common.{◌≡◌, refl, sym, ◌∙◌, ap, subst, ℕ, ◌*◌, ◌^◌, ◌≤◌, Bool, true, false, nat_lt, Option, Some, None, IfSome, ℤ, pos, negsuc, List, inl, inr, arith}
use Rattle.std.specs.Option.{IsSomeAnd}
use Rattle.std.proofs.lemmas.Bool.{and_parts, and_from, ltb-true, lt-ltb}
use Rattle.dnp_objects.specs.declared.row.Kind.{Kind}
use Rattle.dnp_objects.specs.declared.row.Kind.TheVariants.{Binary, Counter, Analog}
use Rattle.dnp_objects.specs.declared.row.Row.{Row}
use Rattle.dnp_objects.specs.declared.table.Shape.{Shape}
use Rattle.dnp_objects.specs.declared.limits.TheConstants.{MAX_TIME}
use Rattle.dnp_objects.specs.Equality.{kind_eq}
use Rattle.dnp_objects.specs.Objects.{objects, content_of, shape, shape_read, IsNumber, IsShape}
use Rattle.dnp_objects.specs.Rows.{value_fits, flags_fit, time_fits, row_fits, carried, IsReading, Fits, Reads}
use Rattle.dnp_objects.specs.Events.{event_object, IsEvent}
use Rattle.dnp_objects.proofs.EqualityTests.{Decides-kind_eq}
use Rattle.dnp_objects.proofs.RowFaults.{shape_read_sound}

-- ---- the parts

below : (n a b : ℕ) → a ≤ b → nat_lt n a ≡ true → nat_lt n b ≡ true
below n a b less is = let small = ltb-true n a is in lt-ltb n b (omega (arith, less, small))

-- a value of a narrow object fits a wide one
widened : (k : Kind) (f : Bool) (w : ℕ) (value : ℤ) → IsNumber k f w → value_fits k w value ≡ true → value_fits k 4 value ≡ true
widened Binary f w (pos n) is fits = fits
widened Binary f w (negsuc n) is fits = cc
widened Counter f w (pos n) (inl two) fits =
    below n (2 ^ 16) (2 ^ 32) (omega arith) (subst (λ (m : ℕ). nat_lt n (2 ^ (8 * m)) ≡ true) two fits)
widened Counter f w (pos n) (inr four) fits = subst (λ (m : ℕ). nat_lt n (2 ^ (8 * m)) ≡ true) four fits
widened Counter f w (negsuc n) is fits = cc
widened Analog f w (pos n) (inl two) fits =
    below n (2 ^ 15) (2 ^ 31) (omega arith) (subst (λ (m : ℕ). value_fits Analog m (pos n) ≡ true) two fits)
widened Analog f w (pos n) (inr four) fits = subst (λ (m : ℕ). value_fits Analog m (pos n) ≡ true) four fits
widened Analog f w (negsuc n) (inl two) fits =
    below n (2 ^ 15) (2 ^ 31) (omega arith) (subst (λ (m : ℕ). value_fits Analog m (negsuc n) ≡ true) two fits)
widened Analog f w (negsuc n) (inr four) fits = subst (λ (m : ℕ). value_fits Analog m (negsuc n) ≡ true) four fits

-- so do flags
flagged_fits : (k : Kind) (f : Bool) (flags : ℕ) → flags_fit k f flags ≡ true → flags_fit k true flags ≡ true
flagged_fits Binary f flags fits = fits
flagged_fits Counter f flags fits = refl
flagged_fits Analog f flags fits = refl

-- a time fits where there is one
some_time : (time : Option ℕ) → Bool
some_time None = true
some_time (Some t) = nat_lt t MAX_TIME

time_left : (k : Kind) (f : Bool) (w : ℕ) (t : Bool) (row : Row) → time_fits t row.time ≡ true → carried (shape k f w t) row ≡ row → some_time row.time ≡ true
unfolding some_time
time_left k f w true row fits is = go row.time fits
  where
    go : (time : Option ℕ) → time_fits true time ≡ true → some_time time ≡ true
    go None fits = cc
    go (Some t) fits = fits
time_left k f w false row fits is = ap some_time (sym (ap (λ (r : Row). r.time) is))

-- ---- the event

unmeasured : (value : ℤ) → value_fits Binary 4 value ≡ true → value_fits Binary 0 value ≡ true
unmeasured (pos n) fits = fits
unmeasured (negsuc n) fits = cc

event_fits : (row : Row) (k : Kind) (time : Option ℕ) → kind_eq row.kind k ≡ true → value_fits k 4 row.value ≡ true
    → flags_fit k true row.flags ≡ true → row.time ≡ time → some_time time ≡ true
    → Fits (event_object k time).0 (event_object k time).1 row
unfolding content_of objects some_time
event_fits row Binary (Some t) kind value flags same left =
    and_from _ _ (and_from _ _ (and_from _ _ kind (unmeasured row.value value)) flags) (ap (time_fits true) same ∙ left)
event_fits row Binary None kind value flags same left = and_from _ _ (and_from _ _ (and_from _ _ kind (unmeasured row.value value)) flags) refl
event_fits row Counter (Some t) kind value flags same left = and_from _ _ (and_from _ _ (and_from _ _ kind value) flags) (ap (time_fits true) same ∙ left)
event_fits row Counter None kind value flags same left = and_from _ _ (and_from _ _ (and_from _ _ kind value) flags) refl
event_fits row Analog (Some t) kind value flags same left = and_from _ _ (and_from _ _ (and_from _ _ kind value) flags) (ap (time_fits true) same ∙ left)
event_fits row Analog None kind value flags same left = and_from _ _ (and_from _ _ (and_from _ _ kind value) flags) refl

reading_is_event : (k : Kind) (f : Bool) (w : ℕ) (t : Bool) (row : Row) → IsNumber k f w → row_fits (shape k f w t) row ≡ true
    → carried (shape k f w t) row ≡ row → IsEvent row
reading_is_event k f w t row is fits carried_is =
    let parts = and_parts _ (time_fits t row.time) fits in
    let before = and_parts _ (flags_fit k f row.flags) parts.0 in
    let kind_value = and_parts (kind_eq row.kind k) (value_fits k w row.value) before.0 in
    let same : row.kind ≡ k = (Decides-kind_eq row.kind k).0 kind_value.0 in
    subst (λ (j : Kind). Fits (event_object j row.time).0 (event_object j row.time).1 row) (sym same)
    (event_fits row k row.time kind_value.0 (widened k f w row.value is kind_value.1) (flagged_fits k f row.flags before.1) refl
    (time_left k f w t row parts.1 carried_is))

pub read_is_event : (g v i : ℕ) (octets : List ℕ) (row : Row) → Reads g v i octets row → IsEvent row
read_is_event g v i octets row reads = go (shape_read g v) (shape_read_sound g v) reads
  where
    go : (o : Option Shape) → IfSome o IsShape → IsSomeAnd o (λ s. IsReading s i octets row) → IsEvent row
    go None is reads = absurd reads
    go (Some s) is reads = reading_is_event s.kind s.flags s.width s.time row is.number reads.row_is.fits reads.carried_is
