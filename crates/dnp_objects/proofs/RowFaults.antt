-- Octets are read as one row, and refused only where they are read as none.
use Rattle.std.proofs.Common.{◌≡◌, ◌≢◌, ℕ, List, length, sym, ◌∙◌, ap, Option, Some, None, IfSome}
use Rattle.std.specs.Option.{option_and_then, IsSomeAnd}
use Rattle.dnp_objects.specs.declared.row.Row.{Row}
use Rattle.dnp_objects.specs.declared.table.Shape.{Shape}
use Rattle.dnp_objects.specs.declared.table.Content.{Content}
use Rattle.dnp_objects.specs.declared.table.Content.TheVariants as content
use Rattle.dnp_objects.specs.declared.fault.ObjectFault.{ObjectFault}
use Rattle.dnp_objects.specs.declared.fault.ObjectFault.TheVariants.{ObjectUnknown, Cut, ValueRange}
use Rattle.dnp_objects.specs.Objects.{IsShape, IsContent, shape_size, content_of, readable, shape_read}
use Rattle.dnp_objects.specs.Rows.{IsReading, Reads, IsReadFault}
use Rattle.dnp_objects.proofs.Lines.{content_sound}
use Rattle.dnp_objects.proofs.Spelling.{only_reading, length-row_octets}

readable_sound : (o : Option Content) → IfSome o IsContent → IfSome (option_and_then readable o) IsShape
readable_sound None is = tt
readable_sound (Some (content.Row s)) is = is
readable_sound (Some (content.WrittenRow s)) is = tt
readable_sound (Some content.Block) is = tt
readable_sound (Some (content.Setpoint w)) is = tt
readable_sound (Some (content.Other n)) is = tt

pub shape_read_sound : (g v : ℕ) → IfSome (shape_read g v) IsShape
shape_read_sound g v = readable_sound (content_of g v) (content_sound g v)

-- a fact that needs a value has one
none_of : {A : Type 0} (o : Option A) (P : A → Type 0) → IsSomeAnd o P → o ≡ None → ⊥
none_of None P has none = has
none_of (Some a) P has none = cc

one_of : (o : Option Shape) (i : ℕ) (octets : List ℕ) (a b : Row) → IfSome o IsShape
    → IsSomeAnd o (λ s. IsReading s i octets a) → IsSomeAnd o (λ s. IsReading s i octets b) → a ≡ b
one_of None i octets a b is p q = absurd p
one_of (Some s) i octets a b is p q = only_reading s i octets a is p ∙ sym (only_reading s i octets b is q)

pub one_reading : (g v i : ℕ) (octets : List ℕ) (a b : Row) → Reads g v i octets a → Reads g v i octets b → a ≡ b
one_reading g v i octets a b p q = one_of (shape_read g v) i octets a b (shape_read_sound g v) p q

not_cut : (o : Option Shape) (i : ℕ) (octets : List ℕ) (a : Row) → IsSomeAnd o (λ s. IsReading s i octets a)
    → IsSomeAnd o (λ s. length octets ≢ shape_size s) → ⊥
not_cut None i octets a p cut = p
not_cut (Some s) i octets a p cut = cut (ap length p.row_is.spelled ∙ length-row_octets s a p.row_is.fits)

pub no_read_fault : (g v i : ℕ) (octets : List ℕ) (a : Row) (e : ObjectFault) → Reads g v i octets a → IsReadFault g v octets e → ⊥
no_read_fault g v i octets a ObjectUnknown p fault = none_of (shape_read g v) (λ s. IsReading s i octets a) p fault
no_read_fault g v i octets a Cut p fault = not_cut (shape_read g v) i octets a p fault
no_read_fault g v i octets a ValueRange p fault = fault
