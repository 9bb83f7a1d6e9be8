-- Definition: a binary's event as octets that give its time after a common one, 2.3 (IEEE Std 1815-2012, object
-- library: groups 2 and 51): its flags, and how many milliseconds it came after the common time, in 2 octets.
use Rattle.std.specs.Prelude.{◌≡◌, ◌≢◌, ℕ, ◌+◌, ◌-◌, ◌/◌, ◌%◌, ◌≤◌, pos, List, ◌∷◌, length, drop, Some, slice_index}
use Rattle.std.specs.Option.{IsSomeAnd, unwrap_or}
use Rattle.byteorder.specs.Endian.{little_bytes, little_number}
use Rattle.dnp_objects.specs.declared.row.Kind.TheVariants.{Binary}
use Rattle.dnp_objects.specs.declared.row.Row.{Row}
use Rattle.dnp_objects.specs.declared.fault.ObjectFault.{ObjectFault}
use Rattle.dnp_objects.specs.declared.fault.ObjectFault.TheVariants.{ObjectUnknown, Cut, ValueRange}
use Rattle.dnp_objects.specs.declared.limits.TheConstants.{MAX_TIME, MAX_RELATIVE}
use Rattle.dnp_objects.specs.Rows.{Fits, flags_octet}

-- the row can be written with its time after a common one: a binary that 2.2 can carry, whose time is the common one, or
-- so little after it that two octets tell by how much
pub record FitsRelative (common : ℕ) (row : Row) : Type 0 where
  pub event : Fits 2 2 row
  pub near : IsSomeAnd row.time (λ time. (common ≤ time) × (time ≤ common + MAX_RELATIVE))

-- its octets
abbrev pub relative_octets : ℕ → Row → List ℕ
relative_octets common row = flags_octet Binary row.flags row.value ∷ little_bytes 2 (unwrap_or row.time 0 - common)

-- the octets are those of a row of this index, which can be written so
pub record IsRelative (index : ℕ) (octets : List ℕ) (common : ℕ) (row : Row) : Type 0 where
  pub index_is : row.index ≡ index
  pub fits : FitsRelative common row
  pub spelled : octets ≡ relative_octets common row

-- the row that three octets give
abbrev pub relative_row : ℕ → List ℕ → ℕ → Row
relative_row index octets common = record {
  kind = Binary;
  index = index;
  flags = slice_index octets 0 % 128;
  value = pos (slice_index octets 0 / 128);
  time = Some (common + little_number 2 (drop 1 octets));
}

-- why octets are not read so: there are not three of them, or the time is 2^48 ms or more
abbrev pub IsRelativeReadFault : List ℕ → ℕ → ObjectFault → Type 0
IsRelativeReadFault octets common ObjectUnknown = ⊥
IsRelativeReadFault octets common Cut = length octets ≢ 3
IsRelativeReadFault octets common ValueRange = MAX_TIME ≤ common + little_number 2 (drop 1 octets)

-- why a row is not written so: it does not fit
abbrev pub IsRelativeWriteFault : Row → ℕ → ObjectFault → Type 0
IsRelativeWriteFault row common ObjectUnknown = ⊥
IsRelativeWriteFault row common Cut = ⊥
IsRelativeWriteFault row common ValueRange = FitsRelative common row → ⊥
