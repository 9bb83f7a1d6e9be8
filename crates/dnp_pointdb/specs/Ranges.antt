-- Definition: which readings a point of a kind can have: those that an object of the kind can carry (IEEE Std
-- 1815-2012, object library). The widest objects of a counter and of an analog have flags and 4
-- octets of value; a binary's value has no octets of its own.
use Rattle.std.specs.Prelude.{ℕ, Bool, true, ◌&&◌, nat_lt, Option, Some, None}
use Rattle.dnp_objects.specs.declared.limits.TheConstants.{MAX_TIME}
use Rattle.dnp_objects.specs.declared.row.Kind.{Kind}
use Rattle.dnp_objects.specs.Rows.{value_fits, flags_fit}
use Rattle.dnp_pointdb.specs.declared.reading.Reading.{Reading}

-- an object of the kind can carry the value and the flags
abbrev pub is_carried : Kind → Reading → Bool
is_carried kind reading = value_fits kind 4 reading.value && flags_fit kind true reading.flags

-- a time is below 2^48 ms, or absent
abbrev pub is_in_time : Option ℕ → Bool
is_in_time None = true
is_in_time (Some time) = nat_lt time MAX_TIME

abbrev pub is_in_range : Kind → Reading → Bool
is_in_range kind reading = is_carried kind reading && is_in_time reading.time
