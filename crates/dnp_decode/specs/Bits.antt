-- Definition: what the bits of flags are called, each by the octet in which it alone is set (IEEE Std 1815-2012, object library: flags).
use Rattle.std.specs.Prelude.{ℕ, ◌==◌, if◌then◌else◌, List, codes}
use Rattle.dnp_decode.specs.declared.bits.FlagsOf.{FlagsOf}
use Rattle.dnp_decode.specs.declared.bits.FlagsOf.TheVariants as of

-- the three highest are of each kind's own
abbrev pub own_flag : FlagsOf → ℕ → List ℕ
own_flag of.Binary bit = if bit == 0x20 then codes "CHATTER_FILTER" else (if bit == 0x80 then codes "STATE" else codes "reserved")
own_flag of.Counter bit = if bit == 0x20 then codes "ROLLOVER" else (if bit == 0x40 then codes "DISCONTINUITY" else codes "reserved")
own_flag of.Analog bit = if bit == 0x20 then codes "OVER_RANGE" else (if bit == 0x40 then codes "REFERENCE_ERR" else codes "reserved")
own_flag of.Output bit = if bit == 0x80 then codes "STATE" else codes "reserved"

abbrev pub flag_name : FlagsOf → ℕ → List ℕ
flag_name kind bit =
    if bit == 0x01 then codes "ONLINE"
    else (if bit == 0x02 then codes "RESTART"
    else (if bit == 0x04 then codes "COMM_LOST"
    else (if bit == 0x08 then codes "REMOTE_FORCED"
    else (if bit == 0x10 then codes "LOCAL_FORCED" else own_flag kind bit))))
