-- Definition: the names of a control code's parts (IEEE Std 1815-2012, object library: group 12 variation 1).
use Rattle.std.specs.Prelude.{ℕ, ◌==◌, if◌then◌else◌, List, [], codes}
use Rattle.std.specs.Int.{bit_at}
use Rattle.dnp_controls.specs.Code.{operation, relay}
use Rattle.dnp_controls.specs.declared.code.Operation.{Operation}
use Rattle.dnp_controls.specs.declared.code.Operation.TheVariants.{Nul, PulseOn, PulseOff, LatchOn, LatchOff, Other}

abbrev pub name_of : Operation → List ℕ
name_of Nul = codes "NUL"
name_of PulseOn = codes "PULSE_ON"
name_of PulseOff = codes "PULSE_OFF"
name_of LatchOn = codes "LATCH_ON"
name_of LatchOff = codes "LATCH_OFF"
name_of Other = codes "reserved operation"

-- what is ordered
abbrev pub operation_name : ℕ → List ℕ
operation_name code = name_of (operation code)

-- the relay of a pair
abbrev pub relay_name : ℕ → List ℕ
relay_name code =
    if relay code == 0 then []
    else (if relay code == 1 then codes "CLOSE"
    else (if relay code == 2 then codes "TRIP"
    else codes "reserved relay"))

-- bit 4
abbrev pub queue_name : ℕ → List ℕ
queue_name code = if bit_at code 4 == 1 then codes "queue" else []

-- bit 5
abbrev pub clear_name : ℕ → List ℕ
clear_name code = if bit_at code 5 == 1 then codes "clear" else []
