-- Definition: the control code of a control relay output block (IEEE Std 1815-2012, object library: group 12
-- variation 1), and which codes outputs perform here.
use Rattle.std.specs.Prelude.{ℕ, ◌/◌, ◌%◌, Bool, true, false, not, ◌&&◌, ◌==◌, if◌then◌else◌}
use Rattle.std.specs.Int.{bit_at}
use Rattle.dnp_controls.specs.declared.code.Operation.{Operation}
use Rattle.dnp_controls.specs.declared.code.Operation.TheVariants.{Nul, PulseOn, PulseOff, LatchOn, LatchOff, Other}

-- what a code orders, in its low four bits
abbrev pub operation : ℕ → Operation
operation code =
    (if code % 16 == 0 then Nul else
    (if code % 16 == 1 then PulseOn else
    (if code % 16 == 2 then PulseOff else
    (if code % 16 == 3 then LatchOn else
    (if code % 16 == 4 then LatchOff else Other)))))

-- the operations that are performed
abbrev pub is_performed : Operation → Bool
is_performed Nul = false
is_performed PulseOn = true
is_performed PulseOff = true
is_performed LatchOn = true
is_performed LatchOff = true
is_performed Other = false

-- bits 7 and 6 of a code: 0 for no relay of a pair, 1 for close, 2 for trip; 3 has no meaning
abbrev pub relay : ℕ → ℕ
relay code = code / 64

-- the code rule: an operation that is performed, bits 4 (queue) and 5 (clear) are 0, bits 7 and 6 are
-- not both 1, and it is to be done at least once
abbrev pub obeys_code_rule : ℕ → ℕ → Bool
obeys_code_rule code count =
    is_performed (operation code)
    && (bit_at code 4 == 0 && (bit_at code 5 == 0 && (not (relay code == 3) && not (count == 0))))
