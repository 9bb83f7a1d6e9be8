-- Definition: the words for what a binary output is to do, and their control codes (IEEE Std 1815-2012, object
-- library: group 12 variation 1).
use Rattle.std.specs.Prelude.{ℕ, Bool, true, false, ◌==◌, if◌then◌else◌, List, Option, Some, None, codes}
use Rattle.std.specs.Str.{bytes_eq}
use Rattle.dnp_orders.specs.declared.action.Action.{Action}
use Rattle.dnp_orders.specs.declared.action.Action.TheVariants.{LatchOn, LatchOff, PulseOn, PulseOff, Close, Trip}

-- the low four bits say what is done: 1 PULSE_ON, 2 PULSE_OFF, 3 LATCH_ON, 4 LATCH_OFF; bit 6 says the close relay of
-- a pair, bit 7 the trip relay
abbrev pub code_of : Action → ℕ
code_of LatchOn = 0x03
code_of LatchOff = 0x04
code_of PulseOn = 0x01
code_of PulseOff = 0x02
code_of Close = 0x41
code_of Trip = 0x81

abbrev pub word_of : Action → List ℕ
word_of LatchOn = codes "latch-on"
word_of LatchOff = codes "latch-off"
word_of PulseOn = codes "pulse-on"
word_of PulseOff = codes "pulse-off"
word_of Close = codes "close"
word_of Trip = codes "trip"

-- it lasts for a time
abbrev pub is_timed : Action → Bool
is_timed LatchOn = false
is_timed LatchOff = false
is_timed PulseOn = true
is_timed PulseOff = true
is_timed Close = true
is_timed Trip = true

-- the word is this text
abbrev pub is : List ℕ → List ℕ → Bool
is word text = bytes_eq word text

-- the action that the word names
abbrev pub action_named : List ℕ → Option Action
action_named word =
    if is word (word_of LatchOn) then Some LatchOn
    else (if is word (word_of LatchOff) then Some LatchOff
    else (if is word (word_of PulseOn) then Some PulseOn
    else (if is word (word_of PulseOff) then Some PulseOff
    else (if is word (word_of Close) then Some Close
    else (if is word (word_of Trip) then Some Trip else None)))))

-- the action that has the code
abbrev pub action_of : ℕ → Option Action
action_of code =
    if code == code_of LatchOn then Some LatchOn
    else (if code == code_of LatchOff then Some LatchOff
    else (if code == code_of PulseOn then Some PulseOn
    else (if code == code_of PulseOff then Some PulseOff
    else (if code == code_of Close then Some Close
    else (if code == code_of Trip then Some Trip else None)))))
