-- Definition: which indications have risen between two responses (IEEE Std 1815-2012, application layer: internal indications).
use Rattle.std.specs.Prelude.{Bool, false, not, ◌&&◌, ◌||◌, ◌==◌, bit_and, Option, Some, None}
use Rattle.dnp_appfragment.specs.declared.iin.Iin.{Iin}
use Rattle.dnp_schedule.specs.declared.indications.Risen.{Risen}

-- each of these is indicated
abbrev pub has : Iin → Iin → Bool
has seen indications = (bit_and seen.one indications.one == indications.one) && (bit_and seen.two indications.two == indications.two)

-- it was indicated; before the first response of a connection nothing was
abbrev pub had : Option Iin → Iin → Bool
had None indications = false
had (Some seen) indications = has seen indications

-- it is indicated, and was not
abbrev pub rose : Option Iin → Iin → Iin → Bool
rose before after indication = has after indication && not (had before indication)

-- IIN1.7
abbrev pub device_restart : Iin
device_restart = record { one = 128; two = 0 }

-- IIN1.4
abbrev pub need_time : Iin
need_time = record { one = 16; two = 0 }

-- IIN2.3
abbrev pub overflow : Iin
overflow = record { one = 0; two = 8 }

-- IIN1.1 to IIN1.3
abbrev pub class_1 : Iin
class_1 = record { one = 2; two = 0 }

abbrev pub class_2 : Iin
class_2 = record { one = 4; two = 0 }

abbrev pub class_3 : Iin
class_3 = record { one = 8; two = 0 }

-- events of a class wait
abbrev pub has_events : Iin → Bool
has_events seen = has seen class_1 || (has seen class_2 || has seen class_3)

-- what has risen of those that a master acts on
abbrev pub what_rose : Option Iin → Iin → Risen
what_rose before after = record {
  restart = rose before after device_restart;
  time = rose before after need_time;
  overflow = rose before after overflow;
  events = rose before after class_1 || (rose before after class_2 || rose before after class_3);
}
