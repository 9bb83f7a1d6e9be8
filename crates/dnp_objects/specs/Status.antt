-- Definition: the status octet of a command, as a number below 128 (IEEE Std 1815-2012, object library: control
-- status codes). A clause sees a `Status` as this number.
use Rattle.std.specs.Prelude.{ℕ}

abbrev pub success : ℕ
success = 0

abbrev pub timeout : ℕ
timeout = 1

abbrev pub no_select : ℕ
no_select = 2

abbrev pub format_error : ℕ
format_error = 3

abbrev pub not_supported : ℕ
not_supported = 4

abbrev pub already_active : ℕ
already_active = 5

abbrev pub hardware_error : ℕ
hardware_error = 6

abbrev pub local : ℕ
local = 7

abbrev pub too_many_objs : ℕ
too_many_objs = 8
