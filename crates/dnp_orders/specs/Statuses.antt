-- Definition: the names of statuses (IEEE Std 1815-2012, object library: control status codes).
use Rattle.std.specs.Prelude.{ℕ, ◌==◌, if◌then◌else◌, List, codes}

-- those from 19 to 125 are reserved
abbrev pub status_name : ℕ → List ℕ
status_name status =
    if status == 0 then codes "SUCCESS"
    else (if status == 1 then codes "TIMEOUT"
    else (if status == 2 then codes "NO_SELECT"
    else (if status == 3 then codes "FORMAT_ERROR"
    else (if status == 4 then codes "NOT_SUPPORTED"
    else (if status == 5 then codes "ALREADY_ACTIVE"
    else (if status == 6 then codes "HARDWARE_ERROR"
    else (if status == 7 then codes "LOCAL"
    else (if status == 8 then codes "TOO_MANY_OBJS"
    else (if status == 9 then codes "NOT_AUTHORIZED"
    else (if status == 10 then codes "AUTOMATION_INHIBIT"
    else (if status == 11 then codes "PROCESSING_LIMITED"
    else (if status == 12 then codes "OUT_OF_RANGE"
    else (if status == 13 then codes "DOWNSTREAM_LOCAL"
    else (if status == 14 then codes "ALREADY_COMPLETE"
    else (if status == 15 then codes "BLOCKED"
    else (if status == 16 then codes "CANCELED"
    else (if status == 17 then codes "BLOCKED_OTHER_MASTER"
    else (if status == 18 then codes "DOWNSTREAM_FAIL"
    else (if status == 126 then codes "NON_PARTICIPATING"
    else (if status == 127 then codes "UNDEFINED"
    else codes "RESERVED"))))))))))))))))))))
