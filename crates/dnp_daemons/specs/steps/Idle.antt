-- Private steps: the lines that do nothing as they are found.
use Rattle.std.specs.Prelude.{ℕ, ◌+◌, List, length, Option, Some, None}
use Rattle.dnp_daemons.specs.IdleLines.{summed}
use Rattle.dnp_daemons.specs.declared.script.idle.IdleLines.{IdleLines}
use Rattle.dnp_daemons.specs.declared.script.idle.IdleReason.{IdleReason}

-- those found, and the line of this number where it has a reason
abbrev pub found_after : Option IdleLines → ℕ → Option IdleReason → Option IdleLines
found_after found number None = found
found_after None number (Some reason) = Some (record { count = 1; first = number; reason = reason })
found_after (Some found) number (Some reason) = Some (record found { count = found.count + 1 })

-- those found, and these after them
abbrev pub found_before : Option IdleLines → List (ℕ × IdleReason) → Option IdleLines
found_before None more = summed more
found_before (Some found) more = Some (record found { count = found.count + length more })
