-- Private steps: how the select that is kept is seen.
use Rattle.std.specs.Prelude.{Bool, if◌then◌else◌, Option, Some, None}
use Rattle.dnp_controls.specs.Selecting.{Select}
use Rattle.dnp_controls.specs.declared.select.LastSelect.{LastSelect}

abbrev pub select_of : Bool → LastSelect → Option Select
select_of stands kept = if stands then Some (record { at = kept.at; seq = kept.seq; octets = kept.octets.items }) else None
