-- Definition: where a concentrator serves its centres, and where stations are asked, with the link addresses of their frames.
use Rattle.std.specs.Prelude.{◌≡◌, ℕ, ◌+◌, ◌≤◌, Option, Some, slice_get}
use Rattle.std.specs.Net.Socket.{socket_port}
use Rattle.dnp_notices.specs.Places.{address_of}
use Rattle.dnp_files.specs.declared.sites.Substations.{Substations}
use Rattle.dnp_files.specs.declared.sites.Substations.TheVariants.{FromPort, Listed}
use Rattle.dnp_concentrator.specs.Addresses.{centre_address, outstation_address}
use Rattle.dnp_concentrator.specs.declared.addresses.TheConstants.{CONCENTRATOR_ABOVE, MASTER_BELOW}
use Rattle.dnp_notices.specs.declared.strange.Ends.{Ends}
use Rattle.dnp_files.specs.declared.sites.Target.{Target}

-- the frames that one station sends to another
abbrev pub from_to : ℕ → ℕ → Ends
from_to source dest = record { source = source; dest = dest }

-- the frames of a centre, which the concentrator takes, where no others are given
abbrev pub from_centre : ℕ → Ends
from_centre centre = from_to (centre_address centre) CONCENTRATOR_ABOVE

-- those of the concentrator, which a centre takes
abbrev pub to_centre : ℕ → Ends
to_centre centre = from_to CONCENTRATOR_ABOVE (centre_address centre)

-- those of a substation, which the concentrator takes
abbrev pub from_substation : ℕ → Ends
from_substation substation = from_to (outstation_address substation) MASTER_BELOW

-- a place of this port, where there is such a port
abbrev pub IsAtPort : ℕ → Target → Type 0
IsAtPort port target = port ≤ 65535 → socket_port (address_of target.place) ≡ port

-- where the substation with this number is asked: at the port of its number behind that of the first, with the usual link addresses,
-- or at its place in the list
abbrev pub IsTarget : Substations → ℕ → Option Target → Type 0
IsTarget (FromPort port) substation found =
    (target : Target) × (found ≡ Some target) × (target.awaited ≡ from_substation substation) × IsAtPort (port + substation) target
IsTarget (Listed targets) substation found = found ≡ slice_get targets.now substation
