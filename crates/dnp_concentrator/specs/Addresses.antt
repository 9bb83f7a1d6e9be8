-- Definition: the link addresses of the centres and of the substations' outstations (IEEE Std 1815-2012, data link layer:
-- addresses).
use Rattle.std.specs.Prelude.{ℕ, ◌+◌, ◌==◌, if◌then◌else◌}
use Rattle.dnp_concentrator.specs.declared.addresses.TheConstants.{CENTRE, FIRST_OUTSTATION, SECOND_CENTRE}

-- that of a centre
abbrev pub centre_address : ℕ → ℕ
centre_address centre = if centre == 0 then CENTRE else SECOND_CENTRE

-- those of the outstations follow one another
abbrev pub outstation_address : ℕ → ℕ
outstation_address substation = FIRST_OUTSTATION + substation
