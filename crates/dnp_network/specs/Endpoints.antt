-- Definition: where a station is found: which host and port a text says, or why it says none, and when two are the same.
use Rattle.std.specs.Prelude.{ℕ, suc, ◌+◌, ◌*◌, ◌-◌, Bool, true, ◌==◌, nat_le, ◌&&◌, ◌||◌, not, if◌then◌else◌, List, [], ◌∷◌, length, take, drop, Option, Some, None, option_map, Result, Ok, Err}
use Rattle.std.specs.Net.Reader.{read_ipv4, read_ipv6, whole_value}
use Rattle.dnp_network.specs.declared.endpoint.TheConstants.{MAX_NAME, MAX_PORT}
use Rattle.dnp_network.specs.declared.endpoint.Host.{Host}
use Rattle.dnp_network.specs.declared.endpoint.Host.TheVariants as hosts
use Rattle.dnp_network.specs.declared.endpoint.Endpoint.{Endpoint}
use Rattle.dnp_network.specs.declared.endpoint.EndpointFault.{EndpointFault}
use Rattle.dnp_network.specs.declared.endpoint.EndpointFault.TheVariants as faults

-- where the first of these octets stands among octets that are counted from this number on
abbrev pub place_from : ℕ → ℕ → List ℕ → Option ℕ
place_from mark n [] = None
place_from mark n (octet ∷ more) = if octet == mark then Some n else place_from mark (suc n) more

-- what stands before and after it
unfoldable pub cut : ℕ → List ℕ → Option (List ℕ × List ℕ)
cut mark octets = option_map (λ n. (take n octets, drop (n + 1) octets)) (place_from mark 0 octets)

-- ---- ports

abbrev pub is_digit : ℕ → Bool
is_digit octet = nat_le 48 octet && nat_le octet 57

-- the decimal number of these digits behind those of which this is the value, if it is no more than the highest port
abbrev pub port_from : ℕ → List ℕ → Option ℕ
port_from value [] = Some value
port_from value (octet ∷ more) =
    if is_digit octet && nat_le (value * 10 + (octet - 48)) MAX_PORT then port_from (value * 10 + (octet - 48)) more
    else None

-- port 0 is none
abbrev pub nonzero : Option ℕ → Option ℕ
nonzero None = None
nonzero (Some n) = if n == 0 then None else Some n

unfoldable pub port_of : List ℕ → Option ℕ
port_of digits = nonzero (port_from 0 digits)

-- ---- hosts

-- an address of four octets with dots
unfoldable pub v4_of : List ℕ → Option (List ℕ)
v4_of text = whole_value (read_ipv4 text)

-- one of eight groups with colons
unfoldable pub v6_of : List ℕ → Option (List ℕ)
v6_of text = whole_value (read_ipv6 text)

abbrev pub all_are : (ℕ → Bool) → List ℕ → Bool
all_are f [] = true
all_are f (octet ∷ more) = f octet && all_are f more

-- a digit or a dot
abbrev pub is_numeric : ℕ → Bool
is_numeric octet = is_digit octet || (octet == 46)

-- a letter, a digit, a hyphen, a dot or an underline
abbrev pub is_named : ℕ → Bool
is_named octet =
    (((nat_le 97 octet && nat_le octet 122) || (nat_le 65 octet && nat_le octet 90)) || is_numeric octet) || ((octet == 45) || (octet == 95))

-- 1 to 253 of them
unfoldable pub is_name : List ℕ → Bool
is_name text = (not (length text == 0) && nat_le (length text) MAX_NAME) && all_are is_named text

-- what is of digits and dots alone is an address, or nothing
abbrev pub v4_host : Option (List ℕ) → Result Host EndpointFault
v4_host None = Err faults.Address4
v4_host (Some octets) = Ok (hosts.V4 octets)

unfoldable pub host_of : List ℕ → Result Host EndpointFault
host_of text =
    if not (length text == 0) && all_are is_numeric text then v4_host (v4_of text)
    else (if is_name text then Ok (hosts.Name text) else Err faults.Name)

-- ---- host and port

abbrev pub with_port : Host → Option ℕ → Result Endpoint EndpointFault
with_port host None = Err faults.Port
with_port host (Some port) = Ok (record { host = host; port = port })

abbrev pub at_host : Result Host EndpointFault → List ℕ → Result Endpoint EndpointFault
at_host (Err fault) digits = Err fault
at_host (Ok host) digits = with_port host (port_of digits)

-- a host without brackets holds no colon
abbrev pub plain_of : Option (List ℕ × List ℕ) → Result Endpoint EndpointFault
plain_of None = Err faults.NoPort
plain_of (Some p) = if all_are (λ octet. not (octet == 58)) p.1 then at_host (host_of p.0) p.1 else Err faults.Bare6

abbrev pub v6_host : Option (List ℕ) → Result Host EndpointFault
v6_host None = Err faults.Address6
v6_host (Some groups) = Ok (hosts.V6 groups)

-- what stands behind the bracket that closes: a colon and the port
abbrev pub behind : List ℕ → List ℕ → Result Endpoint EndpointFault
behind host [] = Err faults.NoPort
behind host (octet ∷ digits) = if octet == 58 then at_host (v6_host (v6_of host)) digits else Err faults.NoPort

abbrev pub bracketed_of : Option (List ℕ × List ℕ) → Result Endpoint EndpointFault
bracketed_of None = Err faults.Bracket
bracketed_of (Some p) = behind p.0 p.1

unfoldable pub endpoint_of : List ℕ → Result Endpoint EndpointFault
endpoint_of [] = Err faults.NoPort
endpoint_of (octet ∷ more) = if octet == 91 then bracketed_of (cut 93 more) else plain_of (cut 58 (octet ∷ more))
