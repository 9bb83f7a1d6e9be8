-- Definition: the links of a network: which link addresses each of their stations has, and where a centre is served.
use Rattle.std.specs.Prelude.{ℕ, Bool, true, false, Option, Some}
use Rattle.std.specs.Net.Addr.{ipv4_octets, ipv6_segments}
use Rattle.std.specs.declared.net.ip_addr.IpAddr.{IpAddr}
use Rattle.std.specs.declared.net.ip_addr.IpAddr.TheVariants as ips
use Rattle.dnp_network.specs.declared.network.Site.{Site}
use Rattle.dnp_network.specs.declared.network.Head.{Head}
use Rattle.dnp_network.specs.declared.endpoint.Host.{Host}
use Rattle.dnp_network.specs.declared.endpoint.Host.TheVariants as hosts
use Rattle.dnp_network.specs.declared.endpoint.Endpoint.{Endpoint}
use Rattle.dnp_network.specs.declared.links.LinkEnds.{LinkEnds}
use Rattle.dnp_network.specs.declared.links.CentreOf.{CentreOf}
use Rattle.dnp_network.specs.declared.links.CentreOf.TheVariants.{First, Second}
use Rattle.dnp_network.specs.Networks.{at_of, at2_of}

-- the link addresses of a station and of the other one of its link
abbrev pub ends : ℕ → ℕ → LinkEnds
ends own other = record { own = own; other = other }

-- as the other station sees them
abbrev pub turned : LinkEnds → LinkEnds
turned link = ends link.other link.own

-- a substation, and its master
abbrev pub of_site : Site → LinkEnds
of_site site = ends site.address site.master

-- the concentrator, and a centre
abbrev pub address_of_centre : CentreOf → Head → ℕ
address_of_centre First head = head.centre
address_of_centre Second head = head.centre2

abbrev pub of_head : CentreOf → Head → LinkEnds
of_head centre head = ends head.address (address_of_centre centre head)

-- where the concentrator listens for a centre
abbrev pub served_at : CentreOf → Head → Option Endpoint
served_at First head = Some head.listen
served_at Second head = head.listen2

-- where a centre finds it
abbrev pub found_at : CentreOf → Head → Option Endpoint
found_at First head = Some (at_of head)
found_at Second head = at2_of head

-- ---- hosts

-- a host that isn't looked up
abbrev pub is_address : Host → Bool
is_address (hosts.V4 octets) = true
is_address (hosts.V6 groups) = true
is_address (hosts.Name name) = false

-- the host with this address
abbrev pub host_at : IpAddr → Host
host_at (ips.V4 address) = hosts.V4 (ipv4_octets address)
host_at (ips.V6 address) = hosts.V6 (ipv6_segments address)
