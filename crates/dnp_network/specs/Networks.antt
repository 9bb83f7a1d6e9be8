-- Definition: which network a text says for a plan of so many substations with this response timer, or the first place at which
-- it says none: the keys of the whole network first, then those of the concentrator, those of polling for all substations and for
-- the centres, then substation by substation, and then what stands twice.
use Rattle.std.specs.Prelude.{◌≡◌, ℕ, suc, ◌+◌, Bool, false, ◌==◌, ◌&&◌, if◌then◌else◌, List, [], ◌∷◌, ◌++◌, Option, Some, None, Result, Ok, Err, codes}
use Rattle.std.specs.Option.{is_some, option_map, option_or, unwrap_or}
use Rattle.std.specs.Str.{bytes_eq, str_eq_ignore_ascii_case}
use Rattle.toml.specs.Data.{Data, table, Items, no_items, item, get, as_array, as_table}
use Rattle.toml.specs.Parse.{parse_document}
use Rattle.dnp_network.specs.declared.place.Part.{Part}
use Rattle.dnp_network.specs.declared.place.Part.TheVariants as parts
use Rattle.dnp_network.specs.declared.place.NetworkKey.{NetworkKey}
use Rattle.dnp_network.specs.declared.place.NetworkKey.TheVariants as keys
use Rattle.dnp_network.specs.declared.place.Stands.TheVariants as finds
use Rattle.dnp_network.specs.declared.place.NetworkPlace.{NetworkPlace}
use Rattle.dnp_network.specs.declared.network.Site.{Site}
use Rattle.dnp_network.specs.declared.network.Head.{Head}
use Rattle.dnp_network.specs.declared.network.Network.{Network}
use Rattle.dnp_network.specs.declared.network.NetworkFault.{NetworkFault}
use Rattle.dnp_network.specs.declared.network.NetworkFault.TheVariants as faults
use Rattle.dnp_network.specs.declared.endpoint.Host.{Host}
use Rattle.dnp_network.specs.declared.endpoint.Host.TheVariants as hosts
use Rattle.dnp_network.specs.declared.endpoint.Endpoint.{Endpoint}
use Rattle.dnp_network.specs.declared.polling.Below.{Below}
use Rattle.dnp_network.specs.Keys.{◌>>=◌, ◌<|>◌, place, wrong, finished, is_there, unknown_fault, type_found, words_under, address_under, own_fault, endpoint_under, endpoint_needed}
use Rattle.dnp_network.specs.Polling.{polling_under, tables_under}

-- ---- a substation

abbrev pub site_fault : ℕ → Data → ℕ → ℕ → Option NetworkPlace
site_fault n t address master =
    unknown_fault (parts.Substation n) t <|> own_fault (parts.Substation n) keys.Master address master

unfoldable pub site_in : Below → ℕ → Data → Result Site NetworkPlace
site_in below n t = do
  at ← endpoint_needed (parts.Substation n) keys.At t
  name ← words_under (parts.Substation n) keys.Name t
  listen ← endpoint_under (parts.Substation n) keys.Listen t
  address ← address_under (parts.Substation n) keys.Address (n + 10) t
  master ← address_under (parts.Substation n) keys.Master 2 t
  polling ← polling_under below (parts.Substation n) t
  finished (site_fault n t address master)
      (record { at = at; name = name; listen = listen; address = address; master = master; polling = polling })

abbrev pub site_of : Below → ℕ → Data → Result Site NetworkPlace
site_of below n t = if is_some (as_table t) then site_in below n t else wrong (parts.Substation n) keys.Substation (type_found t)

-- ---- what stands twice

-- names of hosts are the same but for upper and lower case of the letters a to z
abbrev pub same_host : Host → Host → Bool
same_host (hosts.V4 one) (hosts.V4 other) = bytes_eq one other
same_host (hosts.V6 one) (hosts.V6 other) = bytes_eq one other
same_host (hosts.Name one) (hosts.Name other) = str_eq_ignore_ascii_case one other
same_host _ _ = false

unfoldable pub same_endpoint : Endpoint → Endpoint → Bool
same_endpoint one other = (one.port == other.port) && same_host one.host other.host

abbrev pub has_name : List ℕ → Option (List ℕ) → Bool
has_name name None = false
has_name name (Some other) = str_eq_ignore_ascii_case name other

-- the first substation of this name, or at this host and port, of those that are counted from this number on
abbrev pub first_named : ℕ → List ℕ → List Site → Option ℕ
first_named n name [] = None
first_named n name (site ∷ more) = if has_name name site.name then Some n else first_named (suc n) name more

abbrev pub first_placed : ℕ → Endpoint → List Site → Option ℕ
first_placed n at [] = None
first_placed n at (site ∷ more) = if same_endpoint at site.at then Some n else first_placed (suc n) at more

abbrev pub twice : Part → NetworkKey → Option ℕ → Option NetworkPlace
twice part key None = None
twice part key (Some m) = Some (place part key (finds.Twice m))

abbrev pub name_twice : ℕ → Option (List ℕ) → List Site → Option NetworkPlace
name_twice n None before = None
name_twice n (Some name) before = twice (parts.Substation n) keys.Name (first_named 0 name before)

unfoldable pub site_twice : ℕ → Site → List Site → Option NetworkPlace
site_twice n site before = twice (parts.Substation n) keys.At (first_placed 0 site.at before) <|> name_twice n site.name before

-- ---- the substations

-- one more behind those before it
abbrev pub grown : Below → ℕ → List Site → Data → Result (List Site) NetworkPlace
grown below n before t = site_of below n t >>= λ site. finished (site_twice n site before) (before ++ site ∷ [])

-- those from this number on behind those before them
abbrev pub sites_from : Below → ℕ → List Site → Items → Result (List Site) NetworkPlace
sites_from below n before no_items = Ok before
sites_from below n before (item first more) = grown below n before first >>= λ all. sites_from below (suc n) all more

abbrev pub items_count : Items → ℕ
items_count no_items = 0
items_count (item first more) = suc (items_count more)

abbrev pub sites_said : Below → Items → Result (List Site) NetworkPlace
sites_said below items = sites_from below 0 [] items

-- as many as the plan has
abbrev pub sites_of : Below → ℕ → Items → Result (List Site) NetworkPlace
sites_of below count items =
    if items_count items == count then sites_said below items
    else wrong parts.Whole keys.Substation (finds.Count (items_count items) count)

abbrev pub sites_as : Below → ℕ → Data → Option Items → Result (List Site) NetworkPlace
sites_as below count d None = wrong parts.Whole keys.Substation (type_found d)
sites_as below count d (Some items) = sites_of below count items

abbrev pub sites_in : Below → ℕ → Option Data → Result (List Site) NetworkPlace
sites_in below count None = wrong parts.Whole keys.Substation finds.Missing
sites_in below count (Some d) = sites_as below count d (as_array d)

unfoldable pub sites_under : Below → ℕ → Data → Result (List Site) NetworkPlace
sites_under below count t = sites_in below count (get (codes "substation") t)

-- ---- the concentrator

abbrev pub concentrator_part : Part
concentrator_part = parts.Concentrator

abbrev pub usual_listen : Endpoint
usual_listen = record { host = hosts.V4 (127 ∷ 0 ∷ 0 ∷ 1 ∷ []); port = 20100 }

abbrev pub usual_head : Head
usual_head = record { listen = usual_listen; listen2 = None; at = None; at2 = None; address = 9; centre = 1; centre2 = 3 }

-- what is said of a second centre, where there is none
abbrev pub alone_fault : Data → Option NetworkPlace
alone_fault t =
    if is_there keys.At2 t then Some (place parts.Concentrator keys.At2 finds.Alone)
    else (if is_there keys.Centre2 t then Some (place parts.Concentrator keys.Centre2 finds.Alone) else None)

abbrev pub second_fault : Option Endpoint → Data → ℕ → ℕ → Option NetworkPlace
second_fault None t address centre2 = alone_fault t
second_fault (Some listen2) t address centre2 = own_fault parts.Concentrator keys.Centre2 address centre2

abbrev pub head_fault : Data → Option Endpoint → ℕ → ℕ → ℕ → Option NetworkPlace
head_fault t listen2 address centre centre2 =
    unknown_fault parts.Concentrator t
    <|> own_fault parts.Concentrator keys.Centre address centre
    <|> second_fault listen2 t address centre2

unfoldable pub head_in : Data → Result Head NetworkPlace
head_in t = do
  listen ← endpoint_under parts.Concentrator keys.Listen t
  listen2 ← endpoint_under parts.Concentrator keys.Listen2 t
  at ← endpoint_under parts.Concentrator keys.At t
  at2 ← endpoint_under parts.Concentrator keys.At2 t
  address ← address_under parts.Concentrator keys.Address 9 t
  centre ← address_under parts.Concentrator keys.Centre 1 t
  centre2 ← address_under parts.Concentrator keys.Centre2 3 t
  finished (head_fault t listen2 address centre centre2) (record {
    listen = unwrap_or listen usual_listen;
    listen2 = listen2;
    at = at;
    at2 = at2;
    address = address;
    centre = centre;
    centre2 = centre2;
  })

abbrev pub head_as : Data → Result Head NetworkPlace
head_as d = if is_some (as_table d) then head_in d else wrong parts.Whole keys.Concentrator (type_found d)

abbrev pub head_of : Option Data → Result Head NetworkPlace
head_of None = Ok usual_head
head_of (Some d) = head_as d

unfoldable pub head_under : Data → Result Head NetworkPlace
head_under t = head_of (get (codes "concentrator") t)

-- where the centres find it: where it listens, unless another place is given
abbrev pub at_of : Head → Endpoint
at_of head = unwrap_or head.at head.listen

abbrev pub at2_of : Head → Option Endpoint
at2_of head = option_or head.at2 head.listen2

abbrev pub again : NetworkKey → NetworkKey → Option Endpoint → Endpoint → Option NetworkPlace
again key first None at = None
again key first (Some at2) at = if same_endpoint at2 at then Some (place parts.Concentrator key (finds.As first)) else None

abbrev pub second_placed : Option Endpoint → List Site → Option NetworkPlace
second_placed None sites = None
second_placed (Some at2) sites = twice parts.Concentrator keys.At2 (first_placed 0 at2 sites)

unfoldable pub head_twice : Head → List Site → Option NetworkPlace
head_twice head sites =
    again keys.Listen2 keys.Listen head.listen2 head.listen
    <|> again keys.At2 keys.At (at2_of head) (at_of head)
    <|> twice parts.Concentrator keys.At (first_placed 0 (at_of head) sites)
    <|> second_placed (at2_of head) sites

-- ---- the network

unfoldable pub network_of : ℕ → ℕ → Data → Result Network NetworkPlace
network_of count plan_ms t = do
  name ← words_under parts.Whole keys.Name t
  points ← words_under parts.Whole keys.Points t
  concentrator ← head_under t
  polling ← tables_under plan_ms t
  substations ← sites_under polling.below count t
  finished (unknown_fault parts.Whole t <|> head_twice concentrator substations) (record {
    name = name;
    points = points;
    concentrator = concentrator;
    centre_polling = polling.centre;
    substations = substations;
  })

-- what a text of TOML says
unfoldable pub network_said : ℕ → ℕ → List ℕ → Option (Result Network NetworkPlace)
network_said count plan_ms text = option_map (λ members. network_of count plan_ms (table members)) (parse_document text)

-- why a text says no network; where memory runs out, nothing is said of it
abbrev pub IsRefusedFor : ℕ → ℕ → List ℕ → NetworkFault → Type 0
IsRefusedFor count plan_ms text faults.Syntax = parse_document text ≡ None
IsRefusedFor count plan_ms text (faults.Wrong place) = network_said count plan_ms text ≡ Some (Err place)
IsRefusedFor count plan_ms text faults.Memory = Unit
