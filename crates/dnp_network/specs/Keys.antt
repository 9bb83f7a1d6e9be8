-- Definition: what stands under a key of a table, or the place at which it is wrong.
use Rattle.std.specs.Prelude.{ℕ, suc, ℤ, pos, negsuc, Bool, false, ◌==◌, nat_le, if◌then◌else◌, List, [], ◌∷◌, ◌++◌, length, Option, Some, None, Result, Ok, Err, codes, count_by}
use Rattle.std.specs.Option.{is_some, option_or}
use Rattle.toml.specs.Data.{Data, string, integer, float, boolean, datetime, array, table, Members, no_members, member, get, as_str, as_integer, as_table}
use Rattle.dnp_network.specs.declared.place.TheConstants.{MAX_ADDRESS}
use Rattle.dnp_network.specs.declared.place.Part.{Part}
use Rattle.dnp_network.specs.declared.place.Part.TheVariants as parts
use Rattle.dnp_network.specs.declared.place.NetworkKey.{NetworkKey}
use Rattle.dnp_network.specs.declared.place.NetworkKey.TheVariants as keys
use Rattle.dnp_network.specs.declared.place.Stands.{Stands}
use Rattle.dnp_network.specs.declared.place.Stands.TheVariants as finds
use Rattle.dnp_network.specs.declared.place.NetworkPlace.{NetworkPlace}
use Rattle.dnp_network.specs.declared.endpoint.Endpoint.{Endpoint}
use Rattle.dnp_network.specs.declared.endpoint.EndpointFault.{EndpointFault}
use Rattle.dnp_network.specs.Endpoints.{endpoint_of}

-- one step after the other, each only where the one before went well
abbrev pub and_then : {A B : Type 0} → Result A NetworkPlace → (A → Result B NetworkPlace) → Result B NetworkPlace
and_then (Ok x) f = f x
and_then (Err place) f = Err place

infixl 10 ◌>>=◌
abbrev pub ◌>>=◌ : {A B : Type 0} → Result A NetworkPlace → (A → Result B NetworkPlace) → Result B NetworkPlace
r >>= f = and_then r f

-- the first of two places, if there is one
infixl 10 ◌<|>◌
abbrev pub ◌<|>◌ : Option NetworkPlace → Option NetworkPlace → Option NetworkPlace
first <|> second = option_or first second

abbrev pub place : Part → NetworkKey → Stands → NetworkPlace
place part key stands = record { part = part; key = key; stands = stands }

abbrev pub wrong : {A : Type 0} → Part → NetworkKey → Stands → Result A NetworkPlace
wrong part key stands = Err (place part key stands)

-- the thing, where nothing is wrong with it
abbrev pub finished : {A : Type 0} → Option NetworkPlace → A → Result A NetworkPlace
finished None x = Ok x
finished (Some place) x = Err place

-- ---- keys

abbrev pub name_of : NetworkKey → List ℕ
name_of keys.Name = codes "name"
name_of keys.Points = codes "points"
name_of keys.Defaults = codes "defaults"
name_of keys.Concentrator = codes "concentrator"
name_of keys.Substation = codes "substation"
name_of keys.At = codes "at"
name_of keys.At2 = codes "at2"
name_of keys.Listen = codes "listen"
name_of keys.Listen2 = codes "listen2"
name_of keys.Address = codes "address"
name_of keys.Master = codes "master"
name_of keys.Centre = codes "centre"
name_of keys.Centre2 = codes "centre2"
name_of keys.Poll = codes "poll"
name_of keys.Events = codes "events"
name_of keys.Unsolicited = codes "unsolicited"
name_of keys.Time = codes "time"
name_of keys.EventsMs = codes "events_ms"
name_of keys.IntegrityMs = codes "integrity_ms"
name_of keys.KeepaliveMs = codes "keepalive_ms"
name_of keys.ResponseMs = codes "response_ms"
name_of keys.PollMs = codes "poll_ms"
name_of keys.Unknown = []

-- those of polling
abbrev pub polling_keys : List NetworkKey
polling_keys =
    keys.Poll ∷ keys.Events ∷ keys.Unsolicited ∷ keys.Time ∷ keys.EventsMs ∷ keys.IntegrityMs ∷ keys.KeepaliveMs ∷ keys.ResponseMs ∷ keys.PollMs ∷ []

-- those that a table has
abbrev pub keys_of : Part → List NetworkKey
keys_of parts.Whole = keys.Name ∷ keys.Points ∷ keys.Defaults ∷ keys.Centre ∷ keys.Concentrator ∷ keys.Substation ∷ []
keys_of parts.Defaults = polling_keys
keys_of parts.Centre = polling_keys
keys_of parts.Concentrator = keys.Listen ∷ keys.Listen2 ∷ keys.At ∷ keys.At2 ∷ keys.Address ∷ keys.Centre ∷ keys.Centre2 ∷ []
keys_of (parts.Substation n) = keys.At ∷ keys.Name ∷ keys.Listen ∷ keys.Address ∷ keys.Master ∷ polling_keys

unfoldable pub is_there : NetworkKey → Data → Bool
is_there key t = is_some (get (name_of key) t)

-- how many of these keys a table has
abbrev pub known_count : List NetworkKey → Data → ℕ
known_count all t = count_by (λ key. is_there key t) all

abbrev pub members_count : Members → ℕ
members_count no_members = 0
members_count (member key value members) = suc (members_count members)

abbrev pub keys_are : ℕ → Option Members → Bool
keys_are count None = false
keys_are count (Some members) = members_count members == count

unfoldable pub has_keys : ℕ → Data → Bool
has_keys count t = keys_are count (as_table t)

-- another key than those that it has
unfoldable pub unknown_fault : Part → Data → Option NetworkPlace
unknown_fault part t = if has_keys (known_count (keys_of part) t) t then None else Some (place part keys.Unknown finds.Unknown)

-- ---- what stands there, by its type

abbrev pub type_found : Data → Stands
type_found (string s) = finds.Text
type_found (integer z) = finds.Whole
type_found (float x) = finds.Float
type_found (boolean b) = finds.Truth
type_found (datetime d) = finds.Datetime
type_found (array all) = finds.List
type_found (table all) = finds.Table

-- ---- words

abbrev pub nonempty : Part → NetworkKey → List ℕ → Result (Option (List ℕ)) NetworkPlace
nonempty part key text = if length text == 0 then wrong part key finds.Empty else Ok (Some text)

abbrev pub words_as : Part → NetworkKey → Data → Option (List ℕ) → Result (Option (List ℕ)) NetworkPlace
words_as part key d None = wrong part key (type_found d)
words_as part key d (Some text) = nonempty part key text

abbrev pub words_in : Part → NetworkKey → Option Data → Result (Option (List ℕ)) NetworkPlace
words_in part key None = Ok None
words_in part key (Some d) = words_as part key d (as_str d)

unfoldable pub words_under : Part → NetworkKey → Data → Result (Option (List ℕ)) NetworkPlace
words_under part key t = words_in part key (get (name_of key) t)

-- ---- link addresses

abbrev pub within : ℤ → Option ℕ
within (pos n) = if nat_le n MAX_ADDRESS then Some n else None
within (negsuc n) = None

abbrev pub ranged : Part → NetworkKey → ℤ → Option ℕ → Result ℕ NetworkPlace
ranged part key n None = wrong part key (finds.Number n)
ranged part key n (Some address) = Ok address

abbrev pub address_as : Part → NetworkKey → Data → Option ℤ → Result ℕ NetworkPlace
address_as part key d None = wrong part key (type_found d)
address_as part key d (Some n) = ranged part key n (within n)

abbrev pub address_in : Part → NetworkKey → ℕ → Option Data → Result ℕ NetworkPlace
address_in part key usual None = Ok usual
address_in part key usual (Some d) = address_as part key d (as_integer d)

unfoldable pub address_under : Part → NetworkKey → ℕ → Data → Result ℕ NetworkPlace
address_under part key usual t = address_in part key usual (get (name_of key) t)

-- a station's own address is not that of whom it talks to
unfoldable pub own_fault : Part → NetworkKey → ℕ → ℕ → Option NetworkPlace
own_fault part key own other = if own == other then Some (place part key (finds.Own own)) else None

-- ---- hosts and ports

abbrev pub placed : Part → NetworkKey → Result Endpoint EndpointFault → Result (Option Endpoint) NetworkPlace
placed part key (Err fault) = wrong part key (finds.NoEndpoint fault)
placed part key (Ok endpoint) = Ok (Some endpoint)

abbrev pub endpoint_as : Part → NetworkKey → Data → Option (List ℕ) → Result (Option Endpoint) NetworkPlace
endpoint_as part key d None = wrong part key (type_found d)
endpoint_as part key d (Some text) = placed part key (endpoint_of text)

abbrev pub endpoint_in : Part → NetworkKey → Option Data → Result (Option Endpoint) NetworkPlace
endpoint_in part key None = Ok None
endpoint_in part key (Some d) = endpoint_as part key d (as_str d)

unfoldable pub endpoint_under : Part → NetworkKey → Data → Result (Option Endpoint) NetworkPlace
endpoint_under part key t = endpoint_in part key (get (name_of key) t)

abbrev pub needed : Part → NetworkKey → Option Endpoint → Result Endpoint NetworkPlace
needed part key None = wrong part key finds.Missing
needed part key (Some endpoint) = Ok endpoint

unfoldable pub endpoint_needed : Part → NetworkKey → Data → Result Endpoint NetworkPlace
endpoint_needed part key t = endpoint_under part key t >>= needed part key
