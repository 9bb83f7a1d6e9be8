-- Definition: how a link is polled: what a table says of it, or the first place at which that is wrong, and what stands for a key
-- that is missing.
use Rattle.std.specs.Prelude.{ℕ, ◌*◌, ℤ, pos, negsuc, min, Bool, true, false, ◌==◌, nat_le, nat_lt, ◌&&◌, ◌||◌, not, if◌then◌else◌, List, length, Option, Some, None, Result, Ok, Err, codes, count_by}
use Rattle.std.specs.List.{list_all}
use Rattle.std.specs.Option.{is_some, option_or, unwrap_or}
use Rattle.std.specs.Str.{bytes_eq}
use Rattle.toml.specs.Data.{Data, get, as_str, as_integer, as_table}
use Rattle.dnp_network.specs.declared.place.Part.{Part}
use Rattle.dnp_network.specs.declared.place.Part.TheVariants as parts
use Rattle.dnp_network.specs.declared.place.NetworkKey.{NetworkKey}
use Rattle.dnp_network.specs.declared.place.NetworkKey.TheVariants as keys
use Rattle.dnp_network.specs.declared.place.MsRange.{MsRange}
use Rattle.dnp_network.specs.declared.place.Stands.TheVariants as finds
use Rattle.dnp_network.specs.declared.place.NetworkPlace.{NetworkPlace}
use Rattle.dnp_network.specs.declared.polling.TheConstants.{MAX_POLL_MS}
use Rattle.dnp_network.specs.declared.polling_values.TheConstants.{NEVER_MS}
use Rattle.dnp_network.specs.declared.polling_values.ClassSet.{ClassSet}
use Rattle.dnp_network.specs.declared.polling_values.TimeWriting.{TimeWriting}
use Rattle.dnp_network.specs.declared.polling.Polling.{Polling}
use Rattle.dnp_network.specs.declared.polling.PollingKeys.{PollingKeys}
use Rattle.dnp_network.specs.declared.polling.Below.{Below}
use Rattle.dnp_network.specs.declared.polling.PollingTables.{PollingTables}
use Rattle.dnp_network.specs.Keys.{◌>>=◌, place, wrong, finished, name_of, unknown_fault, type_found}

-- ---- classes

abbrev pub classes : Bool → Bool → Bool → Bool → ClassSet
classes zero one two three = record { zero = zero; one = one; two = two; three = three }

-- no class of events
abbrev pub is_empty : ClassSet → Bool
is_empty set = not (set.one || (set.two || set.three))

-- the digit of a class from this one on; 48 is '0'
abbrev pub is_class : ℕ → ℕ → Bool
is_class first octet = nat_le first octet && nat_le octet 51

abbrev pub are_digits : ℕ → List ℕ → Bool
are_digits first text = list_all (is_class first) text

abbrev pub times : ℕ → List ℕ → ℕ
times digit text = count_by (λ octet. octet == digit) text

abbrev pub has : ℕ → List ℕ → Bool
has digit text = not (times digit text == 0)

abbrev pub is_once : ℕ → List ℕ → Bool
is_once digit text = nat_le (times digit text) 1

abbrev pub are_once : List ℕ → Bool
are_once text = is_once 48 text && (is_once 49 text && (is_once 50 text && is_once 51 text))

-- digits of classes from this one on, each once, and so many at least
abbrev pub are_classes : ℕ → ℕ → List ℕ → Bool
are_classes first least text = nat_le least (length text) && (are_digits first text && are_once text)

abbrev pub classes_in : List ℕ → ClassSet
classes_in text = classes (has 48 text) (has 49 text) (has 50 text) (has 51 text)

abbrev pub classes_as : ℕ → ℕ → Part → NetworkKey → Data → Option (List ℕ) → Result (Option ClassSet) NetworkPlace
classes_as first least part key d None = wrong part key (type_found d)
classes_as first least part key d (Some text) =
    if are_classes first least text then Ok (Some (classes_in text)) else wrong part key finds.NoClasses

abbrev pub classes_of : ℕ → ℕ → Part → NetworkKey → Option Data → Result (Option ClassSet) NetworkPlace
classes_of first least part key None = Ok None
classes_of first least part key (Some d) = classes_as first least part key d (as_str d)

unfoldable pub classes_under : ℕ → ℕ → Part → NetworkKey → Data → Result (Option ClassSet) NetworkPlace
classes_under first least part key t = classes_of first least part key (get (name_of key) t)

-- ---- milliseconds

abbrev pub range : ℕ → ℕ → MsRange
range least most = record { least = least; most = most }

abbrev pub time_range : MsRange
time_range = range 1000 86400000

abbrev pub period_range : MsRange
period_range = range 100 86400000

abbrev pub keepalive_range : MsRange
keepalive_range = range 1000 3600000

abbrev pub within_ms : MsRange → ℤ → Option ℕ
within_ms range (pos n) = if nat_le range.least n && nat_le n range.most then Some n else None
within_ms range (negsuc n) = None

abbrev pub ms_ranged : MsRange → Part → NetworkKey → ℤ → Option ℕ → Result (Option ℕ) NetworkPlace
ms_ranged range part key z None = wrong part key (finds.OutOf z range)
ms_ranged range part key z (Some ms) = Ok (Some ms)

abbrev pub ms_as : MsRange → Part → NetworkKey → Data → Option ℤ → Result (Option ℕ) NetworkPlace
ms_as range part key d None = wrong part key (type_found d)
ms_as range part key d (Some z) = ms_ranged range part key z (within_ms range z)

-- a number in this range
unfoldable pub ms_of : MsRange → Part → NetworkKey → Data → Result (Option ℕ) NetworkPlace
ms_of range part key d = ms_as range part key d (as_integer d)

abbrev pub ms_in : MsRange → Part → NetworkKey → Option Data → Result (Option ℕ) NetworkPlace
ms_in range part key None = Ok None
ms_in range part key (Some d) = ms_of range part key d

unfoldable pub ms_under : MsRange → Part → NetworkKey → Data → Result (Option ℕ) NetworkPlace
ms_under range part key t = ms_in range part key (get (name_of key) t)

-- the word "never", or a number in the range of periods
abbrev pub period_as : Part → NetworkKey → Data → Option (List ℕ) → Result (Option ℕ) NetworkPlace
period_as part key d None = ms_of period_range part key d
period_as part key d (Some text) = if bytes_eq text (codes "never") then Ok (Some NEVER_MS) else wrong part key finds.NoWord

abbrev pub period_in : Part → NetworkKey → Option Data → Result (Option ℕ) NetworkPlace
period_in part key None = Ok None
period_in part key (Some d) = period_as part key d (as_str d)

unfoldable pub period_under : Part → NetworkKey → Data → Result (Option ℕ) NetworkPlace
period_under part key t = period_in part key (get (name_of key) t)

-- ---- when the time is written

abbrev pub writing : Bool → ℕ → TimeWriting
writing on_need every_ms = record { on_need = on_need; every_ms = every_ms }

-- every so often, and on need
abbrev pub writing_every : Option ℕ → Option TimeWriting
writing_every None = None
writing_every (Some ms) = Some (writing true ms)

abbrev pub time_worded : Part → List ℕ → Result (Option TimeWriting) NetworkPlace
time_worded part text =
    if bytes_eq text (codes "on-need") then Ok (Some (writing true NEVER_MS))
    else (if bytes_eq text (codes "never") then Ok (Some (writing false NEVER_MS)) else wrong part keys.Time finds.NoWord)

abbrev pub time_as : Part → Data → Option (List ℕ) → Result (Option TimeWriting) NetworkPlace
time_as part d None = ms_of time_range part keys.Time d >>= λ ms. Ok (writing_every ms)
time_as part d (Some text) = time_worded part text

abbrev pub time_in : Part → Option Data → Result (Option TimeWriting) NetworkPlace
time_in part None = Ok None
time_in part (Some d) = time_as part d (as_str d)

unfoldable pub time_under : Part → Data → Result (Option TimeWriting) NetworkPlace
time_under part t = time_in part (get (codes "time") t)

-- ---- all keys of a table

-- the plan's response timer, and what the table below says
abbrev pub below_of : ℕ → PollingKeys → Below
below_of plan_ms said = record { plan_ms = plan_ms; keys = said }

abbrev pub no_keys : PollingKeys
no_keys = record {
  poll = None;
  events = None;
  unsolicited = None;
  time = None;
  events_ms = None;
  integrity_ms = None;
  keepalive_ms = None;
  response_ms = None;
  poll_ms = None;
}

-- a key of the one table wins over that of the other
unfoldable pub over : PollingKeys → PollingKeys → PollingKeys
over own below = record {
  poll = option_or own.poll below.poll;
  events = option_or own.events below.events;
  unsolicited = option_or own.unsolicited below.unsolicited;
  time = option_or own.time below.time;
  events_ms = option_or own.events_ms below.events_ms;
  integrity_ms = option_or own.integrity_ms below.integrity_ms;
  keepalive_ms = option_or own.keepalive_ms below.keepalive_ms;
  response_ms = option_or own.response_ms below.response_ms;
  poll_ms = option_or own.poll_ms below.poll_ms;
}

-- the time for a fragment of a response, if the table has this one
abbrev pub response_over : Option ℕ → Below → ℕ
response_over own below = unwrap_or (option_or own below.keys.response_ms) below.plan_ms

-- a time for a whole response that is below that for a fragment of it
abbrev pub short_fault : Part → ℕ → Option ℕ → Option NetworkPlace
short_fault part response_ms None = None
short_fault part response_ms (Some poll_ms) =
    if nat_lt poll_ms response_ms then Some (place part keys.PollMs (finds.Short poll_ms response_ms)) else None

unfoldable pub own_under : Below → Part → Data → Result PollingKeys NetworkPlace
own_under below part t = do
  poll ← classes_under 48 1 part keys.Poll t
  events ← classes_under 49 1 part keys.Events t
  unsolicited ← classes_under 49 0 part keys.Unsolicited t
  time ← time_under part t
  events_ms ← period_under part keys.EventsMs t
  integrity_ms ← period_under part keys.IntegrityMs t
  keepalive_ms ← ms_under keepalive_range part keys.KeepaliveMs t
  response_ms ← ms_under (range 1 below.plan_ms) part keys.ResponseMs t
  poll_ms ← ms_under (range (response_over response_ms below) MAX_POLL_MS) part keys.PollMs t
  Ok (record {
    poll = poll;
    events = events;
    unsolicited = unsolicited;
    time = time;
    events_ms = events_ms;
    integrity_ms = integrity_ms;
    keepalive_ms = keepalive_ms;
    response_ms = response_ms;
    poll_ms = poll_ms;
  })

-- what a table says, over what the table below says
abbrev pub judged : Below → Part → PollingKeys → Result PollingKeys NetworkPlace
judged below part own =
    finished (short_fault part (response_over own.response_ms below) (option_or own.poll_ms below.keys.poll_ms)) (over own below.keys)

unfoldable pub keys_under : Below → Part → Data → Result PollingKeys NetworkPlace
keys_under below part t = own_under below part t >>= judged below part

-- ---- what stands for a key that is missing

-- events are polled unless unsolicited responses bring them
abbrev pub usual_events_ms : ClassSet → ℕ
usual_events_ms unsolicited = if is_empty unsolicited then 2000 else NEVER_MS

abbrev pub usual_poll_ms : ℕ → ℕ
usual_poll_ms response_ms = min (10 * response_ms) MAX_POLL_MS

unfoldable pub polling_of : ℕ → PollingKeys → Polling
polling_of plan_ms said =
    let unsolicited = unwrap_or said.unsolicited (classes false false false false) in
    let time = unwrap_or said.time (writing true NEVER_MS) in
    let response_ms = unwrap_or said.response_ms plan_ms in
    record {
      poll = unwrap_or said.poll (classes true true true true);
      events = unwrap_or said.events (classes false true true true);
      unsolicited = unsolicited;
      writes_time = time.on_need;
      time_ms = time.every_ms;
      events_ms = unwrap_or said.events_ms (usual_events_ms unsolicited);
      integrity_ms = unwrap_or said.integrity_ms 3600000;
      keepalive_ms = unwrap_or said.keepalive_ms 30000;
      response_ms = response_ms;
      poll_ms = unwrap_or said.poll_ms (usual_poll_ms response_ms);
    }

-- how a link is polled by its table, over the table below
unfoldable pub polling_under : Below → Part → Data → Result Polling NetworkPlace
polling_under below part t = keys_under below part t >>= λ said. Ok (polling_of below.plan_ms said)

-- ---- a table of polling alone

abbrev pub table_as : ℕ → Part → NetworkKey → Data → Result PollingKeys NetworkPlace
table_as plan_ms part key d =
    if is_some (as_table d) then keys_under (below_of plan_ms no_keys) part d >>= finished (unknown_fault part d)
    else wrong parts.Whole key (type_found d)

abbrev pub table_of : ℕ → Part → NetworkKey → Option Data → Result PollingKeys NetworkPlace
table_of plan_ms part key None = Ok no_keys
table_of plan_ms part key (Some d) = table_as plan_ms part key d

unfoldable pub table_under : ℕ → Part → NetworkKey → Data → Result PollingKeys NetworkPlace
table_under plan_ms part key t = table_of plan_ms part key (get (name_of key) t)

-- what a text says of polling beside its substations
unfoldable pub tables_under : ℕ → Data → Result PollingTables NetworkPlace
tables_under plan_ms t = do
  defaults ← table_under plan_ms parts.Defaults keys.Defaults t
  centre ← table_under plan_ms parts.Centre keys.Centre t
  Ok (record { below = below_of plan_ms defaults; centre = polling_of plan_ms centre })
