-- Definition: what is noted of a system's lines, and what each event adds to it. Nothing that was noted is ever changed,
-- but for the octets of a unit, which are seen when it comes to the front of its line.
use Rattle.std.specs.Prelude.{ℕ, zero, suc, ◌+◌, ◌-◌, ◌*◌, ◌^◌, ◌==◌, Bool, true, false, if◌then◌else◌, List, [], ◌∷◌, ◌++◌, length, min, position, remove, count_by, slice_get, slice_set, Option, Some, None}
use Rattle.std.specs.Option.{option_map, option_map_or}
use Rattle.dnp_trace.specs.declared.noted.Course.{Course}
use Rattle.dnp_trace.specs.declared.noted.Peer.{Peer}
use Rattle.dnp_trace.specs.declared.noted.Peer.TheVariants as peer
use Rattle.dnp_trace.specs.declared.noted.What.{What}
use Rattle.dnp_trace.specs.declared.noted.What.TheVariants as what
use Rattle.dnp_trace.specs.declared.noted.Step.{Step}
use Rattle.dnp_trace.specs.declared.noted.Step.TheVariants as step
use Rattle.dnp_trace.specs.declared.noted.Standing.{Standing}

-- ---- what is noted

-- a unit that was sent: its line, and its octets, or none where they weren't seen
pub record Sent : Type 0 where
  pub course : Course
  pub octets : List ℕ

-- the moment in milliseconds, the substations, the units that stand on lines in the order in which they were sent, the
-- line whose units are being carried, the units that were sent, the lines of the script that began, what happened, and
-- whether memory ran out, so that something is missing
pub record Noted : Type 0 where
  pub moment : ℕ
  pub substations : ℕ
  pub standing : List Standing
  pub carrying : Option ℕ
  pub units : List Sent
  pub lines : List (List ℕ)
  pub steps : List Step
  pub cut : Bool

-- nothing has happened in a system of so many substations
abbrev pub nothing_yet : ℕ → Noted
nothing_yet substations = record {
  moment = 0;
  substations = substations;
  standing = [];
  carrying = None;
  units = [];
  lines = [];
  steps = [];
  cut = false;
}

-- ---- lines of a system

-- the number of a link, by the station at the other end of it
abbrev pub link_number : Peer → ℕ
link_number peer.Centre = 0
link_number peer.SecondCentre = 1
link_number (peer.Substation substation) = substation + 2

abbrev pub way_number : Bool → ℕ
way_number false = 0
way_number true = 1

-- the number of a line: each has another one
abbrev pub line_number : Course → ℕ
line_number course = 2 * link_number course.peer + way_number course.up

-- the unit stands on the line of this number
abbrev pub is_on : ℕ → Standing → Bool
is_on line standing = standing.line == line

-- how many units stand on a line
abbrev pub count_on : ℕ → Noted → ℕ
count_on line log = count_by (is_on line) log.standing

-- the place of a line's front unit among all that stand: the first that stands on it
abbrev pub front_place : ℕ → Noted → Option ℕ
front_place line log = position (is_on line) log.standing

-- ---- what happens

abbrev pub with_step : Step → Noted → Noted
with_step happened log = record log { steps = log.steps ++ happened ∷ [] }

-- milliseconds pass, up to the last moment that there is
abbrev pub later : ℕ → Noted → Noted
later ms log = record log { moment = min (log.moment + ms) (2 ^ 64 - 1) }

-- a line of the script begins
abbrev pub begun : List ℕ → Noted → Noted
begun text log =
    with_step (step.Line log.moment (length log.lines)) (record log { lines = log.lines ++ text ∷ [] })

-- a unit is sent: it is the next one, and stands on its line after those that stand there
abbrev pub sent : Course → List ℕ → Noted → Noted
sent course octets log =
    with_step (step.Unit log.moment what.Sent (length log.units)) (record log {
      units = log.units ++ record { course = course; octets = octets } ∷ [];
      standing = log.standing ++ record { line = line_number course; unit = length log.units } ∷ [];
    })

-- a line's front unit comes to this, and leaves the line unless it is repeated
abbrev pub left : What → ℕ → List Standing → List Standing
left what.Repeated place standing = standing
left what.Sent place standing = remove standing place
left what.Arrives place standing = remove standing place
left what.Lost place standing = remove standing place
left what.Damaged place standing = remove standing place
left what.Dropped place standing = remove standing place
left what.Stands place standing = remove standing place

abbrev pub came_at : ℕ → Option Standing → What → Noted → Noted
came_at place None fate log = log
came_at place (Some front) fate log =
    with_step (step.Unit log.moment fate front.unit) (record log { standing = left fate place log.standing })

abbrev pub came : Option ℕ → What → Noted → Noted
came None fate log = log
came (Some place) fate log = came_at place (slice_get log.standing place) fate log

-- where nothing stands on the line, nothing is noted
abbrev pub came_to : ℕ → What → Noted → Noted
came_to line fate log = came (front_place line log) fate log

-- the octets of a unit are seen, if they weren't before
abbrev pub octets_seen : List ℕ → Sent → Sent
octets_seen octets unit = if length unit.octets == 0 then record unit { octets = octets } else unit

abbrev pub seen_at : ℕ → List ℕ → Option Sent → List Sent → List Sent
seen_at number octets None units = units
seen_at number octets (Some unit) units = slice_set units number (octets_seen octets unit)

abbrev pub seen : ℕ → List ℕ → Noted → Noted
seen number octets log = record log { units = seen_at number octets (slice_get log.units number) log.units }

abbrev pub front_at : Option ℕ → Noted → Option Standing
front_at None log = None
front_at (Some place) log = slice_get log.standing place

-- the unit at the front of a line
abbrev pub front_unit : ℕ → Noted → Option ℕ
front_unit line log = option_map (λ (standing : Standing). standing.unit) (front_at (front_place line log) log)

abbrev pub shown : Option ℕ → Option (List ℕ) → Noted → Noted
shown None octets log = log
shown (Some number) None log = log
shown (Some number) (Some octets) log = seen number octets log

-- this happens so many times
abbrev pub times : ℕ → (Noted → Noted) → Noted → Noted
times zero happens log = log
times (suc n) happens log = happens (times n happens log)

-- so many units stand on a line, where so many were known: those beyond them are sent, and those that are missing were
-- dropped
abbrev pub counted : Course → ℕ → ℕ → Noted → Noted
counted course known count log =
    times (known - count) (came_to (line_number course) what.Dropped) (times (count - known) (sent course []) log)

-- so many units stand on a line, with these octets of the one in front
abbrev pub stood : Course → ℕ → Option (List ℕ) → Noted → Noted
stood course count front log =
    let after : Noted = counted course (count_on (line_number course) log) count log in
    shown (front_unit (line_number course) after) front after

-- what was carried has come to its end
abbrev pub settled_on : Option ℕ → Noted → Noted
settled_on None log = log
settled_on (Some line) log =
    record (times (count_on line log) (came_to line what.Arrives) log) { carrying = None }

abbrev pub settled : Noted → Noted
settled log = settled_on log.carrying log

-- units are carried on the line of this number
abbrev pub is_carrying : ℕ → Noted → Bool
is_carrying line log = option_map_or (λ (other : ℕ). other == line) log.carrying false

-- a line's units are carried from here on, and what was carried on another has come to its end
abbrev pub turned : ℕ → Noted → Noted
turned line log = if is_carrying line log then log else record (settled log) { carrying = Some line }

-- a unit is carried: it comes to its end when the next is carried on another line, or nothing more is
abbrev pub carried_on : Course → List ℕ → Noted → Noted
carried_on course octets log = sent course octets (turned (line_number course) log)
