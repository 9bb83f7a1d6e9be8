-- Definition: changes of points that are made in order, once or again and again.
use Rattle.std.specs.Prelude.{ℕ, ◌+◌, ◌-◌, min, Bool, if◌then◌else◌, ◌==◌, nat_lt, List, [], ◌∷◌, ◌++◌, drop, Option, Some, None}
use Rattle.dnp_objects.specs.declared.limits.TheConstants.{MAX_TIME}
use Rattle.dnp_streams.specs.declared.stream.change.Change.{Change}
use Rattle.dnp_tcp.specs.declared.replay.Both.{Both}
use Rattle.dnp_tcp.specs.declared.replay.Replay.{Replay}

-- the time of another moment, both in milliseconds: so much earlier or later than the one that is known, but not before 0 and below `MAX_TIME`
abbrev pub time_at : Both → ℕ → ℕ
time_at both moment = min (both.time - (both.moment - moment) + (moment - both.moment)) (MAX_TIME - 1)

pub record ReplaySeen : Type 0 where
  pub changes : List Change
  -- of each, whether its time is that at which it is due
  pub dated : List Bool
  -- how many of them are made
  pub made : ℕ
  -- after how long it begins again, in milliseconds, if it does
  pub again : Option ℕ

abbrev pub replay_seen : Replay → ReplaySeen
replay_seen r = record { changes = r.changes.items; dated = r.is_dated.items; made = r.made; again = r.again }

abbrev pub no_changes : ReplaySeen
no_changes = record { changes = []; dated = []; made = 0; again = None }

-- a change comes after the others
abbrev pub with_change : Change → Bool → ReplaySeen → ReplaySeen
with_change change is_dated r = record r { changes = r.changes ++ change ∷ []; dated = r.dated ++ is_dated ∷ [] }

-- it begins again so much later, in milliseconds, but not at once
abbrev pub repeated_after : ℕ → ReplaySeen → ReplaySeen
repeated_after length r = record r { again = if length == 0 then None else Some length }

-- ---- how far it has come

-- the changes that are left
abbrev pub changes_left : ReplaySeen → List Change
changes_left r = drop r.made r.changes

-- the moment at which the first of some changes is due
abbrev pub first_at : List Change → Option ℕ
first_at [] = None
first_at (change ∷ later) = Some change.at

-- the first of some changes, where it is due at this moment
abbrev pub first_due : ℕ → List Change → Option Change
first_due now [] = None
first_due now (change ∷ later) = if nat_lt now change.at then None else Some change

-- one more is made, where one was due
abbrev pub made_if : Bool → ReplaySeen → ReplaySeen
made_if is_due r = record r { made = if is_due then r.made + 1 else r.made }
