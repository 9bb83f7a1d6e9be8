-- Definition: what became of all rows and commands of a whole system, and what holds of that at every moment (own rule: IEEE Std
-- 1815-2012 speaks of one link at a time).
use Rattle.std.specs.Prelude.{◌≡◌, ℕ, ◌≤◌, List, ◌++◌, length, nat_eq, All}
use Rattle.dnp_objects.specs.declared.row.Row.{Row}
use Rattle.dnp_objects.specs.declared.command.Command.{Command}
use Rattle.dnp_objects.specs.Counts.{count, IsCoveredBy}
use Rattle.dnp_objects.specs.Equality.{row_eq, pair_eq}
use Rattle.dnp_world.specs.Stations.{of_substation, HasSameCounts}

-- Rows and commands beside their substations' numbers, with the substations' own indices.
pub record Report : Type 0 where
  -- the centre's journal
  pub journal : List (ℕ × Row)
  -- the rows in the concentrator's queue, and those that its full lanes dropped
  pub queue : List (ℕ × Row)
  pub dropped : List (ℕ × Row)
  -- the rows that confirms released from substations, those in their lanes, those that their full lanes dropped, and those
  -- that restarts emptied from them
  pub confirmed : List (ℕ × Row)
  pub buffered : List (ℕ × Row)
  pub overwritten : List (ℕ × Row)
  pub gone : List (ℕ × Row)
  -- the commands that were issued at the centre, and those that outputs of substations performed
  pub issued : List (ℕ × Command)
  pub operated : List (ℕ × Command)
  -- how many rows the queue's lanes count as lost
  pub lost : ℕ

-- the rows that happened at the substations: each waits there, was confirmed, was overwritten, or went in a restart
abbrev pub happened : Report → List (ℕ × Row)
happened r = r.buffered ++ (r.confirmed ++ (r.overwritten ++ r.gone))

-- how often a row of a substation stands among such
abbrev pub times : ℕ × Row → List (ℕ × Row) → ℕ
times row rows = count (pair_eq nat_eq row_eq) row rows

-- What holds at every moment.
pub record Holds (r : Report) : Type 0 where
  -- each row of the journal happened at its substation, with that value, those flags and that time
  pub nothing_invented : All (λ row. 1 ≤ times row (happened r)) r.journal
  -- what substations released as confirmed is in the queue or the journal, or full lanes of the queue dropped it
  pub nothing_vanishes : IsCoveredBy r.confirmed (r.queue ++ (r.dropped ++ r.journal))
  -- as many rows were dropped as the queue counts as lost
  pub lost_is_counted : length r.dropped ≡ r.lost
  -- no command was performed more often than it was issued
  pub no_command_twice : IsCoveredBy r.operated r.issued

-- what had happened at a substation, and then these rows, is what has happened there now
abbrev pub IsFate : (ℕ → List Row) → Report → Report → Type 0
IsFate came old new =
    (substation : ℕ) → HasSameCounts (of_substation substation (happened new)) (of_substation substation (happened old) ++ came substation)
