-- Definition: a journal, the events that came, in order, each under the next id (an own rule: IEEE Std
-- 1815-2012 knows no journal). Nothing leaves it.
use Rattle.std.specs.Prelude.{ℕ, ◌+◌, ◌^◌, ◌<◌, ◌≤◌, Bool, nat_lt, List, [], ◌∷◌, ◌++◌, length, filter, take, All, AllPairs}
use Rattle.dnp_objects.specs.declared.row.Row.{Row}
use Rattle.dnp_eventbuf.specs.declared.numbered.Numbered.{Numbered}

pub record Archive : Type 0 where
  -- the events, the oldest first
  pub rows : List Numbered
  -- the last id used
  pub last_id : ℕ

-- ---- appending

-- rows under ids that go on from `last`
abbrev pub numbered : ℕ → List Row → List Numbered
numbered last [] = []
numbered last (row ∷ rows) = record { id = last + 1; row = row } ∷ numbered (last + 1) rows

-- events are put after the others
abbrev pub with_events : Archive → List Row → Archive
with_events a events = record { rows = a.rows ++ numbered a.last_id events; last_id = a.last_id + length events }

-- with these events an id would pass 2^62
abbrev pub passes_limit : Archive → List Row → Bool
passes_limit a events = nat_lt (2 ^ 62) (a.last_id + length events)

-- ---- reading

-- the first rows with an id over `from`
abbrev pub rows_over : Archive → ℕ → ℕ → List Numbered
rows_over a from most = take most (filter (λ x. nat_lt from x.id) a.rows)

-- ---- what is so of a journal at all times

pub record IsSoundArchive (a : Archive) : Type 0 where
  -- ids rise, from 1 on, and are at most the last one used
  pub rising : AllPairs (λ x y. x.id < y.id) a.rows
  pub from_1 : All (λ x. 1 ≤ x.id) a.rows
  pub up_to_last : All (λ x. x.id ≤ a.last_id) a.rows
  pub last_id_at_most : a.last_id ≤ 2 ^ 62
