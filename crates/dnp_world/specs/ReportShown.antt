-- Definition: what a report of a whole system shows of what each centre sees: what became of its rows and commands, each beside the
-- number of its substation and with the index there (own rule: IEEE Std 1815-2012 knows no such report).
use Rattle.std.specs.Prelude.{◌≡◌, ℕ, ◌^◌, ◌-◌, min, List, length, map, take}
use Rattle.std.specs.List.{flat_map}
use Rattle.std.specs.List.Sorted.{IsPermutation, IsNonDecreasingBy}
use Rattle.dnp_concentrator.specs.PerCentre.{at, per_centre}
use Rattle.dnp_eventbuf.specs.declared.numbered.Numbered.{Numbered}
use Rattle.dnp_objects.specs.declared.row.Row.{Row}
use Rattle.dnp_eventbuf.specs.EventBuffer.{EventBuffer, lost_in, row_of, rows_in}
use Rattle.dnp_world.specs.Kept.{lane_rows_of, rows_below}
use Rattle.dnp_world.specs.Reports.{Report}
use Rattle.dnp_world.specs.Stations.{listed_from}
use Rattle.dnp_world.specs.Systems.{System}
use Rattle.dnp_world.specs.declared.report.Report as told
use Rattle.dnp_world.specs.declared.parts.report.TheConstants.{NUMBERS}

-- the rows of all lanes, lane by lane
abbrev pub all_in : EventBuffer → List Numbered
all_in s = flat_map (λ lane. lane.rows) s.lanes

-- the same rows by their ids
pub record AreById (rows by_id : List Numbered) : Type 0 where
  pub same : IsPermutation rows by_id
  pub in_order : IsNonDecreasingBy (λ x. x.id) by_id

-- the rows of the centre's journal, and those that the queue's full lanes dropped, index map undone
abbrev pub IsJournalOf : System → List (ℕ × Row) → Type 0
IsJournalOf s rows = rows ≡ rows_below s.indices (map row_of s.centre.journal.rows)

abbrev pub IsDroppedOf : System → List (ℕ × Row) → Type 0
IsDroppedOf s rows = rows ≡ rows_below s.indices s.history.dropped

-- the rows of the queue by their ids, index map undone
abbrev pub IsQueueOf : System → List (ℕ × Row) → Type 0
IsQueueOf s rows = (queued : List Numbered) × AreById (all_in s.concentrator.queue) queued × (rows ≡ rows_below s.indices (map row_of queued))

-- The lists of the system, index map undone. What counts as lost is told up to the greatest number of a report.
pub record Shows (s : System) (r : Report) : Type 0 where
  pub journal : r.journal ≡ rows_below s.indices (map row_of s.centre.journal.rows)
  pub queued : List Numbered
  pub by_id : AreById (all_in s.concentrator.queue) queued
  pub queue : r.queue ≡ rows_below s.indices (map row_of queued)
  pub dropped : r.dropped ≡ rows_below s.indices s.history.dropped
  pub confirmed : r.confirmed ≡ s.history.confirmed
  pub buffered : r.buffered ≡ listed_from lane_rows_of 0 (take NUMBERS s.substations)
  pub overwritten : r.overwritten ≡ s.history.overwritten
  pub gone : r.gone ≡ s.history.gone
  pub issued : r.issued ≡ s.history.issued
  pub operated : r.operated ≡ s.history.operated
  pub lost : r.lost ≡ min (lost_in s.concentrator.queue) (2 ^ 64 - 1)

-- As many rows stand in each list of what is above as in the store that it shows: the index map leaves none out.
pub record ListsAll (s : System) (r : Report) : Type 0 where
  pub journal : length r.journal ≡ length s.centre.journal.rows
  pub queue : length r.queue ≡ length (rows_in s.concentrator.queue)
  pub dropped : length r.dropped ≡ length s.history.dropped

-- the lists of a report that are of a centre, or shared
abbrev pub lists_of : ℕ → told.Report → Report
lists_of centre r = record {
  journal = at centre (per_centre r.journal);
  queue = at centre (per_centre r.queue);
  dropped = at centre (per_centre r.dropped);
  confirmed = r.confirmed;
  buffered = r.buffered;
  overwritten = r.overwritten;
  gone = r.gone;
  issued = r.issued;
  operated = r.operated;
  lost = at centre (per_centre r.lost);
}
