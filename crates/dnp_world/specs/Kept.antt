-- Definition: the lists of a system that its report shows, as the system keeps them: what stands above has the indices above (own
-- rule).
use Rattle.std.specs.Prelude.{◌≡◌, ℕ, Bool, not, List, [], length, map, filter, filter_map}
use Rattle.dnp_objects.specs.declared.row.Row.{Row}
use Rattle.dnp_objects.specs.declared.command.Command.{Command}
use Rattle.dnp_controls.specs.declared.book.Entry.{Entry}
use Rattle.dnp_controls.specs.Book.{is_pending}
use Rattle.dnp_concentrator.specs.declared.span.Spans.{Spans}
use Rattle.dnp_concentrator.specs.Mapped.{row_below, command_below}
use Rattle.dnp_eventbuf.specs.EventBuffer.{rows_in, lost_in, row_of}
use Rattle.dnp_world.specs.Reports.{Report}
use Rattle.dnp_world.specs.Stations.{listed_from}
use Rattle.dnp_world.specs.Systems.{SubstationState, System}

-- ---- through the index map

-- rows above as they stand at their substations
abbrev pub rows_below : List Spans → List Row → List (ℕ × Row)
rows_below indices rows = filter_map (row_below indices) rows

-- commands above as they go down
abbrev pub commands_below : List Spans → List Command → List (ℕ × Command)
commands_below indices commands = filter_map (command_below indices) commands

-- ---- the lists

pub record KeptLists : Type 0 where
  pub confirmed : List (ℕ × Row)
  pub buffered : List (ℕ × Row)
  pub overwritten : List (ℕ × Row)
  pub gone : List (ℕ × Row)
  -- above
  pub queue : List Row
  pub dropped : List Row
  pub journal : List Row
  pub lost : ℕ
  -- the concentrator's book, whose targets are the substations, and the centre's, whose commands have the indices above
  pub controls : List Entry
  pub orders : List Entry
  pub issued : List (ℕ × Command)
  pub operated : List (ℕ × Command)

-- nothing stands in any list
abbrev pub nothing_kept : KeptLists
nothing_kept = record {
  confirmed = [];
  buffered = [];
  overwritten = [];
  gone = [];
  queue = [];
  dropped = [];
  journal = [];
  lost = 0;
  controls = [];
  orders = [];
  issued = [];
  operated = [];
}

-- ---- what is shown of them

abbrev pub shown_of : List Spans → KeptLists → Report
shown_of indices k = record {
  journal = rows_below indices k.journal;
  queue = rows_below indices k.queue;
  dropped = rows_below indices k.dropped;
  confirmed = k.confirmed;
  buffered = k.buffered;
  overwritten = k.overwritten;
  gone = k.gone;
  issued = k.issued;
  operated = k.operated;
  lost = k.lost;
}

-- the index map leaves none of the rows above out
pub record AreMapped (indices : List Spans) (k : KeptLists) : Type 0 where
  pub queue : length (rows_below indices k.queue) ≡ length k.queue
  pub dropped : length (rows_below indices k.dropped) ≡ length k.dropped
  pub journal : length (rows_below indices k.journal) ≡ length k.journal

-- ---- the books

-- a control that isn't pending any more: its command may have been sent
abbrev pub is_used : Entry → Bool
is_used entry = not (is_pending entry.state)

-- a control's command beside its target
abbrev pub order_of : Entry → ℕ × Command
order_of entry = (entry.target, entry.command)

abbrev pub command_of : Entry → Command
command_of entry = entry.command

-- what a book has, and what of it isn't pending any more
abbrev pub orders_in : List Entry → List (ℕ × Command)
orders_in entries = map order_of entries

abbrev pub used_orders : List Entry → List (ℕ × Command)
used_orders entries = map order_of (filter is_used entries)

abbrev pub commands_in : List Entry → List Command
commands_in entries = map command_of entries

abbrev pub used_commands : List Entry → List Command
used_commands entries = map command_of (filter is_used entries)

-- ---- of a system

abbrev pub lane_rows_of : SubstationState → List Row
lane_rows_of substation = rows_in substation.lanes

abbrev pub kept_in : System → KeptLists
kept_in s = record {
  confirmed = s.history.confirmed;
  buffered = listed_from lane_rows_of 0 s.substations;
  overwritten = s.history.overwritten;
  gone = s.history.gone;
  queue = rows_in s.concentrator.queue;
  dropped = s.history.dropped;
  journal = map row_of s.centre.journal.rows;
  lost = lost_in s.concentrator.queue;
  controls = s.concentrator.controls.entries;
  orders = s.centre.orders.entries;
  issued = s.history.issued;
  operated = s.history.operated;
}

-- What became of all rows and commands of a system. The rows of the queue are lane by lane.
abbrev pub report_of : System → Report
report_of s = shown_of s.indices (kept_in s)
