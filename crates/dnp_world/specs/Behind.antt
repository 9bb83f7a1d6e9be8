-- Definition: the links that stand behind the lists of a whole system, one of the law to each substation and one above, and what an
-- event makes of them, as one centre sees it (own rule). No field holds them.
use Rattle.std.specs.Prelude.{◌≡◌, ◌≢◌, ◌==◌, ℕ, ◌+◌, if◌then◌else◌, List, [], ◌++◌, length, map, All}
use Rattle.dnp_objects.specs.declared.row.Row.{Row}
use Rattle.dnp_objects.specs.declared.command.Command.{Command}
use Rattle.dnp_objects.specs.Counts.{IsCoveredBy}
use Rattle.dnp_eventbuf.specs.Buffered.{Buffered, buffered_row}
use Rattle.dnp_concentrator.specs.declared.span.Spans.{Spans}
use Rattle.dnp_controls.specs.declared.book.Entry.{Entry}
use Rattle.dnp_world.specs.CommandWidths.{HasWidths}
use Rattle.dnp_world.specs.Kept.{KeptLists, rows_below, commands_below, orders_in, used_orders, commands_in, used_commands}
use Rattle.dnp_world.specs.LawLink.{LawLink}
use Rattle.dnp_world.specs.Moves.{Moves}
use Rattle.dnp_world.specs.Standing.{CarriesLaw, IsFresh}
use Rattle.dnp_world.specs.Stations.{of_substation, HasSameCounts}
use Rattle.dnp_world.specs.Systems.{at_substation}

abbrev pub rows_of : List Buffered → List Row
rows_of events = map buffered_row events

-- ---- the links

-- a number that the plan has no substation for has a link on which nothing ever happened
pub record Links : Type 0 where
  pub below : ℕ → LawLink
  pub above : LawLink

-- the link to this substation, and the one above, have become these
abbrev pub with_links : Links → ℕ → LawLink → LawLink → Links
with_links links substation below above = record { below = λ i. if i == substation then below else links.below i; above = above }

-- ---- what comes from elsewhere

-- What stands apart from one centre: the commands that came to the concentrator's book over links to other centres, and the books of
-- these.
pub record Elsewhere : Type 0 where
  pub performed : List Command
  pub orders : List Entry

-- there is no other centre
abbrev pub alone : Elsewhere
alone = record { performed = []; orders = [] }

-- the books elsewhere have it all, and it can be sent
pub record IsFrom (indices : List Spans) (el : Elsewhere) : Type 0 where
  pub entered : IsCoveredBy (commands_below indices el.performed) (commands_below indices (commands_in el.orders))
  pub widths : All HasWidths el.performed

-- ---- what the links have

-- the links have the lists that the system keeps
pub record IsBehind (indices : List Spans) (el : Elsewhere) (links : Links) (k : KeptLists) : Type 0 where
  -- the law goes on from each of them
  pub below_stands : (i : ℕ) → CarriesLaw (links.below i)
  pub above_stands : CarriesLaw links.above
  -- the rows of each substation
  pub buffered : (i : ℕ) → HasSameCounts (rows_of (links.below i).lanes) (of_substation i k.buffered)
  pub confirmed : (i : ℕ) → HasSameCounts (rows_of (links.below i).released) (of_substation i k.confirmed)
  pub left : (i : ℕ) → HasSameCounts (rows_of (links.below i).left) (of_substation i (k.overwritten ++ k.gone))
  -- what the concentrator took of a substation has stood in the queue, and nothing else has
  pub joined : (i : ℕ) → HasSameCounts (rows_of (links.below i).took) (of_substation i (rows_below indices (rows_of links.above.stood)))
  pub mapped : length (rows_below indices (rows_of links.above.stood)) ≡ length links.above.stood
  -- the rows above
  pub queue : HasSameCounts (rows_of links.above.lanes) k.queue
  pub dropped : HasSameCounts (rows_of links.above.left) k.dropped
  pub journal : HasSameCounts (rows_of links.above.took) k.journal
  pub lost : k.lost ≡ length k.dropped
  -- commands: what is asked for below, the concentrator's book says to be used, and that book has what was performed above and
  -- elsewhere
  pub operated : (i : ℕ) → HasSameCounts (links.below i).performed (of_substation i k.operated)
  pub asked_below : (i : ℕ) → IsCoveredBy (links.below i).asked (of_substation i (used_orders k.controls))
  pub relayed : HasSameCounts (commands_below indices links.above.performed ++ commands_below indices el.performed) (orders_in k.controls)
  -- what is asked for above, the centre's book says to be used, and that book and those elsewhere have what was issued
  pub asked_above : IsCoveredBy links.above.asked (used_commands k.orders)
  pub issued : HasSameCounts (commands_below indices (commands_in k.orders) ++ commands_below indices (commands_in el.orders)) k.issued
  pub theirs : IsFrom indices el

-- a link on which nothing has happened, with empty lanes
pub record IsUntouched (l : LawLink) : Type 0 where
  pub fresh : IsFresh l
  pub lanes : l.lanes ≡ []
  pub asked : l.asked ≡ []

-- ---- what an event does on a link

-- the rows that came into its lanes, those that a confirm released, those that left otherwise, those that the sink took, the
-- commands that were asked for, and those that were performed
pub record LinkDoes : Type 0 where
  pub made : List Row
  pub discarded : List Row
  pub left : List Row
  pub taken : List Row
  pub asked : List Command
  pub performed : List Command

abbrev pub does_nothing : LinkDoes
does_nothing = record { made = []; discarded = []; left = []; taken = []; asked = []; performed = [] }

-- the link moved, and did this
pub record Grows (old new : LawLink) (d : LinkDoes) : Type 0 where
  pub moves : Moves old new
  pub stood : HasSameCounts (rows_of new.stood) (rows_of old.stood ++ d.made)
  pub released : HasSameCounts (rows_of new.released) (rows_of old.released ++ d.discarded)
  pub left : HasSameCounts (rows_of new.left) (rows_of old.left ++ d.left)
  pub took : HasSameCounts (rows_of new.took) (rows_of old.took ++ d.taken)
  pub asked : HasSameCounts new.asked (old.asked ++ d.asked)
  pub performed : HasSameCounts new.performed (old.performed ++ d.performed)

-- One event: at most the link to this substation moves, and the link above, and each list gets what they did.
pub record OneEvent (indices : List Spans) (substation : ℕ) (links : Links) (old new : KeptLists) : Type 0 where
  pub below : LawLink
  pub above : LawLink
  pub here : LinkDoes
  pub there : LinkDoes
  pub below_grows : Grows (links.below substation) below here
  pub above_grows : Grows links.above above there
  -- what was taken below came into the queue
  pub joined : rows_below indices there.made ≡ at_substation substation here.taken
  pub mapped : length there.made ≡ length here.taken
  -- the rows below
  pub buffered : HasSameCounts (rows_of below.lanes) (of_substation substation new.buffered)
  pub others : (i : ℕ) → i ≢ substation → HasSameCounts (of_substation i new.buffered) (of_substation i old.buffered)
  pub confirmed : HasSameCounts new.confirmed (old.confirmed ++ at_substation substation here.discarded)
  pub left : HasSameCounts (new.overwritten ++ new.gone) ((old.overwritten ++ old.gone) ++ at_substation substation here.left)
  -- the rows above
  pub queue : HasSameCounts (rows_of above.lanes) new.queue
  pub dropped : HasSameCounts new.dropped (old.dropped ++ there.left)
  pub lost : new.lost ≡ old.lost + length there.left
  pub journal : HasSameCounts new.journal (old.journal ++ there.taken)
  -- commands below and the concentrator's book
  pub operated : HasSameCounts new.operated (old.operated ++ at_substation substation here.performed)
  pub used : IsCoveredBy (used_orders old.controls ++ at_substation substation here.asked) (used_orders new.controls)
  pub added : HasSameCounts (orders_in new.controls) (orders_in old.controls ++ commands_below indices there.performed)
  -- commands above and the centre's book
  pub used_above : IsCoveredBy (used_commands old.orders ++ there.asked) (used_commands new.orders)
  pub issues : List (ℕ × Command)
  pub issued : HasSameCounts new.issued (old.issued ++ issues)
  pub ordered : HasSameCounts (commands_below indices (commands_in new.orders)) (commands_below indices (commands_in old.orders) ++ issues)

-- of rows that an event made at one substation those of each
abbrev pub made_at : ℕ → List Row → ℕ → List Row
made_at substation rows i = of_substation i (at_substation substation rows)
