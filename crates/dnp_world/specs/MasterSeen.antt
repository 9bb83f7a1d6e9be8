-- Definition: how the law of the link sees a master, and what each of its calls is to the link (IEEE Std 1815-2012, application
-- layer: the master's side of a transaction, CONFIRM and the bit UNS).
use Rattle.std.specs.Prelude.{◌≡◌, ℕ, ◌==◌, if◌then◌else◌, List, [], ◌++◌, map, is_some, option_to_list, slice_index}
use Rattle.std.specs.List.Sorted.{IsPermutation}
use Rattle.dnp_appfragment.specs.declared.function.Function.TheVariants as function
use Rattle.dnp_appfragment.specs.Table.{function_octet}
use Rattle.dnp_eventbuf.specs.Buffered.{buffered_row}
use Rattle.dnp_master.specs.Calls.{Taking}
use Rattle.dnp_master.specs.State.{State, closed}
use Rattle.dnp_world.specs.Octets.{seq_in, uns_in}
use Rattle.dnp_world.specs.LawLink.{Down, Asks, Confirms, ConfirmsReport, Up, fragment_of, LawMaster, LawLink}
use Rattle.dnp_world.specs.Moves.{Moves}

-- the law sees whether it is open, whether a request is open, and its number
abbrev pub master_of : State → LawMaster
master_of s = record { is_open = s.is_open; is_busy = is_some s.request; seq = s.seq }

-- what octets that go down are: a CONFIRM, of a report where UNS is set, or else a request
abbrev pub down_of : List ℕ → Down
down_of octets =
    if slice_index octets 1 == function_octet function.Confirm
    then if uns_in octets then ConfirmsReport (seq_in octets) else Confirms (seq_in octets)
    else Asks octets

-- of what goes up the octets alone go over the line
abbrev pub octets_of : Up → List ℕ
octets_of up = (fragment_of up).octets

-- the link with this master, and nothing else changed
abbrev pub with_master_of : State → LawLink → LawLink
with_master_of s l = record l { master = master_of s }

-- a fragment made this of the link, by moves: the sink took the rows, but for order, and the confirm, if one is sent,
-- goes after what may still come down; all else that is no matter of the connection alone is as before
pub record MasterTakes (t : Taking) (l : LawLink) : Type 0 where
  pub link : LawLink
  pub moves : Moves l link
  pub master : link.master ≡ master_of t.state
  pub down : link.down ≡ l.down ++ map down_of (option_to_list t.confirm)
  pub took : IsPermutation (map buffered_row link.took) (map buffered_row l.took ++ t.events)
  pub same : link ≡ record l { master = link.master; down = link.down; took = link.took; phase = link.phase }

-- the master is closed, and of what may come up nothing comes any more
abbrev pub master_hung_up : State → LawLink → LawLink
master_hung_up s l = record l { master = master_of (closed s); up = [] }
