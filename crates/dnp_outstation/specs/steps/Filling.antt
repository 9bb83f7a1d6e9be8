-- Private steps: how a fragment is filled, item by item. A lemma (proofs/Filled.antt) says that what is filled is what
-- is offered (Offer.antt).
use Rattle.std.specs.Prelude.{ℕ, ◌==◌, Bool, true, false, ◌&&◌, if◌then◌else◌, nat_eq, nat_le, nat_lt, max, length, List, [], ◌∷◌, ◌++◌, map, fold, slice_set, slice_index, Option, None, Some}
use Rattle.std.specs.List.{list_any}
use Rattle.std.specs.Option.{option_eq}
use Rattle.dnp_objects.specs.Lanes.{lane_number}
use Rattle.dnp_appfragment.specs.declared.function.Function.{Function}
use Rattle.dnp_appfragment.specs.declared.function.Function.TheVariants as function
use Rattle.dnp_appfragment.specs.Built as built
use Rattle.dnp_appfragment.specs.Built.{Built}
use Rattle.dnp_appfragment.specs.Headers.{head_after, last_time, number}
use Rattle.dnp_appfragment.specs.declared.header.Range.TheVariants as range
use Rattle.dnp_appfragment.specs.Items.{Item as Object}
use Rattle.dnp_appfragment.specs.Written as written
use Rattle.dnp_eventbuf.specs.EventBuffer.{EventBuffer, lane_at, without}
use Rattle.dnp_objects.specs.declared.limits.TheConstants.{MAX_FRAGMENT}
use Rattle.dnp_outstation.specs.declared.offer.place.ReadPlace.{ReadPlace}
use Rattle.dnp_outstation.specs.declared.offer.place.RowPart.{RowPart}
use Rattle.dnp_outstation.specs.declared.offer.place.Wanted.{Wanted}
use Rattle.dnp_outstation.specs.declared.offer.place.Wanted.TheVariants.{Rows, EachGroup, OneGroup}
use Rattle.dnp_outstation.specs.declared.offer.writer.Run.{Run}
use Rattle.dnp_outstation.specs.declared.offer.writer.Run.TheVariants.{NoRun, OfLane, OfBlock}
use Rattle.dnp_outstation.specs.declared.offer.writer.Writer.{Writer}
use Rattle.dnp_outstation.specs.Items.{Source, Part, Thing, Item, statics_of, each_static, in_range, no_ids, given_after, place_after}
use Rattle.dnp_outstation.specs.Items.Part.{RowsOf, StaticsOf}
use Rattle.dnp_outstation.specs.Items.Thing.{Event, Present}
use Rattle.dnp_outstation.specs.Layout.{Laid, lay}
use Rattle.dnp_outstation.specs.Offer.{Filled}
use Rattle.dnp_outstation.specs.declared.offer.grouping.Waiting.TheVariants as waiting
use Rattle.dnp_outstation.specs.steps.Grouping.{Marked, laid_from, open_in, waiting_items}

-- ---- what is read

-- the part that a header asks for by rows
abbrev pub part_of_rows : RowPart → Part
part_of_rows p = RowsOf (map lane_number p.lanes) p.most

-- the part that a header asks for, by what is wanted
abbrev pub part_by : Source → Wanted → Part
part_by s (Rows part) = part_of_rows part
part_by s EachGroup = StaticsOf (each_static s)
part_by s (OneGroup group asked r) = StaticsOf (in_range r (statics_of s asked group))

-- the lanes as they are after a release, if there is one
abbrev pub after_release : EventBuffer → Option (List ℕ) → EventBuffer
after_release s None = s
after_release s (Some upto) = without s upto

-- one of these lanes holds rows
abbrev pub has_rows_in : EventBuffer → List ℕ → Bool
has_rows_in s lanes = list_any (λ lane. nat_lt 0 (length (lane_at s lane).rows)) lanes

-- up to which id the rows of a lane are released
abbrev pub released_to : Option (List ℕ) → ℕ → ℕ
released_to None lane = 0
released_to (Some upto) lane = slice_index upto lane

-- over which id a lane's rows are still to be given, once these are released
abbrev pub over_of : List ℕ → Option (List ℕ) → ℕ → ℕ
over_of given None lane = slice_index given lane
over_of given (Some upto) lane = max (slice_index given lane) (slice_index upto lane)

-- ---- what is written

abbrev pub is_same_run : Run → Run → Bool
is_same_run NoRun run = false
is_same_run (OfLane lane common) NoRun = false
is_same_run (OfLane lane common) (OfLane lane' common') = (lane == lane') && option_eq nat_eq common common'
is_same_run (OfLane lane common) (OfBlock header group block) = false
is_same_run (OfBlock header group block) NoRun = false
is_same_run (OfBlock header group block) (OfLane lane common) = false
is_same_run (OfBlock header group block) (OfBlock header' group' block') = header == header' && (group == group' && block == block')

abbrev pub no_headers_of : Function → Built
no_headers_of f = record { function = f; ended = []; run = None }

abbrev pub no_headers : Built
no_headers = no_headers_of function.Response

-- an empty fragment of this function, for what has come to a place
abbrev pub empty_for : Function → ReadPlace → Writer
empty_for f place = record { builder = no_headers_of f; run = NoRun; place = place; upto = no_ids; waiting = waiting.Nothing }

abbrev pub empty_from : ReadPlace → Writer
empty_from place = empty_for function.Response place

-- the common time that the times of a run are told after, if there is one
abbrev pub common_of : Run → Option ℕ
common_of NoRun = None
common_of (OfLane lane common) = common
common_of (OfBlock header group block) = None

-- no object joins what is there: a common time stands before what comes, if there is one
abbrev pub begun : Built → Option ℕ → Built
begun b None = built.broken b
begun b (Some common) = built.with_header b (written.common_head common)

-- what comes may join what is there: it is of the same run, and the common time of that, if it has one, is the last in
-- the fragment
abbrev pub continues_by : Writer → Run → Option ℕ → Bool
continues_by w run None = is_same_run w.run run
continues_by w run (Some common) = is_same_run w.run run && option_eq nat_eq (built.context_of w.builder) (Some (last_time (written.common_head common)))

abbrev pub continues : Writer → Run → Bool
continues w run = continues_by w run (common_of run)

-- a new header begins where the lane or the common time changes, or for present values the header of the READ, the
-- group or the block
abbrev pub built_for : Writer → Run → Built
built_for w run = if continues w run then w.builder else begun w.builder (common_of run)

abbrev pub put_laid : Writer → Laid → Writer
put_laid w x = put_thing x.item.thing x.object
  where
    put_thing : Thing → Object → Writer
    put_thing (Event lane row) o = record {
      builder = built.with_object (built_for w (OfLane lane x.common))
          (head_after x.common o.group o.variation (range.Indexed true 1) (number true o.index ++ o.octets));
      run = OfLane lane x.common;
      place = place_after w.place x.item;
      upto = slice_set w.upto lane row.id;
      waiting = w.waiting;
    }
    put_thing (Present static) o = record {
      builder = built.with_object (built_for w (OfBlock x.item.header o.group static.block))
          (written.spanned o.group o.variation static.row.index o.octets);
      run = OfBlock x.item.header o.group static.block;
      place = place_after w.place x.item;
      upto = w.upto;
      waiting = w.waiting;
    }

-- an item is put as its own object
abbrev pub put : Writer → Item → Writer
put w x = put_laid w (lay x)

abbrev pub fits : Writer → Bool
fits w = nat_le (built.size w.builder) MAX_FRAGMENT

abbrev pub ended : Bool → Writer → Filled
ended is_last w = record { headers = built.heads w.builder; upto = w.upto; left = if is_last then None else Some w.place }

-- items are put until one doesn't fit
abbrev pub fill_laid : Writer → List Laid → Filled
fill_laid w [] = ended true w
fill_laid w (x ∷ xs) = if fits (put_laid w x) then fill_laid (put_laid w x) xs else ended false w

-- with the rows that wait before them
abbrev pub fill : Writer → List Marked → Filled
fill w items = fill_laid w (laid_from (open_in w.waiting) items)

-- of each lane the last id that was given, those of the rows that wait among them
abbrev pub reached : Writer → List ℕ
reached w = fold given_after w.place.given (waiting_items w.waiting)
