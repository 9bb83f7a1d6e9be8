-- Private steps: how a writer comes of another by items that are put into it.
use Rattle.std.specs.Prelude.{[], ◌∷◌, ◌≡◌, ℕ, ◌+◌, ◌-◌, ◌^◌, ◌==◌, ◌≤◌, min, Bool, false, ◌++◌, if◌then◌else◌, List, map, fold, drop, Option, ⊤}
use Rattle.dnp_objects.specs.declared.row.Kind.{Kind}
use Rattle.dnp_objects.specs.declared.row.Row.{Row}
use Rattle.dnp_eventbuf.specs.declared.numbered.Numbered.{Numbered}
use Rattle.dnp_objects.specs.declared.row.Kind.TheVariants.{Binary, Counter, Analog}
use Rattle.dnp_pointdb.specs.declared.state.PointState.{PointState}
use Rattle.dnp_pointdb.specs.Events.{row_of}
use Rattle.dnp_pointdb.specs.Sound.{static_object}
use Rattle.dnp_outstation.specs.declared.offer.place.ReadPlace.{ReadPlace}
use Rattle.dnp_outstation.specs.declared.offer.writer.Writer.{Writer}
use Rattle.dnp_appfragment.specs.Built.{size}
use Rattle.dnp_outstation.specs.declared.offer.grouping.Given.{Given}
use Rattle.dnp_outstation.specs.declared.offer.grouping.Given.TheVariants as given
use Rattle.dnp_outstation.specs.declared.offer.grouping.Waiting.{Waiting}
use Rattle.dnp_outstation.specs.declared.offer.grouping.Waiting.TheVariants as waiting
use Rattle.dnp_objects.specs.declared.limits.TheConstants.{MAX_FRAGMENT}
use Rattle.dnp_outstation.specs.Items.{Static, present_of, event_of, given_after, place_after}
use Rattle.dnp_appfragment.specs.Headers.{Head}
use Rattle.dnp_outstation.specs.Forms.{leaves_open, told_by}
use Rattle.dnp_outstation.specs.steps.Grouping.{Marked, mark, laid_from, open_in}
use Rattle.dnp_outstation.specs.steps.Filling.{fill_laid, fill, ended, reached}
use Rattle.dnp_outstation.specs.Layout.{Laid}

-- the items were put, all of them or, where they don't fit, as many as do: whatever comes after
abbrev pub Puts : Writer → List Marked → Bool → Writer → Type 0
Puts w items fit w' = (more : List Marked) → fill w (items ++ more) ≡ (if fit then fill w' more else ended false w')

-- what comes of rows that are laid, whatever comes after
abbrev pub PutsLaid : Writer → List Laid → Bool → Writer → Type 0
PutsLaid w xs fit w' = (more : List Laid) → fill_laid w (xs ++ more) ≡ (if fit then fill_laid w' more else ended false w')

-- the fewest octets that an event of a kind takes in a fragment: its index, its flags, and of a counter or an analog
-- its value, as 2.1, 22.1 and 32.1 have them
abbrev pub least_octets : Kind → ℕ
least_octets Binary = 3
least_octets Counter = 7
least_octets Analog = 7

-- those that the rows that wait take: two of a group are binaries
abbrev pub least_waiting : Waiting → ℕ
least_waiting waiting.Nothing = 0
least_waiting (waiting.One x) = least_octets x.row.row.kind
least_waiting (waiting.Two pair) = 6
least_waiting (waiting.Within first) = 0

-- the octets of the fragment, with those
abbrev pub weight : Writer → ℕ
weight w = size w.builder + least_waiting w.waiting

-- those of the rows that are given
abbrev pub least_given : Given → ℕ
least_given given.Nothing = 0
least_given (given.First a) = least_octets a.row.row.row.kind
least_given (given.Second a b) = least_octets a.row.row.row.kind + least_octets b.row.row.row.kind
least_given (given.Third a b c) = least_octets a.row.row.row.kind + least_octets b.row.row.row.kind + least_octets c.row.row.row.kind

-- those that rows take
abbrev pub least_of : List Numbered → ℕ
least_of [] = 0
least_of (x ∷ xs) = least_octets x.row.kind + least_of xs

-- so many rows of a lane more stand under the last header, which is of this one of the READ
abbrev pub passed_rows : Writer → ℕ → ℕ → List Numbered → Writer
passed_rows w header lane rows = record w {
  place = fold place_after w.place (map (event_of header lane) rows);
  upto = fold given_after w.upto (map (event_of header lane) rows);
}

-- of these rows of a lane, which come for one header, the first were put or wait: what was put and those that are left are
-- the whole, whatever comes after
pub record PutsFirst (w : Writer) (header : ℕ) (is_open : Bool) (lane : ℕ) (rows left : List Numbered) (w' : Writer) : Type 0 where
  pub given : fold given_after (reached w') (map (event_of header lane) left) ≡ fold given_after (reached w) (map (event_of header lane) rows)
  pub written : (more : List Marked) → fill w' (mark is_open (map (event_of header lane) left) ++ more)
      ≡ fill w (mark is_open (map (event_of header lane) rows) ++ more)
  pub room : size w.builder ≤ MAX_FRAGMENT → (weight w + least_of rows ≤ weight w' + least_of left) × (size w'.builder ≤ MAX_FRAGMENT)

-- one of them doesn't fit: the fragment ends before it, whatever comes after
abbrev pub StopsIn : Writer → ℕ → Bool → ℕ → List Numbered → Writer → Type 0
StopsIn w header is_open lane rows w' = (more : List Marked) → fill w (mark is_open (map (event_of header lane) rows) ++ more) ≡ ended false w'

-- rows go so after what stands last, whatever comes after: each as this is laid, while none waits
abbrev pub GoOn : Waiting → ℕ → Bool → ℕ → Option ℕ → List Numbered → List Numbered → Type 0
GoOn waiting header is_open lane common own left = (more : List Marked)
    → laid_from (open_in waiting) (mark is_open (map (event_of header lane) (own ++ left)) ++ more)
    ≡ map (told_by common) (map (event_of header lane) own)
    ++ laid_from (open_in waiting) (mark is_open (map (event_of header lane) left) ++ more)

-- present values, whose objects are never left open
abbrev pub shown : ℕ → List Static → List Marked
shown header statics = mark false (map (present_of header) statics)

-- what a header gives of present values but for the first so many
abbrev pub presents : ℕ → ℕ → List Static → List Marked
presents header skip statics = shown header (drop skip statics)

-- the rows of points of a kind, of which the first has this index
abbrev pub rows_from : Kind → ℕ → List PointState → List Row
rows_from kind index [] = []
rows_from kind index (p ∷ ps) = row_of kind index p.reading ∷ rows_from kind (index + 1) ps

-- where a READ has come to once so many present values of a header were given
abbrev pub passed_by : ReadPlace → ℕ → ℕ → ReadPlace
passed_by place header count = record {
  header = header;
  count = min ((if place.header == header then place.count else 0) + count) (2 ^ 32 - 1);
  given = place.given;
}

-- the group of the object that a present value of a kind goes as, where this variation was asked for
abbrev pub group_of : Kind → ℕ → ℕ
group_of kind asked = (static_object kind asked).0

-- headers from this number on leave it open by this as which object a binary event goes
abbrev pub LeavesOpen : (ℕ → Bool) → ℕ → List Head → Type 0
LeavesOpen may at [] = ⊤
LeavesOpen may at (h ∷ hs) = (may at ≡ leaves_open h) × LeavesOpen may (at + 1) hs
