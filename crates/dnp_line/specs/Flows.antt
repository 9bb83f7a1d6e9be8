-- Definition: what holds of a way at every moment, and what each event does to the fragments that may still come. The promise of a
-- line is said by `Way`, `Happens`, `Runs` and `Comes`; `Flows` and `RestMoves` carry it on from any moment.
use Rattle.std.specs.Prelude.{◌≡◌, ℕ, suc, ◌+◌, ◌%◌, ◌<◌, ◌≤◌, false, if◌then◌else◌, List, [], ◌∷◌, ◌++◌, length, drop, slice_get, Some}
use Rattle.dnp_linkframe.specs.Frames.{Spells}
use Rattle.dnp_linkframe.specs.declared.frame.Frame.{Frame}
use Rattle.dnp_linkstation.specs.Station.{ends, opposite, AreHeard as Answers}
use Rattle.dnp_linkstation.specs.declared.station.LinkStation.{LinkStation}
use Rattle.dnp_transport.specs.Assembly.{Assembly, ArePushed}
use Rattle.dnp_transport.specs.Cuts.{cut_count, cut, begun_cuts}
use Rattle.dnp_transport.specs.Series.{IsOpen}
use Rattle.dnp_line.specs.Comes.{ComesTo}
use Rattle.dnp_line.specs.Lines.{LineState}
use Rattle.dnp_line.specs.Ports.{PortState, data_frame}
use Rattle.dnp_line.specs.Ways.{Way, WayEvent, Send, Deliver, Repeat, Clear}
use Rattle.dnp_line.specs.declared.line.TheConstants.{BROKEN_LOSSES}
use Rattle.dnp_transport.specs.declared.limits.TheConstants.{SEGMENT_NUMBERS}

-- the two ends of one link: each port's station is the other's peer, and one of them is the master
abbrev pub AreFacing : PortState → PortState → Type 0
AreFacing sender receiver = ends receiver.link ≡ opposite (ends sender.link)

-- how many segments the fragments were cut into
abbrev pub segment_total : List (List ℕ) → ℕ
segment_total [] = 0
segment_total (fragment ∷ others) = cut_count (length fragment) + segment_total others

-- at the place, counted from 0, of all the segments that the fragments were cut into is segment k of this fragment
pub record IsAt (sent : List (List ℕ)) (place : ℕ) (before : List (List ℕ)) (fragment : List ℕ) (after : List (List ℕ)) (k : ℕ) : Type 0 where
  pub split : sent ≡ before ++ fragment ∷ after
  pub place_is : place ≡ segment_total before + k
  pub within : k < cut_count (length fragment)

-- this is the segment at the place
pub record IsSegment (sent : List (List ℕ)) (place : ℕ) (segment : List ℕ) : Type 0 where
  pub before : List (List ℕ)
  pub fragment : List ℕ
  pub after : List (List ℕ)
  pub k : ℕ
  pub at : IsAt sent place before fragment after k
  pub segment_is : segment ≡ cut fragment (segment_total before) k

-- the units on the line are those of the last segments, from the place on
abbrev pub AreLast : PortState → List (List ℕ) → ℕ → List (List ℕ) → Type 0
AreLast port sent place [] = place ≡ segment_total sent
AreLast port sent place (unit ∷ units) =
    (segment : List ℕ) × IsSegment sent place segment × Spells unit (data_frame port segment)
    × AreLast port sent (place + 1) units

-- the series is of the first segments of a fragment, its newest at the place, and waits for more
pub record IsBegun (sent : List (List ℕ)) (place : ℕ) (series : List (List ℕ)) : Type 0 where
  pub before : List (List ℕ)
  pub fragment : List ℕ
  pub after : List (List ℕ)
  pub k : ℕ
  pub at : IsAt sent place before fragment after k
  pub waits : k + 1 < cut_count (length fragment)
  pub series_is : series ≡ begun_cuts fragment (segment_total before) (suc k)

-- the same, and no more segments than those that were lost since can have gone by after its newest
pub record IsRecent (sent : List (List ℕ)) (gone lost : ℕ) (series : List (List ℕ)) : Type 0 where
  pub place : ℕ
  pub is_begun : IsBegun sent place series
  pub low : place ≤ gone
  pub high : gone ≤ place + 1 + lost

-- the fragments: what was given came of what was sent, `rest` may still come, and the segments of those before `rest`
-- are among the ones that are gone from the line
pub record AreGiven (given sent rest : List (List ℕ)) (gone : ℕ) : Type 0 where
  pub past : List (List ℕ)
  pub split : sent ≡ past ++ rest
  pub came : ComesTo given sent rest
  pub reached : segment_total past ≤ gone

-- the line: the segments from the place on are on it, unless it is broken, and then nothing is
pub record CarriesFrom (gone : ℕ) (sender : PortState) (sent : List (List ℕ)) (line : LineState) : Type 0 where
  pub on_line : line.lost < BROKEN_LOSSES → AreLast sender sent gone line.units
  pub broken : BROKEN_LOSSES ≤ line.lost → line.units ≡ []

-- the receiver's port: it heard some frames, newest first; what was pushed into what it joins, newest first, leaves at
-- most the beginning of one fragment
pub record HasHalfBuilt (link : LinkStation) (assembly : Assembly) (sent : List (List ℕ)) (gone lost : ℕ) : Type 0 where
  pub heard : List Frame
  pub answers : Answers heard link
  pub pushed : List (List ℕ)
  pub stands : ArePushed pushed assembly
  pub half_built : lost < BROKEN_LOSSES → (series : List (List ℕ)) → IsOpen pushed series → IsRecent sent gone lost series

-- what holds of a way: what the receiver's port gave came of what was handed to the sender's port, and `rest` may
-- still come. `gone` segments are gone from the line.
pub record Flows (w : Way) (rest : List (List ℕ)) : Type 0 where
  pub facing : AreFacing w.sender w.receiver
  pub numbered : w.mute ≡ false → w.sender.number ≡ segment_total w.sent % SEGMENT_NUMBERS
  pub gone : ℕ
  pub fragments : AreGiven w.given w.sent rest gone
  pub units : CarriesFrom gone w.sender w.sent w.line
  pub port : HasHalfBuilt w.receiver.link w.receiver.assembly w.sent gone w.line.lost

-- what a unit that comes does: nothing is given, or one of the fragments that may still come, and then those before it
-- come no more
pub data MayGive (rest given rest' given' : List (List ℕ)) : Type 0 where
  Nothing : rest' ≡ rest → given' ≡ given → MayGive rest given rest' given'
  One : (n : ℕ) → (fragment : List ℕ) → slice_get rest n ≡ Some fragment → rest' ≡ drop n rest →
      given' ≡ given ++ fragment ∷ [] → MayGive rest given rest' given'

-- what an event does to the fragments that may still come
abbrev pub RestMoves : Way → WayEvent → Way → List (List ℕ) → List (List ℕ) → Type 0
RestMoves old (Send fragment) new rest rest' = rest' ≡ (if old.mute then rest else rest ++ fragment ∷ [])
RestMoves old Deliver new rest rest' = MayGive rest old.given rest' new.given
RestMoves old Repeat new rest rest' = MayGive rest old.given rest' new.given
RestMoves old Clear new rest rest' = rest' ≡ []
RestMoves old event new rest rest' = rest' ≡ rest
