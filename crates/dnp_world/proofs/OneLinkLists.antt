-- Lists of rows, as a link keeps them.
use Rattle.std.proofs.Common.{◌≡◌, ℕ, zero, suc, ◌+◌, ◌*◌, ◌^◌, ◌<◌, ◌≤◌, List, [], ◌∷◌, ◌++◌, length, map, take, ap, ◌∙◌, arith, length-append, true, cond, Bool, Ok, Err}
use Rattle.std.specs.Prelude.{All, slice_index_or}
use Rattle.std.proofs.lemmas.List.{take_all, length-map}
use Rattle.dnp_objects.specs.declared.limits.TheConstants.{LANES}
use Rattle.dnp_objects.specs.declared.row.Row.{Row}
use Rattle.dnp_appfragment.specs.EventRows.{answered_events, events_in}
use Rattle.dnp_appfragment.specs.Meaning.{response_at}
use Rattle.dnp_appfragment.specs.declared.fault.AppFault.{AppFault}
use Rattle.dnp_appfragment.specs.Fragments.{Answered}
use Rattle.dnp_eventbuf.specs.Sound.{IsSoundBuffer}
use Rattle.dnp_eventbuf.specs.EventBuffer.{EventBuffer, LaneState, no_lane, lane_at, lane_rows, row_of, rows_in}
use Rattle.dnp_world.specs.Octets.{rows_in as rows_read}

-- ---- rows that wait

lane_more : (lanes : List LaneState) (k : ℕ) → k < length lanes
    → length (lane_rows (take (suc k) lanes)) ≡ length (lane_rows (take k lanes)) + length (slice_index_or lanes k no_lane).rows
lane_more [] k low = absurd (omega arith)
lane_more (lane ∷ lanes) zero low = omega (arith, length-append (map row_of lane.rows) [], length-map lane.rows row_of)
lane_more (lane ∷ lanes) (suc k) low =
    omega (
      arith,
      length-append (map row_of lane.rows) (lane_rows (take (suc k) lanes)),
      length-append (map row_of lane.rows) (lane_rows (take k lanes)),
      lane_more lanes k (omega (arith, low)),
    )

-- the rows of the first lanes were counted
pub record IsCounting {L : Type 0} (honest : L → Type 0) (contents : L → EventBuffer) (start lanes : L) (count number : ℕ) : Type 0 where
  pub same : lanes ≡ start
  pub few : count ≤ number * 2 ^ 32
  pub counted : honest lanes → count ≡ length (lane_rows (take number (contents lanes).lanes))
  pub sound : honest lanes → 0 < number → IsSoundBuffer (contents lanes)

pub one_counted : {L : Type 0} (honest : L → Type 0) (contents : L → EventBuffer) (start lanes : L) (count number lane_number more : ℕ)
    → IsCounting honest contents start lanes count number → number < LANES → lane_number ≡ number → more < 2 ^ 32
    → (honest lanes → IsSoundBuffer (contents lanes)) → (honest lanes → more ≡ length (lane_at (contents lanes) lane_number).rows)
    → IsCounting honest contents start lanes (count + more) (number + 1)
one_counted honest contents start lanes count number lane_number more i low its few sound value =
    record {
      same = i.same;
      few = omega (arith, i.few, few);
      counted = λ h.
          let long : length (contents lanes).lanes ≡ LANES = (sound h).nine in
          let next : number + 1 ≡ suc number = omega arith in
          let before : count ≡ length (lane_rows (take number (contents lanes).lanes)) = i.counted h in
          let here : more ≡ length (lane_at (contents lanes) number).rows =
          value h ∙ ap (λ (n : ℕ). length (lane_at (contents lanes) n).rows) its in
          let step : length (lane_rows (take (number + 1) (contents lanes).lanes))
          ≡ length (lane_rows (take number (contents lanes).lanes)) + length (lane_at (contents lanes) number).rows =
          ap (λ (n : ℕ). length (lane_rows (take n (contents lanes).lanes))) next ∙ lane_more (contents lanes).lanes number (omega (arith, long, low)) in
          omega (arith, before, here, step);
      sound = λ h some. sound h;
    }

pub all_counted : {L : Type 0} (honest : L → Type 0) (contents : L → EventBuffer) (start lanes : L) (count number : ℕ)
    → IsCounting honest contents start lanes count number → LANES ≤ number → honest lanes → count ≡ length (rows_in (contents lanes))
all_counted honest contents start lanes count number i high h =
    let long : length (contents lanes).lanes ≡ LANES = (i.sound h (omega (arith, high))).nine in
    i.counted h ∙ ap (λ (ls : List LaneState). length (lane_rows ls)) (take_all number (contents lanes).lanes (omega (arith, long, high)))

-- ---- rows of headers

-- what octets say
pub read_rows : (octets : List ℕ) (answered : Answered) → Ok answered ≡ response_at octets → events_in answered.headers ≡ rows_read octets
unfolding rows_read
read_rows octets answered e = ap answered_events e

pub no_rows : (octets : List ℕ) (fault : AppFault) → Err fault ≡ response_at octets → [] ≡ rows_read octets
unfolding rows_read
no_rows octets fault e = ap answered_events e

-- each octet of a slice is one, wherever it is read
pub all_octets : (octets : List ℕ) → ((i : ℕ) → slice_index_or octets i 0 < 256) → All (λ octet. octet < 2 ^ 8) octets
all_octets [] fits k d low = absurd (omega (arith, low))
all_octets (x ∷ xs) fits zero d low = let first : x < 256 = fits 0 in first
all_octets (x ∷ xs) fits (suc k) d low = all_octets xs (λ i. let next : slice_index_or xs i 0 < 256 = fits (suc i) in next) k d (omega (arith, low))

-- how many they are at most
pub rows_by : (octets : List ℕ) (most : ℕ) → length (answered_events (response_at octets)) ≤ most → length (rows_read octets) ≤ most
unfolding rows_read
rows_by octets most few = few

-- ---- a list that has room

pub extended : (ok : Bool) (old other new : List Row) → new ≡ (cond ok (old ++ other) old) → ok ≡ true → new ≡ old ++ other
extended ok old other new is done = is ∙ ap (λ (b : Bool). cond b (old ++ other) old) done

-- one that was given room, and then the rows
pub all_listed : (ok : Bool) (old roomy rows dropped new : List Row) → roomy ≡ old → rows ≡ dropped → new ≡ (cond ok (roomy ++ rows) roomy) → ok ≡ true
    → new ≡ old ++ dropped
all_listed ok old roomy rows dropped new same rows_are is done =
    extended ok roomy rows new is done ∙ ap (λ (xs : List Row). xs ++ rows) same ∙ ap (λ (xs : List Row). old ++ xs) rows_are
