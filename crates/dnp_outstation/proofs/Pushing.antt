-- What the rows of the enabled classes are filled with is what an unsolicited response offers.
use Rattle.std.proofs.Common.{◌≡◌, ℕ, ◌+◌, ◌*◌, ◌<◌, ◌≤◌, suc, Bool, true, false, if◌then◌else◌, cond, List, [], ◌∷◌, ◌++◌, map, length, get_or, filter, Option, None, Some, IfSome, refl, sym, ap, ◌∙◌, arith, append_assoc, append-nil, nat_le, add-one}
use Rattle.std.proofs.Common.{drop}
use Rattle.std.specs.List.{All}
use Rattle.std.specs.Option.{option_and_then}
use Rattle.std.proofs.Math.Seq.{drop-cons}
use Rattle.std.proofs.lemmas.Bool.{le-leb}
use Rattle.std.proofs.lemmas.List.{get_or-replicate, map-append}
use Rattle.std.proofs.lemmas.List.Elements.{All-nil, All-cons, All-head}
use Rattle.dnp_appfragment.specs.declared.function.Function.{Function}
use Rattle.dnp_appfragment.specs.declared.function.Function.TheVariants as function
use Rattle.dnp_appfragment.specs.Built.{Built, with_object, with_run, heads, front_size}
use Rattle.dnp_appfragment.specs.Headers.{Head, spelled}
use Rattle.dnp_appfragment.specs.Joining.{joined}
use Rattle.dnp_eventbuf.specs.declared.numbered.Numbered.{Numbered}
use Rattle.dnp_objects.specs.declared.limits.TheConstants.{LANES, MAX_FRAGMENT, MAX_ID}
use Rattle.dnp_eventbuf.specs.EventBuffer.{EventBuffer, lane_at}
use Rattle.dnp_eventbuf.specs.Sound.{IsSoundBuffer}
use Rattle.dnp_outstation.specs.declared.offer.writer.Writer.{Writer}
use Rattle.dnp_outstation.specs.Forms.{may_each}
use Rattle.dnp_outstation.specs.Items.{Item, no_ids, first_place, place_after, given_after, rows_left, event_of, event_items, class_lanes, enabled_lanes, lane_items}
use Rattle.dnp_outstation.specs.steps.Filling.{after_release, put_laid, fits, fill_laid, fill, ended, common_of, continues, begun, built_for, empty_for, empty_from}
use Rattle.dnp_outstation.specs.Layout.{Laid}
use Rattle.dnp_outstation.specs.steps.Grouping.{Marked, marked, mark, laid_from}
use Rattle.dnp_outstation.specs.steps.Grouping.Open.{Shut}
use Rattle.dnp_outstation.specs.Offer.{Filled, pushed}
use Rattle.dnp_outstation.specs.steps.Putting.{Puts}
use Rattle.dnp_outstation.proofs.Carried.{lane_rises}
use Rattle.dnp_outstation.proofs.Filled.{fill_offers}
use Rattle.dnp_outstation.proofs.Joined.{run_at, written_of}
use Rattle.dnp_outstation.proofs.Left.{StaySound}
use Rattle.dnp_outstation.proofs.OfferPresent.{puts_more, puts_full}
use Rattle.dnp_outstation.proofs.OfferRows.{stood_at}
use Rattle.dnp_outstation.proofs.Rising.{over, over_all}
use Rattle.dnp_outstation.proofs.Taken.{put_is}

-- ---- the rows of a class

pub after_sound : StaySound → (s : EventBuffer) (released : Option (List ℕ)) → IfSome released (λ upto. length upto ≡ LANES) → IsSoundBuffer s
    → IsSoundBuffer (after_release s released)
after_sound stay s None nine sound = sound
after_sound stay s (Some upto) nine sound = stay s upto sound nine

-- all rows are left where all ids are low enough
all_stood : (stood : ℕ) (rows : List Numbered) → All (λ x. x.id ≤ stood) rows → filter (stood_at stood) rows ≡ rows
all_stood stood [] low = refl
all_stood stood (x ∷ xs) low =
    let first : x.id ≤ stood = All-head (λ (y : Numbered). y.id ≤ stood) x xs low in
    ap (λ (b : Bool). cond b (x ∷ filter (stood_at stood) xs) (filter (stood_at stood) xs)) (le-leb x.id stood first)
    ∙ ap (λ (rows : List Numbered). x ∷ rows) (all_stood stood xs (λ k d short. low (suc k) d (omega arith)))

each_left : (s : EventBuffer) (stood lane : ℕ) → IsSoundBuffer s → s.last_id ≤ stood → lane < LANES → rows_left s stood no_ids lane ≡ (lane_at s lane).rows
each_left s stood lane sound high low =
    let rows : List Numbered = (lane_at s lane).rows in
    ap (λ (id : ℕ). filter (stood_at stood) (filter (over id) rows)) (get_or-replicate LANES lane 0 0 low)
    ∙ ap (filter (stood_at stood)) (over_all 0 0 rows (omega arith) (lane_rises s lane sound low))
    ∙ all_stood stood rows (λ k d short. let h : (get_or rows k d).id ≤ s.last_id = (sound.each lane low).up_to_last k d short in omega arith)

lanes_left : (s : EventBuffer) (stood : ℕ) (lanes : List ℕ) → IsSoundBuffer s → s.last_id ≤ stood → All (λ lane. lane < LANES) lanes
    → event_items s stood no_ids 0 None lanes ≡ lane_items s lanes
lanes_left s stood [] sound high low = refl
lanes_left s stood (lane ∷ lanes) sound high low =
    ap (λ (rows : List Numbered). map (event_of 0 lane) rows ++ event_items s stood no_ids 0 None lanes)
    (each_left s stood lane sound high (All-head (λ (n : ℕ). n < LANES) lane lanes low))
    ∙ ap (λ (items : List Item). map (event_of 0 lane) (lane_at s lane).rows ++ items)
    (lanes_left s stood lanes sound high (λ k d short. low (suc k) d (omega arith)))

class_below : (class : ℕ) → class < 3 → All (λ lane. lane < LANES) (class_lanes class)
class_below class low =
    let P : ℕ → Type 0 = λ lane. lane < LANES in
    All-cons P (3 * class) ((3 * class + 1) ∷ (3 * class + 2) ∷ []) (omega arith)
    (All-cons P (3 * class + 1) ((3 * class + 2) ∷ []) (omega arith) (All-cons P (3 * class + 2) [] (omega arith) (All-nil P)))

-- a READ of a class that begins, with no bound of ids, gives the rows of its lanes as they are after the release
pub class_left : StaySound → (s : EventBuffer) (released : Option (List ℕ)) (stood class : ℕ) (lanes : List ℕ) → IsSoundBuffer s
    → IfSome released (λ upto. length upto ≡ LANES) → MAX_ID ≤ stood → class < 3 → lanes ≡ class_lanes class
    → event_items (after_release s released) stood no_ids 0 None lanes ≡ lane_items (after_release s released) (class_lanes class)
class_left stay s released stood class lanes sound nine high low lanes_are =
    let t : EventBuffer = after_release s released in
    let after : IsSoundBuffer t = after_sound stay s released nine sound in
    ap (λ (numbers : List ℕ). event_items t stood no_ids 0 None numbers) lanes_are
    ∙ lanes_left t stood (class_lanes class) after (omega (arith, after.last_id_at_most)) (class_below class low)

-- ---- one class after the other

-- the first class of those that are left
pub class_at : (enabled : List Bool) (class number : ℕ) → length enabled ≡ 3 → number ≡ class → class < 3
    → drop class enabled ≡ get_or enabled number false ∷ drop (class + 1) enabled
class_at enabled class number few is low =
    let short : class < length enabled = omega arith in
    rw (add-one, is) (drop-cons enabled class false short)

pub lanes_both : (s : EventBuffer) (lanes others : List ℕ) → lane_items s (lanes ++ others) ≡ lane_items s lanes ++ lane_items s others
lanes_both s [] others = refl
lanes_both s (lane ∷ lanes) others =
    let rows : List Item = map (event_of 0 lane) (lane_at s lane).rows in
    ap (λ (items : List Item). rows ++ items) (lanes_both s lanes others) ∙ sym (append_assoc rows (lane_items s lanes) (lane_items s others))

-- the lanes of a class, if it is enabled
abbrev lanes_if : Bool → ℕ → List ℕ
lanes_if on class = if on then class_lanes class else []

class_first : (s : EventBuffer) (class : ℕ) (on : Bool) (left others : List Bool) → left ≡ on ∷ others
    → mark true (lane_items s (enabled_lanes class left))
    ≡ mark true (lane_items s (lanes_if on class)) ++ mark true (lane_items s (enabled_lanes (class + 1) others))
class_first s class on left others is =
    ap (λ (l : List Bool). mark true (lane_items s (enabled_lanes class l))) is
    ∙ ap (mark true) (lanes_both s (lanes_if on class) (enabled_lanes (class + 1) others))
    ∙ map-append (marked true) (lane_items s (lanes_if on class)) (lane_items s (enabled_lanes (class + 1) others))

-- the rows of a class were put, if it is enabled, and the others are left
pub class_put : (s : EventBuffer) (class : ℕ) (on : Bool) (left others : List Bool) (w w' : Writer) (fit : Bool) (more : List Marked)
    → left ≡ on ∷ others → Puts w (mark true (lane_items s (lanes_if on class))) fit w' → fit ≡ true
    → fill w' (mark true (lane_items s (enabled_lanes (class + 1) others)) ++ more) ≡ fill w (mark true (lane_items s (enabled_lanes class left)) ++ more)
class_put s class on left others w w' fit more left_is put fits =
    sym (puts_more w w' fit (mark true (lane_items s (lanes_if on class))) (mark true (lane_items s (enabled_lanes (class + 1) others))) more put fits)
    ∙ ap (λ (items : List Marked). fill w (items ++ more)) (sym (class_first s class on left others left_is))

-- not all of them fitted
pub class_full : (s : EventBuffer) (class : ℕ) (on : Bool) (left others : List Bool) (w w' : Writer) (fit : Bool) (more : List Marked)
    → left ≡ on ∷ others → Puts w (mark true (lane_items s (lanes_if on class))) fit w' → fit ≡ false
    → fill w (mark true (lane_items s (enabled_lanes class left)) ++ more) ≡ ended false w'
class_full s class on left others w w' fit more left_is put full =
    ap (λ (items : List Marked). fill w (items ++ more)) (class_first s class on left others left_is)
    ∙ puts_full w w' fit (mark true (lane_items s (lanes_if on class))) (mark true (lane_items s (enabled_lanes (class + 1) others))) more put full

-- ---- an unsolicited response is filled as a response

-- a writer under another function
abbrev under : Function → Writer → Writer
under f w = record w { builder = record w.builder { function = f } }

run_as : (f : Function) (b : Built) (o : Option Head) (object : Head)
    → with_run (record b { function = f }) o object ≡ record (with_run b o object) { function = f }
run_as f b None object = refl
run_as f b (Some longer) object = refl

object_as : (f : Function) (b : Built) (object : Head) → with_object (record b { function = f }) object ≡ record (with_object b object) { function = f }
unfolding with_object
object_as f b object = run_as f b (option_and_then (λ run. joined run object) b.run) object

built_as : (f : Function) (w : Writer) (common : Option ℕ) (same : Bool)
    → cond same (under f w).builder (begun (under f w).builder common) ≡ record (cond same w.builder (begun w.builder common)) { function = f }
built_as f w common true = refl
built_as f w None false = refl
built_as f w (Some t) false = refl

put_as : (f : Function) (w : Writer) (x : Laid) → put_laid (under f w) x ≡ under f (put_laid w x)
put_as f w x =
    put_is (under f w) x
    ∙ ap (λ (b : Built). with_builder (with_object b (written_of x))) (built_as f w (common_of (run_at x)) (continues w (run_at x)))
    ∙ ap with_builder (object_as f (built_for w (run_at x)) (written_of x))
    ∙ ap (under f) (sym (put_is w x))
  where
    with_builder : Built → Writer
    with_builder b = record { builder = b; run = run_at x; place = place_after w.place x.item; upto = given_after w.upto x.item; waiting = w.waiting }

-- the function doesn't matter, as long as it is that of a response
filled_as : (f g : Function) (w : Writer) (xs : List Laid) → front_size f ≡ front_size g → fill_laid (under f w) xs ≡ fill_laid (under g w) xs
filled_as f g w [] same = refl
filled_as f g w (x ∷ xs) same =
    let v = put_laid w x in
    ap (λ (u : Writer). cond (fits u) (fill_laid u xs) (ended false w)) (put_as f w x)
    ∙ ap (λ (n : ℕ). cond (nat_le (n + length (spelled (heads v.builder))) MAX_FRAGMENT) (fill_laid (under f v) xs) (ended false w)) same
    ∙ ap (λ (filled : Filled). cond (fits (under g v)) filled (ended false w)) (filled_as f g v xs same)
    ∙ ap (λ (u : Writer). cond (fits u) (fill_laid u xs) (ended false w)) (sym (put_as g w x))

-- what the rows of the enabled classes are filled with
pub filled_pushed : (s : EventBuffer) (enabled : List Bool) (w w' : Writer) (is_last : Bool) → w ≡ empty_for function.UnsolicitedResponse first_place
    → ended is_last w' ≡ fill w (mark true (lane_items s (enabled_lanes 0 enabled))) → ended is_last w' ≡ pushed s enabled
filled_pushed s enabled w w' is_last empty is =
    let items : List Item = lane_items s (enabled_lanes 0 enabled) in
    is
    ∙ ap (λ (v : Writer). fill v (mark true items)) empty
    ∙ filled_as function.UnsolicitedResponse function.Response (empty_from first_place) (laid_from Shut (mark true items)) refl
    ∙ fill_offers may_each first_place items
