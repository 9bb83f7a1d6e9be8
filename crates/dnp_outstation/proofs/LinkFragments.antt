-- What the fragments of an outstation report.
use Rattle.std.proofs.Common.{◌≡◌, ◌⊎◌, inl, inr, Bool, true, false, refl, sym, ◌∙◌, ap, subst, ℕ, ◌<◌, ◌≤◌, ◌^◌, ◌||◌, nat_le, nat_lt, zero, suc, cond, List, [], ◌∷◌, map, length, arith, Option, Some, IfSome}
use Rattle.std.specs.Prelude.{slice_index}
use Rattle.std.specs.List.{All, filter}
use Rattle.std.specs.List.Sorted.{IsPermutation}
use Rattle.std.proofs.lemmas.Bool.{cases_lt, lt-ltb, leb-true}
use Rattle.std.proofs.lemmas.List.{get_or_past, nil_from_length}
use Rattle.std.proofs.lemmas.List.Elements.{All-head, All-tail, All-filter, All-weaker}
use Rattle.std.proofs.lemmas.List.Sorted.{IsPermutation-refl, length_permutation}
use Rattle.dnp_appfragment.specs.declared.function.Function.TheVariants as function
use Rattle.dnp_objects.specs.declared.limits.TheConstants.{LANES}
use Rattle.dnp_objects.specs.declared.row.Row.{Row}
use Rattle.dnp_appfragment.specs.Control.{ControlBits, IsControl}
use Rattle.dnp_appfragment.specs.EventRows.{events_in as rows_said}
use Rattle.dnp_appfragment.specs.Fragments.{Answered, response_octets}
use Rattle.dnp_appfragment.specs.declared.table.Form.TheVariants as form
use Rattle.dnp_appfragment.specs.Headers.{Head, AreHeaders, begin}
use Rattle.dnp_appfragment.specs.Table.{is_response}
use Rattle.dnp_controls.specs.Panel.{Panel}
use Rattle.dnp_eventbuf.specs.declared.numbered.Numbered.{Numbered}
use Rattle.dnp_eventbuf.specs.Buffered.{Buffered, buffered_in, buffered_row, id_limit, is_upto}
use Rattle.dnp_eventbuf.specs.Sound.{IsSoundBuffer}
use Rattle.dnp_eventbuf.specs.EventBuffer.{EventBuffer, lane_at, all_up_to}
use Rattle.dnp_outstation.specs.declared.offer.place.ReadPlace.{ReadPlace}
use Rattle.dnp_outstation.specs.Forms.{CanGo, may_in, may_each}
use Rattle.dnp_outstation.specs.Items.{Item, no_ids, first_place, last_in, items_left, enabled_lanes, lane_items}
use Rattle.dnp_outstation.specs.Layout.{Laid, item_of, headers_of, fits_fragment}
use Rattle.dnp_outstation.specs.Offer.{held_laid, last_ids, Filled, offered_of, pushed}
use Rattle.dnp_outstation.specs.Laws.{rows_in_lane, AreRowsUpto, IsTidy}
use Rattle.dnp_outstation.specs.Said.{AreWritable}
use Rattle.dnp_outstation.specs.Links.{Reports}
use Rattle.dnp_outstation.specs.State.{State}
use Rattle.dnp_outstation.specs.Content.{Content, plain, content_from, content_of, read_content, source_of, indications}
use Rattle.dnp_outstation.specs.Controls.{content_at}
use Rattle.dnp_outstation.specs.Connection.{has_rows, control_for, fragment_of, unsolicited_of}
use Rattle.dnp_outstation.proofs.ContentOf.{IsContent, HoldNoEvents, no_headers, delay_alone, RequestsAreRead, no_events_fine, content_answered, content_done}
use Rattle.dnp_outstation.proofs.ContentOf.IsContent.{Reads, Plain}
use Rattle.dnp_outstation.proofs.Rising.{last_or, upto}
use Rattle.dnp_outstation.proofs.ByLanes.{IsLow}
use Rattle.dnp_outstation.proofs.Carried.{last_id_is, fragment_rows, pushed_rows}
use Rattle.dnp_outstation.proofs.ItemsOf.{held_stand, held_low, pushed_stand, pushed_low}
use Rattle.dnp_outstation.proofs.Left.{begins_tidy, none_left}
use Rattle.dnp_outstation.proofs.Reported.{SpelledIsSaid, RowsAreSaid, ResponsesAreSaid, held_fits, nine_ids, said_and_released}

-- ---- what the laws say, for lemmas that rest on them

-- buffered rows have ids from 1 up to the last one used
abbrev pub IdsAreUsed : Type 0
IdsAreUsed = (s : EventBuffer) → IsSoundBuffer s → All (λ x. (1 ≤ x.id) × (x.id ≤ s.last_id)) (buffered_in s)

-- what a fragment says, and what a release of its ids gives
pub record ReportLaws : Type 0 where
  pub rows : RowsAreSaid
  pub response : ResponsesAreSaid
  pub spelled : SpelledIsSaid
  pub given : (s : EventBuffer) (upto : List ℕ) → length upto ≡ length s.lanes
      → all_up_to s upto ≡ map buffered_row (filter (is_upto upto) (buffered_in s))
  pub ids : IdsAreUsed

-- ---- the ids of a fragment were used

last_within : (low most : ℕ) (xs : List Numbered) → low ≤ most → All (λ x. x.id ≤ most) xs → last_or low xs ≤ most
last_within low most [] few all = few
last_within low most (x ∷ xs) few all =
    last_within x.id most xs (All-head (λ (y : Numbered). y.id ≤ most) x xs all) (All-tail (λ (y : Numbered). y.id ≤ most) x xs all)

ids_used : (s : EventBuffer) (items : List Item) → IsSoundBuffer s → AreRowsUpto s (last_ids items) items → (lane : ℕ)
    → id_limit (last_ids items) lane ≤ s.last_id
ids_used s items sound are lane = by (cases_lt lane LANES)
  where
    by : (lane < LANES) ⊎ (LANES ≤ lane) → id_limit (last_ids items) lane ≤ s.last_id
    by (inl low) =
        let P : Numbered → Type 0 = λ x. x.id ≤ s.last_id in
        let all : All P (rows_in_lane lane items) =
        subst (All P) (sym (are lane low)) (All-filter (upto (slice_index (last_ids items) lane)) P (lane_at s lane).rows (sound.each lane low).up_to_last)
        in
        let is = last_id_is items lane low in
        let most = last_within 0 s.last_id (rows_in_lane lane items) (omega arith) all in
        omega arith
    by (inr past) = let none = get_or_past (last_ids items) lane 0 (omega (arith, nine_ids items)) in omega arith

-- ---- a response with these items

reports : ReportLaws → (s : EventBuffer) (answered : Answered) (held : List Laid) → IsSoundBuffer s → answered.headers ≡ headers_of held
    → IsControl answered.control
    → is_response answered.function ≡ true
    → All CanGo held → All IsLow (map item_of held) → fits_fragment held ≡ true
    → AreRowsUpto s (last_ids (map item_of held)) (map item_of held)
    → Reports s (response_octets answered) answered.control (last_ids (map item_of held))
reports law s answered held sound headers control function can low fit are = let items = map item_of held in record {
  answered = answered;
  read = law.response answered held headers control function can fit;
  control_is = refl;
  rows =
      subst (λ (hs : List Head). IsPermutation (rows_said hs) (map buffered_row (filter (is_upto (last_ids items)) (buffered_in s)))) (sym headers)
      (subst (IsPermutation (rows_said (headers_of held))) (law.given s (last_ids items) (nine_ids items ∙ sym sound.nine))
      (said_and_released law.rows s held sound can low fit are));
  used = ids_used s items sound are;
}

-- a fragment of a READ whose place is tidy
read_reports : ReportLaws → (s : State) (o : Panel) (stood : ℕ) (place : ReadPlace) (headers : List Head) (answered : Answered) → IsSoundBuffer s.lanes
    → AreWritable (source_of s o) → IsTidy s.lanes place.given → length place.given ≡ LANES
    → answered.headers ≡ (read_content s o stood place headers).headers → IsControl answered.control
    → is_response answered.function ≡ true → Reports s.lanes (response_octets answered) answered.control (read_content s o stood place headers).upto
unfolding offered_of
read_reports law s o stood place headers answered sound writable tidy nine same control function =
    let items = items_left (source_of s o) stood place headers in
    reports law s.lanes answered (held_laid (may_in headers) items) sound same control function
    (held_stand (source_of s o) stood place headers sound writable)
    (held_low (source_of s o) stood place headers) (held_fits (may_in headers) items) (fragment_rows (source_of s o) stood place headers sound tidy nine)

-- an unsolicited response
pushed_reports : ReportLaws → (s : EventBuffer) (enabled : List Bool) (answered : Answered) → IsSoundBuffer s → length enabled ≤ 3
    → answered.headers ≡ (pushed s enabled).headers
    → IsControl answered.control → is_response answered.function ≡ true → Reports s (response_octets answered) answered.control (pushed s enabled).upto
unfolding offered_of
pushed_reports law s enabled answered sound few same control function =
    let items = lane_items s (enabled_lanes 0 enabled) in
    reports law s answered (held_laid may_each items) sound same control function (pushed_stand s enabled sound few) (pushed_low s enabled few)
    (held_fits may_each items)
    (pushed_rows s enabled sound)

-- ---- no rows

no_id : (ids : List ℕ) (lane : ℕ) → has_rows ids ≡ false → id_limit ids lane ≡ 0
no_id [] lane none = refl
no_id (id ∷ ids) lane none = by lane (λ k rest. no_id ids k rest) (or_parts (nat_lt 0 id) (has_rows ids) none)
  where
    or_parts : (a b : Bool) → (a || b) ≡ false → (a ≡ false) × (b ≡ false)
    or_parts true b is = cc
    or_parts false b is = (refl, is)

    by : (lane : ℕ) → ((k : ℕ) → has_rows ids ≡ false → id_limit ids k ≡ 0) → (nat_lt 0 id ≡ false) × (has_rows ids ≡ false) → id_limit (id ∷ ids) lane ≡ 0
    by zero behind both = elim (cases_lt 0 id) [
      | inl some ↦ absurd (let t : nat_lt 0 id ≡ true = lt-ltb 0 id some in let b : nat_lt 0 id ≡ false = both.0 in cc)
      | inr few ↦ omega arith
    ]
    by (suc lane) behind both = behind lane both.1

none_upto : (ids : List ℕ) (xs : List Buffered) → has_rows ids ≡ false → All (λ x. 1 ≤ x.id) xs → filter (is_upto ids) xs ≡ []
none_upto ids [] none all = refl
none_upto ids (x ∷ xs) none all =
    let first : 1 ≤ x.id = All-head (λ (y : Buffered). 1 ≤ y.id) x xs all in
    let limit : id_limit ids x.lane ≡ 0 = no_id ids x.lane none in
    let past : is_upto ids x ≡ false = not_at (nat_le x.id (id_limit ids x.lane)) (leb-true x.id (id_limit ids x.lane)) (omega arith) in
    ap (λ (b : Bool). cond b (x ∷ filter (is_upto ids) xs) (filter (is_upto ids) xs)) past
    ∙ none_upto ids xs none (All-tail (λ (y : Buffered). 1 ≤ y.id) x xs all)
  where
    not_at : (b : Bool) → (b ≡ true → x.id ≤ id_limit ids x.lane) → id_limit ids x.lane < x.id → b ≡ false
    not_at true within past = absurd (let w : x.id ≤ id_limit ids x.lane = within refl in omega arith)
    not_at false within past = refl

no_rows_upto : IdsAreUsed → (s : EventBuffer) (ids : List ℕ) → IsSoundBuffer s → has_rows ids ≡ false
    → map buffered_row (filter (is_upto ids) (buffered_in s)) ≡ []
no_rows_upto used s ids sound none =
    let all : All (λ (x : Buffered). 1 ≤ x.id) (buffered_in s) =
    All-weaker (λ (x : Buffered). (1 ≤ x.id) × (x.id ≤ s.last_id)) (λ (x : Buffered). 1 ≤ x.id) (λ x h. h.0) (buffered_in s)
    (used s sound) in
    ap (map buffered_row) (none_upto ids (buffered_in s) none all)

-- a response with objects, of which none is an event
plain_reports : ReportLaws → (s : EventBuffer) (answered : Answered) (headers : List Head) → IsSoundBuffer s → answered.headers ≡ headers
    → AreHeaders form.Response begin headers → rows_said headers ≡ [] → IsControl answered.control → is_response answered.function ≡ true
    → Reports s (response_octets answered) answered.control no_ids
plain_reports law s answered headers sound same stand none control function =
    let stands : AreHeaders form.Response begin answered.headers = subst (λ (hs : List Head). AreHeaders form.Response begin hs) (sym same) stand in
    record {
      answered = answered;
      read = law.spelled answered control function stands;
      control_is = refl;
      rows =
          subst (λ (rows : List Row). IsPermutation rows (map buffered_row (filter (is_upto no_ids) (buffered_in s)))) (sym (ap rows_said same ∙ none))
          (subst (IsPermutation []) (sym (no_rows_upto law.ids s no_ids sound refl)) (IsPermutation-refl []));
      used = λ lane. let e = no_id no_ids lane refl in omega arith;
    }

-- ---- what content is made of

-- fragments of this content, whatever the indications, report it
abbrev IsReported : State → Content → Type 0
IsReported s content = (answered : Answered) → answered.headers ≡ content.headers → IsControl answered.control → is_response answered.function ≡ true
    → Reports s.lanes (response_octets answered) answered.control content.upto

is_reported : ReportLaws → (s : State) (o : Panel) (content : Content) → IsSoundBuffer s.lanes → AreWritable (source_of s o)
    → IsContent HoldNoEvents s o content
    → IsReported s content
is_reported law s o _ sound writable (Reads headers) =
    λ answer same control function. read_reports law s o (last_in s.lanes) first_place headers answer sound writable
    (begins_tidy s.lanes sound) refl same control function
is_reported law s o _ sound writable (Plain bits headers fine) =
    λ answer same control function. plain_reports law s.lanes answer headers sound same fine.stand fine.none control function

-- ---- the fragments

first_reports : ReportLaws → (s after : State) (o : Panel) (seq : ℕ) (content : Content) → IsSoundBuffer s.lanes → AreWritable (source_of s o) → seq < 16
    → IsContent HoldNoEvents s o content → Reports s.lanes (fragment_of after true seq content) (control_for true seq content) content.upto
first_reports law s after o seq content sound writable small made =
    is_reported law s o content sound writable made
    (record {
      control = control_for true seq content;
      function = function.Response;
      iin = indications after content.upto content.bits;
      headers = content.headers;
    })
    refl small refl

abbrev Made : State → Panel → Option Content → Type 0
Made s o c = IfSome c (IsContent HoldNoEvents s o)

pub answer_reports : ReportLaws → RequestsAreRead → (s after : State) (o : Panel) (now : ℕ) (octets : List ℕ) (seq : ℕ) (content : Content)
    → IsSoundBuffer s.lanes → AreWritable (source_of s o) → All (λ octet. octet < 2 ^ 8) octets → seq < 16 → (content_at s o now octets).content ≡ Some content
    → Reports s.lanes (fragment_of after true seq content) (control_for true seq content) content.upto
answer_reports law reads s after o now octets seq content sound writable are small is =
    first_reports law s after o seq content sound writable small
    (subst (Made s o) is (content_done HoldNoEvents s o now octets (no_events_fine reads octets are)).content)

pub held_reports : ReportLaws → (s after : State) (o : Panel) (octets : List ℕ) (seq : ℕ) (content : Content) → IsSoundBuffer s.lanes
    → AreWritable (source_of s o) → seq < 16 → (content_of s o octets).content ≡ Some content
    → Reports s.lanes (fragment_of after true seq content) (control_for true seq content) content.upto
held_reports law s after o octets seq content sound writable small is =
    first_reports law s after o seq content sound writable small
    (subst (Made s o) is (content_answered HoldNoEvents s o no_headers delay_alone octets).done.content)

pub further_reports : ReportLaws → (s : State) (o : Panel) (stood : ℕ) (place : ReadPlace) (headers : List Head) (seq : ℕ) → IsSoundBuffer s.lanes
    → AreWritable (source_of s o) → IsTidy s.lanes place.given → length place.given ≡ LANES → seq < 16
    → (let content = read_content s o stood place headers in Reports s.lanes (fragment_of s false seq content) (control_for false seq content) content.upto)
further_reports law s o stood place headers seq sound writable tidy nine small =
    let content = read_content s o stood place headers in
    read_reports law s o stood place headers
    (record { control = control_for false seq content; function = function.Response; iin = indications s content.upto content.bits; headers = content.headers })
    sound writable tidy nine refl small refl

abbrev pub unsolicited_control : ℕ → ControlBits
unsolicited_control seq = record { fir = true; fin = true; con = true; uns = true; seq = seq }

pub unsolicited_reports : ReportLaws → (s : State) → IsSoundBuffer s.lanes → length s.core.enabled ≤ 3 → s.core.session.next < 16
    → (let content = content_from (pushed s.lanes s.core.enabled) in
    Reports s.lanes (unsolicited_of s content) (record { fir = true; fin = true; con = true; uns = true; seq = s.core.session.next }) content.upto)
unsolicited_reports law s sound few small =
    let content = content_from (pushed s.lanes s.core.enabled) in
    pushed_reports law s.lanes s.core.enabled
    (record {
      control = unsolicited_control s.core.session.next;
      function = function.UnsolicitedResponse;
      iin = indications s content.upto content.bits;
      headers = content.headers;
    })
    sound few refl small refl

pub first_unsolicited_reports : ReportLaws → (s : State) → IsSoundBuffer s.lanes → s.core.session.next < 16
    → Reports s.lanes (unsolicited_of s (plain 0 [])) (record { fir = true; fin = true; con = true; uns = true; seq = s.core.session.next }) no_ids
first_unsolicited_reports law s sound small =
    plain_reports law s.lanes
    (record { control = unsolicited_control s.core.session.next; function = function.UnsolicitedResponse; iin = indications s no_ids 0; headers = [] })
    [] sound refl tt refl small refl

-- ---- a fragment that asks for no confirm

permutes_none : {A : Type 0} (xs : List A) → IsPermutation xs [] → xs ≡ []
permutes_none xs same = nil_from_length xs (sym (length_permutation xs [] same))

-- what asks for no confirm reports no rows
pub unconfirmed_reports_none : IdsAreUsed → (s : EventBuffer) (octets : List ℕ) (control : ControlBits) (ids : List ℕ) (r : Reports s octets control ids)
    → IsSoundBuffer s
    → has_rows ids ≡ false
    → rows_said r.answered.headers ≡ []
unconfirmed_reports_none used s octets control ids r sound none =
    permutes_none (rows_said r.answered.headers)
    (subst (IsPermutation (rows_said r.answered.headers)) (no_rows_upto used s ids sound none) r.rows)

-- where no item is left, the fragment is the last one, without objects and without a confirm
pub emptied_ends : (s : State) (o : Panel) (stood seq : ℕ) (place : ReadPlace) (headers : List Head) (first : Bool)
    → items_left (source_of s o) stood place headers ≡ []
    → (let content = read_content s o stood place headers in
    (content.headers ≡ []) × (control_for first seq content ≡ record { fir = first; fin = true; con = false; uns = false; seq = seq }))
emptied_ends s o stood seq place headers first none =
    let empty = none_left (may_in headers) place (items_left (source_of s o) stood place headers) none in
    (ap (λ (f : Filled). f.headers) empty, ap (λ (f : Filled). control_for first seq (content_from f)) empty)
