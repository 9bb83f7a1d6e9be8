-- Headers that hold items say the event rows among them, in order.
use Rattle.std.proofs.Common.{◌≡◌, Bool, true, false, if◌then◌else◌, IsTrue, refl, sym, ◌∙◌, ap, subst, ℕ, zero, suc, ◌+◌, ◌==◌, ◌&&◌, ◌⊎◌, inl, inr, List, [], ◌∷◌, ◌++◌, map, length, arith, Option, Some, None, IfSome}
use Rattle.std.specs.Prelude.{option_to_list, slice_get}
use Rattle.std.specs.List.{AllByRecursion, flat_map, range_with_len}
use Rattle.std.proofs.lemmas.List.{length-map}
use Rattle.dnp_objects.specs.Events.{IsEvent, event_object}
use Rattle.dnp_objects.specs.Relative.{FitsRelative}
use Rattle.dnp_objects.specs.declared.row.Kind.{Kind}
use Rattle.dnp_objects.specs.declared.row.Kind.TheVariants.{Binary, Counter, Analog}
use Rattle.dnp_objects.specs.declared.row.Row.{Row}
use Rattle.dnp_appfragment.specs.EventRows.{header_rows, is_event_group, is_event_header, event_rows, events_in as rows_said}
use Rattle.dnp_appfragment.specs.Headers.{Head, count_of, is_relative, IsTimed}
use Rattle.dnp_appfragment.specs.Items.{Item as Object, IsOf, Holds, event_item, relative_item}
use Rattle.dnp_appfragment.specs.Meaning.{row_in}
use Rattle.dnp_appfragment.specs.Written.{is_point_object}
use Rattle.dnp_outstation.specs.Forms.{CanGo, told_by}
use Rattle.dnp_outstation.specs.Items.{Thing, Static}
use Rattle.dnp_outstation.specs.Items.Thing.{Event, Present}
use Rattle.dnp_outstation.specs.Layout.{Laid, item_of, object_of}
use Rattle.dnp_outstation.specs.Said.{event_in, events_in}
use Rattle.dnp_outstation.specs.steps.Filling.{common_of}
use Rattle.dnp_outstation.proofs.Joined.{run_at}
use Rattle.dnp_outstation.proofs.PointObjects.{point_passes}
use Rattle.dnp_outstation.proofs.Stretches.{laid_as}

-- by the laws of what is held and read: an event that a header holds is the row that is said at its place, and so is one
-- after the header's common time
pub record EventsAreSaid : Type 0 where
  pub events : (h : Head) (objects : List Object) (k : ℕ) (row : Row) → Holds h objects → IsEvent row → slice_get objects k ≡ Some (event_item row)
      → row_in h k ≡ Some row
  pub relatives : (h : Head) (objects : List Object) (k common : ℕ) (row : Row) → Holds h objects → IsTimed h → h.common ≡ Some common
      → FitsRelative common row → slice_get objects k ≡ Some (relative_item common row) → row_in h k ≡ Some row

-- ---- a list by its places

by_places : {A : Type 0} (f : ℕ → Option A) (from : ℕ) (ys : List A) → ((k : ℕ) (y : A) → slice_get ys k ≡ Some y → f (from + k) ≡ Some y)
    → flat_map (λ k. option_to_list (f k)) (range_with_len from (length ys)) ≡ ys
by_places f from [] at = refl
by_places f from (y ∷ ys) at =
    let here : f from ≡ Some y = (let e : from ≡ from + 0 = omega arith in ap f e ∙ at 0 y refl) in
    ap (λ o. option_to_list o ++ flat_map (λ k. option_to_list (f k)) (range_with_len (from + 1) (length ys))) here
    ∙ ap (λ l. y ∷ l) (by_places f (from + 1) ys (λ k z there. let e : from + 1 + k ≡ from + suc k = omega arith in ap f e ∙ at (suc k) z there))

-- ---- which headers have event rows

event_in_group : (k : Kind) (time : Option ℕ) → is_event_group (event_object k time).0 ≡ true
event_in_group Binary (Some time) = refl
event_in_group Binary None = refl
event_in_group Counter (Some time) = refl
event_in_group Counter None = refl
event_in_group Analog (Some time) = refl
event_in_group Analog None = refl

not_event_group : (g v : ℕ) → IsTrue (is_point_object g v) → is_event_group g ≡ false
not_event_group g v is = not_so (is_event_group g) (point_passes (λ g v. if is_event_group g then false else true) refl g v is)
  where
    not_so : (b : Bool) → (if b then false else true) ≡ true → b ≡ false
    not_so true is = cc
    not_so false is = refl

-- an item of a header of event objects is an event, and one of another isn't
abbrev IsOne : Bool → Laid → Type 0
IsOne true x = (event_in x.item ≡ None) → ⊥
IsOne false x = event_in x.item ≡ None

abbrev AllOne : Bool → List Laid → Type 0
AllOne b [] = Unit {0}
AllOne b (x ∷ xs) = IsOne b x × AllOne b xs

static_group : (header : ℕ) (static : Static) (common : Option ℕ) (o : Object)
    → (let y : Laid = laid_as header (Present static) o common in y ≡ told_by common y.item → o.group ≡ static.object.0)
static_group header static None o says = ap (λ (y : Laid). y.object.group) says
static_group header static (Some t) o says = ap (λ (y : Laid). y.object.group) says

one_of : (h : Head) (x : Laid) (b : Bool) → is_event_header h ≡ b → CanGo x → IsOf h (object_of x) → IsOne b x
one_of h x b is can of = go x.item.header x.item.thing x.common b is can of
  where
    go : (header : ℕ) (thing : Thing) (common : Option ℕ) (b : Bool) → is_event_header h ≡ b
        → (let y : Laid = laid_as header thing x.object common in CanGo y → IsOf h (object_of y) → IsOne b y)
    go header (Event lane row) common true is can of = λ none. cc
    go header (Event lane row) None false is can of =
        absurd (let t : is_event_header h ≡ true = ap is_event_group (sym of.group ∙ ap (λ (y : Laid). y.object.group) can.says)
        ∙ event_in_group row.row.kind row.row.time in let f : true ≡ false = sym t ∙ is in cc)
    go header (Event lane row) (Some time) false is can of =
        absurd (let t : is_event_header h ≡ true = ap is_event_group (sym of.group ∙ ap (λ (y : Laid). y.object.group) can.says) in
        let f : true ≡ false = sym t ∙ is in cc)
    go header (Present static) common true is can of =
        absurd (let t : is_event_header h ≡ false = ap is_event_group (sym of.group ∙ static_group header static common x.object can.says)
        ∙ not_event_group static.object.0 static.object.1 can.stands.0.object_is in let f : false ≡ true = sym t ∙ is in cc)
    go header (Present static) common false is can of = refl

all_one_of : (h : Head) (xs : List Laid) (b : Bool) → is_event_header h ≡ b → AllByRecursion CanGo xs → AllByRecursion (IsOf h) (map object_of xs)
    → AllOne b xs
all_one_of h [] b is can of = tt
all_one_of h (x ∷ xs) b is can of = (one_of h x b is can.0 of.0, all_one_of h xs b is can.1 of.1)

-- ---- the rows of one header

-- an item is told after the header's common time, if it is told after one
abbrev pub SharesTime : Head → Laid → Type 0
SharesTime h x = IfSome (common_of (run_at x)) (λ t. h.common ≡ Some t)

-- event k of events stands at place k
record EventAt (xs : List Laid) (k : ℕ) (row : Row) : Type 0 where
  is_event : IsEvent row
  at : slice_get (map object_of xs) k ≡ Some (event_item row)

record RelativeAt (h : Head) (xs : List Laid) (k : ℕ) (row : Row) : Type 0 where
  common : ℕ
  there : h.common ≡ Some common
  fits : FitsRelative common row
  at : slice_get (map object_of xs) k ≡ Some (relative_item common row)

abbrev IsSaidAt : Head → List Laid → ℕ → Row → Type 0
IsSaidAt h xs k row = EventAt xs k row ⊎ RelativeAt h xs k row

event_at : (h : Head) (xs : List Laid) (k : ℕ) (row : Row) → AllOne true xs → AllByRecursion CanGo xs → AllByRecursion (SharesTime h) xs
    → slice_get (events_in (map item_of xs)) k ≡ Some row → IsSaidAt h xs k row
event_at h [] k row all can shares at = cc
event_at h (x ∷ xs) k row all can shares at =
    go x.item.header x.item.thing x.common k all.0 can.0 shares.0 at (λ j. event_at h xs j row all.1 can.1 shares.1)
  where
    behind_by : (y : Laid) (k : ℕ) → IsSaidAt h xs k row → IsSaidAt h (y ∷ xs) (suc k) row
    behind_by y k (inl there) = inl (record { is_event = there.is_event; at = there.at })
    behind_by y k (inr there) = inr (record { common = there.common; there = there.there; fits = there.fits; at = there.at })

    go : (header : ℕ) (thing : Thing) (common : Option ℕ) (k : ℕ)
        → (let y : Laid = laid_as header thing x.object common in
        IsOne true y → CanGo y → SharesTime h y → slice_get (events_in (map item_of (y ∷ xs))) k ≡ Some row
        → ((j : ℕ) → slice_get (events_in (map item_of xs)) j ≡ Some row → IsSaidAt h xs j row)
        → IsSaidAt h (y ∷ xs) k row)
    go header (Event lane r) None zero one fits shares at behind =
        let same : r.row ≡ row = cc in
        inl (record {
          is_event = subst IsEvent same fits.stands.0;
          at = ap (λ (y : Laid). Some y.object) fits.says ∙ ap (λ (q : Row). Some (event_item q)) same;
        })
    go header (Event lane r) (Some t) zero one fits shares at behind =
        let same : r.row ≡ row = cc in
        inr (record {
          common = t;
          there = shares;
          fits = subst (FitsRelative t) same fits.tells;
          at = ap (λ (y : Laid). Some y.object) fits.says ∙ ap (λ (q : Row). Some (relative_item t q)) same;
        })
    go header (Event lane r) common (suc k) one fits shares at behind =
        behind_by (laid_as header (Event lane r) x.object common) k (behind k at)
    go header (Present static) common k one fits shares at behind = absurd (one refl)

length_events : (xs : List Laid) → AllOne true xs → length (events_in (map item_of xs)) ≡ length xs
length_events [] all = refl
length_events (x ∷ xs) all = go x.item.thing all.0 (length_events xs all.1)
  where
    go : (thing : Thing) → (let y : Laid = laid_as x.item.header thing x.object x.common in
        IsOne true y → length (events_in (map item_of xs)) ≡ length xs → length (events_in (map item_of (y ∷ xs))) ≡ length (y ∷ xs))
    go (Event lane row) one behind = omega arith
    go (Present static) one behind = absurd (one refl)

no_events : (xs : List Laid) → AllOne false xs → events_in (map item_of xs) ≡ []
no_events [] all = refl
no_events (x ∷ xs) all = go x.item.thing all.0 (no_events xs all.1)
  where
    go : (thing : Thing) → (let y : Laid = laid_as x.item.header thing x.object x.common in
        IsOne false y → events_in (map item_of xs) ≡ [] → events_in (map item_of (y ∷ xs)) ≡ [])
    go (Event lane row) one behind = absurd (let e : Some row.row ≡ None = one in cc)
    go (Present static) one behind = behind

-- a header of events after common times has one
abbrev pub IsTimely : Head → Type 0
IsTimely h = is_relative h.group h.variation ≡ true → IsTimed h

said_at : EventsAreSaid → (h : Head) (xs : List Laid) (k : ℕ) (row : Row) → Holds h (map object_of xs) → IsTimely h
    → IsSaidAt h xs k row → row_in h k ≡ Some row
said_at said h xs k row holds timely (inl there) = said.events h (map object_of xs) k row holds there.is_event there.at
said_at said h xs k row holds timely (inr there) =
    let of = of_at h (map object_of xs) k (relative_item there.common row) holds.each there.at in
    let relative : is_relative h.group h.variation ≡ true = (λ i. (sym of.group i == 2) && (sym of.variation i == 3)) in
    said.relatives h (map object_of xs) k there.common row holds (timely relative) there.there there.fits there.at
  where
    of_at : (h : Head) (objects : List Object) (k : ℕ) (o : Object) → AllByRecursion (IsOf h) objects → slice_get objects k ≡ Some o → IsOf h o
    of_at h [] k o each at = cc
    of_at h (p ∷ ps) zero o each at = (let same : p ≡ o = cc in subst (IsOf h) same each.0)
    of_at h (p ∷ ps) (suc k) o each at = of_at h ps k o each.1 at

pub header_says : EventsAreSaid → (h : Head) (xs : List Laid) → AllByRecursion CanGo xs → AllByRecursion (SharesTime h) xs → IsTimely h
    → Holds h (map object_of xs) → event_rows h ≡ events_in (map item_of xs)
header_says said h xs can shares timely holds = by (is_event_header h) refl
  where
    chosen : (b : Bool) → is_event_header h ≡ b → event_rows h ≡ (if b then header_rows h else [])
    chosen b is = ap (λ (t : Bool). if t then header_rows h else []) is

    by : (b : Bool) → is_event_header h ≡ b → event_rows h ≡ events_in (map item_of xs)
    by true is =
        let all : AllOne true xs = all_one_of h xs true is can holds.each in
        let long : count_of h.range ≡ length (events_in (map item_of xs)) = sym (length_events xs all ∙ sym (length-map xs object_of) ∙ holds.counted) in
        chosen true is
        ∙ ap (λ (n : ℕ). flat_map (λ k. option_to_list (row_in h k)) (range_with_len 0 n)) long
        ∙ by_places (row_in h) 0 (events_in (map item_of xs)) (λ k row at.
        let e : 0 + k ≡ k = omega arith in
        ap (row_in h) e ∙ said_at said h xs k row holds timely (event_at h xs k row all can shares at))
    by false is = chosen false is ∙ sym (no_events xs (all_one_of h xs false is can holds.each))

pub none_of : (xs : List Laid) → map object_of xs ≡ [] → xs ≡ []
none_of [] none = refl
none_of (x ∷ xs) none = absurd (omega (arith, ap length none))
