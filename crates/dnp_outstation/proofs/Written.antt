-- The headers of items that can be written hold these items, and stand in the table for responses.
use Rattle.std.proofs.Common.{◌≡◌, Bool, true, false, if◌then◌else◌, IsSome, refl, sym, ◌∙◌, ap, subst, ℕ, ◌<◌, ◌^◌, List, [], ◌∷◌, ◌++◌, map, arith, Option, None, Some, IfSome, append_assoc, append-nil}
use Rattle.std.specs.List.{AllByRecursion}
use Rattle.std.proofs.lemmas.Bool.{and_parts}
use Rattle.std.proofs.lemmas.List.{map_push}
use Rattle.std.proofs.lemmas.List.Sums.{fold_push}
use Rattle.dnp_objects.specs.Objects.{object_size}
use Rattle.dnp_objects.specs.Events.{IsEvent}
use Rattle.dnp_objects.specs.Relative.{FitsRelative}
use Rattle.dnp_objects.specs.declared.limits.TheConstants.{MAX_TIME}
use Rattle.dnp_objects.specs.declared.row.Row.{Row}
use Rattle.dnp_appfragment.specs.declared.table.Form.TheVariants as form
use Rattle.dnp_appfragment.specs.Built.{Built, heads, context_of, broken, with_header, with_object}
use Rattle.dnp_appfragment.specs.Headers.{Head, Context, IsHeaderAt, AreHeaders, begin, context_after, context_past, last_time}
use Rattle.dnp_appfragment.specs.Items.{Item as Object, Holds as HoldsObjects, HoldAll, event_item, relative_item, point_item}
use Rattle.dnp_appfragment.specs.Written.{FitsPoint, event, point, common_head, relative}
use Rattle.dnp_outstation.specs.declared.offer.writer.Writer.{Writer}
use Rattle.dnp_outstation.specs.Forms.{CanGo, CanTell, told_after, told_by}
use Rattle.dnp_outstation.specs.Items.{Thing, Item, first_place}
use Rattle.dnp_outstation.specs.Items.Thing.{Event, Present}
use Rattle.dnp_outstation.specs.Layout.{Laid, lay, object_of, headers_of, fits_fragment}
use Rattle.dnp_outstation.specs.Said.{CanStand}
use Rattle.dnp_outstation.specs.steps.Filling.{common_of, continues_by, continues, empty_from, begun, built_for, put_laid, fits}
use Rattle.dnp_outstation.proofs.Filled.{told_so}
use Rattle.dnp_outstation.proofs.Grows.{fits_begins}
use Rattle.dnp_outstation.proofs.Joined.{run_at, written_of}
use Rattle.dnp_outstation.proofs.Stretches.{laid_as, same_common}
use Rattle.dnp_outstation.proofs.Taken.{Holds, heads_are, empty_holds, put_is, put_holds, fits_is}

-- what the laws of dnp_appfragment say of rows that are put
pub record PutLaws : Type 0 where
  pub event_stands : (row : Row) → IsEvent row
      → ((context : Context) → IsHeaderAt form.Response context (event row)) × IsSome (object_size (event row).group (event row).variation)
  pub point_stands : (group variation : ℕ) (row : Row) → FitsPoint group variation row → row.index < 2 ^ 16
      → ((context : Context) → IsHeaderAt form.Response context (point group variation row)) × IsSome (object_size group variation)
  pub object_stands : (built : Built) (object : Head) → IsHeaderAt form.Response (context_of built) object
      → IsSome (object_size object.group object.variation) → AreHeaders form.Response begin (heads built)
      → AreHeaders form.Response begin (heads (with_object built object))
  pub event_holds : (row : Row) → IsEvent row → row.index < 2 ^ 16 → HoldsObjects (event row) (event_item row ∷ [])
  pub point_holds : (group variation : ℕ) (row : Row) → FitsPoint group variation row
      → HoldsObjects (point group variation row) (point_item group variation row ∷ [])
  pub common_stands : (context : Context) (time : ℕ) → IsHeaderAt form.Response context (common_head time)
  pub relative_stands : (common : ℕ) (row : Row) → FitsRelative common row
      → IsHeaderAt form.Response (Some common) (relative common row) × IsSome (object_size 2 3)
  pub header_stands : (built : Built) (header : Head) → IsHeaderAt form.Response (context_of built) header
      → AreHeaders form.Response begin (heads built) → AreHeaders form.Response begin (heads (with_header built header))
  pub relative_holds : (common : ℕ) (row : Row) → row.index < 2 ^ 16 → HoldsObjects (relative common row) (relative_item common row ∷ [])
  pub common_held : (built : Built) (time : ℕ) (objects : List Object) → HoldAll (heads built) objects
      → HoldAll (heads (with_header built (common_head time))) objects
  pub time_put : (built : Built) (time : ℕ) → time < MAX_TIME → context_of (with_header built (common_head time)) ≡ Some time
  pub object_held : (built : Built) (header : Head) (object : Object) (objects : List Object) → HoldsObjects header (object ∷ [])
      → HoldAll (heads built) objects → HoldAll (heads (with_object built header)) (objects ++ object ∷ [])

-- ---- an item as a header of its own

-- where the common time that it is told after stands, if there is one
abbrev IsAt : Context → Laid → Type 0
IsAt context x = IfSome (common_of (run_at x)) (λ t. context ≡ Some t)

pub record StandsAlone (x : Laid) : Type 0 where
  pub header : (context : Context) → IsAt context x → IsHeaderAt form.Response context (written_of x)
  pub sized : IsSome (object_size (written_of x).group (written_of x).variation)
  pub holds : HoldsObjects (written_of x) (object_of x ∷ [])

own_stands : PutLaws → (x : Item) → CanStand x → StandsAlone (lay x)
own_stands law x can = go x.header x.thing can
  where
    go : (h : ℕ) (thing : Thing) → (let y : Item = record { header = h; thing = thing } in CanStand y → StandsAlone (lay y))
    go h (Event lane row) fits =
        let stands = law.event_stands row.row fits.0 in
        record { header = λ context at. stands.0 context; sized = stands.1; holds = law.event_holds row.row fits.0 fits.1 }
    go h (Present static) fits =
        let stands = law.point_stands static.object.0 static.object.1 static.row fits.0 fits.1 in
        record { header = λ context at. stands.0 context; sized = stands.1; holds = law.point_holds static.object.0 static.object.1 static.row fits.0 }

after_stands : PutLaws → (t : ℕ) (x : Item) → CanStand x → CanTell (told_after t x) → StandsAlone (told_after t x)
after_stands law t x can tells = go x.header x.thing can tells
  where
    go : (h : ℕ) (thing : Thing)
        → (let y : Item = record { header = h; thing = thing } in CanStand y → CanTell (told_after t y) → StandsAlone (told_after t y))
    go h (Event lane row) fits tells =
        let stands = law.relative_stands t row.row tells in
        record {
          header = λ context at. subst (λ (c : Context). IsHeaderAt form.Response c (relative t row.row)) (sym at) stands.0;
          sized = stands.1;
          holds = law.relative_holds t row.row fits.1;
        }
    go h (Present static) fits tells = own_stands law (record { header = h; thing = Present static }) fits

pub stands_alone : PutLaws → (x : Laid) → CanGo x → StandsAlone x
stands_alone law x can = subst StandsAlone (sym can.says) (go x.common (subst CanTell can.says can.tells))
  where
    go : (common : Option ℕ) → CanTell (told_by common x.item) → StandsAlone (told_by common x.item)
    go None tells = own_stands law x.item can.stands
    go (Some t) tells = after_stands law t x.item can.stands tells

-- the common time is under 2^48
low_time : PutLaws → (t : ℕ) (row : Row) → FitsRelative t row → t < MAX_TIME
low_time law t row fits =
    let timed = (law.relative_stands t row fits).0.timed refl in
    let same : t ≡ timed.common = (let both : Some t ≡ Some timed.common = timed.there in cc) in
    omega (arith, timed.sums 0 (omega arith))

low_common : PutLaws → (x : Laid) → CanGo x → IfSome (common_of (run_at x)) (λ t. t < MAX_TIME)
low_common law x can = go x.item.thing x.common can.tells
  where
    go : (thing : Thing) (common : Option ℕ) → (let y : Laid = laid_as x.item.header thing x.object common in
        CanTell y → IfSome (common_of (run_at y)) (λ t. t < MAX_TIME))
    go (Event lane row) None tells = tt
    go (Event lane row) (Some t) tells = low_time law t row.row tells
    go (Present static) common tells = tt

-- ---- all items

pub record AreWritten (hs : List Head) (items : List Laid) : Type 0 where
  pub hold : HoldAll hs (map object_of items)
  pub stand : AreHeaders form.Response begin hs

written_broken : (b : Built) (items : List Laid) → AreWritten (heads b) items → AreWritten (heads (broken b)) items
written_broken b items all = subst (λ (hs : List Head). AreWritten hs items) (sym (append-nil (heads b))) all

-- before an item is put: with its common time, if that isn't there
record IsReady (b : Built) (x : Laid) (items : List Laid) : Type 0 where
  written : AreWritten (heads b) items
  at : IsAt (context_of b) x

written_for : PutLaws → (w : Writer) (x : Laid) (items : List Laid) → CanGo x → AreWritten (heads w.builder) items
    → IsReady (built_for w (run_at x)) x items
written_for law w x items can all =
    let done = go (common_of (run_at x)) (low_common law x can) (continues w (run_at x)) refl in
    record { written = done.0; at = done.1 }
  where
    goal : Option ℕ → Bool → Type 0
    goal common t = (let b : Built = if t then w.builder else begun w.builder common in
        AreWritten (heads b) items × IfSome common (λ c. context_of b ≡ Some c))

    go : (common : Option ℕ) → IfSome common (λ t. t < MAX_TIME) → (t : Bool) → continues_by w (run_at x) common ≡ t → goal common t
    go None low true is = (all, tt)
    go None low false is = (written_broken w.builder items all, tt)
    go (Some c) low true is =
        let put : Some (last_time (common_head c)) ≡ Some c =
        sym (fold_push context_after begin (heads w.builder) (common_head c))
        ∙ ap (context_past begin) (sym (append-nil (heads w.builder ++ common_head c ∷ [])))
        ∙ law.time_put w.builder c low in
        (all, same_common (context_of w.builder) (Some (last_time (common_head c))) (and_parts _ _ is).1 ∙ put)
    go (Some c) low false is = (
      record {
        hold = law.common_held w.builder c (map object_of items) all.hold;
        stand = law.header_stands w.builder (common_head c) (law.common_stands (context_of w.builder) c) all.stand;
      },
      law.time_put w.builder c low,
    )

written_more : PutLaws → (b : Built) (x : Laid) (items : List Laid) → CanGo x → IsReady b x items
    → AreWritten (heads (with_object b (written_of x))) (items ++ x ∷ [])
written_more law b x items can ready =
    let one = stands_alone law x can in
    record {
      hold = subst (λ (objects : List Object). HoldAll (heads (with_object b (written_of x))) objects) (sym (map_push object_of items x))
          (law.object_held b (written_of x) (object_of x) (map object_of items) one.holds ready.written.hold);
      stand = law.object_stands b (written_of x) (one.header (context_of b) ready.at) one.sized ready.written.stand;
    }

all_written : PutLaws → (w : Writer) (items left : List Laid) → Holds first_place w items → fits w ≡ true → AreWritten (heads w.builder) items
    → AllByRecursion CanGo left
    → fits_fragment (items ++ left) ≡ true → AreWritten (headers_of (items ++ left)) (items ++ left)
all_written law w items [] holds fit written can fits_all =
    subst (λ (all : List Laid). AreWritten (headers_of all) all) (sym (append-nil items))
    (subst (λ (hs : List Head). AreWritten hs items) (heads_are first_place w items holds) written)
all_written law w items (y ∷ ys) holds fit written can fits_all =
    let after : Holds first_place (put_laid w y) (items ++ y ∷ []) =
    put_holds first_place w items y holds fit (told_so y can.0.says) in
    let same : (items ++ y ∷ []) ++ ys ≡ items ++ y ∷ ys = append_assoc items (y ∷ []) ys in
    let fits_more : fits (put_laid w y) ≡ true =
    fits_is first_place (put_laid w y) (items ++ y ∷ []) after ∙ fits_begins (items ++ y ∷ []) ys (ap fits_fragment same ∙ fits_all) in
    let more : AreWritten (heads (put_laid w y).builder) (items ++ y ∷ []) =
    subst (λ (v : Writer). AreWritten (heads v.builder) (items ++ y ∷ [])) (sym (put_is w y))
    (written_more law (built_for w (run_at y)) y items can.0 (written_for law w y items can.0 written))
    in
    subst (λ (all : List Laid). AreWritten (headers_of all) all) same
    (all_written law (put_laid w y) (items ++ y ∷ []) ys after fits_more more can.1 (ap fits_fragment same ∙ fits_all))

-- items that fit are held by their headers, and these stand in the table
pub items_written : PutLaws → (items : List Laid) → AllByRecursion CanGo items → fits_fragment items ≡ true → AreWritten (headers_of items) items
items_written law items can fit = all_written law (empty_from first_place) [] items (empty_holds first_place) refl (record { hold = refl; stand = tt }) can fit
