-- A row that begins no group is given as it comes, and one of a group that goes on: none waits for what follows it.
use Rattle.std.proofs.Common.{◌≡◌, ℕ, ◌==◌, Bool, true, false, ◌&&◌, if◌then◌else◌, refl, sym, ◌∙◌, ap, List, [], ◌∷◌, Option, Some, None, is_some}
use Rattle.std.specs.List.{fold}
use Rattle.std.proofs.lemmas.Bool.{and_parts}
use Rattle.dnp_eventbuf.specs.declared.numbered.Numbered.{Numbered}
use Rattle.std.specs.Option.{unwrap_or}
use Rattle.dnp_objects.specs.declared.row.Kind.TheVariants.{Binary}
use Rattle.dnp_objects.specs.Equality.{kind_eq}
use Rattle.dnp_outstation.specs.declared.offer.grouping.Coming.{Coming}
use Rattle.dnp_outstation.specs.declared.offer.grouping.Waiting.{Waiting}
use Rattle.dnp_outstation.specs.declared.offer.writer.Writer.{Writer}
use Rattle.dnp_outstation.specs.Forms.{is_in_reach, reaches_by, time_of, told_after}
use Rattle.dnp_outstation.specs.Items.{Thing, Item, event_of, given_after}
use Rattle.dnp_outstation.specs.Items.Thing.{Event, Present}
use Rattle.dnp_outstation.specs.Layout.{lay}
use Rattle.dnp_outstation.specs.steps.Filling.{reached}
use Rattle.dnp_outstation.specs.steps.Grouping.{Marked, marked, item_in, marked_in, laid_from, reaches_marked, waiting_items}
use Rattle.dnp_outstation.specs.steps.Grouping.Open.{Shut, One, Two, Within}

no_and : (p q : Bool) → q ≡ false → (p && q) ≡ false
no_and true q is = is
no_and false q is = refl

-- one that reaches nothing goes as its own object, and what follows it begins again
unjoined : (x : Marked) → ((z : Marked) → reaches_marked x z ≡ false) → (more : List Marked)
    → laid_from (One x) more ≡ lay x.item ∷ laid_from Shut more
unjoined x none [] = refl
unjoined x none (z ∷ zs) = ap (λ (b : Bool). if b then laid_from (Two x z) zs else lay x.item ∷ laid_from (One z) zs) (none z)

abbrev IsAlone : Coming → Type 0
IsAlone x = (more : List Marked) → laid_from (One (marked_in x)) more ≡ lay (item_in x) ∷ laid_from Shut more

-- its header doesn't leave it open as which object it goes
pub closed_alone : (x : Coming) → x.is_open ≡ false → IsAlone x
closed_alone x is = unjoined (marked_in x) (λ z. go z.is_open z.item.thing)
  where
    go : (b : Bool) (t : Thing) → reaches_by x.is_open b (Event x.lane x.row) t ≡ false
    go b (Event lane y) =
        ap (λ (own : Bool). (own && b) && ((x.lane == lane) && ((kind_eq x.row.row.kind Binary && kind_eq y.row.kind Binary)
        && is_in_reach x.row.row.time y.row.time))) is
    go b (Present y) = refl

-- it is no binary
pub other_alone : (x : Coming) → kind_eq x.row.row.kind Binary ≡ false → IsAlone x
other_alone x is = unjoined (marked_in x) (λ z. go z.is_open z.item.thing)
  where
    go : (b : Bool) (t : Thing) → reaches_by x.is_open b (Event x.lane x.row) t ≡ false
    go b (Event lane y) =
        no_and (x.is_open && b) _ (no_and (x.lane == lane) _
        (ap (λ (binary : Bool). (binary && kind_eq y.row.kind Binary) && is_in_reach x.row.row.time y.row.time) is))
    go b (Present y) = refl

-- it has no time
pub timeless_alone : (x : Coming) → is_some x.row.row.time ≡ false → IsAlone x
timeless_alone x is = unjoined (marked_in x) (λ z. go z.is_open z.item.thing)
  where
    unreached : (time other : Option ℕ) → is_some time ≡ false → is_in_reach time other ≡ false
    unreached None other is = refl
    unreached (Some t) other is = cc

    go : (b : Bool) (t : Thing) → reaches_by x.is_open b (Event x.lane x.row) t ≡ false
    go b (Event lane y) =
        no_and (x.is_open && b) _ (no_and (x.lane == lane) _
        (no_and (kind_eq x.row.row.kind Binary && kind_eq y.row.kind Binary) _ (unreached x.row.row.time y.row.time is)))
    go b (Present y) = refl

-- ---- a row of a group of which the first three were given

both : (p q : Bool) → p ≡ true → q ≡ true → (p && q) ≡ true
both true q p is = is
both false q p is = cc

pub goes_on_after : (first : Coming) (is_open : Bool) (header lane common : ℕ) (x : Numbered) → first.is_open ≡ true → is_open ≡ true
    → (first.lane == lane) ≡ true → kind_eq first.row.row.kind Binary ≡ true → first.row.row.time ≡ Some common
    → (kind_eq x.row.kind Binary && is_in_reach (Some common) x.row.time) ≡ true
    → (more : List Marked) → laid_from (Within (marked_in first)) (marked is_open (event_of header lane x) ∷ more)
    ≡ told_after common (event_of header lane x) ∷ laid_from (Within (marked_in first)) more
goes_on_after first is_open header lane common x first_open is_so same binary timed is more =
    let parts = and_parts (kind_eq x.row.kind Binary) (is_in_reach (Some common) x.row.time) is in
    let near : reaches_by first.is_open is_open (Event first.lane first.row) (Event lane x) ≡ true =
    both (first.is_open && is_open) _ (both first.is_open is_open first_open is_so)
    (both (first.lane == lane) _ same (both (kind_eq first.row.row.kind Binary && kind_eq x.row.kind Binary) _
    (both (kind_eq first.row.row.kind Binary) (kind_eq x.row.kind Binary) binary parts.0)
    (ap (λ (t : Option ℕ). is_in_reach t x.row.time) timed ∙ parts.1))) in
    ap (λ (b : Bool). if b then told_after (time_of (item_in first)) (event_of header lane x) ∷ laid_from (Within (marked_in first)) more
    else laid_from (One (marked is_open (event_of header lane x))) more) near
    ∙ ap (λ (t : Option ℕ). told_after (unwrap_or t 0) (event_of header lane x) ∷ laid_from (Within (marked_in first)) more) timed

-- it goes after the time of the first of its group
pub goes_after : (first x : Coming) (common : ℕ) → common ≡ unwrap_or first.row.row.time 0
    → reaches_by first.is_open x.is_open (Event first.lane first.row) (Event x.lane x.row) ≡ true → (more : List Marked)
    → laid_from (Within (marked_in first)) (marked_in x ∷ more) ≡ told_after common (item_in x) ∷ laid_from (Within (marked_in first)) more
goes_after first x common is near more =
    ap (λ (b : Bool). if b then told_after (time_of (item_in first)) (item_in x) ∷ laid_from (Within (marked_in first)) more
    else laid_from (One (marked_in x)) more) near
    ∙ ap (λ (time : ℕ). told_after time (item_in x) ∷ laid_from (Within (marked_in first)) more) (sym is)

-- ---- a row that is put as it comes, while none waits

-- the last ids go on to its own
pub reached_once : (w w' : Writer) (x : Item) → waiting_items w.waiting ≡ [] → w'.waiting ≡ w.waiting
    → w'.place.given ≡ given_after w.place.given x → reached w' ≡ given_after (reached w) x
reached_once w w' x none same given =
    ap (λ (v : Waiting). fold given_after w'.place.given (waiting_items v)) same
    ∙ ap (λ (xs : List Item). fold given_after w'.place.given xs) none
    ∙ given
    ∙ ap (λ (xs : List Item). given_after (fold given_after w.place.given xs) x) (sym none)
