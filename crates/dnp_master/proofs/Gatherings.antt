-- What is gathered one after the other.
use Rattle.std.proofs.Common.{◌≡◌, Bool, true, false, cond, ◌&&◌, List, [], ◌∷◌, ◌++◌, refl, sym, ◌∙◌, ap, append_assoc, subst}
use Rattle.std.specs.Prelude.{Option, Some, is_some}
use Rattle.std.specs.List.{All, filter, flat_map, list_all}
use Rattle.std.proofs.lemmas.List.Elements.{All-append, filter-append}
use Rattle.std.proofs.lemmas.List.Folds.{list_all-append}
use Rattle.dnp_objects.specs.declared.row.Kind.{Kind}
use Rattle.dnp_objects.specs.declared.row.Row.{Row}
use Rattle.dnp_master.specs.declared.gathering.Gathering.{Gathering}
use Rattle.dnp_master.specs.declared.known.Known.{Known}
use Rattle.dnp_master.specs.steps.Gathering.{Gathers, HasRow, IsKnown}
use Rattle.dnp_master.specs.Rows.{static_rows, is_reported, is_planned, statics_in, is_from_plan}
use Rattle.dnp_objects.specs.Events.{IsEvent}
use Rattle.dnp_appfragment.specs.EventRows.{header_rows, is_event_header, events_in}
use Rattle.dnp_appfragment.specs.Headers.{Head}
use Rattle.dnp_pointdb.specs.Classes.{class_at}
use Rattle.dnp_pointdb.specs.Plan.{Plan}

both_none : {A : Type 0} (xs ys : List A) → xs ++ ys ≡ [] → (xs ≡ []) × (ys ≡ [])
both_none [] ys is = (refl, is)
both_none (x ∷ xs) ys is = absurd (cc)

pub gathers_both : (a b c : Gathering) (xs ys : List Row) → Gathers a xs b → Gathers b ys c → Gathers a (xs ++ ys) c
gathers_both a b c xs ys first second = record {
  behind = λ h.
      let later = second.behind h in
      let sooner = first.behind later.0 in
      (sooner.0, later.1 ∙ ap (λ (zs : List Row). zs ++ ys) sooner.1 ∙ append_assoc a.rows.items xs ys);
  still = λ none. second.still (both_none xs ys none).1 ∙ first.still (both_none xs ys none).0;
}

-- ---- one header more

-- what is left before a header of events
pub record EventsLeft (plan : Plan) (old : Gathering) (headers : List Head) (new : Gathering) (rest : List Head) : Type 0 where
  pub all : is_from_plan plan rest ≡ is_from_plan plan headers
  pub gathers : (n : Gathering) → Gathers new (events_in rest) n → Gathers old (events_in headers) n
  pub carried : All IsEvent (events_in rest) → All IsEvent (events_in headers)

pub event_header : (plan : Plan) (old new : Gathering) (h : Head) (rest headers : List Head) → headers ≡ h ∷ rest → is_event_header h ≡ true
    → list_all (is_reported plan) (header_rows h) ≡ true → Gathers old (header_rows h) new → All IsEvent (header_rows h)
    → EventsLeft plan old headers new rest
event_header plan old new h rest headers is event reported gathers carried =
    let whole : events_in headers ≡ header_rows h ++ events_in rest =
    ap (λ (hs : List Head). events_in hs) is ∙ ap (λ (b : Bool). cond b (header_rows h) [] ++ events_in rest) event in
    record {
      all =
          sym (ap (λ (rows : List Row). list_all (is_reported plan) rows) whole ∙ list_all-append (is_reported plan) (header_rows h) (events_in rest)
          ∙ ap (λ (b : Bool). b && list_all (is_reported plan) (events_in rest)) reported);
      gathers = λ n later.
          subst (λ (rows : List Row). Gathers old rows n) (sym whole) (gathers_both old new n (header_rows h) (events_in rest) gathers later);
      carried = λ later. subst (λ (rows : List Row). All IsEvent rows) (sym whole) (All-append IsEvent (header_rows h) (events_in rest) carried later);
    }

pub static_header : (plan : Plan) (old new n : Gathering) (h : Head) (rest headers : List Head) → headers ≡ h ∷ rest → is_event_header h ≡ false
    → Gathers old (filter (is_planned plan) (header_rows h)) new → Gathers new (statics_in plan rest) n → Gathers old (statics_in plan headers) n
static_header plan old new n h rest headers is static gathers later =
    let p : Row → Bool = is_planned plan in
    let whole : statics_in plan headers ≡ filter p (header_rows h) ++ statics_in plan rest =
    ap (λ (hs : List Head). statics_in plan hs) is
    ∙ ap (λ (b : Bool). filter p (cond b [] (header_rows h) ++ flat_map static_rows rest)) static
    ∙ filter-append p (header_rows h) (flat_map static_rows rest) in
    subst (λ (rows : List Row). Gathers old rows n) (sym whole) (gathers_both old new n (filter p (header_rows h)) (statics_in plan rest) gathers later)

-- ---- one row more

-- the plan has each of these points, and the row's
pub record Finds (plan : Plan) (points : Known) (row : Row) : Type 0 where
  pub known : IsKnown plan points
  pub planned : is_planned plan row ≡ true

pub found_before : (plan : Plan) (old new : Known) (row : Row) → new ≡ old → IsKnown plan old → HasRow old row → Finds plan new row
found_before plan old new row is known has = record {
  known = subst (λ (k : Known). IsKnown plan k) (sym is) known;
  planned = subst (λ (kind : Kind). is_some (class_at plan kind row.index) ≡ true) (sym has.kind) (known row.index has.from has.upto);
}

pub found_now : (plan : Plan) (found new : Known) (row : Row) (looked : Option Known) → new ≡ found → looked ≡ Some found → IsKnown plan found
    → is_some looked ≡ is_some (class_at plan row.kind row.index) → Finds plan new row
found_now plan found new row looked is some known value = record {
  known = subst (λ (k : Known). IsKnown plan k) (sym is) known;
  planned = sym value ∙ ap (λ (o : Option Known). is_some o) some;
}

pub planned_row : (plan : Plan) (old new n : Gathering) (row : Row) (rest rows : List Row) → rows ≡ row ∷ rest → is_planned plan row ≡ true
    → Gathers old (row ∷ []) new → Gathers new (filter (is_planned plan) rest) n → Gathers old (filter (is_planned plan) rows) n
planned_row plan old new n row rest rows is planned first later =
    let p : Row → Bool = is_planned plan in
    let whole : filter p rows ≡ row ∷ filter p rest =
    ap (λ (xs : List Row). filter p xs) is ∙ ap (λ (b : Bool). cond b (row ∷ filter p rest) (filter p rest)) planned in
    subst (λ (xs : List Row). Gathers old xs n) (sym whole) (gathers_both old new n (row ∷ []) (filter p rest) first later)
