-- Rows of a lane that are put one after another: what each of them is laid as, and what all of them come to.
use Rattle.std.proofs.Common.{◌≡◌, ◌≤◌, ◌+◌, ℕ, Bool, true, false, IsTrue, ◌&&◌, nat_eq, if◌then◌else◌, refl, sym, ◌∙◌, ap, subst, List, [], ◌∷◌, ◌++◌, map, append_assoc, arith, Option, Some, None}
use Rattle.std.specs.List.{All, fold}
use Rattle.std.specs.Option.{option_eq}
use Rattle.std.proofs.lemmas.Bool.{and_parts, eq-eqb}
use Rattle.std.proofs.lemmas.List.Elements.{All-head, All-tail}
use Rattle.dnp_objects.specs.Events.{IsEvent}
use Rattle.dnp_appfragment.specs.Built.{size, context_of}
use Rattle.dnp_appfragment.specs.Headers.{last_time}
use Rattle.dnp_appfragment.specs.Written.{common_head}
use Rattle.dnp_eventbuf.specs.declared.numbered.Numbered.{Numbered}
use Rattle.dnp_objects.specs.declared.limits.TheConstants.{MAX_FRAGMENT}
use Rattle.dnp_outstation.specs.declared.offer.grouping.Coming.{Coming}
use Rattle.dnp_outstation.specs.declared.offer.grouping.Pair.{Pair}
use Rattle.dnp_outstation.specs.declared.offer.grouping.Waiting.{Waiting}
use Rattle.dnp_outstation.specs.declared.offer.grouping.Waiting.TheVariants as waiting
use Rattle.dnp_outstation.specs.declared.offer.writer.Run.{Run}
use Rattle.dnp_outstation.specs.declared.offer.writer.Run.TheVariants.{OfLane}
use Rattle.dnp_outstation.specs.declared.offer.writer.Writer.{Writer}
use Rattle.dnp_outstation.specs.Forms.{reaches_by, time_of, told_after}
use Rattle.dnp_outstation.specs.Items.{event_of, given_after}
use Rattle.dnp_outstation.specs.Items.Thing.{Event}
use Rattle.dnp_outstation.specs.Layout.{lay}
use Rattle.dnp_outstation.specs.steps.Filling.{continues, is_same_run, ended, fill_laid, fill, reached}
use Rattle.dnp_outstation.specs.steps.Grouping.{Marked, mark, marked, item_in, marked_in, laid_from, open_in}
use Rattle.dnp_outstation.specs.steps.Grouping.Open.{Shut, One, Two, Within}
use Rattle.dnp_outstation.specs.steps.Putting.{Puts, PutsFirst, PutsLaid, StopsIn, least_octets, weight}

-- ---- a row that stands in no group with what waits

abbrev IsApart : Waiting → Coming → Type 0
IsApart w z = (more : List Marked) → laid_from (open_in w) (marked_in z ∷ more) ≡ laid_from (open_in w) [] ++ laid_from Shut (marked_in z ∷ more)

abbrev ReachesIn : Coming → Coming → Bool
ReachesIn x z = reaches_by x.is_open z.is_open (Event x.lane x.row) (Event z.lane z.row)

pub apart_nothing : (w : Waiting) (z : Coming) → w ≡ waiting.Nothing → IsApart w z
apart_nothing w z is more = ap (λ (v : Waiting). laid_from (open_in v) (marked_in z ∷ more)) is
    ∙ ap (λ (v : Waiting). laid_from (open_in v) [] ++ laid_from Shut (marked_in z ∷ more)) (sym is)

pub apart_one : (w : Waiting) (x z : Coming) → w ≡ waiting.One x → ReachesIn x z ≡ false → IsApart w z
apart_one w x z is apart more = ap (λ (v : Waiting). laid_from (open_in v) (marked_in z ∷ more)) is
    ∙ ap (λ (b : Bool). if b then laid_from (Two (marked_in x) (marked_in z)) more else lay (item_in x) ∷ laid_from (One (marked_in z)) more) apart
    ∙ ap (λ (v : Waiting). laid_from (open_in v) [] ++ laid_from Shut (marked_in z ∷ more)) (sym is)

pub apart_two : (w : Waiting) (pair : Pair) (z : Coming) → w ≡ waiting.Two pair → ReachesIn pair.first z ≡ false → IsApart w z
apart_two w pair z is apart more = ap (λ (v : Waiting). laid_from (open_in v) (marked_in z ∷ more)) is
    ∙ ap (λ (b : Bool). if b
    then told_after (time_of (item_in pair.first)) (item_in pair.first) ∷ told_after (time_of (item_in pair.first)) (item_in pair.second)
    ∷ told_after (time_of (item_in pair.first)) (item_in z) ∷ laid_from (Within (marked_in pair.first)) more
    else lay (item_in pair.first) ∷ lay (item_in pair.second) ∷ laid_from (One (marked_in z)) more) apart
    ∙ ap (λ (v : Waiting). laid_from (open_in v) [] ++ laid_from Shut (marked_in z ∷ more)) (sym is)

pub apart_within : (w : Waiting) (x z : Coming) → w ≡ waiting.Within x → ReachesIn x z ≡ false → IsApart w z
apart_within w x z is apart more = ap (λ (v : Waiting). laid_from (open_in v) (marked_in z ∷ more)) is
    ∙ ap (λ (b : Bool). if b then told_after (time_of (item_in x)) (item_in z) ∷ laid_from (Within (marked_in x)) more
    else laid_from (One (marked_in z)) more) apart
    ∙ ap (λ (v : Waiting). laid_from (open_in v) [] ++ laid_from Shut (marked_in z ∷ more)) (sym is)

-- ---- rows that are put, and those that are left

pub then_first : (w v w' : Writer) (header : ℕ) (is_open : Bool) (lane : ℕ) (rows between left : List Numbered)
    → PutsFirst w header is_open lane rows between v → PutsFirst v header is_open lane between left w' → PutsFirst w header is_open lane rows left w'
then_first w v w' header is_open lane rows between left first second = record {
  given = second.given ∙ first.given;
  written = λ more. second.written more ∙ first.written more;
  room = λ short. let a = first.room short in let b = second.room a.1 in (omega (arith, a.0, b.0), b.1);
}

pub then_stops : (w v w' : Writer) (header : ℕ) (is_open : Bool) (lane : ℕ) (rows between : List Numbered)
    → PutsFirst w header is_open lane rows between v → StopsIn v header is_open lane between w' → StopsIn w header is_open lane rows w'
then_stops w v w' header is_open lane rows between first stops more = sym (first.written more) ∙ stops more

-- one that is put or waits
pub event_stops : (w w' : Writer) (header : ℕ) (is_open : Bool) (lane : ℕ) (x : Numbered) (after : List Numbered) (fit : Bool) → fit ≡ false
    → Puts w (marked is_open (event_of header lane x) ∷ []) fit w' → StopsIn w header is_open lane (x ∷ after) w'
event_stops w w' header is_open lane x after true miss written = cc
event_stops w w' header is_open lane x after false miss written = λ more. written (mark is_open (map (event_of header lane) after) ++ more)

-- one that is laid by itself after what is laid of those that wait
abbrev LaidApart : Writer → ℕ → Bool → ℕ → Numbered → List Numbered → Type 0
LaidApart w header is_open lane x after = (more : List Marked)
    → laid_from (open_in w.waiting) (mark is_open (map (event_of header lane) (x ∷ after)) ++ more)
    ≡ laid_from (open_in w.waiting) [] ++ lay (event_of header lane x) ∷ laid_from Shut (mark is_open (map (event_of header lane) after) ++ more)

apart_filled : (w w' : Writer) (header : ℕ) (is_open : Bool) (lane : ℕ) (x : Numbered) (after : List Numbered) (fit : Bool)
    → LaidApart w header is_open lane x after
    → PutsLaid w (laid_from (open_in w.waiting) [] ++ lay (event_of header lane x) ∷ []) fit w' → w'.waiting ≡ waiting.Nothing → (more : List Marked)
    → fill w (mark is_open (map (event_of header lane) (x ∷ after)) ++ more)
    ≡ (if fit then fill w' (mark is_open (map (event_of header lane) after) ++ more) else ended false w')
apart_filled w w' header is_open lane x after fit laid put none more =
    let rest : List Marked = mark is_open (map (event_of header lane) after) ++ more in
    ap (fill_laid w) (laid more ∙ sym (append_assoc (laid_from (open_in w.waiting) []) (lay (event_of header lane x) ∷ []) (laid_from Shut rest)))
    ∙ put (laid_from Shut rest)
    ∙ ap (λ (v : Waiting). if fit then fill_laid w' (laid_from (open_in v) rest) else ended false w') (sym none)

pub apart_first : (w w' : Writer) (header : ℕ) (is_open : Bool) (lane : ℕ) (x : Numbered) (after : List Numbered) (fit : Bool) → IsTrue fit
    → LaidApart w header is_open lane x after
    → PutsLaid w (laid_from (open_in w.waiting) [] ++ lay (event_of header lane x) ∷ []) fit w' → w'.waiting ≡ waiting.Nothing
    → (IsTrue fit → reached w' ≡ given_after (reached w) (event_of header lane x))
    → (IsTrue fit → weight w + least_octets x.row.kind ≤ weight w') → (IsTrue fit → size w.builder ≤ MAX_FRAGMENT → size w'.builder ≤ MAX_FRAGMENT)
    → PutsFirst w header is_open lane (x ∷ after) after w'
apart_first w w' header is_open lane x after true is laid put none given longer short = record {
  given = ap (λ (ids : List ℕ). fold given_after ids (map (event_of header lane) after)) (given refl);
  written = λ more. sym (apart_filled w w' header is_open lane x after true laid put none more);
  room = λ fits. (let grown = longer refl in omega (arith, grown), short refl fits);
}
apart_first w w' header is_open lane x after false is laid put none given longer short = cc

pub apart_stops : (w w' : Writer) (header : ℕ) (is_open : Bool) (lane : ℕ) (x : Numbered) (after : List Numbered) (fit : Bool) → fit ≡ false
    → LaidApart w header is_open lane x after
    → PutsLaid w (laid_from (open_in w.waiting) [] ++ lay (event_of header lane x) ∷ []) fit w' → w'.waiting ≡ waiting.Nothing
    → StopsIn w header is_open lane (x ∷ after) w'
apart_stops w w' header is_open lane x after true miss laid put none = cc
apart_stops w w' header is_open lane x after false miss laid put none = apart_filled w w' header is_open lane x after false laid put none

-- ---- what stands last then

pub parted : (rows : List Numbered) (x : Numbered) (after : List Numbered) → rows ≡ x ∷ after → All (λ (y : Numbered). IsEvent y.row) rows
    → IsEvent x.row × All (λ (y : Numbered). IsEvent y.row) after
parted rows x after is all =
    let there = subst (λ (l : List Numbered). All (λ (y : Numbered). IsEvent y.row) l) is all in
    (All-head (λ (y : Numbered). IsEvent y.row) x after there, All-tail (λ (y : Numbered). IsEvent y.row) x after there)

pub own_continues : (w : Writer) (lane : ℕ) → w.run ≡ OfLane lane None → continues w (OfLane lane None) ≡ true
own_continues w lane is = ap (λ (r : Run). is_same_run r (OfLane lane None)) is ∙ ap (λ (b : Bool). b && true) (eq-eqb lane lane refl)

pub told_continues : (w w' : Writer) (lane t : ℕ) → continues w (OfLane lane (Some t)) ≡ true → context_of w.builder ≡ Some t
    → w'.run ≡ OfLane lane (Some t) → context_of w'.builder ≡ Some t → continues w' (OfLane lane (Some t)) ≡ true
told_continues w w' lane t on there run there' =
    let is : Option ℕ → Bool = λ o. option_eq nat_eq o (Some (last_time (common_head t))) in
    let parts = and_parts (is_same_run w.run (OfLane lane (Some t))) (is (context_of w.builder)) on in
    ap (λ (r : Run). is_same_run r (OfLane lane (Some t)) && is (context_of w'.builder)) run
    ∙ ap (λ (o : Option ℕ). is_same_run (OfLane lane (Some t)) (OfLane lane (Some t)) && is o) (there' ∙ sym there)
    ∙ ap (λ (b : Bool). (b && nat_eq t t) && is (context_of w.builder)) (eq-eqb lane lane refl)
    ∙ ap (λ (b : Bool). b && is (context_of w.builder)) (eq-eqb t t refl)
    ∙ parts.1
