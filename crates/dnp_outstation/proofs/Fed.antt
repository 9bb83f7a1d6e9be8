-- What a writer is filled with, where rows wait: they are put when it is known as which objects they go.
use Rattle.std.proofs.Common.{◌≡◌, Bool, true, false, IsTrue, if◌then◌else◌, cond, refl, sym, ◌∙◌, ap, ℕ, List, [], ◌∷◌, ◌++◌, map, append_assoc}
use Rattle.dnp_outstation.specs.declared.offer.grouping.Given.{Given}
use Rattle.dnp_outstation.specs.declared.offer.grouping.Coming.{Coming}
use Rattle.dnp_outstation.specs.declared.offer.grouping.Waiting.{Waiting}
use Rattle.dnp_outstation.specs.declared.offer.grouping.Waiting.TheVariants as waiting
use Rattle.dnp_outstation.specs.declared.offer.writer.Writer.{Writer}
use Rattle.dnp_outstation.specs.Forms.{reaches_by, time_of, told_after}
use Rattle.dnp_outstation.specs.Items.{Thing, Static, present_of}
use Rattle.dnp_outstation.specs.Items.Thing.{Event, Present}
use Rattle.dnp_outstation.specs.Layout.{Laid, lay}
use Rattle.dnp_outstation.specs.Offer.{Filled}
use Rattle.dnp_outstation.specs.steps.Filling.{put_laid, fits, ended, fill_laid, fill}
use Rattle.dnp_outstation.specs.steps.Grouping.{Marked, marked, marked_in, item_in, mark, Open, laid_from, open_in, given_in}
use Rattle.dnp_outstation.specs.steps.Grouping.Open.{Shut, One, Two, Within}
use Rattle.dnp_outstation.specs.steps.Putting.{Puts, PutsLaid, shown}
use Rattle.dnp_outstation.proofs.Stretches.{laid_as}

-- ---- what waits is no part of what is written

put_other : (w : Writer) (v : Waiting) (x : Laid) → put_laid (record w { waiting = v }) x ≡ record (put_laid w x) { waiting = v }
put_other w v x = go x.item.thing
  where
    go : (thing : Thing) → (let y : Laid = laid_as x.item.header thing x.object x.common in
        put_laid (record w { waiting = v }) y ≡ record (put_laid w y) { waiting = v })
    go (Event lane row) = refl
    go (Present static) = refl

pub other_waiting : (w : Writer) (v : Waiting) (xs : List Laid) → fill_laid (record w { waiting = v }) xs ≡ fill_laid w xs
other_waiting w v [] = refl
other_waiting w v (x ∷ xs) =
    ap (λ (u : Writer). cond (fits u) (fill_laid u xs) (ended false w)) (put_other w v x)
    ∙ ap (λ (filled : Filled). cond (fits (put_laid w x)) filled (ended false w)) (other_waiting (put_laid w x) v xs)

-- ---- rows that are given

pub one_put : (w w' : Writer) (x : Laid) (fit : Bool) → (IsTrue fit → w' ≡ put_laid w x) → fit ≡ fits (put_laid w x)
    → (fit ≡ false → ended false w' ≡ ended false w) → PutsLaid w (x ∷ []) fit w'
one_put w w' x true is room full more =
    ap (λ (b : Bool). cond b (fill_laid (put_laid w x) more) (ended false w)) (sym room) ∙ ap (λ (u : Writer). fill_laid u more) (sym (is refl))
one_put w w' x false is room full more =
    ap (λ (b : Bool). cond b (fill_laid (put_laid w x) more) (ended false w)) (sym room) ∙ sym (full refl)

pub then_put : (w v w' : Writer) (xs ys : List Laid) (fit : Bool) → PutsLaid w xs true v → PutsLaid v ys fit w' → PutsLaid w (xs ++ ys) fit w'
then_put w v w' xs ys fit first second more = ap (fill_laid w) (append_assoc xs ys more) ∙ first (ys ++ more) ∙ second more

pub none_more : (w w' : Writer) (xs ys : List Laid) → PutsLaid w xs false w' → PutsLaid w (xs ++ ys) false w'
none_more w w' xs ys first more = ap (fill_laid w) (append_assoc xs ys more) ∙ first (ys ++ more)

-- a row came: what settles is put, and the others wait
pub event_put : (w u w' : Writer) (z : Marked) (g : Given) (fit : Bool)
    → ((more : List Marked) → laid_from (open_in w.waiting) (z ∷ more) ≡ given_in g ++ laid_from (open_in u.waiting) more)
    → u ≡ record w { waiting = u.waiting } → PutsLaid u (given_in g) fit w' → w'.waiting ≡ u.waiting
    → Puts w (z ∷ []) fit w'
event_put w u w' z g fit pushed u_is put same more =
    ap (fill_laid w) (pushed more)
    ∙ sym (other_waiting w u.waiting (given_in g ++ laid_from (open_in u.waiting) more))
    ∙ ap (λ (v : Writer). fill_laid v (given_in g ++ laid_from (open_in u.waiting) more)) (sym u_is)
    ∙ put (laid_from (open_in u.waiting) more)
    ∙ ap (λ (v : Waiting). if fit then fill_laid w' (laid_from (open_in v) more) else ended false w') (sym same)

-- the row that waited alone is put, since the one that came stands in no group with it
pub row_passes : (w u w' : Writer) (x z : Coming) (fit : Bool) → w.waiting ≡ waiting.One x → u ≡ record w { waiting = waiting.One z }
    → reaches_by x.is_open z.is_open (Event x.lane x.row) (Event z.lane z.row) ≡ false
    → (IsTrue fit → w' ≡ put_laid u (lay (item_in x))) → fit ≡ fits (put_laid u (lay (item_in x))) → (fit ≡ false → ended false w' ≡ ended false u)
    → w'.waiting ≡ u.waiting → Puts w (marked_in z ∷ []) fit w'
row_passes w u w' x z fit is u_is apart put room full same more =
    ap (λ (v : Waiting). fill_laid w (laid_from (open_in v) (marked_in z ∷ more))) is
    ∙ ap (λ (b : Bool). fill_laid w (if b then laid_from (Two (marked_in x) (marked_in z)) more else lay (item_in x) ∷ laid_from (One (marked_in z)) more)) apart
    ∙ sym (other_waiting w (waiting.One z) (lay (item_in x) ∷ laid_from (One (marked_in z)) more))
    ∙ ap (λ (v : Writer). fill_laid v (lay (item_in x) ∷ laid_from (One (marked_in z)) more)) (sym u_is)
    ∙ one_put u w' (lay (item_in x)) fit put room full (laid_from (One (marked_in z)) more)
    ∙ ap (λ (v : Waiting). if fit then fill_laid w' (laid_from (open_in v) more) else ended false w') (sym (same ∙ ap (λ (v : Writer). v.waiting) u_is))

-- no row comes any more
pub settled : (w u w' : Writer) (g : Given) (fit : Bool) → laid_from (open_in w.waiting) [] ≡ given_in g
    → u ≡ record w { waiting = u.waiting } → PutsLaid u (given_in g) fit w' → PutsLaid w (laid_from (open_in w.waiting) []) fit w'
settled w u w' g fit is u_is put more =
    ap (λ (xs : List Laid). fill_laid w (xs ++ more)) is
    ∙ sym (other_waiting w u.waiting (given_in g ++ more))
    ∙ ap (λ (v : Writer). fill_laid v (given_in g ++ more)) (sym u_is)
    ∙ put more

-- none waits
pub none_settled : (w : Writer) → w.waiting ≡ waiting.Nothing → PutsLaid w (laid_from (open_in w.waiting) []) true w
none_settled w is more = ap (λ (v : Waiting). fill_laid w (laid_from (open_in v) [] ++ more)) is

pub group_settled : (w w' : Writer) (first : Coming) → w.waiting ≡ waiting.Within first → w' ≡ record w { waiting = waiting.Nothing }
    → PutsLaid w (laid_from (open_in w.waiting) []) true w'
group_settled w w' first is w_is more =
    ap (λ (v : Waiting). fill_laid w (laid_from (open_in v) [] ++ more)) is
    ∙ sym (other_waiting w waiting.Nothing more)
    ∙ ap (λ (v : Writer). fill_laid v more) (sym w_is)

-- ---- present values

present_apart : (b b' : Bool) (t : Thing) (s : Static) → reaches_by b b' t (Present s) ≡ false
present_apart b b' (Event lane row) s = refl
present_apart b b' (Present x) s = refl

-- before a present value the rows that wait are laid as their own objects
pub present_in : (o : Open) (b : Bool) (header : ℕ) (s : Static) (more : List Marked)
    → laid_from o (marked b (present_of header s) ∷ more) ≡ laid_from o [] ++ lay (present_of header s) ∷ laid_from Shut more
present_in o b header s more = go o
  where
    p : Marked
    p = marked b (present_of header s)

    alone : (more : List Marked) → laid_from (One p) more ≡ lay (present_of header s) ∷ laid_from Shut more
    alone [] = refl
    alone (z ∷ zs) = refl

    go : (o : Open) → laid_from o (p ∷ more) ≡ laid_from o [] ++ lay (present_of header s) ∷ laid_from Shut more
    go Shut = alone more
    go (One x) =
        ap (λ (t : Bool). if t then laid_from (Two x p) more else lay x.item ∷ laid_from (One p) more) (present_apart x.is_open b x.item.thing s)
        ∙ ap (λ (l : List Laid). lay x.item ∷ l) (alone more)
    go (Two x y) =
        ap (λ (t : Bool). if t then told_after (time_of x.item) x.item ∷ told_after (time_of x.item) y.item ∷ told_after (time_of x.item) p.item
        ∷ laid_from (Within x) more else lay x.item ∷ lay y.item ∷ laid_from (One p) more) (present_apart x.is_open b x.item.thing s)
        ∙ ap (λ (l : List Laid). lay x.item ∷ lay y.item ∷ l) (alone more)
    go (Within first) =
        ap (λ (t : Bool). if t then told_after (time_of first.item) p.item ∷ laid_from (Within first) more else laid_from (One p) more)
        (present_apart first.is_open b first.item.thing s)
        ∙ alone more

pub presents_in : (o : Open) (b : Bool) (header : ℕ) (s : Static) (ss : List Static) (more : List Marked)
    → laid_from o (mark b (map (present_of header) (s ∷ ss)) ++ more)
    ≡ laid_from o [] ++ (map lay (map (present_of header) (s ∷ ss)) ++ laid_from Shut more)
presents_in o b header s [] more = present_in o b header s more
presents_in o b header s (t ∷ ss) more =
    present_in o b header s (mark b (map (present_of header) (t ∷ ss)) ++ more)
    ∙ ap (λ (l : List Laid). laid_from o [] ++ lay (present_of header s) ∷ l) (presents_in Shut b header t ss more)

-- so what its header leaves open makes no difference
pub any_mark : (w : Writer) (b b' : Bool) (header : ℕ) (ss : List Static) (more : List Marked)
    → fill w (mark b (map (present_of header) ss) ++ more) ≡ fill w (mark b' (map (present_of header) ss) ++ more)
any_mark w b b' header [] more = refl
any_mark w b b' header (s ∷ ss) more =
    ap (fill_laid w) (presents_in (open_in w.waiting) b header s ss more ∙ sym (presents_in (open_in w.waiting) b' header s ss more))

-- present values are put behind the rows that wait
pub presents_put : (w v : Writer) (header : ℕ) (s : Static) (ss : List Static) (more : List Marked)
    → PutsLaid w (laid_from (open_in w.waiting) []) true v
    → fill w (shown header (s ∷ ss) ++ more) ≡ fill_laid v (map lay (map (present_of header) (s ∷ ss)) ++ laid_from Shut more)
presents_put w v header s ss more put =
    ap (fill_laid w) (presents_in (open_in w.waiting) false header s ss more) ∙ put (map lay (map (present_of header) (s ∷ ss)) ++ laid_from Shut more)

pub presents_full : (w v : Writer) (header : ℕ) (s : Static) (ss : List Static) (more : List Marked)
    → PutsLaid w (laid_from (open_in w.waiting) []) false v → fill w (shown header (s ∷ ss) ++ more) ≡ ended false v
presents_full w v header s ss more put =
    ap (fill_laid w) (presents_in (open_in w.waiting) false header s ss more) ∙ put (map lay (map (present_of header) (s ∷ ss)) ++ laid_from Shut more)
