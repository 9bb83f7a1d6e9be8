-- A call that changed lanes, a journal or a book is undone by none.
use Rattle.std.proofs.Common.{◌≡◌, ◌⊎◌, inl, inr, ℕ, zero, suc, ◌+◌, ◌<◌, ◌≤◌, Bool, true, false, cond, List, [], ◌∷◌, length, map, filter, nat_lt, refl, sym, ap, ap₂, subst, ◌∙◌, arith}
use Rattle.std.specs.Prelude.{◌&&◌, ◌==◌, IsTrue, Some, not}
use Rattle.dnp_objects.specs.declared.lane.LaneRow.{LaneRow}
use Rattle.dnp_objects.specs.declared.row.Row.{Row}
use Rattle.dnp_eventbuf.specs.declared.numbered.Numbered.{Numbered}
use Rattle.dnp_eventbuf.specs.Archive.{Archive, with_events}
use Rattle.dnp_eventbuf.specs.EventBuffer.{EventBuffer, LaneState, emptied, lanes_above, with_row, with_rows, without, without_all}
use Rattle.std.specs.List.{AllByRecursion}
use Rattle.std.specs.Option.{IsSomeAnd}
use Rattle.dnp_controls.specs.Book.{Has, Ledger, entry_of, in_state, is_finished, is_pending}
use Rattle.dnp_controls.specs.declared.book.Entry.{Entry}
use Rattle.dnp_controls.specs.declared.book.State.{State as Control}
use Rattle.dnp_controls.specs.declared.book.State.TheVariants.{Finished, Pending, Spent}
use Rattle.dnp_store.specs.Undone.{Appends, Calls, IsAdded, IsFinished, IsSpent, Turns, Writes}
use Rattle.dnp_store.proofs.BookUpdates.{Rising, first_low, in_its_state, rest_rise, same_over}
use Rattle.dnp_store.proofs.JournalHolding.{with-none}

-- ---- calls that lead on lead on together

module _ {X : Type 0} (Call Later : X → X → Type 0) (same : (s : X) → Later s s) (then : (s t u : X) → Later s t → Later t u → Later s u)
    (leads : (s t : X) → Call s t → Later s t) where
  pub calls_lead : (count : ℕ) (s t : X) → Calls Call count s t → Later s t
  calls_lead zero s t is = subst (Later s) (sym is) (same s)
  calls_lead (suc count) s t h = then s h.0 t (leads s h.0 h.1) (calls_lead count h.0 t h.2)

-- ---- lanes

kept_all : (p : Numbered → Bool) (xs : List Numbered) → (length (filter p xs) ≤ length xs) × (length (filter p xs) ≡ length xs → filter p xs ≡ xs)
kept_all p [] = (omega arith, λ all. refl)
kept_all p (x ∷ xs) = go (p x) (kept_all p xs)
  where
    go : (b : Bool) → (length (filter p xs) ≤ length xs) × (length (filter p xs) ≡ length xs → filter p xs ≡ xs)
        → (length (cond b (x ∷ filter p xs) (filter p xs)) ≤ length (x ∷ xs))
        × (length (cond b (x ∷ filter p xs) (filter p xs)) ≡ length (x ∷ xs) → cond b (x ∷ filter p xs) (filter p xs) ≡ x ∷ xs)
    go true h = let low = h.0 in (omega arith, λ all. ap (λ (ys : List Numbered). x ∷ ys) (h.1 (omega (arith, all))))
    go false h = let low = h.0 in (omega arith, λ all. absurd (omega (arith, all, low)))

abbrev size : List LaneState → ℕ
size [] = 0
size (lane ∷ lanes) = length lane.rows + size lanes

abbrev flag : Bool → ℕ
flag true = 1
flag false = 0

-- the rows that there are, and one more where the overflow stands
abbrev weight : EventBuffer → ℕ
weight s = size s.lanes + flag s.overflow

above_fewer : (lanes : List LaneState) (upto : List ℕ)
    → (size (lanes_above lanes upto) ≤ size lanes) × (size (lanes_above lanes upto) ≡ size lanes → lanes_above lanes upto ≡ lanes)
above_fewer [] upto = (omega arith, λ all. refl)
above_fewer (lane ∷ lanes) [] = (omega arith, λ all. refl)
above_fewer (lane ∷ lanes) (u ∷ us) =
    let one = kept_all (λ (x : Numbered). nat_lt u x.id) lane.rows in
    let rest = above_fewer lanes us in
    let few = one.0 in
    let less = rest.0 in (
      omega (arith, few, less),
      λ all. ap₂ (λ (rows : List Numbered) (more : List LaneState). (record lane { rows = rows }) ∷ more) (one.1 (omega (arith, few, less, all)))
          (rest.1 (omega (arith, few, less, all))),
    )

no_rows : (rows : List Numbered) → length rows ≡ 0 → [] ≡ rows
no_rows [] none = refl
no_rows (x ∷ xs) none = absurd (omega (arith, none))

emptied_fewer : (lanes : List LaneState) → (size (map emptied lanes) ≡ 0) × (0 ≡ size lanes → map emptied lanes ≡ lanes)
emptied_fewer [] = (refl, λ none. refl)
emptied_fewer (lane ∷ lanes) =
    let rest = emptied_fewer lanes in
    let zero = rest.0 in (
      omega (arith, zero),
      λ none. ap₂ (λ (rows : List Numbered) (more : List LaneState). (record lane { rows = rows }) ∷ more) (no_rows lane.rows (omega (arith, none)))
          (rest.1 (omega (arith, none))),
    )

flag_fewer : (a b : Bool) → (flag (a && b) ≤ flag a) × (flag (a && b) ≡ flag a → (a && b) ≡ a)
flag_fewer true true = (omega arith, λ all. refl)
flag_fewer true false = (omega arith, λ all. absurd (omega (arith, all)))
flag_fewer false b = (omega arith, λ all. refl)

down_fewer : (a : Bool) → (0 ≡ flag a → false ≡ a)
down_fewer true none = absurd (omega (arith, none))
down_fewer false none = refl

-- ids were used; or none was, and rows went or the overflow ended, or nothing changed
record IsDown (s t : EventBuffer) : Type 0 where
  pub last : t.last_id ≡ s.last_id
  pub low : weight t ≤ weight s
  pub still : weight t ≡ weight s → t ≡ s

abbrev Later : EventBuffer → EventBuffer → Type 0
Later s t = (s.last_id < t.last_id) ⊎ IsDown s t

lanes_same : (s : EventBuffer) → Later s s
lanes_same s = inr (record { last = refl; low = omega arith; still = λ same. refl })

lanes_then : (s t u : EventBuffer) → Later s t → Later t u → Later s u
lanes_then s t u (inl up) (inl on) = inl (omega (arith, up, on))
lanes_then s t u (inl up) (inr down) = inl (let last = down.last in omega (arith, up, last))
lanes_then s t u (inr down) (inl up) = inl (let last = down.last in omega (arith, up, last))
lanes_then s t u (inr one) (inr two) =
    let low = one.low in
    let lower = two.low in
    inr (record {
      last = two.last ∙ one.last;
      low = omega (arith, low, lower);
      still = λ same. two.still (omega (arith, low, lower, same)) ∙ one.still (omega (arith, low, lower, same));
    })

with_last : (s : EventBuffer) (rows : List LaneRow) → (with_rows s rows).last_id ≡ s.last_id + length rows
with_last s [] = omega arith
with_last s (x ∷ xs) = with_last (with_row s x) xs ∙ (let same : s.last_id + 1 + length xs ≡ s.last_id + suc (length xs) = omega arith in same)

with_leads : (s : EventBuffer) (rows : List LaneRow) → Later s (with_rows s rows)
with_leads s [] = lanes_same s
with_leads s (x ∷ xs) = inl (let last = with_last s (x ∷ xs) in omega (arith, last))

without_leads : (s : EventBuffer) (upto : List ℕ) → Later s (without s upto)
without_leads s upto =
    let lanes = above_fewer s.lanes upto in
    let flags = flag_fewer s.overflow _ in
    let few = lanes.0 in
    let less = flags.0 in
    inr (record {
      last = refl;
      low = omega (arith, few, less);
      still = λ same. ap₂ (λ (ls : List LaneState) (o : Bool). record { lanes = ls; overflow = o; last_id = s.last_id })
          (lanes.1 (omega (arith, few, less, same))) (flags.1 (omega (arith, few, less, same)));
    })

all_leads : (s : EventBuffer) → Later s (without_all s)
all_leads s =
    let lanes = emptied_fewer s.lanes in
    let none = lanes.0 in
    inr (record {
      last = refl;
      low = omega (arith, none);
      still = λ same. ap₂ (λ (ls : List LaneState) (o : Bool). record { lanes = ls; overflow = o; last_id = s.last_id })
          (lanes.1 (omega (arith, none, same))) (down_fewer s.overflow (omega (arith, none, same)));
    })

lanes_lead : (s t : EventBuffer) → Writes s t → Later s t
lanes_lead s t (inl put) = subst (Later s) (sym put.1) (with_leads s put.0)
lanes_lead s t (inr (inl took)) = subst (Later s) (sym took.1) (without_leads s took.0)
lanes_lead s t (inr (inr is)) = subst (Later s) (sym is) (all_leads s)

pub lanes_stay : (count : ℕ) (s t u : EventBuffer) → Writes s t → Calls Writes count t u → u ≡ s → t ≡ s
lanes_stay count s t u one more back =
    go (lanes_lead s t one) (subst (Later t) back (calls_lead Writes Later lanes_same lanes_then lanes_lead count t u more))
  where
    go : Later s t → Later t s → t ≡ s
    go (inl up) (inl on) = absurd (omega (arith, up, on))
    go (inl up) (inr down) = absurd (let last = down.last in omega (arith, up, last))
    go (inr down) (inl up) = absurd (let last = down.last in omega (arith, up, last))
    go (inr one) (inr two) = let low = one.low in let lower = two.low in one.still (omega (arith, low, lower))

-- ---- a journal

abbrev After : Archive → Archive → Type 0
After a b = (a.last_id < b.last_id) ⊎ (b ≡ a)

after_then : (a b c : Archive) → After a b → After b c → After a c
after_then a b c (inl up) (inl on) = inl (omega (arith, up, on))
after_then a b c (inl up) (inr is) = inl (let last = ap (λ (x : Archive). x.last_id) is in omega (arith, up, last))
after_then a b c (inr is) (inl up) = inl (let last = ap (λ (x : Archive). x.last_id) is in omega (arith, up, last))
after_then a b c (inr is) (inr on) = inr (on ∙ is)

events_lead : (a : Archive) (events : List Row) → After a (with_events a events)
events_lead a [] = inr (with-none a)
events_lead a (x ∷ xs) = inl (omega arith)

appends_lead : (a b : Archive) → Appends a b → After a b
appends_lead a b put = subst (After a) (sym put.1) (events_lead a put.0)

pub journal_stays : (count : ℕ) (a b c : Archive) → Appends a b → Calls Appends count b c → c ≡ a → b ≡ a
journal_stays count a b c one more back =
    go (appends_lead a b one) (subst (After b) back (calls_lead Appends After (λ x. inr refl) after_then appends_lead count b c more))
  where
    go : After a b → After b a → b ≡ a
    go (inl up) (inl on) = absurd (omega (arith, up, on))
    go (inl up) (inr is) = sym is
    go (inr is) h = is

-- ---- a book

abbrev rank : Control → ℕ
rank Pending = 2
rank Spent = 1
rank (Finished status) = 0

abbrev total : List Entry → ℕ
total [] = 0
total (e ∷ es) = rank e.state + total es

-- a control that goes on makes the whole less
lower : (id : ℕ) (new : Control) (test : Control → Bool) → ((s : Control) → IsTrue (test s) → rank new < rank s) → (es : List Entry) → Rising es → Has es id test
    → total (in_state es id new) < total es
lower id new test falls [] rise h = absurd h
lower id new test falls (e ∷ es) rise h = go (e.id == id) refl (lower id new test falls es (rest_rise e es rise)) h
  where
    go : (b : Bool) → (e.id == id) ≡ b → (Has es id test → total (in_state es id new) < total es)
        → IsSomeAnd (cond b (Some e) (entry_of es id)) (λ x. IsTrue (test x.state))
        → rank (cond b (in_its_state e new) e).state + total (in_state es id new) < rank e.state + total es
    go true is more passes =
        let here : e.id ≡ id = grind (is, arith) in
        let over = subst (λ (n : ℕ). AllByRecursion (λ (x : Entry). n < x.id) es) here (first_low e es rise) in
        let down = falls e.state passes in
        let rest : total (in_state es id new) ≡ total es = ap total (same_over id new es over) in
        omega (arith, down, rest)
    go false is more passes = let rest = more passes in omega (arith, rest)

spent_falls : (s : Control) → IsTrue (is_pending s) → rank Spent < rank s
spent_falls Pending h = omega arith
spent_falls Spent h = absurd cc
spent_falls (Finished status) h = absurd cc

finished_falls : (status : ℕ) (s : Control) → IsTrue (not (is_finished s)) → rank (Finished status) < rank s
finished_falls status Pending h = omega arith
finished_falls status Spent h = omega arith
finished_falls status (Finished other) h = absurd cc

-- an id was used, or a control went on, or nothing changed
abbrev GoesOn : Ledger → Ledger → Type 0
GoesOn a b = (a.last_id < b.last_id) ⊎ (((b.last_id ≡ a.last_id) × (total b.entries < total a.entries)) ⊎ (b ≡ a))

last_of : (a b : Ledger) → b ≡ a → b.last_id ≡ a.last_id
last_of a b is = ap (λ (x : Ledger). x.last_id) is

total_of : (a b : Ledger) → b ≡ a → total b.entries ≡ total a.entries
total_of a b is = ap (λ (x : Ledger). total x.entries) is

book_then : (a b c : Ledger) → GoesOn a b → GoesOn b c → GoesOn a c
book_then a b c (inl up) (inl on) = inl (omega (arith, up, on))
book_then a b c (inl up) (inr (inl down)) = inl (let last = down.0 in omega (arith, up, last))
book_then a b c (inl up) (inr (inr is)) = inl (let last = last_of b c is in omega (arith, up, last))
book_then a b c (inr (inl down)) (inl up) = inl (let last = down.0 in omega (arith, up, last))
book_then a b c (inr (inl one)) (inr (inl two)) = inr (inl (two.0 ∙ one.0, (let less = one.1 in let least = two.1 in omega (arith, less, least))))
book_then a b c (inr (inl one)) (inr (inr is)) = inr (inl (last_of b c is ∙ one.0, (let less = one.1 in let same = total_of b c is in omega (arith, less, same))))
book_then a b c (inr (inr is)) h = subst (λ (x : Ledger). GoesOn x c) is h

turns_lead : (a b : Ledger) → Turns a b → GoesOn a b
turns_lead a b h = go h.1
  where
    go : IsAdded a b ⊎ (IsSpent a b ⊎ IsFinished a b) → GoesOn a b
    go (inl it) = subst (GoesOn a) (sym it.2) (inl (omega arith))
    go (inr (inl it)) = subst (GoesOn a) (sym it.2) (inr (inl (refl, lower it.0 Spent is_pending spent_falls a.entries h.0.rising it.1)))
    go (inr (inr it)) =
        subst (GoesOn a) (sym it.3) (inr (inl (refl, lower it.0 (Finished it.1) (λ state. not (is_finished state)) (finished_falls it.1) a.entries h.0.rising it.2)))

pub book_stays : (count : ℕ) (a b c : Ledger) → Turns a b → Calls Turns count b c → c ≡ a → b ≡ a
book_stays count a b c one more back =
    go (turns_lead a b one) (subst (GoesOn b) back (calls_lead Turns GoesOn (λ x. inr (inr refl)) book_then turns_lead count b c more))
  where
    go : GoesOn a b → GoesOn b a → b ≡ a
    go (inl up) (inl on) = absurd (omega (arith, up, on))
    go (inl up) (inr (inl down)) = absurd (let last = down.0 in omega (arith, up, last))
    go (inl up) (inr (inr is)) = sym is
    go (inr (inl down)) (inl up) = absurd (let last = down.0 in omega (arith, up, last))
    go (inr (inl one)) (inr (inl two)) = absurd (let less = one.1 in let least = two.1 in omega (arith, less, least))
    go (inr (inl one)) (inr (inr is)) = sym is
    go (inr (inr is)) h = is
