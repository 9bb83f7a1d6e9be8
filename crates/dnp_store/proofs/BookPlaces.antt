-- Entries by their places, and what is so of the entries of a book at all times.
use Rattle.std.proofs.Common.{◌≡◌, ◌≢◌, ℕ, zero, suc, ◌+◌, ◌<◌, ◌≤◌, ◌==◌, ◌&&◌, nat_le, nat_lt, List, [], ◌∷◌, ◌++◌, set, get_or, length, drop, filter, take, Option, None, Some, Bool, true, false, cond, inl, inr, refl, sym, ap, subst, ◌∙◌, arith, length-append, length-drop}
use Rattle.std.specs.Prelude.{All, IsSome, option_map}
use Rattle.std.specs.List.{AllByRecursion}
use Rattle.std.specs.List.Sorted.{IsNonDecreasingBy, IsPartitionPoint}
use Rattle.std.proofs.lemmas.Bool.{cases_lt}
use Rattle.std.proofs.lemmas.Bool.Decides.{nat_tests}
use Rattle.std.proofs.Math.Seq.{take-add}
use Rattle.std.proofs.lemmas.List.{length-map, take-append-drop, take-append-le, take-map}
use Rattle.std.proofs.lemmas.List.Elements.{All-append, All-head, All-map, All-tail, recursion_from_All}
use Rattle.dnp_controls.specs.declared.book.Entry.{Entry}
use Rattle.dnp_controls.specs.declared.book.State.{State as Control}
use Rattle.dnp_controls.specs.Book.{Ledger, IsSoundLedger, entry_of, in_state, is_pending, next_of}
use Rattle.dnp_store.specs.BookKept.{IsPast}
use Rattle.dnp_store.proofs.Tests.{is_same, is_other}
use Rattle.dnp_store.proofs.BookUpdates.{Rising, first_low, rest_rise, same_over, in_its_state}
use Rattle.dnp_store.proofs.BookHolding.{named, some_is}

pub at_place : (es : List Entry) (place : ℕ) (d : Entry) (id : ℕ) (s : Control) → Rising es → place < length es → (get_or es place d).id ≡ id
    → set es place (in_its_state (get_or es place d) s) ≡ in_state es id s
at_place [] place d id s rise low is = absurd (omega arith)
at_place (e ∷ es) zero d id s rise low is =
    rw (ap (λ (n : ℕ). n == id) is ∙ is_same id)
    (ap (λ (xs : List Entry). in_its_state e s ∷ xs) (sym (same_over id s es (subst (λ (n : ℕ). AllByRecursion (λ (x : Entry). n < x.id) es) is (first_low e es rise)))))
at_place (e ∷ es) (suc k) d id s rise low is =
    let less : e.id < (get_or es k d).id = rise 0 (suc k) d (omega arith) (omega arith) in
    rw (is_other e.id id (λ same. absurd (omega arith))) (ap (λ (xs : List Entry). e ∷ xs) (at_place es k d id s (rest_rise e es rise) (omega arith) is))

-- an entry's id is at most the last one used
pub id_low : (book : Ledger) (id : ℕ) → IsSoundLedger book → IsSome (entry_of book.entries id) → id ≤ book.last_id
id_low book id sound there = go (entry_of book.entries id) refl there
  where
    low : (es : List Entry) (e : Entry) → AllByRecursion (λ (x : Entry). x.id ≤ book.last_id) es → entry_of es id ≡ Some e → e.id ≤ book.last_id
    low [] e all h = absurd cc
    low (x ∷ es) e all h = pick (x.id == id) (low es e all.1) h
      where
        pick : (b : Bool) → (entry_of es id ≡ Some e → e.id ≤ book.last_id) → cond b (Some x) (entry_of es id) ≡ Some e → e.id ≤ book.last_id
        pick true more at = subst (λ (y : Entry). y.id ≤ book.last_id) (some_is x e at) all.0
        pick false more at = more at

    go : (o : Option Entry) → entry_of book.entries id ≡ o → IsSome o → id ≤ book.last_id
    go None is some = absurd cc
    go (Some e) is some =
        subst (λ (n : ℕ). n ≤ book.last_id) (named book.entries id e is)
        (low book.entries e (recursion_from_All (λ (x : Entry). x.id ≤ book.last_id) book.entries sound.up_to_last) is)

there_of : (es : List Entry) (id : ℕ) (r : Option Control) → r ≡ option_map (λ (e : Entry). e.state) (entry_of es id) → IsSome r → IsSome (entry_of es id)
there_of es id r is some = go (entry_of es id) (subst IsSome is some)
  where
    go : (o : Option Entry) → IsSome (option_map (λ (e : Entry). e.state) o) → IsSome o
    go None h = absurd cc
    go (Some e) h = refl

-- likewise where the entries were looked at as they are lent
pub there_in : (shown es : List Entry) (id : ℕ) (r : Option Control) (s : Control) → shown ≡ es
    → r ≡ option_map (λ (e : Entry). e.state) (entry_of shown id) → r ≡ Some s → IsSome (entry_of es id)
there_in shown es id r s same is some =
    there_of es id r (is ∙ ap (λ xs. option_map (λ (e : Entry). e.state) (entry_of xs id)) same) (subst IsSome (sym some) refl)

-- ---- an id and its place

pub entry_at : (es : List Entry) (place : ℕ) (d : Entry) (id : ℕ) → Rising es → place < length es → (get_or es place d).id ≡ id
    → entry_of es id ≡ Some (get_or es place d)
entry_at [] place d id rise low is = absurd (omega arith)
entry_at (e ∷ es) zero d id rise low is = rw (ap (λ (n : ℕ). n == id) is ∙ is_same id) refl
entry_at (e ∷ es) (suc k) d id rise low is =
    let less : e.id < (get_or es k d).id = rise 0 (suc k) d (omega arith) (omega arith) in
    rw (is_other e.id id (λ same. absurd (omega arith))) (entry_at es k d id (rest_rise e es rise) (omega arith) is)

none_named : (es : List Entry) (id : ℕ) → ((k : ℕ) (d : Entry) → k < length es → (get_or es k d).id ≢ id) → entry_of es id ≡ None
none_named [] id other = refl
none_named (e ∷ es) id other =
    rw (is_other e.id id (other 0 e (omega arith))) (none_named es id (λ k d low. other (suc k) d (omega arith)))

below : (m n : ℕ) → nat_lt m n ≡ true → m < n
below m n h = grind (h, arith, nat_tests)

not_below : (m n : ℕ) → nat_lt m n ≡ false → n ≤ m
not_below m n h = grind (h, arith, nat_tests)

-- where the entries with lesser ids end, the first of the others alone can have the id
pub none_there : (es : List Entry) (id k : ℕ) → Rising es
    → IsPartitionPoint (λ (e : Entry). nat_lt e.id id ≡ true) (λ (e : Entry). nat_lt e.id id ≡ false) es k
    → ((d : Entry) → k < length es → (get_or es k d).id ≢ id) → entry_of es id ≡ None
none_there es id k rise split other =
    none_named es id (λ j d low same. elim (cases_lt j k) [
      | inl before ↦ (let less = below (get_or es j d).id id (split.0 j d (omega arith) before) in absurd (omega arith))
      | inr from ↦ elim (cases_lt k j) [
        | inl past ↦ (let less = rise k j d past low in let more = not_below (get_or es k d).id id (split.1 k d (omega arith) (omega arith)) in absurd (omega arith))
        | inr up ↦ (let here : j ≡ k = omega arith in other d (omega arith) (ap (λ (n : ℕ). (get_or es n d).id) (sym here) ∙ same))
      ]
    ])

pub unset : (es : List Entry) (id : ℕ) (s : Control) → entry_of es id ≡ None → in_state es id s ≡ es
unset [] id s none = refl
unset (e ∷ es) id s none = go (e.id == id) (unset es id s) none
  where
    go : (b : Bool) → (entry_of es id ≡ None → in_state es id s ≡ es) → cond b (Some e) (entry_of es id) ≡ None
        → cond b (in_its_state e s) e ∷ in_state es id s ≡ e ∷ es
    go true more is = absurd cc
    go false more is = ap (λ (xs : List Entry). e ∷ xs) (more is)

-- ---- those with ids over a number

pub no_fall : (es : List Entry) → Rising es → IsNonDecreasingBy (λ (e : Entry). e.id) es
no_fall es rise i j d le low =
    elim (cases_lt i j) [
      | inl before ↦ (let less = rise i j d before low in omega arith)
      | inr same ↦ (let e : i ≡ j = omega arith in let f : (get_or es i d).id ≡ (get_or es j d).id = ap (λ (n : ℕ). (get_or es n d).id) e in omega arith)
    ]

not_over : (from : ℕ) (e : Entry) → nat_le e.id from ≡ true → nat_lt from e.id ≡ false
not_over from e h = grind (arith, nat_tests)

is_over : (from : ℕ) (e : Entry) → nat_le e.id from ≡ false → nat_lt from e.id ≡ true
is_over from e h = grind (arith, nat_tests)

-- where the first k entries don't pass and all others do, these are what a filter keeps
kept_from : (p : Entry → Bool) (es : List Entry) (k : ℕ) → IsPartitionPoint (λ e. p e ≡ false) (λ e. p e ≡ true) es k → drop k es ≡ filter p es
kept_from p [] zero split = refl
kept_from p [] (suc k) split = refl
kept_from p (e ∷ es) zero split =
    let here : p e ≡ true = split.1 0 e (omega arith) (omega arith) in
    rw here (ap (λ l. e ∷ l) (kept_from p es zero (λ j d len low. absurd (omega arith), λ j d more len. split.1 (suc j) d (omega arith) (omega arith))))
kept_from p (e ∷ es) (suc k) split =
    let here : p e ≡ false = split.0 0 e (omega arith) (omega arith) in
    rw here (kept_from p es k (λ j d len low. split.0 (suc j) d (omega arith) (omega arith), λ j d more len. split.1 (suc j) d (omega arith) (omega arith)))

pub over_kept : (es : List Entry) (from k : ℕ) → IsPartitionPoint (λ (e : Entry). nat_le e.id from ≡ true) (λ (e : Entry). nat_le e.id from ≡ false) es k
    → drop k es ≡ filter (λ (e : Entry). nat_lt from e.id) es
over_kept es from k split =
    kept_from (λ (e : Entry). nat_lt from e.id) es k (
      λ j d len low. not_over from (get_or es j d) (split.0 j d len low),
      λ j d more len. is_over from (get_or es j d) (split.1 j d more len),
    )

-- ---- those that are past pending

pub past_none : (es : List Entry) → IsPast es 0
past_none es = record { within = omega arith; none = λ k d low. absurd (omega arith) }

pub past_push : (es : List Entry) (first : ℕ) (e : Entry) → IsPast es first → IsPast (es ++ e ∷ []) first
past_push es first e h = record {
  within = (let within = h.within in omega (arith, length-append es (e ∷ [])));
  none = subst (λ (xs : List Entry). All (λ (x : Entry). is_pending x.state ≡ false) xs) (sym (take-append-le first es (e ∷ []) h.within)) h.none;
}

-- an entry that comes into another state stays past pending
still_past : (e : Entry) (id : ℕ) (s : Control) → is_pending s ≡ false → is_pending e.state ≡ false
    → is_pending (cond (e.id == id) (in_its_state e s) e).state ≡ false
still_past e id s done past = go (e.id == id)
  where
    go : (b : Bool) → is_pending (cond b (in_its_state e s) e).state ≡ false
    go true = done
    go false = past

pub past_turned : (es : List Entry) (first id : ℕ) (s : Control) → is_pending s ≡ false → IsPast es first → IsPast (in_state es id s) first
past_turned es first id s done h = record {
  within = (let within = h.within in omega (
    arith,
    length-map es (λ (e : Entry). cond (e.id == id) (in_its_state e s) e),
  ));
  none = (let turn = λ (e : Entry). cond (e.id == id) (in_its_state e s) e in
      subst (λ (xs : List Entry). All (λ (x : Entry). is_pending x.state ≡ false) xs) (sym (take-map turn first es))
      (All-map (λ (x : Entry). is_pending x.state ≡ false) turn (take first es)
      (λ k d low. still_past (get_or (take first es) k d) id s done (h.none k d low))));
}

pub past_on : (es : List Entry) (first more : ℕ) → IsPast es first → more ≤ length (drop first es)
    → All (λ (x : Entry). is_pending x.state ≡ false) (take more (drop first es)) → IsPast es (first + more)
past_on es first more h low then = record {
  within = (let within = h.within in omega (arith, length-drop first es));
  none = subst (λ (xs : List Entry). All (λ (x : Entry). is_pending x.state ≡ false) xs) (sym (take-add first more es))
      (All-append (λ (x : Entry). is_pending x.state ≡ false) (take first es) (take more (drop first es)) h.none then);
}

-- the next pending entry comes after those that are past
next_past : (front rest : List Entry) (target : ℕ) → All (λ (x : Entry). is_pending x.state ≡ false) front → next_of (front ++ rest) target ≡ next_of rest target
next_past [] rest target past = refl
next_past (e ∷ front) rest target past =
    ap (λ b. cond (b && e.target == target) (Some e) (next_of (front ++ rest) target)) (All-head (λ (x : Entry). is_pending x.state ≡ false) e front past)
    ∙ next_past front rest target (All-tail (λ (x : Entry). is_pending x.state ≡ false) e front past)

pub next_after : (es : List Entry) (first target : ℕ) → All (λ (x : Entry). is_pending x.state ≡ false) (take first es)
    → next_of (drop first es) target ≡ next_of es target
next_after es first target past = sym (next_past (take first es) (drop first es) target past) ∙ ap (λ xs. next_of xs target) (take-append-drop first es)
