-- The stores of a whole system, where those of one centre were written.
use Rattle.std.proofs.Common.{◌≡◌, ◌||◌, ℕ, ◌<◌, Bool, refl, sym, ap, ap₂, ◌∙◌, subst}
use Rattle.std.proofs.lemmas.Bool.{or_left, or_right}
use Rattle.dnp_concentrator.specs.Centre.{book_of, journal_of}
use Rattle.dnp_concentrator.specs.PerCentre.{at, is_any, of_each, pair_of, with_at}
use Rattle.dnp_concentrator.specs.declared.centre.Centre.{Centre}
use Rattle.dnp_concentrator.specs.declared.per_centre.PerCentre.{PerCentre}
use Rattle.dnp_eventbuf.specs.declared.pair.TheConstants.{CENTRES}
use Rattle.dnp_world.specs.Causes.{TellsDevice}
use Rattle.dnp_world.specs.Shown.{IsBookWell, Stores, StoresAreWell, is_one_stopped}
use Rattle.dnp_world.proofs.PerCentre.{any_there, kept_there, own_and_others, same_there, seen_elsewhere, seen_here, seen_was, seen_written}

-- with these centres
abbrev pub stores_with : {Q J A B : Type 0} → Q → A → PerCentre (Centre J B) → Stores Q J A B
stores_with queues controls t = record {
  queues = queues;
  journals = pair_of (of_each journal_of t);
  controls = controls;
  orders = pair_of (of_each book_of t);
}

-- those of the centre are what they were
pub stores_kept : {Q J A B : Type 0} (queues : Q) (controls : A) (n : ℕ) (t : PerCentre (Centre J B)) (was k : Centre J B) → was ≡ at n t
    → journal_of k ≡ journal_of was → book_of k ≡ book_of was → stores_with queues controls (with_at n t k) ≡ stores_with queues controls t
stores_kept {Q} {J} {A} {B} queues controls n t was k there journal book =
    ap₂ (λ (journals : PerCentre J) (orders : PerCentre B).
    let stores : Stores Q J A B = record { queues = queues; journals = pair_of journals; controls = controls; orders = pair_of orders } in stores)
    (same_there journal_of n t was k there journal) (same_there book_of n t was k there book)

-- ---- they are well

module _ {Q J A B : Type 0} (queue : Q → Type 0) (journal : J → Type 0) (control : A → Type 0) (control_stopped : A → Bool) (order : B → Type 0)
    (order_stopped : B → Bool) where
  abbrev pub AreWell : Stores Q J A B → Type 0
  AreWell s = StoresAreWell queue journal control control_stopped order order_stopped s

  abbrev OrdersAre : B → Type 0
  OrdersAre book = IsBookWell order order_stopped book

  -- so are the centre's
  pub well_there : (queues : Q) (controls : A) (n : ℕ) → n < CENTRES → (t : PerCentre (Centre J B)) (k : Centre J B)
      → AreWell (stores_with queues controls (with_at n t k)) → journal (journal_of k) × IsBookWell order order_stopped (book_of k)
  well_there queues controls n low t k well =
      (subst journal (seen_here journal_of n low t k) (well.journals_are n low), subst OrdersAre (seen_here book_of n low t k) (well.orders_are n low))

  -- and they were, where the centre's were
  pub well_before : (queues : Q) (controls : A) (n : ℕ) → n < CENTRES → (t : PerCentre (Centre J B)) (was k : Centre J B) → was ≡ at n t
      → (journal (journal_of k) → journal (journal_of was)) → (IsBookWell order order_stopped (book_of k) → IsBookWell order order_stopped (book_of was))
      → AreWell (stores_with queues controls (with_at n t k)) → AreWell (stores_with queues controls t)
  well_before queues controls n low t was k there journals orders well =
      let own = well_there queues controls n low t k well in
      record {
        queues_are = well.queues_are;
        journals_are = own_and_others (λ m. journal (at m (of_each journal_of t))) n
            (subst journal (sym (seen_was journal_of n t was there)) (journals own.0))
            (λ m few apart. subst journal (seen_elsewhere journal_of n low t k m few apart) (well.journals_are m few));
        controls_are = well.controls_are;
        orders_are = own_and_others (λ m. OrdersAre (at m (of_each book_of t))) n
            (subst OrdersAre (sym (seen_was book_of n t was there)) (orders own.1))
            (λ m few apart. subst OrdersAre (seen_elsewhere book_of n low t k m few apart) (well.orders_are m few));
      }

-- ---- one has answered Device

first_tells : (p x y r : Bool) (says : Type 0) → TellsDevice x y says → TellsDevice (p || (x || r)) (p || (y || r)) says
first_tells p x y r says tells = record {
  stopped = λ is. or_right p (y || r) (or_left y r (tells.stopped is));
  runs_on = λ not. ap (λ (b : Bool). p || (b || r)) (tells.runs_on not);
}

-- what the centre says of its stores it says of all
pub tells_there : {Q J A B : Type 0} (queue_stopped : Q → Bool) (journal_stopped : J → Bool) (control_stopped : A → Bool) (order_stopped : B → Bool)
    (queues : Q) (controls : A) (n : ℕ) → n < CENTRES → (t : PerCentre (Centre J B)) (was k : Centre J B) (says : Type 0) → was ≡ at n t
    → TellsDevice (journal_stopped (journal_of was) || order_stopped (book_of was)) (journal_stopped (journal_of k) || order_stopped (book_of k)) says
    → TellsDevice (is_one_stopped queue_stopped journal_stopped control_stopped order_stopped (stores_with queues controls t))
    (is_one_stopped queue_stopped journal_stopped control_stopped order_stopped (stores_with queues controls (with_at n t k))) says
tells_there {Q} {J} {A} {B} queue_stopped journal_stopped control_stopped order_stopped queues controls n low t was k says there tells =
    let tests : PerCentre Bool = of_each stopped t in
    let any = any_there tests n low in
    let before : is_any tests ≡ (stopped was || any.0) =
    ap is_any (sym (kept_there n tests (stopped was) (stopped was) (sym (seen_was stopped n t was there)) refl)) ∙ any.1 (stopped was) in
    let after : is_any (of_each stopped (with_at n t k)) ≡ (stopped k || any.0) = ap is_any (seen_written stopped n t k) ∙ any.1 (stopped k) in
    subst (λ (a : Bool). TellsDevice (others || a) (others || is_any (of_each stopped (with_at n t k))) says) (sym before)
    (subst (λ (b : Bool). TellsDevice (others || (stopped was || any.0)) (others || b) says) (sym after)
    (first_tells others (stopped was) (stopped k) any.0 says tells))
  where
    stopped : Centre J B → Bool
    stopped c = journal_stopped (journal_of c) || order_stopped (book_of c)

    others : Bool
    others = queue_stopped queues || control_stopped controls
