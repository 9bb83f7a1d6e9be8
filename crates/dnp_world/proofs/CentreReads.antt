-- What was read of a store of one centre: the whole is what it was, and its stores are as well as they were.
use Rattle.std.proofs.Common.{◌≡◌, ◌||◌, ◌&&◌, ℕ, ◌<◌, if◌then◌else◌, Bool, true, false, sym, ap, ◌∙◌, subst, arith}
use Rattle.std.proofs.lemmas.Bool.{or_left, or_right}
use Rattle.dnp_concentrator.specs.Centre.{book_of, journal_of, link_of, with_book, with_journal}
use Rattle.dnp_concentrator.specs.Concentrator as concentrator
use Rattle.dnp_concentrator.specs.PerCentre.{at, for_each, is_any, of_each, with_at}
use Rattle.dnp_concentrator.specs.declared.centre.Centre.{Centre}
use Rattle.dnp_concentrator.specs.declared.concentrator.Concentrator.{Concentrator}
use Rattle.dnp_concentrator.specs.declared.per_centre.PerCentre.{PerCentre}
use Rattle.dnp_controls.specs.Book.{Ledger}
use Rattle.dnp_eventbuf.specs.Archive.{Archive}
use Rattle.dnp_eventbuf.specs.Sides.{ForEach, beside_of, centre_in, other_than, pair_in}
use Rattle.dnp_eventbuf.specs.EventBuffer.{EventBuffer}
use Rattle.dnp_eventbuf.specs.declared.pair.TheConstants.{CENTRES}
use Rattle.dnp_eventbuf.specs.declared.side.Side.{Side}
use Rattle.dnp_world.specs.Causes.{TellsDevice}
use Rattle.dnp_world.specs.Centres.{is_quiet_on}
use Rattle.dnp_world.specs.Rounds.{is_quiet_above}
use Rattle.dnp_world.specs.Shown.{IsBookWell, Stores, StoresAreWell, is_one_stopped}
use Rattle.dnp_world.specs.SystemParts.{centre_of, concentrator_of}
use Rattle.dnp_world.specs.Systems.{CentreState}
use Rattle.dnp_world.specs.Wholes.{Whole, seen_by}
use Rattle.dnp_world.specs.declared.event.Link.TheVariants.{Above}
use Rattle.dnp_world.proofs.CentreStores.{stores_with, tells_there, well_before, well_there}
use Rattle.dnp_world.proofs.PerCentre.{for_others, made_alike, made_there, own_and_others, same_there, seen_there}
use Rattle.dnp_world.proofs.Seen.{own_there}

-- ---- a centre

-- the link of a centre
pub link_there : {J B : Type 0} (archive : J → Archive) (orders : B → Ledger) (n : ℕ) (centres : PerCentre (Centre J B)) (was : Centre J B) → was ≡ at n centres
    → link_of was ≡ (at n (of_each (centre_of archive orders) centres)).link
link_there {J} {B} archive orders n centres was there =
    ap (λ (c : Centre J B). link_of c) there ∙ sym (ap (λ (m : CentreState). m.link) (seen_there (centre_of archive orders) n centres))

-- a centre's own link is one of the plan
pub quiet_own : (n : ℕ) → n < CENTRES → (w : Whole) → is_quiet_on w (Above n) ≡ is_quiet_above (seen_by n w)
quiet_own n low w = ap (λ (there : Bool). there && is_quiet_above (seen_by n w)) (own_there n low)

-- ---- a store of a centre was read

-- the stores with these centres
abbrev stores_at : {Q J A B : Type 0} → Concentrator Q A → PerCentre (Centre J B) → Stores Q J A B
stores_at middle centres = stores_with (concentrator.queue_of middle) (concentrator.book_of middle) centres

module _ {Q J A B : Type 0} {queue : Q → Type 0} {journal : J → Type 0} {control : A → Type 0} {control_stopped : A → Bool} {order : B → Type 0}
    {order_stopped : B → Bool} (middle : Concentrator Q A) (n : ℕ) (low : n < CENTRES) (t : PerCentre (Centre J B)) where
  -- the centre is well, with what was read of it
  own_well : (is : Centre J B) → StoresAreWell queue journal control control_stopped order order_stopped (stores_at middle (with_at n t is))
      → journal (journal_of is) × IsBookWell order order_stopped (book_of is)
  own_well is =
      well_there queue journal control control_stopped order order_stopped (concentrator.queue_of middle) (concentrator.book_of middle) n low t is

  -- and all were before, where the centre was
  all_well : {was : Centre J B} → was ≡ at n t → (is : Centre J B) → (journal (journal_of is) → journal (journal_of was))
      → (IsBookWell order order_stopped (book_of is) → IsBookWell order order_stopped (book_of was))
      → StoresAreWell queue journal control control_stopped order order_stopped (stores_at middle (with_at n t is))
      → StoresAreWell queue journal control control_stopped order order_stopped (stores_at middle t)
  all_well {was} there is =
      well_before queue journal control control_stopped order order_stopped (concentrator.queue_of middle) (concentrator.book_of middle) n low t was is there

  pub well_before_book : {was : Centre J B} → was ≡ at n t → {book : B} (read : B) → book ≡ book_of was → (order read → order book)
      → (order read → order_stopped book ≡ false)
      → StoresAreWell queue journal control control_stopped order order_stopped (stores_at middle (with_at n t (with_book was read)))
      → StoresAreWell queue journal control control_stopped order order_stopped (stores_at middle t)
  well_before_book {was} there {book} read its held runs =
      all_well there (with_book was read) (λ is. is)
      (λ w. subst (λ (b : B). IsBookWell order order_stopped b) its (record { is = held w.is; runs = runs w.is }))

  pub well_before_journal : {was : Centre J B} → was ≡ at n t → {its_journal : J} (read : J) → its_journal ≡ journal_of was
      → (journal read → journal its_journal)
      → StoresAreWell queue journal control control_stopped order order_stopped (stores_at middle (with_at n t (with_journal was read)))
      → StoresAreWell queue journal control control_stopped order order_stopped (stores_at middle t)
  well_before_journal {was} there {its_journal} read its held =
      all_well there (with_journal was read) (λ is. subst (λ (j : J). journal j) its (held is)) (λ w. w)

  -- what was read of a book is of the centre's orders
  pub book_said : (archive : J → Archive) (orders : B → Ledger) {was : Centre J B} → was ≡ at n t → {book : B} (read : B) → book ≡ book_of was
      → (Says : Ledger → Type 0) → (order read → Says (orders book))
      → StoresAreWell queue journal control control_stopped order order_stopped (stores_at middle (with_at n t (with_book was read)))
      → Says (at n (of_each (centre_of archive orders) t)).orders
  book_said archive orders {was} there {book} read its Says said well =
      subst Says
      (ap orders its ∙ ap (λ (c : Centre J B). orders (book_of c)) there ∙ sym (ap (λ (m : CentreState). m.orders) (seen_there (centre_of archive orders) n t)))
      (said (own_well (with_book was read) well).1.is)

  pub book_read : (archive : J → Archive) (orders : B → Ledger) {was : Centre J B} → was ≡ at n t → (rest : Whole) {book read : B} → book ≡ book_of was
      → (order read → orders read ≡ orders book)
      → StoresAreWell queue journal control control_stopped order order_stopped (stores_at middle (with_at n t (with_book was read)))
      → record rest { centres = of_each (centre_of archive orders) (with_at n t (with_book was read)) }
      ≡ record rest { centres = of_each (centre_of archive orders) t }
  book_read archive orders {was} there rest {book} {read} its same well =
      ap (λ (centres : PerCentre CentreState). record rest { centres = centres })
      (same_there (centre_of archive orders) n t was (with_book was read) there
      (ap (λ (l : Ledger). let c : CentreState = centre_of archive orders was in record c { orders = l })
      (same (own_well (with_book was read) well).1.is ∙ ap orders its)))

  -- and of a journal, of its rows
  pub journal_said : (archive : J → Archive) (orders : B → Ledger) {was : Centre J B} → was ≡ at n t → {its_journal : J} (read : J)
      → its_journal ≡ journal_of was → (Says : Archive → Type 0) → (journal read → archive read ≡ archive its_journal) → (journal read → Says (archive read))
      → StoresAreWell queue journal control control_stopped order order_stopped (stores_at middle (with_at n t (with_journal was read)))
      → Says (at n (of_each (centre_of archive orders) t)).journal
  journal_said archive orders {was} there {its_journal} read its Says same said well =
      subst Says
      (same (own_well (with_journal was read) well).0 ∙ ap archive its ∙ ap (λ (c : Centre J B). archive (journal_of c)) there
      ∙ sym (ap (λ (m : CentreState). m.journal) (seen_there (centre_of archive orders) n t))) (said (own_well (with_journal was read) well).0)

  pub journal_read : (archive : J → Archive) (orders : B → Ledger) {was : Centre J B} → was ≡ at n t → (rest : Whole) {its_journal read : J}
      → its_journal ≡ journal_of was → (journal read → archive read ≡ archive its_journal)
      → StoresAreWell queue journal control control_stopped order order_stopped (stores_at middle (with_at n t (with_journal was read)))
      → record rest { centres = of_each (centre_of archive orders) (with_at n t (with_journal was read)) }
      ≡ record rest { centres = of_each (centre_of archive orders) t }
  journal_read archive orders {was} there rest {its_journal} {read} its same well =
      ap (λ (centres : PerCentre CentreState). record rest { centres = centres })
      (same_there (centre_of archive orders) n t was (with_journal was read) there
      (ap (λ (a : Archive). let c : CentreState = centre_of archive orders was in record c { journal = a })
      (same (own_well (with_journal was read) well).0 ∙ ap archive its)))

-- ---- which of them has answered Device

module _ {Q J A B : Type 0} (queue_stopped : Q → Bool) (journal_stopped : J → Bool) (control_stopped : A → Bool) (order_stopped : B → Bool)
    (middle : Concentrator Q A) (n : ℕ) (low : n < CENTRES) (t : PerCentre (Centre J B)) where
  abbrev stopped_with : PerCentre (Centre J B) → Bool
  stopped_with centres = is_one_stopped queue_stopped journal_stopped control_stopped order_stopped (stores_at middle centres)

  tells_of : (was is : Centre J B) (says : Type 0) → was ≡ at n t
      → TellsDevice (journal_stopped (journal_of was) || order_stopped (book_of was)) (journal_stopped (journal_of is) || order_stopped (book_of is)) says
      → TellsDevice (stopped_with t) (stopped_with (with_at n t is)) says
  tells_of =
      tells_there queue_stopped journal_stopped control_stopped order_stopped (concentrator.queue_of middle) (concentrator.book_of middle) n low t

  pub tells_by_book : (was : Centre J B) → was ≡ at n t → (book read : B) (says : Type 0) → book ≡ book_of was
      → TellsDevice (order_stopped book) (order_stopped read) says → TellsDevice (stopped_with t) (stopped_with (with_at n t (with_book was read))) says
  tells_by_book was there book read says its tells =
      tells_of was (with_book was read) says there (record {
        stopped = λ is. or_right (journal_stopped (journal_of was)) (order_stopped read) (tells.stopped is);
        runs_on = λ not. ap (λ (b : Bool). journal_stopped (journal_of was) || b) (tells.runs_on not ∙ ap order_stopped its);
      })

  pub tells_by_journal : (was : Centre J B) → was ≡ at n t → (its_journal read : J) (says : Type 0) → its_journal ≡ journal_of was
      → TellsDevice (journal_stopped its_journal) (journal_stopped read) says
      → TellsDevice (stopped_with t) (stopped_with (with_at n t (with_journal was read))) says
  tells_by_journal was there its_journal read says its tells =
      tells_of was (with_journal was read) says there (record {
        stopped = λ is. or_left (journal_stopped read) (order_stopped (book_of was)) (tells.stopped is);
        runs_on = λ not. ap (λ (b : Bool). b || order_stopped (book_of was)) (tells.runs_on not ∙ ap journal_stopped its);
      })

-- ---- a side of the queue was read

-- the queue is what it was, by its side for each centre
pub queue_read : {Q A : Type 0} (buffer : Q → ℕ → EventBuffer) (ledger : A → Ledger) (rest : Whole) (c : Concentrator Q A) (was is : Q)
    → was ≡ concentrator.queue_of c → ForEach (λ n. buffer is n ≡ buffer was n)
    → record rest { concentrator = concentrator_of buffer ledger (concentrator.with_queue c is) }
    ≡ record rest { concentrator = concentrator_of buffer ledger c }
queue_read {Q} buffer ledger rest c was is its same =
    ap (λ (queues : PerCentre EventBuffer). record rest { concentrator = record (concentrator_of buffer ledger c) { queues = queues } })
    (made_alike (buffer is) (buffer (concentrator.queue_of c)) (λ n low. same n low ∙ ap (λ (q : Q). buffer q n) its))

-- what was read of it for a centre is that of the queue that the centre sees
pub queue_there : {Q A : Type 0} (buffer : Q → ℕ → EventBuffer) (n : ℕ) → n < CENTRES → (c : Concentrator Q A) (was : Q) → was ≡ concentrator.queue_of c
    → buffer was n ≡ at n (for_each (buffer (concentrator.queue_of c)))
queue_there {Q} {A} buffer n low c was its =
    ap (λ (q : Q). buffer q n) its ∙ sym (made_there (buffer (concentrator.queue_of c)) n low)

-- a side's centre is one of those that there are
pub centre_low : {Q : Type 0} (s : Side Q) → centre_in s < CENTRES
centre_low s = by s.is_second
  where
    by : (b : Bool) → (if b then 1 else 0) < CENTRES
    by true = omega arith
    by false = omega arith

-- by what a call of one side leaves: where it stands, what it holds, and what is beside it
module _ {Q : Type 0} (buffer : Q → ℕ → EventBuffer) (n : ℕ) (q : Q) (old new : Side Q) (its : pair_in old ≡ q) (its_centre : centre_in old ≡ n)
    (stays : centre_in new ≡ centre_in old) where
  pub own_side : buffer (pair_in new) (centre_in new) ≡ buffer (pair_in old) (centre_in old) → buffer (pair_in new) n ≡ buffer q n
  own_side same = cc

  other_side : beside_of buffer (centre_in new) (pair_in new) ≡ beside_of buffer (centre_in old) (pair_in old)
      → buffer (pair_in new) (other_than n) ≡ buffer q (other_than n)
  other_side beside = cc

  pub all_sides : n < CENTRES → buffer (pair_in new) (centre_in new) ≡ buffer (pair_in old) (centre_in old)
      → beside_of buffer (centre_in new) (pair_in new) ≡ beside_of buffer (centre_in old) (pair_in old)
      → ForEach (λ m. buffer (pair_in new) m ≡ buffer q m)
  all_sides low same beside =
      own_and_others (λ m. buffer (pair_in new) m ≡ buffer q m) n (own_side same)
      (for_others (λ m. buffer (pair_in new) m ≡ buffer q m) n low (other_side beside))

-- the stores, where the queue alone was read
pub well_before_queue : {Q J A B : Type 0} {queue : Q → Type 0} {journal : J → Type 0} {control : A → Type 0} {control_stopped : A → Bool}
    {order : B → Type 0} {order_stopped : B → Bool} (was is queues : Q) (controls : A) (t : PerCentre (Centre J B)) → was ≡ queues → (queue is → queue was)
    → StoresAreWell queue journal control control_stopped order order_stopped (stores_with is controls t)
    → StoresAreWell queue journal control control_stopped order order_stopped (stores_with queues controls t)
well_before_queue {queue = queue} was is queues controls t its held well = record {
  queues_are = subst queue its (held well.queues_are);
  journals_are = well.journals_are;
  controls_are = well.controls_are;
  orders_are = well.orders_are;
}

pub tells_by_queue : {Q J A B : Type 0} (queue_stopped : Q → Bool) (journal_stopped : J → Bool) (control_stopped : A → Bool) (order_stopped : B → Bool)
    (was is queues : Q) (controls : A) (t : PerCentre (Centre J B)) (says : Type 0) → was ≡ queues → TellsDevice (queue_stopped was) (queue_stopped is) says
    → TellsDevice (is_one_stopped queue_stopped journal_stopped control_stopped order_stopped (stores_with queues controls t))
    (is_one_stopped queue_stopped journal_stopped control_stopped order_stopped (stores_with is controls t)) says
tells_by_queue {Q} {J} {A} {B} queue_stopped journal_stopped control_stopped order_stopped was is queues controls t says its tells = record {
  stopped = λ said. or_left (queue_stopped is || control_stopped controls) others (or_left (queue_stopped is) (control_stopped controls) (tells.stopped said));
  runs_on = λ not. ap (λ (b : Bool). (b || control_stopped controls) || others) (tells.runs_on not ∙ ap queue_stopped its);
}
  where
    others : Bool
    others = is_any (of_each (λ (c : Centre J B). journal_stopped (journal_of c) || order_stopped (book_of c)) t)
