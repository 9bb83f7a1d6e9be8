-- An event keeps what stands behind a system's lists, and adds to what happened what it made.
use Rattle.std.proofs.Common.{◌≡◌, ◌≢◌, ℕ, ◌==◌, Bool, true, false, cond, List, ◌++◌, length, refl, sym, ap, ◌∙◌, subst, arith}
use Rattle.std.specs.List.{count_by}
use Rattle.std.specs.List.Sorted.{IsPermutation}
use Rattle.std.proofs.lemmas.Bool.Decides.{Decides-eqb}
use Rattle.std.proofs.lemmas.List.{length-append, length-map}
use Rattle.std.proofs.lemmas.List.Elements.{filter_map-append}
use Rattle.dnp_objects.specs.declared.row.Row.{Row}
use Rattle.dnp_objects.specs.declared.command.Command.{Command}
use Rattle.dnp_objects.specs.Counts.{IsCoveredBy}
use Rattle.dnp_eventbuf.specs.Buffered.{buffered_row}
use Rattle.dnp_concentrator.specs.declared.span.Spans.{Spans}
use Rattle.dnp_concentrator.specs.Mapped.{row_below, command_below}
use Rattle.dnp_world.specs.Behind.{Elsewhere, Links, with_links, IsBehind, OneEvent, made_at, rows_of}
use Rattle.dnp_world.specs.Kept.{KeptLists, shown_of, rows_below, commands_below, orders_in, used_orders, commands_in, used_commands}
use Rattle.dnp_world.specs.LawLink.{LawLink}
use Rattle.dnp_world.specs.Moves.{Moves}
use Rattle.dnp_world.specs.Reports.{Report, Holds, happened, IsFate}
use Rattle.dnp_world.specs.Standing.{CarriesLaw}
use Rattle.dnp_world.specs.Stations.{of_substation, HasSameCounts}
use Rattle.dnp_world.specs.Systems.{at_substation}
use Rattle.dnp_world.proofs.Counting.{count_by-append}
use Rattle.dnp_world.proofs.Headline.{LinkLaws, happened_stood}
use Rattle.dnp_world.proofs.SystemCounts.{same_permutation, same_refl, same_sym, same_trans, same_more, same_length, same_filter_map, covered_of_substation, of_substation-append, more_here, none_there}

-- what holds of the link that moved, and of each other, holds of all
pub by_substation : (P : ℕ → LawLink → Type 0) (links : Links) (substation : ℕ) (below above : LawLink) → P substation below
    → ((i : ℕ) → i ≢ substation → P i (links.below i)) → (i : ℕ) → P i ((with_links links substation below above).below i)
by_substation P links substation below above here there i = by (i == substation) refl
  where
    by : (b : Bool) → (i == substation) ≡ b → P i (cond b below (links.below i))
    by true e = subst (λ (n : ℕ). P n below) (sym ((Decides-eqb i substation).0 e)) here
    by false e = there i (λ same. absurd (differs e ((Decides-eqb i substation).1 same)))
      where
        differs : (i == substation) ≡ false → (i == substation) ≡ true → ⊥
        differs f t = cc

-- A list of each link, and one of things of all substations that shows it: both get the same for one substation.
list_kept : {A : Type 0} (of : LawLink → List A) (links : Links) (substation : ℕ) (below above : LawLink) (old new : List (ℕ × A)) (more : List A)
    → ((i : ℕ) → HasSameCounts (of (links.below i)) (of_substation i old))
    → HasSameCounts (of below) (of (links.below substation) ++ more) → HasSameCounts new (old ++ at_substation substation more)
    → (i : ℕ) → HasSameCounts (of ((with_links links substation below above).below i)) (of_substation i new)
list_kept of links substation below above old new more before grows shown =
    by_substation (λ i l. HasSameCounts (of l) (of_substation i new)) links substation below above
    (same_more (of (links.below substation)) (of below) more (of_substation substation old) (of_substation substation new) (before substation) grows
    (more_here substation new old more shown))
    (λ i other. same_trans (of (links.below i)) (of_substation i old) (of_substation i new) (before i) (none_there i substation other new old more shown))

-- what stood in the queue, at its substations
came_more : (indices : List Spans) (substation : ℕ) (links : Links) (old new : KeptLists) (t : OneEvent indices substation links old new)
    → HasSameCounts (rows_below indices (rows_of t.above.stood)) (rows_below indices (rows_of links.above.stood) ++ at_substation substation t.here.taken)
came_more indices substation links old new t =
    subst (λ (xs : List (ℕ × Row)). HasSameCounts (rows_below indices (rows_of t.above.stood)) xs)
    (filter_map-append (row_below indices) (rows_of links.above.stood) t.there.made
    ∙ ap (λ (xs : List (ℕ × Row)). rows_below indices (rows_of links.above.stood) ++ xs) t.joined)
    (same_filter_map (row_below indices) (rows_of t.above.stood) (rows_of links.above.stood ++ t.there.made) t.above_grows.stood)

mapped_kept : (indices : List Spans) {el : Elsewhere} (substation : ℕ) (links : Links) (old new : KeptLists) → IsBehind indices el links old
    → (t : OneEvent indices substation links old new) → length (rows_below indices (rows_of t.above.stood)) ≡ length t.above.stood
mapped_kept indices substation links old new b t =
    let was : List (ℕ × Row) = rows_below indices (rows_of links.above.stood) in
    let grown : length (rows_below indices (rows_of t.above.stood)) ≡ length (was ++ at_substation substation t.here.taken) =
    same_length (rows_below indices (rows_of t.above.stood)) (was ++ at_substation substation t.here.taken) (came_more indices substation links old new t) in
    omega (
      arith,
      grown,
      length-append was (at_substation substation t.here.taken),
      length-map {B = ℕ × Row} t.here.taken (λ row. (substation, row)),
      t.mapped,
      b.mapped,
      same_length (rows_of t.above.stood) (rows_of links.above.stood ++ t.there.made) t.above_grows.stood,
      length-append (rows_of links.above.stood) t.there.made,
      length-map t.above.stood buffered_row,
      length-map links.above.stood buffered_row,
    )

-- what is asked for of a substation is used of the concentrator's book
asked_kept : (indices : List Spans) {el : Elsewhere} (substation : ℕ) (links : Links) (old new : KeptLists) → IsBehind indices el links old
    → (t : OneEvent indices substation links old new)
    → (i : ℕ) → IsCoveredBy ((with_links links substation t.below t.above).below i).asked (of_substation i (used_orders new.controls))
asked_kept indices substation links old new b t =
    let before : List (ℕ × Command) = used_orders old.controls in
    let more : List (ℕ × Command) = before ++ at_substation substation t.here.asked in
    by_substation (λ i l. IsCoveredBy l.asked (of_substation i (used_orders new.controls))) links substation t.below t.above
    (record {
      at_most = λ test.
          omega (
            arith,
            t.below_grows.asked.same test,
            (b.asked_below substation).at_most test,
            count_by-append test (links.below substation).asked t.here.asked,
            (more_here substation more before t.here.asked (same_refl more)).same test,
            count_by-append test (of_substation substation before) t.here.asked,
            (covered_of_substation substation more (used_orders new.controls) t.used).at_most test,
          );
    })
    (λ i other. record {
      at_most = λ test.
          omega (
            arith,
            (b.asked_below i).at_most test,
            (none_there i substation other more before t.here.asked (same_refl more)).same test,
            (covered_of_substation i more (used_orders new.controls) t.used).at_most test,
          );
    })

-- what was performed above is in the concentrator's book
relayed_kept : (indices : List Spans) {el : Elsewhere} (substation : ℕ) (links : Links) (old new : KeptLists) → IsBehind indices el links old
    → (t : OneEvent indices substation links old new)
    → HasSameCounts (commands_below indices t.above.performed ++ commands_below indices el.performed) (orders_in new.controls)
relayed_kept indices {el = el} substation links old new b t =
    let grown : HasSameCounts (commands_below indices t.above.performed)
    (commands_below indices links.above.performed ++ commands_below indices t.there.performed) =
    subst (λ (xs : List (ℕ × Command)). HasSameCounts (commands_below indices t.above.performed) xs)
    (filter_map-append (command_below indices) links.above.performed t.there.performed)
    (same_filter_map (command_below indices) t.above.performed (links.above.performed ++ t.there.performed) t.above_grows.performed) in
    record {
      same = λ test.
          omega (
            arith,
            b.relayed.same test,
            t.added.same test,
            grown.same test,
            count_by-append test (commands_below indices links.above.performed) (commands_below indices el.performed),
            count_by-append test (commands_below indices t.above.performed) (commands_below indices el.performed),
            count_by-append test (commands_below indices links.above.performed) (commands_below indices t.there.performed),
            count_by-append test (orders_in old.controls) (commands_below indices t.there.performed),
          );
    }

pub turned : (goes_on : (l l' : LawLink) → Moves l l' → CarriesLaw l → CarriesLaw l')
    → (indices : List Spans) {el : Elsewhere} (substation : ℕ) (links : Links) (old new : KeptLists)
    → IsBehind indices el links old → (t : OneEvent indices substation links old new) → IsBehind indices el (with_links links substation t.below t.above) new
turned goes_on indices {el = el} substation links old new b t = record {
  below_stands = by_substation (λ i l. CarriesLaw l) links substation t.below t.above
      (goes_on (links.below substation) t.below t.below_grows.moves (b.below_stands substation)) (λ i other. b.below_stands i);
  above_stands = goes_on links.above t.above t.above_grows.moves b.above_stands;
  buffered = by_substation (λ i l. HasSameCounts (rows_of l.lanes) (of_substation i new.buffered)) links substation t.below t.above t.buffered
      (λ i other. same_trans (rows_of (links.below i).lanes) (of_substation i old.buffered) (of_substation i new.buffered) (b.buffered i)
      (same_sym (of_substation i new.buffered) (of_substation i old.buffered) (t.others i other)));
  confirmed = list_kept
      (λ l. rows_of l.released) links substation t.below t.above old.confirmed new.confirmed t.here.discarded b.confirmed t.below_grows.released t.confirmed;
  left = list_kept (λ l. rows_of l.left) links substation t.below t.above (old.overwritten ++ old.gone)
      (new.overwritten ++ new.gone) t.here.left b.left t.below_grows.left t.left;
  joined = list_kept (λ l. rows_of l.took) links substation t.below t.above (rows_below indices (rows_of links.above.stood)) (rows_below indices
      (rows_of t.above.stood)) t.here.taken
      b.joined t.below_grows.took (came_more indices substation links old new t);
  mapped = mapped_kept indices substation links old new b t;
  queue = t.queue;
  dropped = same_more (rows_of links.above.left) (rows_of t.above.left) t.there.left old.dropped new.dropped b.dropped t.above_grows.left t.dropped;
  journal = same_more (rows_of links.above.took) (rows_of t.above.took) t.there.taken old.journal new.journal b.journal t.above_grows.took t.journal;
  lost = omega (arith, t.lost, b.lost, same_length new.dropped (old.dropped ++ t.there.left) t.dropped, length-append old.dropped t.there.left);
  operated = list_kept
      (λ l. l.performed) links substation t.below t.above old.operated new.operated t.here.performed b.operated t.below_grows.performed t.operated;
  asked_below = asked_kept indices substation links old new b t;
  relayed = relayed_kept indices substation links old new b t;
  asked_above = record {
    at_most = λ test.
        omega (
          arith,
          t.above_grows.asked.same test,
          b.asked_above.at_most test,
          t.used_above.at_most test,
          count_by-append test links.above.asked t.there.asked,
          count_by-append test (used_commands old.orders) t.there.asked,
        );
  };
  issued = record {
    same = λ test.
        omega (
          arith,
          b.issued.same test,
          t.issued.same test,
          t.ordered.same test,
          count_by-append test old.issued t.issues,
          count_by-append test (commands_below indices (commands_in old.orders)) t.issues,
          count_by-append test (commands_below indices (commands_in old.orders)) (commands_below indices (commands_in el.orders)),
          count_by-append test (commands_below indices (commands_in new.orders)) (commands_below indices (commands_in el.orders)),
        );
  };
  theirs = b.theirs;
}

-- ---- what happened

-- after an event what happened is what had happened and the rows that it made
pub fated : LinkLaws → (goes_on : (l l' : LawLink) → Moves l l' → CarriesLaw l → CarriesLaw l')
    → (indices : List Spans) {el : Elsewhere} (substation : ℕ) (links : Links) (old new : KeptLists)
    → IsBehind indices el links old → (t : OneEvent indices substation links old new)
    → IsFate (made_at substation t.here.made) (shown_of indices old) (shown_of indices new)
fated laws goes_on indices substation links old new b t i =
    let is : List (ℕ × Row) = happened (shown_of indices new) in
    let was : List (ℕ × Row) = happened (shown_of indices old) in
    let after : Links = with_links links substation t.below t.above in
    let more : List (ℕ × Row) = was ++ at_substation substation t.here.made in
    let now : HasSameCounts (rows_of (after.below i).stood) (of_substation i more) =
    list_kept (λ l. rows_of l.stood) links substation t.below t.above was more t.here.made (happened_stood laws indices links old b) t.below_grows.stood
    (same_refl more) i in
    let shown : HasSameCounts (rows_of (after.below i).stood) (of_substation i is) =
    happened_stood laws indices after new (turned goes_on indices substation links old new b t) i in
    record { same = λ test. sym (shown.same test) ∙ now.same test ∙ ap (count_by test) (of_substation-append i was (at_substation substation t.here.made)) }

-- ---- one after the other, and in another order

-- what happened by two lists of events is what happened by the one and then by the other
pub fates_joined : (first second : ℕ → List Row) (a b c : Report) → IsFate first a b → IsFate second b c → IsFate (λ i. first i ++ second i) a c
fates_joined first second a b c f g i = record {
  same = λ test.
      omega (
        arith,
        (f i).same test,
        (g i).same test,
        count_by-append test (of_substation i (happened a)) (first i),
        count_by-append test (of_substation i (happened b)) (second i),
        count_by-append test (of_substation i (happened a)) (first i ++ second i),
        count_by-append test (first i) (second i),
      );
}

-- what holds of a report holds of it with the queue in another order
pub held_in_any_order : (r : Report) (queue : List (ℕ × Row)) → IsPermutation queue r.queue → Holds r → Holds (record r { queue = queue })
held_in_any_order r queue order h = record {
  nothing_invented = h.nothing_invented;
  nothing_vanishes = record {
    at_most = λ test.
        omega (
          arith,
          h.nothing_vanishes.at_most test,
          (same_permutation queue r.queue order).same test,
          count_by-append test queue (r.dropped ++ r.journal),
          count_by-append test r.queue (r.dropped ++ r.journal),
        );
  };
  lost_is_counted = h.lost_is_counted;
  no_command_twice = h.no_command_twice;
}
