-- What holds of a system's lists where links of the law stand behind them.
use Rattle.std.proofs.Common.{◌≡◌, ℕ, ◌+◌, ◌<◌, ◌≤◌, ◌⊎◌, inl, inr, Bool, true, not, List, ◌++◌, length, refl, sym, ap, ◌∙◌, subst, arith}
use Rattle.std.specs.Prelude.{nat_eq}
use Rattle.std.specs.List.{All, Contains, count_by}
use Rattle.std.specs.List.Sorted.{IsPermutation}
use Rattle.std.proofs.lemmas.Bool.{cases_lt}
use Rattle.std.proofs.lemmas.List.{map-append, length-map}
use Rattle.std.proofs.lemmas.List.Sums.{count_by-le-length, length-filter}
use Rattle.std.proofs.lemmas.List.Elements.{All-weaker, All-contains_itself, filter_map-append}
use Rattle.std.proofs.lemmas.List.Filters.{length-filter_both}
use Rattle.dnp_objects.specs.declared.row.Row.{Row}
use Rattle.dnp_objects.specs.Counts.{IsCoveredBy}
use Rattle.dnp_objects.specs.Equality.{row_eq, command_eq, pair_eq}
use Rattle.dnp_controls.specs.declared.book.Entry.{Entry}
use Rattle.dnp_eventbuf.specs.Buffered.{buffered_row}
use Rattle.dnp_concentrator.specs.declared.span.Spans.{Spans}
use Rattle.dnp_concentrator.specs.Mapped.{row_below, command_below}
use Rattle.dnp_world.specs.Behind.{Elsewhere, Links, IsBehind, rows_of}
use Rattle.dnp_world.specs.Kept.{KeptLists, shown_of, rows_below, commands_below, is_used, order_of, command_of, used_orders, commands_in, used_commands}
use Rattle.dnp_world.specs.LawLink.{LawLink}
use Rattle.dnp_world.specs.Reports.{Holds, happened, times}
use Rattle.dnp_world.specs.Standing.{CarriesLaw}
use Rattle.dnp_world.specs.Stations.{of_substation, HasSameCounts}
use Rattle.dnp_world.proofs.Counting.{count_by-append}
use Rattle.dnp_world.proofs.BySubstations.{Covers, count_pair, covered_by_substations, contains_counts, some_there}
use Rattle.dnp_world.proofs.SystemCounts.{count_by-filter_map, passes, picked, counted_all, same_map, same_permutation, covered_filter_map, of_substation-append}

-- what the law of a link promises
pub record LinkLaws : Type 0 where
  pub covered : (l : LawLink) → CarriesLaw l → IsCoveredBy (rows_of l.released) (rows_of l.took)
  pub stood : (l : LawLink) → CarriesLaw l → All (Contains (rows_of (l.lanes ++ (l.released ++ l.left)))) (rows_of l.took)
  pub whole : (l : LawLink) → CarriesLaw l → IsPermutation l.stood (l.lanes ++ (l.released ++ l.left))
  pub performed : (l : LawLink) → CarriesLaw l → IsCoveredBy l.performed l.asked

-- and the crate of rows and commands
pub record Laws : Type 0 where
  pub links : LinkLaws
  pub rows : Covers row_eq
  pub commands : Covers command_eq
  pub itself : (x : ℕ × Row) → pair_eq nat_eq row_eq x x ≡ true

-- ---- one link

-- the rows that ever stood in its lanes, by where they are now
pub stood_counts : LinkLaws → (l : LawLink) → CarriesLaw l → (test : Row → Bool)
    → count_by test (rows_of l.stood) ≡ count_by test (rows_of l.lanes) + (count_by test (rows_of l.released) + count_by test (rows_of l.left))
stood_counts laws l stands test =
    let now : ℕ = count_by test (rows_of (l.lanes ++ (l.released ++ l.left))) in
    let whole : count_by test (rows_of l.stood) ≡ now =
    (same_map buffered_row l.stood (l.lanes ++ (l.released ++ l.left)) (same_permutation l.stood (l.lanes ++ (l.released ++ l.left))
    (laws.whole l stands))).same test in
    let parts : rows_of (l.lanes ++ (l.released ++ l.left)) ≡ rows_of l.lanes ++ (rows_of l.released ++ rows_of l.left) =
    map-append buffered_row l.lanes (l.released ++ l.left) ∙ ap (λ (xs : List Row). rows_of l.lanes ++ xs) (map-append buffered_row l.released l.left) in
    omega (
      arith,
      whole,
      ap (count_by test) parts,
      count_by-append test (rows_of l.lanes) (rows_of l.released ++ rows_of l.left),
      count_by-append test (rows_of l.released) (rows_of l.left),
    )

-- where some row that the sink took passes a test, some row that stood in the lanes does
took_stood : LinkLaws → (l : LawLink) → CarriesLaw l → (test : Row → Bool) → 0 < count_by test (rows_of l.took) → 0 < count_by test (rows_of l.stood)
took_stood laws l stands test some =
    let now : List Row = rows_of (l.lanes ++ (l.released ++ l.left)) in
    let there : 0 < count_by test now = some_there test (rows_of l.took) now (laws.stood l stands) some in
    let whole : count_by test (rows_of l.stood) ≡ count_by test now =
    (same_map buffered_row l.stood (l.lanes ++ (l.released ++ l.left)) (same_permutation l.stood (l.lanes ++ (l.released ++ l.left))
    (laws.whole l stands))).same test in
    omega (arith, there, whole)

-- ---- what happened

-- what happened at a substation is what ever stood in its lanes
pub happened_stood : LinkLaws → (indices : List Spans) {el : Elsewhere} (links : Links) (k : KeptLists) → IsBehind indices el links k → (i : ℕ)
    → HasSameCounts (rows_of (links.below i).stood) (of_substation i (happened (shown_of indices k)))
happened_stood laws indices links k b i =
    let l : LawLink = links.below i in
    let left : List (ℕ × Row) = k.overwritten ++ k.gone in
    let parts : of_substation i (k.buffered ++ (k.confirmed ++ left)) ≡ of_substation i k.buffered ++ (of_substation i k.confirmed ++ of_substation i left) =
    of_substation-append i k.buffered (k.confirmed ++ left)
    ∙ ap (λ (xs : List Row). of_substation i k.buffered ++ xs) (of_substation-append i k.confirmed left) in
    record {
      same = λ test.
          omega (
            arith,
            stood_counts laws l (b.below_stands i) test,
            (b.buffered i).same test,
            (b.confirmed i).same test,
            (b.left i).same test,
            ap (count_by test) parts,
            count_by-append test (of_substation i k.buffered) (of_substation i k.confirmed ++ of_substation i left),
            count_by-append test (of_substation i k.confirmed) (of_substation i left),
          );
    }

-- ---- nothing is invented

-- a row that stood in the queue was taken below, so it stood in its substation's lanes
stood_happened : LinkLaws → (indices : List Spans) {el : Elsewhere} (links : Links) (k : KeptLists) → IsBehind indices el links k → (x : ℕ × Row)
    → 0 < count_by (λ row. passes (pair_eq nat_eq row_eq x) (row_below indices row)) (rows_of links.above.stood)
    → 0 < times x (happened (shown_of indices k))
stood_happened laws indices links k b x stood =
    let came : List (ℕ × Row) = rows_below indices (rows_of links.above.stood) in
    let all : List (ℕ × Row) = happened (shown_of indices k) in
    let counted = count_by-filter_map (pair_eq nat_eq row_eq x) (row_below indices) (rows_of links.above.stood) in
    let took : 0 < count_by (row_eq x.1) (rows_of (links.below x.0).took) =
    omega (arith, stood, counted, count_pair row_eq x came, (b.joined x.0).same (row_eq x.1)) in
    let below : 0 < count_by (row_eq x.1) (rows_of (links.below x.0).stood) = took_stood laws (links.below x.0) (b.below_stands x.0) (row_eq x.1) took in
    omega (arith, below, (happened_stood laws indices links k b x.0).same (row_eq x.1), count_pair row_eq x all)

-- a row of the journal was taken above, so it stood in the queue
journal_happened : LinkLaws → (indices : List Spans) {el : Elsewhere} (links : Links) (k : KeptLists) → IsBehind indices el links k → (x : ℕ × Row)
    → 0 < times x (rows_below indices k.journal) → 0 < times x (happened (shown_of indices k))
journal_happened laws indices links k b x some =
    let test : Row → Bool = λ row. passes (pair_eq nat_eq row_eq x) (row_below indices row) in
    let counted = count_by-filter_map (pair_eq nat_eq row_eq x) (row_below indices) k.journal in
    stood_happened laws indices links k b x
    (took_stood laws links.above b.above_stands test (omega (arith, some, counted, b.journal.same test)))

nothing_invented : Laws → (indices : List Spans) {el : Elsewhere} (links : Links) (k : KeptLists) → IsBehind indices el links k
    → All (λ x. 1 ≤ times x (happened (shown_of indices k))) (rows_below indices k.journal)
nothing_invented laws indices links k b =
    let journal : List (ℕ × Row) = rows_below indices k.journal in
    All-weaker (Contains journal) (λ x. 1 ≤ times x (happened (shown_of indices k)))
    (λ x there. journal_happened laws.links indices links k b x (contains_counts (pair_eq nat_eq row_eq x) journal x there (laws.itself x)))
    journal (All-contains_itself journal)

-- ---- what stands in the queue

-- a row of the queue stood there
pub queue_happened : LinkLaws → (indices : List Spans) {el : Elsewhere} (links : Links) (k : KeptLists) → IsBehind indices el links k → (x : ℕ × Row)
    → 0 < times x (rows_below indices k.queue) → 0 < times x (happened (shown_of indices k))
queue_happened laws indices links k b x some =
    let test : Row → Bool = λ row. passes (pair_eq nat_eq row_eq x) (row_below indices row) in
    let counted = count_by-filter_map (pair_eq nat_eq row_eq x) (row_below indices) k.queue in
    stood_happened laws indices links k b x
    (omega (arith, some, counted, b.queue.same test, stood_counts laws links.above b.above_stands test))

-- ---- each has a substation

-- Of rows that each have one, so have these, beside which others are counted.
part_mapped : (indices : List Spans) (all rows : List Row) (others : (Row → Bool) → ℕ) → length (rows_below indices all) ≡ length all
    → ((test : Row → Bool) → count_by test all ≡ count_by test rows + others test)
    → ((test : Row → Bool) → others test ≤ others (λ _. true)) → length (rows_below indices rows) ≡ length rows
part_mapped indices all rows others mapped parts most =
    let test : Row → Bool = λ row. passes (λ _. true) (row_below indices row) in
    let below : (xs : List Row) → length (rows_below indices xs) ≡ count_by test xs = λ xs.
    sym (counted_all (rows_below indices xs)) ∙ count_by-filter_map (λ _. true) (row_below indices) xs in
    omega (
      arith,
      mapped,
      parts test,
      parts (λ _. true),
      most test,
      below all,
      below rows,
      counted_all all,
      counted_all rows,
      count_by-le-length test rows,
    )

least : (test : Row → Bool) (rows : List Row) → count_by test rows ≤ count_by (λ _. true) rows
least test rows = omega (arith, counted_all rows, count_by-le-length test rows)

-- as all rows that stood in the queue have
stood_mapped : (indices : List Spans) {el : Elsewhere} (links : Links) (k : KeptLists) → IsBehind indices el links k
    → length (rows_below indices (rows_of links.above.stood)) ≡ length (rows_of links.above.stood)
stood_mapped indices links k b = omega (arith, b.mapped, length-map links.above.stood buffered_row)

pub queue_mapped : LinkLaws → (indices : List Spans) {el : Elsewhere} (links : Links) (k : KeptLists) → IsBehind indices el links k
    → length (rows_below indices k.queue) ≡ length k.queue
queue_mapped laws indices links k b =
    let l : LawLink = links.above in
    part_mapped indices (rows_of l.stood) k.queue (λ test. count_by test (rows_of l.released) + count_by test (rows_of l.left))
    (stood_mapped indices links k b)
    (λ test. omega (arith, stood_counts laws l b.above_stands test, b.queue.same test))
    (λ test. omega (arith, least test (rows_of l.released), least test (rows_of l.left)))

-- each row passes a test or doesn't
both_counts : (test : Row → Bool) (rows : List Row) → count_by test rows + count_by (λ row. not (test row)) rows ≡ length rows
both_counts test rows =
    let other : Row → Bool = λ row. not (test row) in
    omega (arith, length-filter_both test other (λ row. refl) rows, length-filter test rows, length-filter other rows)

-- what was taken above stood in the queue
pub journal_mapped : LinkLaws → (indices : List Spans) {el : Elsewhere} (links : Links) (k : KeptLists) → IsBehind indices el links k
    → length (rows_below indices k.journal) ≡ length k.journal
journal_mapped laws indices links k b =
    omega (arith, below k.journal, both_counts mapped k.journal, b.journal.same unmapped, none_taken (cases_lt 0 (count_by unmapped (rows_of l.took))))
  where
    l : LawLink
    l = links.above

    mapped : Row → Bool
    mapped row = passes (λ _. true) (row_below indices row)

    unmapped : Row → Bool
    unmapped row = not (mapped row)

    below : (xs : List Row) → length (rows_below indices xs) ≡ count_by mapped xs
    below xs = sym (counted_all (rows_below indices xs)) ∙ count_by-filter_map (λ _. true) (row_below indices) xs

    none_stood : count_by unmapped (rows_of l.stood) ≡ 0
    none_stood = omega (arith, stood_mapped indices links k b, below (rows_of l.stood), both_counts mapped (rows_of l.stood))

    none_taken : (0 < count_by unmapped (rows_of l.took)) ⊎ (count_by unmapped (rows_of l.took) ≤ 0) → count_by unmapped (rows_of l.took) ≡ 0
    none_taken (inl some) = absurd (omega (arith, took_stood laws l b.above_stands unmapped some, none_stood))
    none_taken (inr none) = omega (arith, none)

-- ---- nothing vanishes

-- the rows that ever stood in the queue are in it, or were dropped, or were released, and then taken above
stood_covered : LinkLaws → (l : LawLink) (queue dropped journal : List Row) → CarriesLaw l → HasSameCounts (rows_of l.lanes) queue
    → HasSameCounts (rows_of l.left) dropped → HasSameCounts (rows_of l.took) journal → IsCoveredBy (rows_of l.stood) (queue ++ (dropped ++ journal))
stood_covered laws l queue dropped journal stands held left took = record {
  at_most = λ test.
      omega (
        arith,
        stood_counts laws l stands test,
        (laws.covered l stands).at_most test,
        held.same test,
        left.same test,
        took.same test,
        count_by-append test queue (dropped ++ journal),
        count_by-append test dropped journal,
      );
}

rows_below-parts : (indices : List Spans) (xs ys zs : List Row)
    → rows_below indices (xs ++ (ys ++ zs)) ≡ rows_below indices xs ++ (rows_below indices ys ++ rows_below indices zs)
rows_below-parts indices xs ys zs =
    filter_map-append (row_below indices) xs (ys ++ zs)
    ∙ ap (λ (l : List (ℕ × Row)). rows_below indices xs ++ l) (filter_map-append (row_below indices) ys zs)

nothing_vanishes : Laws → (indices : List Spans) {el : Elsewhere} (links : Links) (k : KeptLists) → IsBehind indices el links k
    → IsCoveredBy k.confirmed (rows_below indices k.queue ++ (rows_below indices k.dropped ++ rows_below indices k.journal))
nothing_vanishes laws indices links k b =
    let came : List (ℕ × Row) = rows_below indices (rows_of links.above.stood) in
    let there : List Row = k.queue ++ (k.dropped ++ k.journal) in
    let first : IsCoveredBy k.confirmed came = covered_by_substations row_eq laws.rows k.confirmed came
    (λ i. record {
      at_most = λ test. omega (
        arith,
        (b.confirmed i).same test,
        (laws.links.covered (links.below i) (b.below_stands i)).at_most test,
        (b.joined i).same test,
      );
    }) in
    let second : IsCoveredBy came (rows_below indices there) = covered_filter_map (row_below indices) (rows_of links.above.stood) there
    (stood_covered laws.links links.above k.queue k.dropped k.journal b.above_stands b.queue b.dropped b.journal) in
    subst (IsCoveredBy k.confirmed) (rows_below-parts indices k.queue k.dropped k.journal)
    (record { at_most = λ test. omega (arith, first.at_most test, second.at_most test) })

-- ---- what was dropped was counted

pub dropped_mapped : LinkLaws → (indices : List Spans) {el : Elsewhere} (links : Links) (k : KeptLists) → IsBehind indices el links k
    → length (rows_below indices k.dropped) ≡ length k.dropped
dropped_mapped laws indices links k b =
    let l : LawLink = links.above in
    part_mapped indices (rows_of l.stood) k.dropped (λ test. count_by test (rows_of l.lanes) + count_by test (rows_of l.released))
    (stood_mapped indices links k b)
    (λ test. omega (arith, stood_counts laws l b.above_stands test, b.dropped.same test))
    (λ test. omega (arith, least test (rows_of l.lanes), least test (rows_of l.released)))

-- ---- no command twice

commands_entered : (indices : List Spans) (entries : List Entry)
    → IsCoveredBy (commands_below indices (used_commands entries)) (commands_below indices (commands_in entries))
commands_entered indices entries = covered_filter_map (command_below indices) (used_commands entries) (commands_in entries)
    (picked is_used command_of entries)

no_command_twice : Laws → (indices : List Spans) {el : Elsewhere} (links : Links) (k : KeptLists) → IsBehind indices el links k
    → IsCoveredBy k.operated k.issued
no_command_twice laws indices {el = el} links k b =
    let below : IsCoveredBy k.operated (used_orders k.controls) = covered_by_substations command_eq laws.commands k.operated (used_orders k.controls)
    (λ i. record {
      at_most = λ test. omega (
        arith,
        (b.operated i).same test,
        (laws.links.performed (links.below i) (b.below_stands i)).at_most test,
        (b.asked_below i).at_most test,
      );
    }) in
    let above : IsCoveredBy (commands_below indices links.above.performed) (commands_below indices (used_commands k.orders)) =
    covered_filter_map (command_below indices) links.above.performed (used_commands k.orders)
    (record { at_most = λ test. omega (arith, (laws.links.performed links.above b.above_stands).at_most test, b.asked_above.at_most test) }) in
    record {
      at_most = λ test.
          omega (
            arith,
            below.at_most test,
            (picked is_used order_of k.controls).at_most test,
            b.relayed.same test,
            count_by-append test (commands_below indices links.above.performed) (commands_below indices el.performed),
            above.at_most test,
            b.theirs.entered.at_most test,
            (commands_entered indices k.orders).at_most test,
            b.issued.same test,
            count_by-append test (commands_below indices (commands_in k.orders)) (commands_below indices (commands_in el.orders)),
          );
    }

-- ---- all of it

pub headline : Laws → (indices : List Spans) {el : Elsewhere} (links : Links) (k : KeptLists) → IsBehind indices el links k → Holds (shown_of indices k)
headline laws indices links k b = record {
  nothing_invented = nothing_invented laws indices links k b;
  nothing_vanishes = nothing_vanishes laws indices links k b;
  lost_is_counted = dropped_mapped laws.links indices links k b ∙ sym b.lost;
  no_command_twice = no_command_twice laws indices links k b;
}
