-- An event keeps a whole system steady to all centres.
use Rattle.std.proofs.Common.{◌≡◌, ◌==◌, ℕ, ◌<◌, ◌&&◌, Bool, false, length, option_map, List, [], ◌∷◌, ◌++◌, Option, Some, None, refl, sym, ap, ◌∙◌, subst, arith}
use Rattle.std.specs.Prelude.{nat_lt, slice_get}
use Rattle.std.specs.List.{count_by, flat_map}
use Rattle.std.proofs.lemmas.Option.{none-some}
use Rattle.dnp_objects.specs.declared.command.Command.{Command}
use Rattle.dnp_objects.specs.declared.row.Row.{Row}
use Rattle.dnp_concentrator.specs.PerCentre.{at, with_at}
use Rattle.dnp_concentrator.specs.Relaying.{Relaying}
use Rattle.dnp_concentrator.specs.declared.per_centre.PerCentre.{PerCentre}
use Rattle.dnp_concentrator.specs.declared.span.Spans.{Spans}
use Rattle.dnp_controls.specs.declared.book.Entry.{Entry}
use Rattle.dnp_eventbuf.specs.Sides.{ForEach}
use Rattle.dnp_eventbuf.specs.declared.pair.TheConstants.{CENTRES}
use Rattle.dnp_pointdb.specs.Database.{Database}
use Rattle.dnp_pointdb.specs.Runs.{Move}
use Rattle.dnp_world.specs.Behind.{Elsewhere, IsFrom, Links}
use Rattle.dnp_world.specs.BothSteady.{AreSteady, GoesOn, IssuesAs, LeavesBooks, RelaysAs, StaysBeside, all_but, beside, side_of}
use Rattle.dnp_world.specs.Centres.{HappensToAll, SeesElsewhere, centre_at, is_elsewhere}
use Rattle.dnp_world.specs.Kept.{commands_below, commands_in, kept_in, orders_in, report_of}
use Rattle.dnp_world.specs.Reports.{IsFate, Report}
use Rattle.dnp_world.specs.Steady.{Goes, IsSteadyBeside, made_from, moves_at, points_at, rows_made_at}
use Rattle.dnp_world.specs.SystemRuns.{Happens}
use Rattle.dnp_world.specs.Systems.{SubstationState, System}
use Rattle.dnp_world.specs.Wholes.{Whole, seen_by}
use Rattle.dnp_world.specs.declared.event.Event.{Event}
use Rattle.dnp_world.specs.declared.event.Event.TheVariants as event
use Rattle.dnp_world.specs.declared.event.Place.TheVariants as place
use Rattle.dnp_world.proofs.Beside.{below_but, from_but, ordered_but, same_but, same_total, total, total_with}
use Rattle.dnp_world.proofs.Counting.{count_by-append}
use Rattle.dnp_world.proofs.EventPoints.{all_moves, none_made}
use Rattle.dnp_world.proofs.EachCentre.{Others, by_place, by_seen, done_at}
use Rattle.dnp_world.proofs.Lasting.{fate_as, made_by, nothing_more}
use Rattle.dnp_world.proofs.PerCentre.{choose, own_and_others, written_elsewhere, written_here}
use Rattle.dnp_world.proofs.Seen.{sees_same}

-- what the laws of one centre's system promise
pub record AllLaws : Type 0 where
  pub goes : (old new : System) (el : Elsewhere) (e : Event) → IsSteadyBeside el old → Happens old e new → Goes el (rows_made_at old (e ∷ [])) old new
  pub elsewhere : (old new : System) (el others : Elsewhere) (steady : IsSteadyBeside el old) → SeesElsewhere old new → IsFrom old.indices others
      → RelaysAs others steady.standing.links new → IssuesAs others new → StaysBeside others steady.standing.links old new
  pub from : (s : System) (el : Elsewhere) (steady : IsSteadyBeside el s) → IsFrom s.indices (side_of steady.standing.links (kept_in s))
  pub books : (old new : System) (e : Event) → centre_at e ≡ None → Happens old e new → LeavesBooks old new

-- ---- what is at a centre makes no row

none_at : (s : System) (e : Event) (i : ℕ) (o : ℕ) → centre_at e ≡ Some o → moves_at s e i ≡ []
none_at s (event.Change substation kind index reading) i o is = absurd (none-some o is)
none_at s (event.Restart (place.Substation substation)) i o is = absurd (none-some o is)
none_at s e i o is = refl

pub none_made_at : (s : System) (e : Event) (o : ℕ) → centre_at e ≡ Some o → (i : ℕ) → rows_made_at s (e ∷ []) i ≡ []
none_made_at s e o is i = rw (none_at s e i o is) (none_made (points_at s i))

-- all see the same substations
pub seen_alike : (n : ℕ) (w : Whole) (events : List Event) (i : ℕ) → rows_made_at (seen_by n w) events i ≡ rows_made_at (seen_by 0 w) events i
seen_alike n w events i = rw (all_moves (seen_by 0 w) (seen_by n w) (λ substation. refl) events i) refl

-- ---- what stands at each, once an event was done

-- What a centre's system is steady as, before what stands at the others is what it is then: what its link performed then and its book are
-- the side, and the rows that the event made come of it.
pub record IsAlmost (made : ℕ → List Row) (side : Elsewhere) (old new : System) : Type 0 where
  pub from : System
  pub el : Elsewhere
  pub steady : IsSteadyBeside el from
  pub sees : SeesElsewhere from new
  pub side_is : side ≡ side_of steady.standing.links (kept_in new)
  pub fate : IsFate (λ i. []) (report_of from) (report_of new) → IsFate made (report_of old) (report_of new)

-- what all performed is the book's, and what their books have was issued
pub record AddUp (sides : PerCentre Elsewhere) (s : System) : Type 0 where
  pub performed : (test : ℕ × Command → Bool)
      → total test (λ n. commands_below s.indices (at n sides).performed) CENTRES ≡ count_by test (orders_in (kept_in s).controls)
  pub issued : (test : ℕ × Command → Bool)
      → total test (λ n. commands_below s.indices (commands_in (at n sides).orders)) CENTRES ≡ count_by test (kept_in s).issued

-- then it is steady to each
all_steady : AllLaws → (made : ℕ → List Row) (old new : Whole) (sides : PerCentre Elsewhere)
    → ForEach (λ n. IsAlmost made (at n sides) (seen_by n old) (seen_by n new)) → AddUp sides (seen_by 0 new) → GoesOn made old new
all_steady laws made old new sides almost sum = record {
  steady = record {
    sides = sides;
    among = λ n low.
        let a = almost n low in
        let st = settled n low in
        record { steady = st.steady; side = a.side_is ∙ ap (λ (links : Links). side_of links (kept_in (seen_by n new))) (sym st.same) };
  };
  fate = λ n low. (almost n low).fate (settled n low).fate;
}
  where
    -- what stands at a centre is from there
    from : (n : ℕ) → n < CENTRES → IsFrom new.indices (at n sides)
    from n low =
        let a = almost n low in
        let orders : (kept_in (seen_by n new)).orders ≡ (kept_in a.from).orders = ap (λ (s : System). (kept_in s).orders) a.sees.after in
        let indices : new.indices ≡ a.from.indices = ap (λ (s : System). s.indices) a.sees.after in
        rw (a.side_is, orders, indices) (laws.from a.from a.el a.steady)

    settled : (n : ℕ) (low : n < CENTRES)
        → (let a = almost n low in StaysBeside (beside n sides) a.steady.standing.links a.from (seen_by n new))
    settled n low =
        let a = almost n low in
        let links = a.steady.standing.links in
        let is : System = seen_by n new in
        let indices : new.indices ≡ a.from.indices = ap (λ (s : System). s.indices) a.sees.after in
        laws.elsewhere a.from is a.el (beside n sides) a.steady a.sees
        (subst (λ (m : List Spans). IsFrom m (beside n sides)) indices (from_but new.indices n (λ k. at k sides) CENTRES from))
        (rw (below_but new.indices n (λ k. (at k sides).performed) CENTRES) (record {
          same = λ test. omega (
            arith,
            count_by-append test (commands_below new.indices links.above.performed)
                (all_but n (λ k. commands_below new.indices (at k sides).performed) CENTRES),
            ap (λ (side : Elsewhere). count_by test (commands_below new.indices side.performed)) a.side_is,
            total_with test n (λ k. commands_below new.indices (at k sides).performed) CENTRES low,
            sum.performed test,
          );
        }))
        (rw (ordered_but new.indices n (λ k. (at k sides).orders) CENTRES) (record {
          same = λ test. omega (
            arith,
            count_by-append test (commands_below new.indices (commands_in (kept_in is).orders))
                (all_but n (λ k. commands_below new.indices (commands_in (at k sides).orders)) CENTRES),
            ap (λ (side : Elsewhere). count_by test (commands_below new.indices (commands_in side.orders))) a.side_is,
            total_with test n (λ k. commands_below new.indices (commands_in (at k sides).orders)) CENTRES low,
            sum.issued test,
          );
        }))

-- at all centres but one stands as much as elsewhere to it
pub record IsAsMuch (s : System) (n : ℕ) (sides : PerCentre Elsewhere) (el : Elsewhere) : Type 0 where
  pub performed : (test : ℕ × Command → Bool) → count_by test (all_but n (λ k. commands_below s.indices (at k sides).performed) CENTRES)
      ≡ count_by test (commands_below s.indices el.performed)
  pub issued : (test : ℕ × Command → Bool) → count_by test (all_but n (λ k. commands_below s.indices (commands_in (at k sides).orders)) CENTRES)
      ≡ count_by test (commands_below s.indices (commands_in el.orders))

-- what adds up where one centre's links stand behind what it sees, and its side is one of these
adds_up : (s : System) (n : ℕ) → n < CENTRES → (sides : PerCentre Elsewhere) (el : Elsewhere) (steady : IsSteadyBeside el s)
    → at n sides ≡ side_of steady.standing.links (kept_in s) → IsAsMuch s n sides el → AddUp sides s
adds_up s n low sides el steady side much = record {
  performed = λ test. omega (
    arith,
    steady.standing.behind.relayed.same test,
    count_by-append test (commands_below s.indices steady.standing.links.above.performed) (commands_below s.indices el.performed),
    ap (λ (x : Elsewhere). count_by test (commands_below s.indices x.performed)) side,
    total_with test n (λ k. commands_below s.indices (at k sides).performed) CENTRES low,
    much.performed test,
  );
  issued = λ test. omega (
    arith,
    steady.standing.behind.issued.same test,
    count_by-append test (commands_below s.indices (commands_in (kept_in s).orders)) (commands_below s.indices (commands_in el.orders)),
    ap (λ (x : Elsewhere). count_by test (commands_below s.indices (commands_in x.orders))) side,
    total_with test n (λ k. commands_below s.indices (commands_in (at k sides).orders)) CENTRES low,
    much.issued test,
  );
}

-- so it is beside those that stand there
as_much : (s : System) (n : ℕ) (sides : PerCentre Elsewhere) → IsAsMuch s n sides (beside n sides)
as_much s n sides = record {
  performed = λ test. ap (λ (xs : List (ℕ × Command)). count_by test xs) (sym (below_but s.indices n (λ k. (at k sides).performed) CENTRES));
  issued = λ test. ap (λ (xs : List (ℕ × Command)). count_by test xs) (sym (ordered_but s.indices n (λ k. (at k sides).orders) CENTRES));
}

-- also where the one's own side was written
written_much : (s : System) (n : ℕ) → n < CENTRES → (sides : PerCentre Elsewhere) (side : Elsewhere)
    → IsAsMuch s n (with_at n sides side) (beside n sides)
written_much s n low sides side =
    let m = as_much s n sides in
    let apart : (k : ℕ) → k < CENTRES → (n == k) ≡ false → at k (with_at n sides side) ≡ at k sides = written_elsewhere sides side n low in
    record {
      performed = λ test. ap (λ (xs : List (ℕ × Command)). count_by test xs)
          (same_but n _ _ CENTRES (λ k few other. ap (λ (x : Elsewhere). commands_below s.indices x.performed) (apart k few other))) ∙ m.performed test;
      issued = λ test. ap (λ (xs : List (ℕ × Command)). count_by test xs)
          (same_but n _ _ CENTRES (λ k few other. ap (λ (x : Elsewhere). commands_below s.indices (commands_in x.orders)) (apart k few other)))
          ∙ m.issued test;
    }

-- a side has as many commands as another one, and the same orders
pub record IsAlike (s : System) (was is : Elsewhere) : Type 0 where
  pub performed : (test : ℕ × Command → Bool)
      → count_by test (commands_below s.indices is.performed) ≡ count_by test (commands_below s.indices was.performed)
  pub orders : is.orders ≡ was.orders

-- and where all are alike
alike_much : (s : System) (n : ℕ) → n < CENTRES → (was is : PerCentre Elsewhere) → ForEach (λ k. IsAlike s (at k was) (at k is))
    → IsAsMuch s n is (beside n was)
alike_much s n low was is alike =
    let m = as_much s n was in
    record {
      performed = λ test. omega (
        arith,
        total_with test n (λ k. commands_below s.indices (at k is).performed) CENTRES low,
        total_with test n (λ k. commands_below s.indices (at k was).performed) CENTRES low,
        same_total test (λ k. commands_below s.indices (at k is).performed) (λ k. commands_below s.indices (at k was).performed) CENTRES
            (λ k few. (alike k few).performed test),
        (alike n low).performed test,
        m.performed test,
      );
      issued = λ test. ap (λ (xs : List (ℕ × Command)). count_by test xs)
          (same_but n _ _ CENTRES (λ k few other. ap (λ (xs : List Entry). commands_below s.indices (commands_in xs)) (alike k few).orders)) ∙ m.issued test;
    }

-- ---- an event

abbrev pub made_in : Whole → Event → ℕ → List Row
made_in w e = rows_made_at (seen_by 0 w) (e ∷ [])

-- at one centre, and elsewhere to the others
at_one : AllLaws → (old new : Whole) (e : Event) → AreSteady old → (n : ℕ) → n < CENTRES → centre_at e ≡ Some n
    → Happens (seen_by n old) e (seen_by n new) → Others n old new → GoesOn (made_in old e) old new
at_one laws old new e s n low at_it happens others =
    let own = s.among n low in
    let g : Goes (beside n s.sides) (rows_made_at (seen_by n old) (e ∷ [])) (seen_by n old) (seen_by n new) =
    laws.goes (seen_by n old) (seen_by n new) (beside n s.sides) e own.steady happens in
    let side : Elsewhere = side_of g.steady.standing.links (kept_in (seen_by n new)) in
    let sides : PerCentre Elsewhere = with_at n s.sides side in
    let here : at n sides ≡ side = written_here s.sides side n low in
    let Almost : ℕ → Type 0 = λ m. IsAlmost (made_in old e) (at m sides) (seen_by m old) (seen_by m new) in
    let almost : ForEach Almost =
    own_and_others Almost n (record {
      from = seen_by n new;
      el = beside n s.sides;
      steady = g.steady;
      sees = sees_same (seen_by n new) (seen_by n new) refl;
      side_is = here;
      fate = λ _.
          fate_as (rows_made_at (seen_by n old) (e ∷ [])) (made_in old e) (report_of (seen_by n old)) (report_of (seen_by n new))
          (seen_alike n old (e ∷ [])) g.fate;
    }) (λ m few apart.
    let x = others m few apart in
    let b = s.among m few in
    record {
      from = seen_by m old;
      el = beside m s.sides;
      steady = b.steady;
      sees = x;
      side_is = written_elsewhere s.sides side n low m few apart ∙ b.side
          ∙ ap (λ (orders : List Entry). let el : Elsewhere = record { performed = b.steady.standing.links.above.performed; orders = orders } in el)
          (sym (ap (λ (y : System). (kept_in y).orders) x.after));
      fate = fate_as (λ i. []) (made_in old e) (report_of (seen_by m old)) (report_of (seen_by m new)) (λ i. sym (none_made_at (seen_by 0 old) e n at_it i));
    }) in
    let sum : AddUp sides (seen_by n new) =
    adds_up (seen_by n new) n low sides (beside n s.sides) g.steady here (written_much (seen_by n new) n low s.sides side) in
    all_steady laws (made_in old e) old new sides almost (record { performed = sum.performed; issued = sum.issued })

-- what one side is after an event of none
pub record IsMoved (old new : Whole) (e : Event) (was : Elsewhere) (n : ℕ) (side : Elsewhere) : Type 0 where
  pub almost : IsAlmost (made_in old e) side (seen_by n old) (seen_by n new)
  pub alike : IsAlike (seen_by n new) was side

moves : AllLaws → (old new : Whole) (e : Event) (s : AreSteady old) → centre_at e ≡ None → (n : ℕ) → n < CENTRES
    → Happens (seen_by n old) e (seen_by n new)
    → (side : Elsewhere) × (IsMoved old new e (at n s.sides) n side
    × ((el : Elsewhere) × (el ≡ beside n s.sides) × ((st : IsSteadyBeside el (seen_by n new)) × (side ≡ side_of st.standing.links (kept_in (seen_by n new))))))
moves laws old new e s none n low happens =
    let own = s.among n low in
    let el : Elsewhere = beside n s.sides in
    let g : Goes el (rows_made_at (seen_by n old) (e ∷ [])) (seen_by n old) (seen_by n new) =
    laws.goes (seen_by n old) (seen_by n new) el e own.steady happens in
    let l : LeavesBooks (seen_by n old) (seen_by n new) = laws.books (seen_by n old) (seen_by n new) e none happens in
    let side : Elsewhere = side_of g.steady.standing.links (kept_in (seen_by n new)) in (
      side,
      (
        record {
          almost = record {
            from = seen_by n new;
            el = el;
            steady = g.steady;
            sees = sees_same (seen_by n new) (seen_by n new) refl;
            side_is = refl;
            fate = λ _.
                fate_as (rows_made_at (seen_by n old) (e ∷ [])) (made_in old e) (report_of (seen_by n old)) (report_of (seen_by n new))
                (seen_alike n old (e ∷ [])) g.fate;
          };
          alike = record {
            performed = λ test. omega (
              arith,
              (rw (sym l.indices) at own.steady.standing.behind.relayed).same test,
              g.steady.standing.behind.relayed.same test,
              l.controls.same test,
              count_by-append test (commands_below new.indices own.steady.standing.links.above.performed) (commands_below new.indices el.performed),
              count_by-append test (commands_below new.indices g.steady.standing.links.above.performed) (commands_below new.indices el.performed),
              ap (λ (x : Elsewhere). count_by test (commands_below new.indices x.performed)) own.side,
            );
            orders = l.orders ∙ sym (ap (λ (x : Elsewhere). x.orders) own.side);
          };
        },
        (el, refl, (g.steady, refl)),
      ),
    )

-- of the concentrator and the substations: all centres' links move
at_none : AllLaws → (old new : Whole) (e : Event) → AreSteady old → centre_at e ≡ None
    → ForEach (λ n. Happens (seen_by n old) e (seen_by n new)) → GoesOn (made_in old e) old new
at_none laws old new e s none happens =
    let chosen = choose (λ n side. IsMoved old new e (at n s.sides) n side
    × ((el : Elsewhere) × (el ≡ beside n s.sides) × ((st : IsSteadyBeside el (seen_by n new)) × (side ≡ side_of st.standing.links (kept_in (seen_by n new))))))
    (λ n low. moves laws old new e s none n low (happens n low)) in
    let first = chosen.1 0 (omega arith) in
    let sum : AddUp chosen.0 (seen_by 0 new) =
    adds_up (seen_by 0 new) 0 (omega arith) chosen.0 first.1.0 first.1.2.0 first.1.2.1
    (subst (IsAsMuch (seen_by 0 new) 0 chosen.0) (sym first.1.1) (alike_much (seen_by 0 new) 0 (omega arith) s.sides chosen.0
    (λ k few. let a = (chosen.1 k few).0.alike in record { performed = a.performed; orders = a.orders }))) in
    all_steady laws (made_in old e) old new chosen.0 (λ n low. (chosen.1 n low).0.almost) sum

pub every_event : AllLaws → (old new : Whole) (e : Event) → AreSteady old → HappensToAll old e new → GoesOn (made_in old e) old new
every_event laws old new e s h =
    by_place (GoesOn (made_in old e) old new) (λ was is. Happens was e is) (centre_at e) old new
    (λ none happens. at_none laws old new e s none happens)
    (λ n low at_it happens others. at_one laws old new e s n low at_it happens others)
    (λ n at_it high same. subst (GoesOn (made_in old e) old) (sym same) (record {
      steady = s;
      fate = λ centre low.
          let r : Report = report_of (seen_by centre old) in
          fate_as (λ i. []) (made_in old e) r r (λ i. sym (none_made_at (seen_by 0 old) e n at_it i)) (nothing_more r);
    })) h

-- ---- the rows of an event, and then those of the events after it

-- of the same substations the same rows
still_made : (old next : System) → next.substations ≡ old.substations → next.concentrator.links ≡ old.concentrator.links → (events : List Event) (i : ℕ)
    → rows_made_at next events i ≡ rows_made_at old events i
still_made old next substations links events i =
    ap (λ (o : Option Database). made_from o (flat_map (λ e. moves_at next e i) events))
    (ap (λ (xs : List SubstationState). option_map (λ (x : SubstationState). x.core.points) (slice_get xs i)) substations)
    ∙ ap (λ (moves : List Move). made_from (points_at old i) moves)
    (all_moves old next
    (λ substation.
    ap (λ (xs : List SubstationState). nat_lt substation (length xs) && nat_lt substation (length next.concentrator.links)) substations
    ∙ ap (λ (ls : List Relaying). nat_lt substation (length old.substations) && nat_lt substation (length ls)) links)
    events i)

-- where the event makes none
made_later : (old next : System) (e : Event) (events : List Event) (o : ℕ) → centre_at e ≡ Some o → next.substations ≡ old.substations
    → next.concentrator.links ≡ old.concentrator.links → (i : ℕ)
    → rows_made_at old (e ∷ events) i ≡ rows_made_at old (e ∷ []) i ++ rows_made_at next events i
made_later old next e events o is substations links i =
    ap (λ (moves : List Move). made_from (points_at old i) (moves ++ flat_map (λ x. moves_at old x i) events)) (none_at old e i o is)
    ∙ sym (still_made old next substations links events i)
    ∙ ap (λ (rows : List Row). rows ++ rows_made_at next events i) (sym (none_made_at old e o is i))

-- what the law of one centre's system promises
abbrev pub RowsLaw : Type 0
RowsLaw = (old next : System) (e : Event) (events : List Event) → Happens old e next → (i : ℕ)
    → rows_made_at old (e ∷ events) i ≡ rows_made_at old (e ∷ []) i ++ rows_made_at next events i

pub rows_follow : RowsLaw → (old next : Whole) (e : Event) (events : List Event) → HappensToAll old e next → (i : ℕ)
    → made_by old (e ∷ events) i ≡ made_by old (e ∷ []) i ++ made_by next events i
rows_follow law old next e events h i =
    by_place (made_by old (e ∷ events) i ≡ made_by old (e ∷ []) i ++ made_by next events i) (λ s t. Happens s e t) (centre_at e) old next
    (λ none happens. law (seen_by 0 old) (seen_by 0 next) e events (happens 0 (omega arith)) i)
    (λ n low at_it happens others.
    by_seen (made_by old (e ∷ events) i ≡ made_by old (e ∷ []) i ++ made_by next events i) (λ s t. Happens s e t) (is_elsewhere 0 (centre_at e))
    (seen_by 0 old) (seen_by 0 next) (λ first. law (seen_by 0 old) (seen_by 0 next) e events first i)
    (λ first. made_later (seen_by 0 old) (seen_by 0 next) e events n at_it (ap (λ (s : System). s.substations) first.after)
    (ap (λ (s : System). s.concentrator.links) first.after) i) (rw at_it (done_at n (λ s t. Happens s e t) old next happens others 0 (omega arith))))
    (λ n at_it high same. made_later (seen_by 0 old) (seen_by 0 next) e events n at_it (ap (λ (w : Whole). w.substations) same)
    (ap (λ (w : Whole). w.concentrator.links) same) i) h
