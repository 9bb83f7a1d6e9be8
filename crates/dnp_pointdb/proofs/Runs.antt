-- The laws of the points.
use Rattle.std.proofs.Common.{◌≡◌, ◌≢◌, ℕ, ◌⊎◌, Bool, true, false, cond, ◌&&◌, ◌==◌, List, [], ◌∷◌, ◌++◌, Option, Some, None, Result, Ok, Err, refl, sym, ◌∙◌, ap, subst, arith, inl, inr}
use Rattle.std.specs.Option.{option_map, option_to_list}
use Rattle.std.specs.List.{cons_option}
use Rattle.std.proofs.Common.{eqb-true}
use Rattle.std.proofs.lemmas.Bool.{cases_order}
use Rattle.std.proofs.lemmas.Bool.Decides.{nat_tests}
use Rattle.std.proofs.lemmas.List.Elements.{filter-append}
use Rattle.dnp_objects.specs.declared.row.Kind.{Kind}
use Rattle.dnp_objects.specs.declared.row.Kind.TheVariants.{Binary, Counter, Analog}
use Rattle.dnp_objects.specs.declared.row.Row.{Row}
use Rattle.dnp_objects.specs.declared.lane.Lane.{Lane}
use Rattle.dnp_objects.specs.declared.lane.LaneRow.{LaneRow}
use Rattle.dnp_objects.specs.Equality.{kind_eq}
use Rattle.dnp_pointdb.specs.declared.reading.Reading.{Reading}
use Rattle.dnp_pointdb.specs.declared.state.PointState.{PointState}
use Rattle.dnp_pointdb.specs.declared.fault.ChangeFault.{ChangeFault}
use Rattle.dnp_pointdb.specs.Ranges.{is_carried, is_in_time, is_in_range}
use Rattle.dnp_pointdb.specs.Events.{Happening, Reads, Restarts, differs, lane_of, row_of, event_of, report_after, happened}
use Rattle.dnp_pointdb.specs.Database.{Database, state_at, checked, made_from, answer_of, changed_state, changed_of, restarted, restarted_state}
use Rattle.dnp_pointdb.specs.Runs.{Move, Change, Restart, rows_made, rows_of, rows_at, is_of, happenings_of, happened_at}
use Rattle.dnp_pointdb.proofs.Changes.{tested}
use Rattle.dnp_pointdb.proofs.Histories.{state_at-restarted}
use Rattle.dnp_pointdb.proofs.ByKind.{same_kind, same_or_not}
use Rattle.dnp_pointdb.proofs.Readings.{changed_here, refused_here, changed_elsewhere}

-- ---- the rows that a call makes

-- the row in its lane, if there is a reason and a lane
abbrev event_from : Bool → Option Lane → Row → Option LaneRow
event_from differs lane row = cond differs (option_map (λ (l : Lane). record { lane = l; row = row }) lane) None

abbrev no_rows : List LaneRow
no_rows = []

none_either_way : (t : Bool) → no_rows ≡ cond t no_rows no_rows
none_either_way true = refl
none_either_way false = refl

rows_from : (kind : Kind) (index : ℕ) (row : Row) (t : Bool) → (kind_eq row.kind kind && row.index == index) ≡ t
    → (differs : Bool) (lane : Option Lane)
    → rows_at kind index (option_to_list (event_from differs lane row)) ≡ cond t (option_to_list (event_from differs lane row)) []
rows_from kind index row t is false lane = none_either_way t
rows_from kind index row t is true None = none_either_way t
rows_from kind index row t is true (Some lane) =
    ap (λ (b : Bool). cond b (record { lane = lane; row = row } ∷ []) []) is

rows_of_answer : (kind : Kind) (index : ℕ) (k : Kind) (i : ℕ) (reading : Reading) (t : Bool) → (kind_eq k kind && i == index) ≡ t
    → (answer : Result PointState ChangeFault)
    → rows_at kind index (rows_made (made_from k i reading answer)) ≡ cond t (rows_made (made_from k i reading answer)) []
rows_of_answer kind index k i reading t is (Err fault) = none_either_way t
rows_of_answer kind index k i reading t is (Ok state) =
    rows_from kind index (row_of k i reading) t is (differs state.point state.reported reading) (lane_of state.point.class k)

kind_eq-same : (kind : Kind) → kind_eq kind kind ≡ true
kind_eq-same Binary = refl
kind_eq-same Counter = refl
kind_eq-same Analog = refl

is_itself : (kind : Kind) (index : ℕ) → (kind_eq kind kind && index == index) ≡ true
is_itself kind index =
    let same : (index == index) ≡ true = grind (arith, nat_tests) in
    ap (λ (b : Bool). b && index == index) (kind_eq-same kind) ∙ same

-- ---- a change of the point itself

answer_out : (state : PointState) (kind : Kind) (index : ℕ) (reading : Reading) (carried timely : Bool) → carried && timely ≡ false
    → rows_made (made_from kind index reading (tested state carried timely)) ≡ []
answer_out state kind index reading true true out = absurd (cc)
answer_out state kind index reading true false out = refl
answer_out state kind index reading false timely out = refl

answer_in_range : (state : PointState) (carried timely : Bool) → carried && timely ≡ true → tested state carried timely ≡ Ok state
answer_in_range state true true in_range = refl
answer_in_range state true false in_range = absurd (cc)
answer_in_range state false timely in_range = absurd (cc)

-- in range
told : (found after : Option PointState) (kind : Kind) (index : ℕ) (reading : Reading) (rest : List LaneRow) (more : List Happening)
    → is_in_range kind reading ≡ true → after ≡ option_map (changed_state kind index reading) found
    → rest ≡ happened_at after kind index more
    → rows_made (made_from kind index reading (checked found kind reading)) ++ rest ≡ happened_at found kind index (Reads reading ∷ more)
told None after kind index reading rest more in_range is rest_is =
    rest_is ∙ ap (λ (o : Option PointState). happened_at o kind index more) is
told (Some state) after kind index reading rest more in_range is rest_is =
    let events : List LaneRow = option_to_list (event_of kind index state.point state.reported reading) in
    ap (λ (r : Result PointState ChangeFault). rows_made (made_from kind index reading r) ++ rest)
    (answer_in_range state (is_carried kind reading) (is_in_time reading.time) in_range)
    ∙ ap (λ (l : List LaneRow). events ++ l) (rest_is ∙ ap (λ (o : Option PointState). happened_at o kind index more) is)
    ∙ sym (ap (λ (t : Bool). cond t (events ++ happened kind index state.point (report_after kind index state.point state.reported reading) more)
    (happened kind index state.point state.reported more)) in_range)

-- out of range
untold : (found after : Option PointState) (kind : Kind) (index : ℕ) (reading : Reading) (rest : List LaneRow) (more : List Happening)
    → is_in_range kind reading ≡ false → after ≡ found
    → rest ≡ happened_at after kind index more
    → rows_made (made_from kind index reading (checked found kind reading)) ++ rest ≡ happened_at found kind index (Reads reading ∷ more)
untold None after kind index reading rest more out is rest_is =
    rest_is ∙ ap (λ (o : Option PointState). happened_at o kind index more) is
untold (Some state) after kind index reading rest more out is rest_is =
    let events : List LaneRow = option_to_list (event_of kind index state.point state.reported reading) in
    ap (λ (l : List LaneRow). l ++ rest) (answer_out state kind index reading (is_carried kind reading) (is_in_time reading.time) out)
    ∙ rest_is ∙ ap (λ (o : Option PointState). happened_at o kind index more) is
    ∙ sym (ap (λ (t : Bool). cond t (events ++ happened kind index state.point (report_after kind index state.point state.reported reading) more)
    (happened kind index state.point state.reported more)) out)

told_or_untold : (database : Database) (kind : Kind) (index : ℕ) (reading : Reading) (rest : List LaneRow) (more : List Happening) (t : Bool)
    → is_in_range kind reading ≡ t
    → rest ≡ happened_at (state_at (changed_of database kind index reading) kind index) kind index more
    → rows_made (answer_of database kind index reading) ++ rest ≡ happened_at (state_at database kind index) kind index (Reads reading ∷ more)
told_or_untold database kind index reading rest more true is rest_is =
    told (state_at database kind index) (state_at (changed_of database kind index reading) kind index) kind index reading rest more is
    (changed_here database kind index reading is) rest_is
told_or_untold database kind index reading rest more false is rest_is =
    untold (state_at database kind index) (state_at (changed_of database kind index reading) kind index) kind index reading rest more is
    (refused_here database kind index reading is) rest_is

-- ---- a step of the run

-- what is to be shown of the rest, and of the whole, at a kind and an index
abbrev Rest : Database → Kind → ℕ → Reading → List Move → Kind → ℕ → Type 0
Rest database k i reading moves kind index =
    rows_at kind index (rows_of (changed_of database k i reading) moves)
    ≡ happened_at (state_at (changed_of database k i reading) kind index) kind index (happenings_of kind index moves)

abbrev Whole : Database → Kind → ℕ → Reading → List Move → Kind → ℕ → Type 0
Whole database k i reading moves kind index =
    rows_at kind index (rows_of database (Change k i reading ∷ moves))
    ≡ happened_at (state_at database kind index) kind index (happenings_of kind index (Change k i reading ∷ moves))

happenings-cons : (k : Kind) (i : ℕ) (reading : Reading) (moves : List Move) (kind : Kind) (index : ℕ) (t : Bool)
    → (kind_eq k kind && i == index) ≡ t
    → happenings_of kind index (Change k i reading ∷ moves) ≡ cond t (Reads reading ∷ happenings_of kind index moves) (happenings_of kind index moves)
happenings-cons k i reading moves kind index true is =
    ap (λ (b : Bool). cons_option (cond b (Some (Reads reading)) None) (happenings_of kind index moves)) is
happenings-cons k i reading moves kind index false is =
    ap (λ (b : Bool). cons_option (cond b (Some (Reads reading)) None) (happenings_of kind index moves)) is

step_here : (database : Database) (k : Kind) (i : ℕ) (reading : Reading) (moves : List Move)
    → Rest database k i reading moves k i → Whole database k i reading moves k i
step_here database k i reading moves rest =
    let after : List LaneRow = rows_of (changed_of database k i reading) moves in
    filter-append (is_of k i) (rows_made (answer_of database k i reading)) after
    ∙ ap (λ (l : List LaneRow). l ++ rows_at k i after)
    (rows_of_answer k i k i reading true (is_itself k i) (checked (state_at database k i) k reading))
    ∙ told_or_untold database k i reading (rows_at k i after) (happenings_of k i moves) (is_in_range k reading) refl rest
    ∙ sym (ap (λ (hs : List Happening). happened_at (state_at database k i) k i hs) (happenings-cons k i reading moves k i true (is_itself k i)))

step_elsewhere : (database : Database) (k : Kind) (i : ℕ) (reading : Reading) (moves : List Move) (kind : Kind) (index : ℕ)
    → (kind_eq k kind && i == index) ≡ false → (k ≢ kind) ⊎ (i ≢ index)
    → Rest database k i reading moves kind index → Whole database k i reading moves kind index
step_elsewhere database k i reading moves kind index misses apart rest =
    let after : List LaneRow = rows_of (changed_of database k i reading) moves in
    filter-append (is_of kind index) (rows_made (answer_of database k i reading)) after
    ∙ ap (λ (l : List LaneRow). l ++ rows_at kind index after)
    (rows_of_answer kind index k i reading false misses (checked (state_at database k i) k reading))
    ∙ rest
    ∙ ap (λ (o : Option PointState). happened_at o kind index (happenings_of kind index moves)) (changed_elsewhere database k kind i index reading apart)
    ∙ sym (ap (λ (hs : List Happening). happened_at (state_at database kind index) kind index hs) (happenings-cons k i reading moves kind index false misses))

indices : (i index : ℕ) → (i ≡ index) ⊎ (i ≢ index)
indices i index = elim (cases_order i index) [
  | inl same ↦ inl same
  | inr (inl lt) ↦ inr (λ same. omega arith)
  | inr (inr gt) ↦ inr (λ same. omega arith)
]

test_apart : (k kind : Kind) (i index : ℕ) → (k ≢ kind) ⊎ (i ≢ index) → (kind_eq k kind && i == index) ≡ false
test_apart k kind i index apart = by_test (kind_eq k kind && i == index) refl
  where
    both : (a b : Bool) → a && b ≡ true → (a ≡ true) × (b ≡ true)
    both true b is = (refl, is)
    both false b is = absurd (cc)

    by_test : (t : Bool) → (kind_eq k kind && i == index) ≡ t → (kind_eq k kind && i == index) ≡ false
    by_test false is = is
    by_test true is =
        let parts = both (kind_eq k kind) (i == index) is in
        let kind_is : k ≡ kind = same_kind k kind parts.0 in
        let index_is : i ≡ index = eqb-true i index parts.1 in
        absurd (elim apart [ inl k_apart ↦ k_apart kind_is | inr i_apart ↦ i_apart index_is ])

step : (database : Database) (k : Kind) (i : ℕ) (reading : Reading) (moves : List Move) (kind : Kind) (index : ℕ)
    → Rest database k i reading moves kind index → Whole database k i reading moves kind index
step database k i reading moves kind index rest =
    let elsewhere : ((k ≢ kind) ⊎ (i ≢ index)) → Whole database k i reading moves kind index = λ apart.
    step_elsewhere database k i reading moves kind index (test_apart k kind i index apart) apart rest in
    elim (same_or_not k kind) [
      | inr k_apart ↦ elsewhere (inl k_apart)
      | inl same_kind ↦ elim (indices i index) [
        | inr i_apart ↦ elsewhere (inr i_apart)
        | inl same_index ↦
            let P : Kind → Type 0 = λ x. Rest database k i reading moves x index → Whole database k i reading moves x index in
            let Q : ℕ → Type 0 = λ x. Rest database k i reading moves k x → Whole database k i reading moves k x in
            subst P same_kind (subst Q same_index (step_here database k i reading moves)) rest
      ]
    ]

-- ---- the run

nothing_happened : (found : Option PointState) (kind : Kind) (index : ℕ) → no_rows ≡ happened_at found kind index []
nothing_happened None kind index = refl
nothing_happened (Some state) kind index = refl

restart_happened : (found : Option PointState) (kind : Kind) (index : ℕ) (more : List Happening)
    → happened_at (option_map restarted_state found) kind index more ≡ happened_at found kind index (Restarts ∷ more)
restart_happened None kind index more = refl
restart_happened (Some state) kind index more = refl

pub run : (database : Database) (moves : List Move) (kind : Kind) (index : ℕ)
    → rows_at kind index (rows_of database moves) ≡ happened_at (state_at database kind index) kind index (happenings_of kind index moves)
run database [] kind index = nothing_happened (state_at database kind index) kind index
run database (Restart ∷ moves) kind index =
    run (restarted database) moves kind index
    ∙ ap (λ (o : Option PointState). happened_at o kind index (happenings_of kind index moves)) (state_at-restarted database kind index)
    ∙ restart_happened (state_at database kind index) kind index (happenings_of kind index moves)
run database (Change k i reading ∷ moves) kind index =
    step database k i reading moves kind index (run (changed_of database k i reading) moves kind index)
