-- Each event that a master takes is of a point of its plan with a class.
use Rattle.std.proofs.Common.{◌≡◌, ℕ, zero, suc, Bool, true, false, cond, ◌&&◌, List, [], ◌∷◌, Result, Ok, Err, IfOk, refl, sym, subst, arith}
use Rattle.std.specs.List.{All, list_all}
use Rattle.std.proofs.lemmas.Bool.{false≢true}
use Rattle.dnp_objects.specs.declared.row.Row.{Row}
use Rattle.dnp_appfragment.specs.declared.fault.AppFault.{AppFault}
use Rattle.dnp_appfragment.specs.EventRows.{events_in}
use Rattle.dnp_appfragment.specs.Fragments.{Answered}
use Rattle.dnp_appfragment.specs.Meaning.{response_at}
use Rattle.dnp_master.specs.declared.fault.MasterFault.TheVariants as fault
use Rattle.dnp_master.specs.declared.request.Case.{Case}
use Rattle.dnp_master.specs.declared.request.Case.TheVariants.{Unheeded, Awaited, Report}
use Rattle.dnp_master.specs.Calls.{Taking, unheeded, case_of, report_taken, ended, going_on, taken_as, checked, heard, receive_of}
use Rattle.dnp_master.specs.Rows.{is_from_plan, is_reported}
use Rattle.dnp_master.specs.State.{State}

abbrev AreReported : State → Taking → Type 0
AreReported s t = All (λ event. is_reported s.plan event ≡ true) t.events

all_of : (p : Row → Bool) (rows : List Row) → list_all p rows ≡ true → All (λ row. p row ≡ true) rows
all_of p [] e = λ k d lt. absurd (omega (arith, lt))
all_of p (x ∷ xs) e =
    let here = both (p x) (list_all p xs) e in
    with_first here.0 (all_of p xs here.1)
  where
    both : (a b : Bool) → (a && b) ≡ true → (a ≡ true) × (b ≡ true)
    both true b e = (refl, e)
    both false b e = absurd (false≢true e)

    with_first : p x ≡ true → All (λ row. p row ≡ true) xs → All (λ row. p row ≡ true) (x ∷ xs)
    with_first first rest zero d lt = first
    with_first first rest (suc i) d lt = rest i d (omega (arith, lt))

none : (s : State) → AreReported s (unheeded s)
none s k d lt = absurd (omega (arith, lt))

where_from_plan : (s : State) (answered : Answered) (b : Bool) (t : Taking) → is_from_plan s.plan answered.headers ≡ b
    → t.events ≡ events_in answered.headers → IfOk (cond b (Ok t) (Err fault.Stranger)) (AreReported s)
where_from_plan s answered true t is events =
    subst (λ (rows : List Row). All (λ event. is_reported s.plan event ≡ true) rows) (sym events)
    (all_of (is_reported s.plan) (events_in answered.headers) is)
where_from_plan s answered false t is events = tt

takes : (s : State) (now : ℕ) (answered : Answered) (case : Case)
    → IfOk (checked case s.plan answered (taken_as case s now answered)) (AreReported s)
takes s now answered Unheeded = none s
takes s now answered Report = where_from_plan s answered (is_from_plan s.plan answered.headers) (report_taken s answered) refl refl
takes s now answered (Awaited request) =
    where_from_plan s answered (is_from_plan s.plan answered.headers) (taken_as (Awaited request) s now answered) refl
    (alike answered.control.fin)
  where
    alike : (fin : Bool) → (cond fin (ended s request answered) (going_on s now request answered)).events ≡ events_in answered.headers
    alike true = refl
    alike false = refl

hears : (s : State) (now : ℕ) (r : Result Answered AppFault) → IfOk (heard s now r) (AreReported s)
hears s now (Err fault) = tt
hears s now (Ok answered) = takes s now answered (case_of s answered)

pub taken_reported : (s : State) (now : ℕ) (octets : List ℕ) → IfOk (receive_of s now octets) (AreReported s)
unfolding receive_of
taken_reported s now octets = by_open s.is_open
  where
    by_open : (o : Bool) → IfOk (cond o (heard s now (response_at octets)) (Ok (unheeded s))) (AreReported s)
    by_open true = hears s now (response_at octets)
    by_open false = none s
