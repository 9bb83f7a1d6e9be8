-- A master refuses what it looks at exactly where something is told of it.
use Rattle.std.proofs.Common.{◌≡◌, ℕ, Bool, true, false, cond, ◌&&◌, List, [], ◌∷◌, Result, Ok, Err, refl, sym, ◌∙◌, ap, arith}
use Rattle.std.specs.Prelude.{not, Option, Some, None, is_some, is_ok}
use Rattle.std.specs.List.{list_all}
use Rattle.std.specs.Option.{option_or}
use Rattle.std.proofs.lemmas.Bool.{false≢true}
use Rattle.std.proofs.lemmas.List.Folds.{list_all-append}
use Rattle.dnp_objects.specs.declared.row.Row.{Row}
use Rattle.dnp_appfragment.specs.declared.fault.AppFault.{AppFault}
use Rattle.dnp_appfragment.specs.EventRows.{header_rows, event_rows, is_event_header, events_in}
use Rattle.dnp_appfragment.specs.Fragments.{Answered}
use Rattle.dnp_appfragment.specs.Headers.{Head}
use Rattle.dnp_appfragment.specs.Meaning.{response_at}
use Rattle.dnp_master.specs.Calls.{unheeded, case_of, is_heeded, response_of, heard, receive_of}
use Rattle.dnp_master.specs.Rows.{is_from_plan, is_reported}
use Rattle.dnp_master.specs.State.{State}
use Rattle.dnp_notices.specs.Refusals.{stranger, header_stranger, first_stranger, is_told, looks_at}
use Rattle.dnp_pointdb.specs.Plan.{Plan}

-- ---- the first stranger of rows, of a header and of headers

in_rows : (plan : Plan) (rows : List Row) → is_some (stranger plan rows) ≡ not (list_all (is_reported plan) rows)
in_rows plan [] = refl
in_rows plan (row ∷ rows) = by_row (is_reported plan row) (in_rows plan rows)
  where
    by_row : (b : Bool) → is_some (stranger plan rows) ≡ not (list_all (is_reported plan) rows)
        → is_some (cond b (stranger plan rows) (Some row)) ≡ not (b && list_all (is_reported plan) rows)
    by_row true rest = rest
    by_row false rest = refl

in_header : (plan : Plan) (h : Head) → is_some (header_stranger plan h) ≡ not (list_all (is_reported plan) (event_rows h))
in_header plan h = by_kind (is_event_header h)
  where
    by_kind : (b : Bool) → is_some (cond b (stranger plan (header_rows h)) None) ≡ not (list_all (is_reported plan) (cond b (header_rows h) []))
    by_kind true = in_rows plan (header_rows h)
    by_kind false = refl

either : (x y : Option Row) (a b : Bool) → is_some x ≡ not a → is_some y ≡ not b → is_some (option_or x y) ≡ not (a && b)
either (Some row) y true b e f = absurd (false≢true (sym e))
either (Some row) y false b e f = refl
either None y true b e f = f
either None y false b e f = absurd (false≢true e)

in_headers : (plan : Plan) (headers : List Head) → is_some (first_stranger plan headers) ≡ not (is_from_plan plan headers)
in_headers plan [] = refl
in_headers plan (h ∷ headers) =
    either (header_stranger plan h) (first_stranger plan headers) (list_all (is_reported plan) (event_rows h)) (is_from_plan plan headers)
    (in_header plan h) (in_headers plan headers)
    ∙ ap not (sym (list_all-append (is_reported plan) (event_rows h) (events_in headers)))

-- ---- the master

by_case : (s : State) (now : ℕ) (answered : Answered)
    → is_ok (response_of s now answered) ≡ not (is_heeded (case_of s answered) && is_told s.plan (Ok answered))
by_case s now answered = grind (arith, in_headers s.plan answered.headers)

abbrev looks : State → Bool → Result Answered AppFault → Bool
looks s is_open (Ok answered) = is_open && is_heeded (case_of s answered)
looks s is_open (Err fault) = is_open

by_open : (s : State) (now : ℕ) (answer : Result Answered AppFault) (is_open : Bool)
    → is_ok (cond is_open (heard s now answer) (Ok (unheeded s))) ≡ not (looks s is_open answer && is_told s.plan answer)
by_open s now (Ok answered) true = by_case s now answered
by_open s now (Ok answered) false = refl
by_open s now (Err fault) true = refl
by_open s now (Err fault) false = refl

pub refused_where_told : (s : State) (now : ℕ) (octets : List ℕ)
    → is_ok (receive_of s now octets) ≡ not (looks_at s (response_at octets) && is_told s.plan (response_at octets))
unfolding receive_of
refused_where_told s now octets = by_answer (response_at octets)
  where
    by_answer : (answer : Result Answered AppFault)
        → is_ok (cond s.is_open (heard s now answer) (Ok (unheeded s))) ≡ not (looks_at s answer && is_told s.plan answer)
    by_answer (Ok answered) = by_open s now (Ok answered) s.is_open
    by_answer (Err fault) = by_open s now (Err fault) s.is_open
