-- What events make of the points of substations, and which rows they make.
use Rattle.std.proofs.Common.{◌≡◌, ℕ, Bool, true, false, ◌&&◌, ◌==◌, if◌then◌else◌, List, [], ◌∷◌, ◌++◌, append-nil, length, nat_lt, Option, Some, None, option_map, ◌⊎◌, inl, inr, refl, sym, ap, ◌∙◌, subst, eq-eqb, ne_eqb}
use Rattle.std.specs.Prelude.{option_to_list, slice_get, slice_set}
use Rattle.std.specs.List.{flat_map}
use Rattle.std.proofs.lemmas.Bool.{cases_eq}
use Rattle.std.proofs.lemmas.List.{length-map, length-set, map-append}
use Rattle.std.proofs.lemmas.Option.{slice_get-map}
use Rattle.dnp_eventbuf.specs.EventBuffer.{arriving, dropped_by, with_rows}
use Rattle.dnp_objects.specs.declared.lane.LaneRow.{LaneRow}
use Rattle.dnp_objects.specs.declared.row.Kind.{Kind}
use Rattle.dnp_objects.specs.declared.row.Row.{Row}
use Rattle.dnp_outstation.specs.State.{State, Step, nothing}
use Rattle.dnp_pointdb.specs.Database.{Database, changed_of}
use Rattle.dnp_pointdb.specs.Runs.{Move, Change, Restart, rows_of}
use Rattle.dnp_pointdb.specs.declared.reading.Reading.{Reading}
use Rattle.dnp_world.specs.Behind.{made_at}
use Rattle.dnp_world.specs.Centres.{centre_at}
use Rattle.dnp_world.specs.Joined.{rows_made_by}
use Rattle.dnp_world.specs.Steady.{issued_by, made_from, moves_at, points_at, rows_made_at}
use Rattle.dnp_world.specs.SystemRuns.{Happens}
use Rattle.dnp_world.specs.Systems.{System, SubstationState, has_substation, station_of}
use Rattle.dnp_world.specs.declared.event.Event.{Event}
use Rattle.dnp_world.specs.declared.event.Event.TheVariants as event
use Rattle.dnp_world.specs.declared.event.Place.TheVariants as place
use Rattle.dnp_world.specs.declared.link_event.LinkEvent.TheVariants as link_event
use Rattle.dnp_world.specs.steps.MoveLaws.{PointLaws}
use Rattle.dnp_world.proofs.BelowCalls.{same_set}
use Rattle.dnp_world.proofs.EventTouches.{Does, does}
use Rattle.dnp_world.proofs.JoinedHappenings.{moved_all, refused_change, rows_behind}
use Rattle.dnp_world.proofs.JoinedPoints.{end_points, opened_leaves, received_leaves, ticked_leaves}
use Rattle.dnp_world.proofs.ListedAt.{set_here, set_there}
use Rattle.dnp_world.proofs.SystemCounts.{of_substation-at, of_substation-other}
use Rattle.dnp_world.proofs.Touches.{AllHangUp, Call, Called, Ends, HangsUp, Hears, LinkRelays, LinkUsed, Nobody, Opens, Outstation, Reads, Refused, Restarts, Ticks, Touched, Used, Waits, after_call, after_called, after_used, at_only, ends_of, moves_in, moves_of}

-- ---- the points after a call

call_points : PointLaws → (s : State) (call : Call) → (after_call s call).core.points ≡ moved_all s.core.points (moves_of call)
call_points laws s Waits = refl
call_points laws s (Opens now) = (opened_leaves laws s now).points_are
call_points laws s (Hears outputs now fragment) = (received_leaves laws s outputs now fragment).points_are
call_points laws s (Reads now kind index reading made) =
    let first : Step = record {
      state = record s { core = record s.core { points = changed_of s.core.points kind index reading }; lanes = with_rows s.lanes (option_to_list made) };
      does = record nothing { overwritten = dropped_by s.lanes (option_to_list made) };
    } in
    end_points laws (changed_of s.core.points kind index reading) now first refl
call_points laws s (Ticks now) = (ticked_leaves laws s now).points_are
call_points laws s HangsUp = refl
call_points laws s Restarts = refl

abbrev points_in : List State → ℕ → Option Database
points_in xs i = option_map (λ x. x.core.points) (slice_get xs i)

unmoved : (o : Option Database) → option_map (λ points. moved_all points []) o ≡ o
unmoved None = refl
unmoved (Some points) = refl

-- at the substation that was called, and at each other one
set_points : (xs : List State) (substation : ℕ) (was is : State) (moves : List Move) → slice_get xs substation ≡ Some was
    → is.core.points ≡ moved_all was.core.points moves
    → (i : ℕ) → points_in (slice_set xs substation is) i ≡ option_map (λ points. moved_all points (at_only substation moves i)) (points_in xs i)
set_points xs substation was is moves there moved i = by (cases_eq substation i)
  where
    of_state : Option State → Option Database
    of_state o = option_map (λ x. x.core.points) o

    here : points_in (slice_set xs substation is) substation
        ≡ option_map (λ points. moved_all points (at_only substation moves substation)) (points_in xs substation)
    here = rw (set_here xs substation was is there, there, moved, eq-eqb substation substation refl)

    by : (substation ≡ i) ⊎ (substation ≡ i → ⊥)
        → points_in (slice_set xs substation is) i ≡ option_map (λ points. moved_all points (at_only substation moves i)) (points_in xs i)
    by (inl same) =
        subst (λ (n : ℕ). points_in (slice_set xs substation is) n
        ≡ option_map (λ points. moved_all points (at_only substation moves n)) (points_in xs n)) same here
    by (inr other) =
        ap of_state (set_there xs substation i is (λ e. other (sym e)))
        ∙ sym (unmoved (points_in xs i))
        ∙ ap (λ (b : Bool). option_map (λ points. moved_all points (if b then moves else [])) (points_in xs i)) (sym (ne_eqb substation i other))

same_points : (xs : List State) (substation : ℕ) (was : State) (moves : List Move) → slice_get xs substation ≡ Some was
    → moved_all was.core.points moves ≡ was.core.points
    → (i : ℕ) → points_in xs i ≡ option_map (λ points. moved_all points (at_only substation moves i)) (points_in xs i)
same_points xs substation was moves there same i =
    subst (λ (ys : List State). points_in ys i ≡ option_map (λ points. moved_all points (at_only substation moves i)) (points_in xs i))
    (same_set xs substation was there) (set_points xs substation was was moves there (sym same) i)

called_points : PointLaws → (xs : List State) (called : Called xs) (i : ℕ)
    → points_in (after_called xs called) i ≡ option_map (λ points. moved_all points (moves_in called i)) (points_in xs i)
called_points laws xs Nobody i = sym (unmoved (points_in xs i))
called_points laws xs (Outstation substation was call there) i =
    set_points xs substation was (after_call was call) (moves_of call) there (call_points laws was call) i
called_points laws xs (Refused substation was kind index reading fault there refused) i =
    same_points xs substation was _ there (refused_change was.core.points kind index reading fault refused) i

-- ---- the points after an event

points_mapped : (s : System) (i : ℕ) → points_at s i ≡ points_in (ends_of s).outstations i
points_mapped s i = by (slice_get s.substations i) ∙ ap (option_map (λ x. x.core.points)) (sym (slice_get-map station_of s.substations i))
  where
    by : (o : Option SubstationState) → option_map (λ x. x.core.points) o ≡ option_map (λ x. x.core.points) (option_map station_of o)
    by None = refl
    by (Some x) = refl

abbrev Done : System → Event → System → Type 0
Done old e new = Does (centre_at e) (moves_at old e) (issued_by old e) (ends_of old) (ends_of new)

event_points : PointLaws → (old new : System) (e : Event) → Done old e new → (i : ℕ)
    → points_at new i ≡ option_map (λ points. moved_all points (moves_at old e i)) (points_at old i)
event_points laws old new e m i =
    points_mapped new i
    ∙ ap (λ (x : Ends). points_in x.outstations i) m.touched.after
    ∙ called_points laws (ends_of old).outstations m.touched.called i
    ∙ ap (λ (moves : List Move). option_map (λ points. moved_all points moves) (points_in (ends_of old).outstations i)) (m.moved i)
    ∙ ap (λ (o : Option Database). option_map (λ points. moved_all points (moves_at old e i)) o) (sym (points_mapped old i))

-- ---- the substations of the plan stay the same

called_length : (xs : List State) (called : Called xs) → length (after_called xs called) ≡ length xs
called_length xs Nobody = refl
called_length xs (Outstation substation was call there) = length-set xs substation (after_call was call)
called_length xs (Refused substation was kind index reading fault there refused) = refl

links_length : (e : Ends) (used : Used e) → length (after_used e used).links ≡ length e.links
links_length e (LinkUsed substation call) = length-set e.links substation _
links_length e (LinkRelays substation now) = length-set e.links substation _
links_length e AllHangUp = length-map e.links _
links_length e used = refl

same_substations : (old new : System) → Touched old new → (substation : ℕ) → has_substation new substation ≡ has_substation old substation
same_substations old new t substation =
    ap (λ (n : ℕ). nat_lt substation n && nat_lt substation (length new.concentrator.links))
    (sym (length-map new.substations station_of) ∙ ap (λ (x : Ends). length x.outstations) t.after
    ∙ called_length (ends_of old).outstations t.called ∙ length-map old.substations station_of)
    ∙ ap (λ (n : ℕ). nat_lt substation (length old.substations) && nat_lt substation n)
    (ap (λ (x : Ends). length x.links) t.after ∙ links_length (ends_of old) t.used)

same_moves : (old new : System) → ((substation : ℕ) → has_substation new substation ≡ has_substation old substation) → (e : Event) (i : ℕ)
    → moves_at new e i ≡ moves_at old e i
same_moves old new same (event.Change substation kind index reading) i =
    ap (λ (b : Bool). if b && substation == i then Change kind index reading ∷ [] else []) (same substation)
same_moves old new same (event.Restart (place.Substation substation)) i =
    ap (λ (b : Bool). if b && substation == i then (let first : Move = Restart in first) ∷ [] else []) (same substation)
same_moves old new same e i = refl

pub all_moves : (old new : System) → ((substation : ℕ) → has_substation new substation ≡ has_substation old substation) → (events : List Event) (i : ℕ)
    → flat_map (λ e. moves_at new e i) events ≡ flat_map (λ e. moves_at old e i) events
all_moves old new same [] i = refl
all_moves old new same (e ∷ events) i =
    ap (λ (moves : List Move). moves ++ flat_map (λ e. moves_at new e i) events) (same_moves old new same e i)
    ∙ ap (λ (moves : List Move). moves_at old e i ++ moves) (all_moves old new same events i)

-- ---- the rows that are made

pub none_made : (o : Option Database) → made_from o [] ≡ []
none_made None = refl
none_made (Some points) = refl

made_in_turn : (o : Option Database) (first second : List Move)
    → made_from o (first ++ second) ≡ made_from o (first ++ []) ++ made_from (option_map (λ points. moved_all points first) o) second
made_in_turn None first second = refl
made_in_turn (Some points) first second =
    ap arriving (rows_behind points first second)
    ∙ map-append (λ (x : LaneRow). x.row) (rows_of points first) (rows_of (moved_all points first) second)
    ∙ ap (λ (moves : List Move). arriving (rows_of points moves) ++ arriving (rows_of (moved_all points first) second)) (sym (append-nil first))

-- ---- those of one event

-- the row that a reading of a substation's point makes, if it makes one
abbrev pub read_at : Option SubstationState → Kind → ℕ → Reading → List Row
read_at None kind index reading = []
read_at (Some s) kind index reading = rows_made_by s.core.points (link_event.Change kind index reading ∷ [])

abbrev pub made_by : System → Event → ℕ → List Row
made_by s (event.Change substation kind index reading) i =
    if has_substation s substation then made_at substation (read_at (slice_get s.substations substation) kind index reading) i else []
made_by s event i = []

restarts_none : (o : Option Database) (b : Bool) → made_from o ((if b then Restart ∷ [] else []) ++ []) ≡ []
restarts_none None b = refl
restarts_none (Some points) true = refl
restarts_none (Some points) false = refl

reads_once : (s : System) (substation : ℕ) (kind : Kind) (index : ℕ) (reading : Reading) (i : ℕ) (b : Bool)
    → made_from (points_at s i) ((if b && substation == i then Change kind index reading ∷ [] else []) ++ [])
    ≡ (if b then made_at substation (read_at (slice_get s.substations substation) kind index reading) i else [])
reads_once s substation kind index reading i false = none_made (points_at s i)
reads_once s substation kind index reading i true = by (cases_eq substation i)
  where
    Made : ℕ → Bool → List Row
    Made k b = made_from (points_at s k) ((if b then Change kind index reading ∷ [] else []) ++ [])

    of : (o : Option SubstationState) → made_from (option_map (λ x. x.core.points) o) (Change kind index reading ∷ []) ≡ read_at o kind index reading
    of None = refl
    of (Some x) = refl

    rows : List Row
    rows = read_at (slice_get s.substations substation) kind index reading

    by : (substation ≡ i) ⊎ (substation ≡ i → ⊥) → Made i (substation == i) ≡ made_at substation rows i
    by (inl same) =
        subst (λ (k : ℕ). Made k (substation == k) ≡ made_at substation rows k) same
        (ap (Made substation) (eq-eqb substation substation refl) ∙ of (slice_get s.substations substation) ∙ sym (of_substation-at substation rows))
    by (inr other) =
        ap (Made i) (ne_eqb substation i other) ∙ none_made (points_at s i) ∙ sym (of_substation-other i substation (λ e. other (sym e)) rows)

pub made_once : (s : System) (e : Event) (i : ℕ) → rows_made_at s (e ∷ []) i ≡ made_by s e i
made_once s (event.Change substation kind index reading) i = reads_once s substation kind index reading i (has_substation s substation)
made_once s (event.Restart (place.Substation substation)) i = restarts_none (points_at s i) (has_substation s substation && substation == i)
made_once s e i = none_made (points_at s i)

-- ---- those of lists

-- those of an event, and then those of the events after it
pub made_behind : PointLaws → (old next : System) (e : Event) (events : List Event) → Happens old e next → (i : ℕ)
    → rows_made_at old (e ∷ events) i ≡ rows_made_at old (e ∷ []) i ++ rows_made_at next events i
made_behind laws old next e events h i =
    let m : Done old e next = does old next e h in
    made_in_turn (points_at old i) (moves_at old e i) (flat_map (λ x. moves_at old x i) events)
    ∙ ap (λ (o : Option Database). rows_made_at old (e ∷ []) i ++ made_from o (flat_map (λ x. moves_at old x i) events))
    (sym (event_points laws old next e m i))
    ∙ ap (λ (moves : List Move). rows_made_at old (e ∷ []) i ++ made_from (points_at next i) moves)
    (sym (all_moves old next (same_substations old next m.touched) events i))
