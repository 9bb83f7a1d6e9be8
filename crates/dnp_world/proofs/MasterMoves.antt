-- What each call of a master is to the link, by what `dnp_master` promises of its calls.
use Rattle.std.proofs.Common.{◌≡◌, ℕ, zero, suc, ◌+◌, ◌<◌, Bool, true, false, not, List, [], ◌∷◌, ◌++◌, map, drop, ◌⊎◌, inl, inr, Option, Some, None, Result, Ok, Err, IfOk, refl, sym, ap, ◌∙◌, subst, arith}
use Rattle.std.specs.Prelude.{if◌then◌else◌, is_some, option_to_list, slice_get}
use Rattle.std.specs.Int.{bit_at}
use Rattle.std.specs.List.Sorted.{IsPermutation}
use Rattle.std.proofs.lemmas.Bool.{both_ways}
use Rattle.std.proofs.lemmas.Bool.Decides.{Decides-eqb, nat_tests}
use Rattle.std.proofs.lemmas.List.{append-nil, map-append}
use Rattle.std.proofs.lemmas.List.Sorted.{IsPermutation-refl, IsPermutation-trans, IsPermutation-append_right, IsPermutation-sym}
use Rattle.std.proofs.lemmas.Option.{none-some, same_Some}
use Rattle.dnp_objects.specs.declared.row.Row.{Row}
use Rattle.dnp_appfragment.specs.Control.{ControlBits}
use Rattle.dnp_appfragment.specs.Fragments.{confirmation, request_octets}
use Rattle.dnp_eventbuf.specs.Buffered.{Buffered, buffered_row}
use Rattle.dnp_master.specs.declared.fault.MasterFault.{MasterFault}
use Rattle.dnp_master.specs.Calls.{Taking, confirm_for, receive_of, unheeded}
use Rattle.dnp_master.specs.State.{State}
use Rattle.dnp_master.specs.LinkCalls.{events_at, PassesOver, TakesResponse, TakesReport}
use Rattle.dnp_world.specs.Lists.{Each}
use Rattle.dnp_world.specs.Octets.{after, control_in, seq_in, uns_in, con_in, fin_in, rows_in}
use Rattle.dnp_world.specs.LawLink.{SentFragment, seq_of, fin_of, Down, Confirms, ConfirmsReport, Up, Responds, Reports, LawMaster, LawLink}
use Rattle.dnp_world.specs.Moves.{Says, confirm_of, taken, report_taken, lost_up, Move, Done, Then, Take, TakeReport, LoseUp}
use Rattle.dnp_world.specs.Standing.{IsOfStood, CarriesLaw}
use Rattle.dnp_world.specs.MasterSeen.{master_of, down_of, octets_of, MasterTakes}
use Rattle.dnp_world.proofs.Keeping.{move_stands}

-- what `dnp_master` promises of what comes
abbrev pub Law : Type 0
Law = (s : State) (now : ℕ) (octets : List ℕ) → IfOk (receive_of s now octets) (λ t.
    PassesOver s t ⊎ (TakesResponse s octets t ⊎ TakesReport s octets t))

-- ---- octets

pub events_are_rows : (octets : List ℕ) → events_at octets ≡ rows_in octets
unfolding rows_in
events_are_rows octets = refl

-- the confirm of a number reads as one of that number
own_seq : (seq : ℕ) (uns : Bool) → seq < 16 → seq_in (request_octets (confirmation seq uns)) ≡ seq
unfolding seq_in
own_seq seq true low = omega (arith, low)
own_seq seq false low = omega (arith, low)

own_uns : (seq : ℕ) (uns : Bool) → seq < 16 → uns_in (request_octets (confirmation seq uns)) ≡ uns
unfolding uns_in
own_uns seq true low = (Decides-eqb (bit_at (0x80 + 0x40 + 0 + 0x10 + seq) 4) 1).1 (omega (arith, low))
own_uns seq false low = grind (arith, nat_tests, low)

low_seq : (octets : List ℕ) → seq_in octets < 16
unfolding seq_in
low_seq octets = omega arith

own_confirm : (seq : ℕ) → seq < 16 → down_of (request_octets (confirmation seq false)) ≡ Confirms seq
own_confirm seq low =
    let octets : List ℕ = request_octets (confirmation seq false) in
    ap (λ (b : Bool). if b then ConfirmsReport (seq_in octets) else Confirms (seq_in octets)) (own_uns seq false low) ∙ ap Confirms (own_seq seq false low)

own_report_confirm : (seq : ℕ) → seq < 16 → down_of (request_octets (confirmation seq true)) ≡ ConfirmsReport seq
own_report_confirm seq low =
    let octets : List ℕ = request_octets (confirmation seq true) in
    ap (λ (b : Bool). if b then ConfirmsReport (seq_in octets) else Confirms (seq_in octets)) (own_uns seq true low) ∙ ap ConfirmsReport (own_seq seq true low)

-- what is sent for a fragment is its confirm
confirms : (control : ControlBits) (con : Bool) → control.seq < 16 → control.uns ≡ false
    → map down_of (option_to_list (if con then Some (request_octets (confirmation control.seq control.uns)) else None))
    ≡ (if con then Confirms control.seq ∷ [] else [])
confirms control true low uns =
    ap (λ (b : Bool). down_of (request_octets (confirmation control.seq b)) ∷ []) uns ∙ ap (λ (d : Down). d ∷ []) (own_confirm control.seq low)
confirms control false low uns = refl

report_confirms : (control : ControlBits) (con : Bool) → control.seq < 16 → control.uns ≡ true
    → map down_of (option_to_list (if con then Some (request_octets (confirmation control.seq control.uns)) else None))
    ≡ (if con then ConfirmsReport control.seq ∷ [] else [])
report_confirms control true low uns =
    ap (λ (b : Bool). down_of (request_octets (confirmation control.seq b)) ∷ []) uns ∙ ap (λ (d : Down). d ∷ []) (own_report_confirm control.seq low)
report_confirms control false low uns = refl

sent_for : (f : SentFragment) → uns_in f.octets ≡ false
    → map down_of (option_to_list (confirm_for (control_in f.octets))) ≡ confirm_of f (Confirms (seq_of f))
unfolding uns_in seq_in con_in
sent_for f uns = confirms (control_in f.octets) (control_in f.octets).con (low_seq f.octets) uns

sent_for_report : (f : SentFragment) → uns_in f.octets ≡ true
    → map down_of (option_to_list (confirm_for (control_in f.octets))) ≡ confirm_of f (ConfirmsReport (seq_of f))
unfolding uns_in seq_in con_in
sent_for_report f uns = report_confirms (control_in f.octets) (control_in f.octets).con (low_seq f.octets) uns

-- ---- rows

same_rows : (xs ys : List Row) → xs ≡ ys → IsPermutation xs ys
same_rows xs ys e = subst (IsPermutation xs) e (IsPermutation-refl xs)

took_rows : (took rows : List Buffered) (read : List Row) → IsPermutation read (map buffered_row rows)
    → IsPermutation (map buffered_row (took ++ rows)) (map buffered_row took ++ read)
took_rows took rows read h =
    IsPermutation-sym (map buffered_row took ++ read) (map buffered_row (took ++ rows))
    (IsPermutation-trans (map buffered_row took ++ read) (map buffered_row took ++ map buffered_row rows) (map buffered_row (took ++ rows))
    (IsPermutation-append_right (map buffered_row took) read (map buffered_row rows) h)
    (same_rows (map buffered_row took ++ map buffered_row rows) (map buffered_row (took ++ rows)) (sym (map-append buffered_row took rows))))

-- ---- what a fragment makes of the link

passes : (s : State) (t : Taking) (l : LawLink) → l.master ≡ master_of s → PassesOver s t → MasterTakes t l
passes s t l shows p =
    record {
      link = l;
      moves = Done;
      master = shows ∙ ap master_of (sym p.state);
      down = sym (ap (λ (o : Option (List ℕ)). l.down ++ map down_of (option_to_list o)) p.confirm ∙ append-nil l.down);
      took = same_rows (map buffered_row l.took) (map buffered_row l.took ++ t.events)
          (sym (ap (λ (rows : List Row). map buffered_row l.took ++ rows) p.events ∙ append-nil (map buffered_row l.took)));
      same = refl;
    }

pub nothing_taken : (s : State) (l : LawLink) → l.master ≡ master_of s → MasterTakes (unheeded s) l
nothing_taken s l shows = passes s (unheeded s) l shows (record { state = refl; events = refl; statics = refl; confirm = refl })

master_same : (is_open is_open' busy busy' : Bool) (seq seq' : ℕ) → is_open ≡ is_open' → busy ≡ busy' → seq ≡ seq'
    → (let m : LawMaster = record { is_open = is_open; is_busy = busy; seq = seq } in m)
    ≡ (let m : LawMaster = record { is_open = is_open'; is_busy = busy'; seq = seq' } in m)
master_same is_open is_open' busy busy' seq seq' e f g = cc

response : (s : State) (t : Taking) (f : SentFragment) (l : LawLink) (rest : List Up) → l.master ≡ master_of s → l.up ≡ Responds f ∷ rest
    → Says false f → TakesResponse s f.octets t → MasterTakes t l
unfolding seq_in fin_in
response s t f l rest shows up_is says r =
    let opens : l.master.is_open ≡ true = ap (λ (m : LawMaster). m.is_open) shows ∙ r.was_open in
    let busy : l.master.is_busy ≡ true = ap (λ (m : LawMaster). m.is_busy) shows ∙ r.busy in
    let seq : l.master.seq ≡ s.seq = ap (λ (m : LawMaster). m.seq) shows in
    let number : seq_of f ≡ l.master.seq = r.seq ∙ sym seq in
    record {
      link = taken f l;
      moves = Then {next = l} Done (Take f rest up_is opens busy number refl);
      master = master_same l.master.is_open t.state.is_open (not (fin_of f)) (is_some t.state.request) (after l.master.seq) t.state.seq
          (opens ∙ sym r.stays_open) (sym r.busy_after) (ap after seq ∙ sym r.follows);
      down = ap (λ (ds : List Down). l.down ++ ds)
          (sym (ap (λ (o : Option (List ℕ)). map down_of (option_to_list o)) r.confirm ∙ sent_for f says.uns_is));
      took = took_rows l.took f.rows t.events
          (subst (λ (rows : List Row). IsPermutation rows (map buffered_row f.rows)) (sym (r.events ∙ events_are_rows f.octets)) says.rows_are);
      same = refl;
    }

report : (s : State) (t : Taking) (f : SentFragment) (l : LawLink) (rest : List Up) → l.master ≡ master_of s → l.up ≡ Reports f ∷ rest
    → Says true f → TakesReport s f.octets t → MasterTakes t l
report s t f l rest shows up_is says r =
    record {
      link = report_taken f l;
      moves = Then {next = l} Done (TakeReport f rest up_is refl);
      master = shows ∙ ap master_of (sym r.state);
      down = ap (λ (ds : List Down). l.down ++ ds)
          (sym (ap (λ (o : Option (List ℕ)). map down_of (option_to_list o)) r.confirm ∙ sent_for_report f says.uns_is));
      took = took_rows l.took f.rows t.events
          (subst (λ (rows : List Row). IsPermutation rows (map buffered_row f.rows)) (sym (r.events ∙ events_are_rows f.octets)) says.rows_are);
      same = refl;
    }

head_says : (l : LawLink) (up : Up) (rest : List Up) → l.up ≡ up ∷ rest → CarriesLaw l → IsOfStood l.stood up
head_says l up rest e stands = (subst (λ (us : List Up). Each (IsOfStood l.stood) us) e stands.rows.up).0

takes : (s : State) (t : Taking) (l : LawLink) (up : Up) (rest : List Up) → l.master ≡ master_of s → l.up ≡ up ∷ rest → IsOfStood l.stood up
    → PassesOver s t ⊎ (TakesResponse s (octets_of up) t ⊎ TakesReport s (octets_of up) t) → MasterTakes t l
unfolding uns_in
takes s t l (Responds f) rest shows up_is stood h =
    elim h [
      | inl p ↦ passes s t l shows p
      | inr k ↦ elim k [
        | inl r ↦ response s t f l rest shows up_is stood.1 r
        | inr r ↦ absurd (both_ways (uns_in f.octets) stood.1.uns_is r.uns)
      ]
    ]
takes s t l (Reports f) rest shows up_is stood h =
    elim h [
      | inl p ↦ passes s t l shows p
      | inr k ↦ elim k [
        | inl r ↦ absurd (both_ways (uns_in f.octets) r.uns stood.1.uns_is)
        | inr r ↦ report s t f l rest shows up_is stood.1 r
      ]
    ]

if_taken : (P Q : Taking → Type 0) (r : Result Taking MasterFault) → ((t : Taking) → P t → Q t) → IfOk r P → IfOk r Q
if_taken P Q (Ok t) f h = f t h
if_taken P Q (Err fault) f h = tt

pub first_taken : Law → (s : State) (now : ℕ) (l : LawLink) (up : Up) (rest : List Up) → CarriesLaw l → l.master ≡ master_of s → l.up ≡ up ∷ rest
    → IfOk (receive_of s now (octets_of up)) (λ t. MasterTakes t l)
first_taken law s now l up rest stands shows up_is =
    if_taken (λ t. PassesOver s t ⊎ (TakesResponse s (octets_of up) t ⊎ TakesReport s (octets_of up) t)) (λ t. MasterTakes t l)
    (receive_of s now (octets_of up)) (λ t h. takes s t l up rest shows up_is (head_says l up rest up_is stands) h) (law s now (octets_of up))

-- ---- at a place of what may come

record IsHead (us : List Up) (octets : List ℕ) : Type 0 where
  up : Up
  rest : List Up
  us_is : us ≡ up ∷ rest
  octets_is : octets_of up ≡ octets

head_at : (n : ℕ) (us : List Up) (octets : List ℕ) → slice_get (map octets_of us) n ≡ Some octets → IsHead (drop n us) octets
head_at zero [] octets e = absurd (none-some octets e)
head_at zero (up ∷ us) octets e = record { up = up; rest = us; us_is = refl; octets_is = same_Some (octets_of up) octets e }
head_at (suc n) [] octets e = absurd (none-some octets e)
head_at (suc n) (up ∷ us) octets e = head_at n us octets e

pub came_up : Law → (s : State) (now : ℕ) (l : LawLink) (n : ℕ) (octets : List ℕ) → CarriesLaw l → l.master ≡ master_of s
    → slice_get (map octets_of l.up) n ≡ Some octets
    → Move l (lost_up n l) × IfOk (receive_of s now octets) (λ t. MasterTakes t (lost_up n l))
came_up law s now l n octets stands shows at =
    let lose : Move l (lost_up n l) = LoseUp n refl in
    let h : IsHead (drop n l.up) octets = head_at n l.up octets at in (
      lose,
      subst (λ (o : List ℕ). IfOk (receive_of s now o) (λ t. MasterTakes t (lost_up n l))) h.octets_is
          (first_taken law s now (lost_up n l) h.up h.rest (move_stands l (lost_up n l) lose stands) shows h.us_is),
    )
