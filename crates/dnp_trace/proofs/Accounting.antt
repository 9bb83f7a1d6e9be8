-- What happens to a log keeps its accounts.
use Rattle.std.proofs.Common.{◌≡◌, ℕ, zero, suc, ◌+◌, ◌-◌, ◌<◌, ◌≤◌, Bool, true, false, cond, ◌==◌, ◌&&◌, List, [], ◌∷◌, ◌++◌, length, count_by, remove, slice_get, Option, Some, None, refl, sym, ◌∙◌, ap, arith, get_or, length-append, if◌then◌else◌}
use Rattle.std.proofs.lemmas.Bool.Decides.{nat_tests}
use Rattle.std.proofs.lemmas.Grind.{common_steps}
use Rattle.std.proofs.lemmas.List.Sums.{sum_by_push, sum_by-remove}
use Rattle.std.proofs.lemmas.Option.{slice_get_within, get_or_from_slice_get}
use Rattle.dnp_trace.specs.declared.noted.Course.{Course}
use Rattle.dnp_trace.specs.declared.noted.What.{What}
use Rattle.dnp_trace.specs.declared.noted.What.TheVariants as what
use Rattle.dnp_trace.specs.declared.noted.Step.{Step}
use Rattle.dnp_trace.specs.declared.noted.Step.TheVariants as step
use Rattle.dnp_trace.specs.declared.noted.Standing.{Standing}
use Rattle.dnp_trace.specs.Logs.{Noted, Sent, nothing_yet, later, begun, sent, came_at, came, came_to, front_place, front_unit, times, line_number, left, counted, count_on, shown, seen_at, stood, settled, settled_on, turned, is_carrying, carried_on}
use Rattle.dnp_trace.specs.Accounts.{Accounts, sends, ends, stands, is_end, is_sending}

-- a count with one more at the end
pub more_steps : (p : Step → Bool) (steps : List Step) (s : Step) → count_by p (steps ++ s ∷ []) ≡ count_by p steps + cond (p s) 1 0
more_steps p steps s = sum_by_push (λ x. cond (p x) 1 0) steps s

pub more_standing : (p : Standing → Bool) (xs : List Standing) (x : Standing) → count_by p (xs ++ x ∷ []) ≡ count_by p xs + cond (p x) 1 0
more_standing p xs x = sum_by_push (λ y. cond (p y) 1 0) xs x

pub one_sent : (n u c d : ℕ) → (n < u → c ≡ 1) → (u ≤ n → c ≡ 0) → d ≡ c + cond (u == n) 1 0 → n < u + 1 → d ≡ 1
one_sent n u c d one none e h = grind (arith, nat_tests)

pub none_sent : (n u c d : ℕ) → (u ≤ n → c ≡ 0) → d ≡ c + cond (u == n) 1 0 → u + 1 ≤ n → d ≡ 0
none_sent n u c d none e h = grind (arith, nat_tests)

pub sent_accounts : (course : Course) (octets : List ℕ) (log : Noted) → Accounts log → Accounts (sent course octets log)
sent_accounts course octets log a =
    let u : ℕ = length log.units in
    let unit : Sent = record { course = course; octets = octets } in
    let long : length (log.units ++ unit ∷ []) ≡ u + 1 = grind (arith, common_steps) in
    let happened : Step = step.Unit log.moment what.Sent u in
    record {
      once = λ n h. one_sent n u (count_by (sends n) log.steps) _ (a.once n) (a.never n) (more_steps (sends n) log.steps happened) (omega arith);
      never = λ n h. none_sent n u (count_by (sends n) log.steps) _ (a.never n) (more_steps (sends n) log.steps happened) (omega arith);
      ended = λ n.
          let e = more_steps (ends n) log.steps happened in
          let s = more_standing (stands n) log.standing (record { line = line_number course; unit = u }) in
          let t = more_steps (sends n) log.steps happened in
          let old = a.ended n in
          omega arith;
    }

pub plus_none : (a b : ℕ) → a ≡ b + 0 → a ≡ b
plus_none a b e = omega arith

-- a count without one of what it counts
pub removed : (p : Standing → Bool) (xs : List Standing) (i : ℕ) (front : Standing) → slice_get xs i ≡ Some front
    → count_by p (remove xs i) + cond (p front) 1 0 ≡ count_by p xs
removed p xs i front h =
    let f : Standing → ℕ = λ x. cond (p x) 1 0 in
    ap (λ (x : Standing). count_by p (remove xs i) + f x) (sym (get_or_from_slice_get xs i front front h))
    ∙ sum_by-remove f xs i front (slice_get_within xs i front h)

-- where a unit has come to an end, and left its line
pub ended_accounts : (place : ℕ) (front : Standing) (fate : What) (log : Noted) → slice_get log.standing place ≡ Some front
    → is_sending fate ≡ false → is_end fate ≡ true → left fate place log.standing ≡ remove log.standing place
    → Accounts log → Accounts (came_at place (Some front) fate log)
ended_accounts place front fate log here sends_none ends_so leaves a =
    let happened : Step = step.Unit log.moment fate front.unit in
    let same : (n : ℕ) → count_by (sends n) (log.steps ++ happened ∷ []) ≡ count_by (sends n) log.steps =
    λ n. plus_none _ _ (more_steps (sends n) log.steps happened ∙ ap (λ (b : Bool). count_by (sends n) log.steps + cond (b && (front.unit == n)) 1 0) sends_none) in
    record {
      once = λ n h. same n ∙ a.once n h;
      never = λ n h. same n ∙ a.never n h;
      ended = λ n.
          let e : count_by (ends n) (log.steps ++ happened ∷ []) ≡ count_by (ends n) log.steps + cond (front.unit == n) 1 0 =
          more_steps (ends n) log.steps happened ∙ ap (λ (b : Bool). count_by (ends n) log.steps + cond (b && (front.unit == n)) 1 0) ends_so in
          let r = removed (stands n) log.standing place front here in
          let l = ap (count_by (stands n)) leaves in
          let s = same n in
          let old = a.ended n in
          omega arith;
    }

-- where it is repeated, and stays
pub repeated_accounts : (place : ℕ) (front : Standing) (log : Noted) → Accounts log → Accounts (came_at place (Some front) what.Repeated log)
repeated_accounts place front log a =
    let happened : Step = step.Unit log.moment what.Repeated front.unit in
    let same : (n : ℕ) → count_by (sends n) (log.steps ++ happened ∷ []) ≡ count_by (sends n) log.steps = λ n. plus_none _ _ (more_steps (sends n) log.steps happened) in
    record {
      once = λ n h. same n ∙ a.once n h;
      never = λ n h. same n ∙ a.never n h;
      ended = λ n.
          let e = more_steps (ends n) log.steps happened in
          let s = same n in
          let old = a.ended n in
          omega arith;
    }

pub came_at_accounts : (place : ℕ) (front : Option Standing) (fate : What) (log : Noted) → slice_get log.standing place ≡ front
    → is_sending fate ≡ false → Accounts log → Accounts (came_at place front fate log)
came_at_accounts place None fate log here none a = a
came_at_accounts place (Some front) what.Sent log here none a = absurd (cc)
came_at_accounts place (Some front) what.Repeated log here none a = repeated_accounts place front log a
came_at_accounts place (Some front) what.Arrives log here none a = ended_accounts place front what.Arrives log here refl refl refl a
came_at_accounts place (Some front) what.Lost log here none a = ended_accounts place front what.Lost log here refl refl refl a
came_at_accounts place (Some front) what.Damaged log here none a = ended_accounts place front what.Damaged log here refl refl refl a
came_at_accounts place (Some front) what.Dropped log here none a = ended_accounts place front what.Dropped log here refl refl refl a
came_at_accounts place (Some front) what.Stands log here none a = ended_accounts place front what.Stands log here refl refl refl a

pub came_accounts : (place : Option ℕ) (fate : What) (log : Noted) → is_sending fate ≡ false → Accounts log → Accounts (came place fate log)
came_accounts None fate log none a = a
came_accounts (Some place) fate log none a = came_at_accounts place (slice_get log.standing place) fate log refl none a

pub came_to_accounts : (line : ℕ) (fate : What) (log : Noted) → is_sending fate ≡ false → Accounts log → Accounts (came_to line fate log)
came_to_accounts line fate log none a = came_accounts (front_place line log) fate log none a

pub times_accounts : (n : ℕ) (f : Noted → Noted) (log : Noted) → ((l : Noted) → Accounts l → Accounts (f l)) → Accounts log → Accounts (times n f log)
times_accounts zero f log keeps a = a
times_accounts (suc n) f log keeps a = keeps (times n f log) (times_accounts n f log keeps a)

pub counted_accounts : (course : Course) (known count : ℕ) (log : Noted) → Accounts log → Accounts (counted course known count log)
counted_accounts course known count log a =
    times_accounts (known - count) (came_to (line_number course) what.Dropped) (times (count - known) (sent course []) log)
    (λ l b. came_to_accounts (line_number course) what.Dropped l refl b)
    (times_accounts (count - known) (sent course []) log (λ l b. sent_accounts course [] l b) a)

pub length_seen : (number : ℕ) (octets : List ℕ) (unit : Option Sent) (units : List Sent) → length (seen_at number octets unit units) ≡ length units
length_seen number octets None units = refl
length_seen number octets (Some unit) units = grind (arith, common_steps)

pub shown_accounts : (number : Option ℕ) (octets : Option (List ℕ)) (log : Noted) → Accounts log → Accounts (shown number octets log)
shown_accounts None octets log a = a
shown_accounts (Some number) None log a = a
shown_accounts (Some number) (Some octets) log a =
    let same = length_seen number octets (slice_get log.units number) log.units in
    record {
      once = λ n h. a.once n (omega arith);
      never = λ n h. a.never n (omega arith);
      ended = a.ended;
    }

pub stood_accounts : (course : Course) (count : ℕ) (front : Option (List ℕ)) (log : Noted) → Accounts log → Accounts (stood course count front log)
stood_accounts course count front log a =
    let after : Noted = counted course (count_on (line_number course) log) count log in
    shown_accounts (front_unit (line_number course) after) front after (counted_accounts course (count_on (line_number course) log) count log a)

pub line_accounts : (line : Option ℕ) (log : Noted) → Accounts log → Accounts (record log { carrying = line })
line_accounts line log a = record { once = a.once; never = a.never; ended = a.ended }

pub settled_on_accounts : (line : Option ℕ) (log : Noted) → Accounts log → Accounts (settled_on line log)
settled_on_accounts None log a = a
settled_on_accounts (Some line) log a =
    line_accounts None (times (count_on line log) (came_to line what.Arrives) log)
    (times_accounts (count_on line log) (came_to line what.Arrives) log (λ l b. came_to_accounts line what.Arrives l refl b) a)

pub settled_accounts : (log : Noted) → Accounts log → Accounts (settled log)
settled_accounts log a = settled_on_accounts log.carrying log a

pub turned_accounts : (line : ℕ) (log : Noted) → Accounts log → Accounts (turned line log)
turned_accounts line log a =
    elim (is_carrying line log) as (λ b. Accounts (cond b log (record (settled log) { carrying = Some line }))) [
      | true ↦ a
      | false ↦ line_accounts (Some line) (settled log) (settled_accounts log a)
    ]

pub carried_accounts : (course : Course) (octets : List ℕ) (log : Noted) → Accounts log → Accounts (carried_on course octets log)
carried_accounts course octets log a = sent_accounts course octets (turned (line_number course) log) (turned_accounts (line_number course) log a)

pub begun_accounts : (text : List ℕ) (log : Noted) → Accounts log → Accounts (begun text log)
begun_accounts text log a =
    let happened : Step = step.Line log.moment (length log.lines) in
    let same : (n : ℕ) → count_by (sends n) (log.steps ++ happened ∷ []) ≡ count_by (sends n) log.steps = λ n. plus_none _ _ (more_steps (sends n) log.steps happened) in
    record {
      once = λ n h. same n ∙ a.once n h;
      never = λ n h. same n ∙ a.never n h;
      ended = λ n.
          let e = more_steps (ends n) log.steps happened in
          let s = same n in
          let old = a.ended n in
          omega arith;
    }

pub later_accounts : (ms : ℕ) (log : Noted) → Accounts log → Accounts (later ms log)
later_accounts ms log a = record { once = a.once; never = a.never; ended = a.ended }

pub new_accounts : (substations : ℕ) → Accounts (nothing_yet substations)
new_accounts substations = record { once = λ n h. absurd (omega arith); never = λ n h. refl; ended = λ n. refl }
