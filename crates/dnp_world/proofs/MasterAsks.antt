-- What asking, opening, a hang-up and a tick of a master are to the link.
use Rattle.std.proofs.Common.{◌≡◌, ℕ, ◌<◌, Bool, true, false, List, [], length, drop, Option, None, Result, Ok, IfOk, refl, sym, ap, ◌∙◌, subst, arith, Some}
use Rattle.std.specs.Prelude.{if◌then◌else◌, is_none, is_some}
use Rattle.std.proofs.lemmas.List.{drop_all}
use Rattle.std.proofs.lemmas.Bool.{and_parts}
use Rattle.dnp_appfragment.specs.Fragments.{request_octets}
use Rattle.dnp_master.specs.declared.fault.AskFault.{AskFault}
use Rattle.dnp_master.specs.declared.task.Task.{Task}
use Rattle.dnp_master.specs.declared.task.Task.TheVariants.{Poll}
use Rattle.dnp_master.specs.Calls.{ask_answer, asked, may_follow}
use Rattle.dnp_master.specs.Requests.{is_good, request_for}
use Rattle.dnp_master.specs.State.{State, closed, is_idle, is_timed_out, ticked}
use Rattle.dnp_master.specs.LinkCalls as seen
use Rattle.dnp_world.specs.Octets.{seq_in}
use Rattle.dnp_world.specs.LawLink.{Asks, LawMaster, LawLink, Up}
use Rattle.dnp_world.specs.Moves.{asking, Move, Moves, Done, Then, Ask, CloseMaster, LoseUp}
use Rattle.dnp_world.specs.MasterSeen.{master_of, down_of, with_master_of, master_hung_up}

-- what `dnp_master` promises of asking
abbrev pub Law : Type 0
Law = (s : State) (now : ℕ) (task : Task) → IfOk (ask_answer s task) (λ octets. seen.Asks s task octets (asked s now task))

-- ---- asking

-- a request has its number, and is no CONFIRM
pub asked_seq : (seq : ℕ) (task : Task) → seq < 16 → seq_in (request_octets (request_for seq task)) ≡ seq
unfolding seq_in
asked_seq seq task low = omega (arith, low)

asked_down : (seq : ℕ) (task : Task) → down_of (request_octets (request_for seq task)) ≡ Asks (request_octets (request_for seq task))
asked_down seq (Poll classes) = refl
asked_down seq task = refl

busy_none : {A : Type 0} (o : Option A) → o ≡ None → is_some o ≡ false
busy_none o e = ap is_some e

-- a master with no request is not busy
pub not_busy : {A : Type 0} (o : Option A) → is_none o ≡ true → is_some o ≡ false
not_busy None e = refl
not_busy (Some x) e = absurd (cc)

-- when it is idle it asks what may follow
pub answers_idle : (s : State) (task : Task) → is_idle s ≡ true → may_follow s.selected task ≡ true → is_good task ≡ true
    → ask_answer s task ≡ Ok (request_octets (request_for s.seq task))
answers_idle s task idle follows good =
    let parts = and_parts s.is_open (is_none s.request) idle in
    rw parts.0 (rw (not_busy s.request parts.1) (rw follows (rw good refl)))

master_same : (is_open is_open' busy busy' : Bool) (seq seq' : ℕ) → is_open ≡ is_open' → busy ≡ busy' → seq ≡ seq'
    → (let m : LawMaster = record { is_open = is_open; is_busy = busy; seq = seq } in m)
    ≡ (let m : LawMaster = record { is_open = is_open'; is_busy = busy'; seq = seq' } in m)
master_same is_open is_open' busy busy' seq seq' e f g = cc

abbrev IsAsking : State → ℕ → Task → LawLink → List ℕ → Type 0
IsAsking s now task l octets =
    Move l (asking octets l) × ((asking octets l).master ≡ master_of (asked s now task)) × (down_of octets ≡ Asks octets)

asking_moves : (s : State) (now : ℕ) (task : Task) (octets : List ℕ) (l : LawLink) → s.seq < 16 → l.master ≡ master_of s
    → seen.Asks s task octets (asked s now task) → IsAsking s now task l octets
asking_moves s now task octets l low shows a =
    let opens : l.master.is_open ≡ true = ap (λ (m : LawMaster). m.is_open) shows ∙ a.was_open in
    let idle : l.master.is_busy ≡ false = ap (λ (m : LawMaster). m.is_busy) shows ∙ busy_none s.request a.idle in
    let seq : l.master.seq ≡ s.seq = ap (λ (m : LawMaster). m.seq) shows in
    let number : seq_in octets ≡ l.master.seq = ap seq_in a.octets_are ∙ asked_seq s.seq task low ∙ sym seq in (
      Ask octets opens idle number refl,
      master_same l.master.is_open (asked s now task).is_open true (is_some (asked s now task).request) l.master.seq (asked s now task).seq
          (opens ∙ sym a.stays_open) (sym a.busy) (seq ∙ sym a.seq),
      ap down_of a.octets_are ∙ asked_down s.seq task ∙ ap Asks (sym a.octets_are),
    )

of_ok : (P : List ℕ → Type 0) (r : Result (List ℕ) AskFault) (octets : List ℕ) → r ≡ Ok octets → IfOk r P → P octets
of_ok P r octets e h = subst (λ (r : Result (List ℕ) AskFault). IfOk r P) e h

pub asks : Law → (s : State) (now : ℕ) (task : Task) (octets : List ℕ) (l : LawLink) → s.seq < 16 → l.master ≡ master_of s
    → ask_answer s task ≡ Ok octets → IsAsking s now task l octets
asks law s now task octets l low shows e =
    asking_moves s now task octets l low shows
    (of_ok (λ octets. seen.Asks s task octets (asked s now task)) (ask_answer s task) octets e (law s now task))

-- ---- closing

closes : (s : State) (l : LawLink) → Move l (with_master_of (closed s) l)
closes s l = CloseMaster (master_of (closed s)) refl refl

pub hangs_up : (s : State) (l : LawLink) → Moves l (master_hung_up s l)
hangs_up s l =
    let first : LawLink = with_master_of (closed s) l in
    let all : ℕ = length l.up in
    let none : drop all l.up ≡ [] = drop_all all l.up (omega arith) in
    Then {next = first} (Then {next = l} Done (closes s l)) (LoseUp all (ap (λ (us : List Up). record first { up = us }) (sym none)))

pub ticks : (s : State) (now : ℕ) (l : LawLink) → l.master ≡ master_of s → Moves l (with_master_of (ticked s now) l)
ticks s now l shows = by_time (is_timed_out s now)
  where
    by_time : (b : Bool) → Moves l (with_master_of (if b then closed s else s) l)
    by_time true = Then {next = l} Done (closes s l)
    by_time false = subst (λ (m : LawMaster). Moves l (record l { master = m })) shows Done
