-- What a master refuses, and where it waits, as it is looked at before anything is asked.
use Rattle.std.proofs.Common.{◌≡◌, ℕ, Bool, true, false, List, [], Result, Ok, Err, refl, sym, ap, ◌∙◌, subst}
use Rattle.std.specs.Prelude.{if◌then◌else◌, is_ok}
use Rattle.std.proofs.lemmas.Bool.{false≢true}
use Rattle.std.proofs.lemmas.List.{set-get_or}
use Rattle.dnp_concentrator.specs.Below.{no_link}
use Rattle.dnp_concentrator.specs.Relaying.{Relaying, Step, Waits, relaying_after, step_by}
use Rattle.dnp_master.specs.Calls.{ask_answer, asked_by}
use Rattle.dnp_master.specs.State.{is_idle}
use Rattle.dnp_master.specs.declared.fault.AskFault.{AskFault}
use Rattle.dnp_master.specs.declared.task.Task.{Task}
use Rattle.dnp_world.specs.Centres as all
use Rattle.dnp_world.specs.Centres.{ChangesAll, centre_of, seen_at}
use Rattle.dnp_world.specs.Channels.{ChannelState, GoDown}
use Rattle.dnp_world.specs.SystemEvents.{AsksOn, IsGranted, LinesChange, RelaysOn, SendsDown, Steps, entries_on, relaying_at, request_of, requests_of, step_on, told, with_relaying}
use Rattle.dnp_world.specs.Systems.{System, has_link, link_at}
use Rattle.dnp_world.specs.Wholes.{Whole, seen_by}
use Rattle.dnp_world.specs.declared.event.Link.{Link}
use Rattle.dnp_world.specs.declared.event.Link.TheVariants.{Above, Below}
use Rattle.dnp_world.proofs.CentrePlaces.{low_of, rests_there}
use Rattle.dnp_world.proofs.SystemIdle.{is_under, member, same_system}

-- ---- a task

-- nothing goes down, and the master stays
none_down : (c : ChannelState) → GoDown [] c c
none_down c = record { sent = (refl, refl); after = refl }

still : (on : Link) (s : System) → has_link s on ≡ true → SendsDown on [] (relaying_at s on) s s
still (Above centre) s has = (none_down s.above, refl)
still (Below substation) s has =
    let found = member s.substations substation (is_under s substation has) in
    let same : with_relaying s (Below substation) (relaying_at s (Below substation)) ≡ s =
    ap (λ (links : List Relaying). record s { concentrator = record s.concentrator { links = links } }) (set-get_or s.concentrator.links substation no_link) in
    subst (λ (first : System). LinesChange (Below substation) (GoDown []) first s) (sym same)
    (record {
      was = found.0;
      is = found.0;
      there = found.1;
      changed = (none_down found.0.channel, refl);
      after = same_system s substation found.0 found.1;
    })

sends_nothing : (on : Link) (task : Task) (s : System) → has_link s on ≡ true → (answer : Result (List ℕ) AskFault) → is_ok answer ≡ false
    → SendsDown on (request_of answer) (record (relaying_at s on) { master = asked_by (relaying_at s on).master s.now task answer }) s s
sends_nothing on task s has (Ok octets) none = absurd (false≢true (sym none))
sends_nothing on task s has (Err fault) none = still on s has

-- a task that the master doesn't ask does nothing
asks_nothing : (own answer : Bool) (on : Link) (task : Task) (s : System) → has_link s on ≡ true
    → (own ≡ true → answer ≡ is_ok (ask_answer (relaying_at s on).master task)) → answer ≡ false → AsksOn own on task s s
asks_nothing false answer on task s has answers none = refl
asks_nothing true answer on task s has answers none =
    sends_nothing on task s has (ask_answer (relaying_at s on).master task) (sym (answers refl) ∙ none)

-- ---- a step of relaying

told_none : (on : Link) (s : System) → told s on Waits ≡ s
told_none (Above centre) s = refl
told_none (Below substation) s = refl

waits_by : (on : Link) (s : System) → has_link s on ≡ true → (step : Step) → step ≡ Waits
    → IsGranted (entries_on s on) step
    × SendsDown on (requests_of step (relaying_at s on).master.seq) (relaying_after (relaying_at s on) s.now step) (told s on step) s
waits_by on s has step is =
    subst
    (λ (its : Step). IsGranted (entries_on s on) its
    × SendsDown on (requests_of its (relaying_at s on).master.seq) (relaying_after (relaying_at s on) s.now its) (told s on its) s)
    (sym is)
    (tt, subst (λ (first : System). SendsDown on [] (relaying_at s on) first s) (sym (told_none on s)) (still on s has))

-- a master that isn't idle waits
step_waits : (on : Link) (s : System) → is_idle (relaying_at s on).master ≡ false → step_on s on ≡ Waits
step_waits (Below substation) s busy =
    let r : Relaying = link_at s.concentrator substation in
    ap (λ (idle : Bool). if idle then step_by r.progress r.master.selected s.concentrator.controls.entries substation else Waits) busy
step_waits (Above centre) s busy =
    let r : Relaying = s.centre.link in
    ap (λ (idle : Bool). if idle then step_by r.progress r.master.selected s.centre.orders.entries 0 else Waits) busy

waits : (on : Link) (s : System) → has_link s on ≡ true → is_idle (relaying_at s on).master ≡ false → RelaysOn on s s
waits on s has busy =
    let steps = waits_by on s has (step_on s on) (step_waits on s busy) in
    Steps steps.0 steps.1

-- ---- as all see it

pub all_ask_nothing : (own answer : Bool) (on : Link) (task : Task) (w : Whole) → all.has_link w on ≡ true
    → (own ≡ true → answer ≡ is_ok (ask_answer (relaying_at (seen_at (centre_of on) w) on).master task)) → answer ≡ false
    → ChangesAll (centre_of on) (AsksOn own on task) w w
all_ask_nothing own answer (Below substation) task w has answers none =
    λ centre low. asks_nothing own answer (Below substation) task (seen_by centre w) has answers none
all_ask_nothing own answer (Above n) task w has answers none =
    rests_there n (low_of n w has) (AsksOn own (Above n) task) w (asks_nothing own answer (Above n) task (seen_by n w) refl answers none)

pub all_wait : (on : Link) (w : Whole) → all.has_link w on ≡ true → is_idle (relaying_at (seen_at (centre_of on) w) on).master ≡ false
    → ChangesAll (centre_of on) (RelaysOn on) w w
all_wait (Below substation) w has busy = λ centre low. waits (Below substation) (seen_by centre w) has busy
all_wait (Above n) w has busy = rests_there n (low_of n w has) (RelaysOn (Above n)) w (waits (Above n) (seen_by n w) refl busy)
