-- Rounds: lists of events that were done one after the other, and where they stop.
use Rattle.std.proofs.Common.{◌≡◌, ℕ, true, zero, suc, ◌+◌, ◌<◌, List, [], ◌∷◌, ◌++◌, length, take, inl, inr, Some, refl, sym, ap, ◌∙◌, subst, zero-add, arith}
use Rattle.std.specs.Prelude.{◌⊎◌, All, replicate, slice_get}
use Rattle.std.proofs.lemmas.List.{replicate_more, take-replicate}
use Rattle.std.proofs.lemmas.List.Elements.{All-append, All-cons, All-nil, All-replicate}
use Rattle.dnp_world.specs.Rounds.{Flushes, StopsFlushing, StopsFlushingAll, StopsInRound, StopsInTurn, deliveries, events_polled}
use Rattle.dnp_world.specs.Centres.{HappensToAll, may_stop}
use Rattle.dnp_world.specs.SystemRuns.{CountsFor, RunsTo, StopsAfter}
use Rattle.dnp_world.specs.Systems.{System, standing_on}
use Rattle.dnp_world.specs.Wholes.{Whole}
use Rattle.dnp_world.specs.declared.event.Event.{Event}
use Rattle.dnp_world.specs.declared.event.Event.TheVariants.{Ask, Deliver}
use Rattle.dnp_world.specs.declared.event.Link.{Link}
use Rattle.dnp_world.specs.declared.link_event.Way.{Way}
use Rattle.dnp_world.specs.declared.link_event.Way.TheVariants.{Down, Up}
use Rattle.dnp_world.proofs.SystemRuns.{runs_more}

-- ---- lists

take_past : {A : Type 0} (xs ys : List A) (n : ℕ) → take (length xs + n) (xs ++ ys) ≡ xs ++ take n ys
take_past {A} [] ys n = ap (λ (k : ℕ). take k ys) (zero-add n)
take_past {A} (x ∷ xs) ys n =
    let next : suc (length xs) + n ≡ suc (length xs + n) = omega arith in
    ap (λ (k : ℕ). take k (x ∷ (xs ++ ys))) next ∙ ap (λ (zs : List A). x ∷ zs) (take_past xs ys n)

get_past : {A : Type 0} (xs ys : List A) (n : ℕ) → slice_get (xs ++ ys) (length xs + n) ≡ slice_get ys n
get_past {A} [] ys n = ap (λ (k : ℕ). slice_get ys k) (zero-add n)
get_past {A} (x ∷ xs) ys n =
    let next : suc (length xs) + n ≡ suc (length xs + n) = omega arith in
    ap (λ (k : ℕ). slice_get (x ∷ (xs ++ ys)) k) next ∙ get_past xs ys n

get_same : {A : Type 0} (x : A) (n k : ℕ) → k < n → slice_get (replicate n x) k ≡ Some x
get_same x zero k low = absurd (omega (arith, low))
get_same x (suc n) zero low = refl
get_same x (suc n) (suc k) low = get_same x n k (omega (arith, low))

-- ---- lists of events that were done

-- such events were done
pub record Ran (IsOne : Event → Type 0) (old new : Whole) : Type 0 where
  pub events : List Event
  pub all : All IsOne events
  pub ran : RunsTo HappensToAll old events new

pub runs_joined : (old mid new : Whole) (xs ys : List Event) → RunsTo HappensToAll old xs mid → RunsTo HappensToAll mid ys new
    → RunsTo HappensToAll old (xs ++ ys) new
runs_joined old mid new [] ys ran more = subst (λ (s : Whole). RunsTo HappensToAll s ys new) ran more
runs_joined old mid new (x ∷ xs) ys ran more = (ran.0, ran.1, runs_joined ran.0 mid new xs ys ran.2 more)

-- one event
pub ran_one : (P : Event → Type 0) (old new : Whole) (event : Event) → P event → HappensToAll old event new → Ran P old new
ran_one P old new event is h = record { events = event ∷ []; all = All-cons P event [] is (All-nil P); ran = (new, h, refl) }

-- what stood on a line
pub ran_flush : (see : Whole → System) (P : Event → Type 0) (on : Link) (way : Way) (old new : Whole) → P (Deliver on way)
    → Flushes HappensToAll see on way old new → Ran P old new
ran_flush see P on way old new is ran = record {
  events = deliveries (standing_on (see old) on way) on way;
  all = All-replicate P (standing_on (see old) on way) (Deliver on way) is;
  ran = ran;
}

-- one list after another
pub ran_both : (P : Event → Type 0) (old mid new : Whole) → Ran P old mid → Ran P mid new → Ran P old new
ran_both P old mid new first more = record {
  events = first.events ++ more.events;
  all = All-append P first.events more.events first.all more.all;
  ran = runs_joined old mid new first.events more.events first.ran more.ran;
}

-- ---- lists that stopped

-- so many events were done, and the one behind them was not, whatever stopped the list there
pub record StaysAfter (old : Whole) (events : List Event) (done : ℕ) (new : Whole) : Type 0 where
  pub before : Whole
  pub ran : RunsTo HappensToAll old (take done events) before
  pub event : Event
  pub next : slice_get events done ≡ Some event
  pub counts : CountsFor HappensToAll before event new

stays_after : (old : Whole) (events : List Event) (done : ℕ) (new : Whole) → StopsAfter HappensToAll may_stop old events done new
    → StaysAfter old events done new
stays_after old events done new s = record { before = s.before; ran = s.ran; event = s.event; next = s.next; counts = s.counts }

-- a list of such events stopped
pub record StopsIn (IsOne : Event → Type 0) (old new : Whole) : Type 0 where
  pub events : List Event
  pub done : ℕ
  pub all : All IsOne events
  pub stops : StaysAfter old events done new

-- at their first event
pub stops_at : (P : Event → Type 0) (old new : Whole) (event : Event) → P event → CountsFor HappensToAll old event new → StopsIn P old new
stops_at P old new event is counts = record {
  events = event ∷ [];
  done = 0;
  all = All-cons P event [] is (All-nil P);
  stops = record { before = old; ran = refl; event = event; next = refl; counts = counts };
}

-- after another was done
pub stops_after : (P : Event → Type 0) (old mid new : Whole) → Ran P old mid → StopsIn P mid new → StopsIn P old new
stops_after P old mid new first s = record {
  events = first.events ++ s.events;
  done = length first.events + s.done;
  all = All-append P first.events s.events first.all s.all;
  stops = record {
    before = s.stops.before;
    ran = subst (λ (es : List Event). RunsTo HappensToAll old es s.stops.before) (sym (take_past first.events s.events s.done))
        (runs_joined old mid s.stops.before first.events (take s.done s.events) first.ran s.stops.ran);
    event = s.stops.event;
    next = get_past first.events s.events s.done ∙ s.stops.next;
    counts = s.stops.counts;
  };
}

-- a part, or the rest after it
pub stops_in_turn : (P : Event → Type 0) (Stops Done Rest : Whole → Whole → Type 0) → ((old new : Whole) → Stops old new → StopsIn P old new)
    → ((old new : Whole) → Done old new → Ran P old new) → ((old new : Whole) → Rest old new → StopsIn P old new)
    → (old new : Whole) → StopsInTurn Stops Done Rest old new → StopsIn P old new
stops_in_turn P Stops Done Rest stops done rest old new (inl s) = stops old new s
stops_in_turn P Stops Done Rest stops done rest old new (inr (next, d, r)) = stops_after P old next new (done old next d) (rest next new r)

-- ---- deliveries

-- one unit more was delivered
pub one_delivered : (old mid new : Whole) (n : ℕ) (on : Link) (way : Way) → RunsTo HappensToAll old (deliveries n on way) mid
    → HappensToAll mid (Deliver on way) new
    → RunsTo HappensToAll old (deliveries (n + 1) on way) new
one_delivered old mid new n on way ran h =
    subst (λ (es : List Event). RunsTo HappensToAll old es new) (replicate_more n (Deliver on way))
    (runs_more old mid new (deliveries n on way) (Deliver on way) ran h)

-- so many of all were, and the next one stopped
pub stops_delivering : (old mid new : Whole) (n all : ℕ) (on : Link) (way : Way) → n < all → RunsTo HappensToAll old (deliveries n on way) mid
    → may_stop mid (Deliver on way) ≡ true → CountsFor HappensToAll mid (Deliver on way) new
    → StopsAfter HappensToAll may_stop old (deliveries all on way) n new
stops_delivering old mid new n all on way low ran may counts = record {
  before = mid;
  ran = subst (λ (es : List Event). RunsTo HappensToAll old es mid) (sym (take-replicate n all (Deliver on way) (omega (arith, low)))) ran;
  event = Deliver on way;
  next = get_same (Deliver on way) all n low;
  may = may;
  counts = counts;
}

stops_flushing : (see : Whole → System) (P : Event → Type 0) (on : Link) (way : Way) → P (Deliver on way) → (old new : Whole)
    → StopsFlushing HappensToAll see may_stop on way old new
    → StopsIn P old new
stops_flushing see P on way is old new (done, stops) = record {
  events = deliveries (standing_on (see old) on way) on way;
  done = done;
  all = All-replicate P (standing_on (see old) on way) (Deliver on way) is;
  stops = stays_after old (deliveries (standing_on (see old) on way) on way) done new stops;
}

pub stops_flushing_all : (see : Whole → System) (P : Event → Type 0) (on : Link) → ((way : Way) → P (Deliver on way)) → (ways : List Way) (old new : Whole)
    → StopsFlushingAll HappensToAll see may_stop on ways old new → StopsIn P old new
stops_flushing_all see P on is [] old new s = absurd s
stops_flushing_all see P on is (way ∷ ways) old new s =
    stops_in_turn P (StopsFlushing HappensToAll see may_stop on way) (Flushes HappensToAll see on way) (StopsFlushingAll HappensToAll see may_stop on ways)
    (stops_flushing see P on way (is way))
    (λ a b. ran_flush see P on way a b (is way)) (stops_flushing_all see P on is ways) old new s

-- ---- rounds

-- an event of a round
abbrev pub IsOfRound : Link → Event → Type 0
IsOfRound on event = (event ≡ Ask on events_polled) ⊎ ((way : Way) × (event ≡ Deliver on way))

-- the poll
pub ran_poll : (on : Link) (old new : Whole) → HappensToAll old (Ask on events_polled) new → Ran (IsOfRound on) old new
ran_poll on old new h = ran_one (IsOfRound on) old new (Ask on events_polled) (inl refl) h

pub stops_round : (see : Whole → System) (on : Link) (old new : Whole) → StopsInRound HappensToAll see may_stop on old new → StopsIn (IsOfRound on) old new
stops_round see on old new s =
    stops_in_turn (IsOfRound on) (λ a b. CountsFor HappensToAll a (Ask on events_polled) b) (λ a b. HappensToAll a (Ask on events_polled) b)
    (StopsFlushingAll HappensToAll see may_stop on (Down ∷ Up ∷ Down ∷ [])) (λ a b. stops_at (IsOfRound on) a b (Ask on events_polled) (inl refl))
    (ran_poll on)
    (stops_flushing_all see (IsOfRound on) on (λ way. inr (way, refl)) (Down ∷ Up ∷ Down ∷ [])) old new s
