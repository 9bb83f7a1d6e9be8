-- What comes over the lines of a link.
use Rattle.std.proofs.Common.{◌≡◌, ℕ, Bool, true, false, List, [], ◌∷◌, ◌++◌, length, take, ◌⊎◌, inl, inr, Option, Some, Result, Ok, Err, sym, ap, ◌∙◌, subst, arith}
use Rattle.std.specs.Prelude.{if◌then◌else◌, OnErr}
use Rattle.std.proofs.lemmas.List.{take_all}
use Rattle.dnp_objects.specs.declared.row.Row.{Row}
use Rattle.dnp_line.specs.Lines.{LineState, front_of}
use Rattle.dnp_line.specs.Ports.{PortState, IsShown}
use Rattle.dnp_line.specs.Ways.{HearsUnit, HearsIfAny}
use Rattle.dnp_master.specs.declared.fault.MasterFault.{MasterFault}
use Rattle.dnp_master.specs.Calls.{Taking, receive_of}
use Rattle.dnp_master.specs.State as master
use Rattle.dnp_master.specs.LinkCalls.{PassesOver, TakesResponse, TakesReport}
use Rattle.dnp_world.specs.Channels.{ChannelState}
use Rattle.dnp_world.specs.MasterEnds.{ComesToMaster, TakesBy, TakesGiven}
use Rattle.dnp_world.specs.Octets.{rows_in}
use Rattle.dnp_world.specs.OneLinkEvents.{LinkState, ComesUp, ComeUp, IsStopped, Receives}
use Rattle.dnp_world.specs.OneLinkParts.{KeepsBeside, ReceiverTakes}
use Rattle.dnp_world.specs.declared.one_link.receiver.Receiver.{Receiver}
use Rattle.dnp_world.proofs.MasterMoves.{events_are_rows}

-- ---- the port

-- the front unit is heard; what it completes is given
pub heard_whole : (line : LineState) (unit : List ℕ) (old new : PortState) (whole : Bool) (fragment : List ℕ) → Some unit ≡ front_of line
    → ((given : List (List ℕ)) (fragment : List ℕ) → IsShown new fragment → HearsUnit unit old new given (if whole then given ++ fragment ∷ [] else given))
    → IsShown new fragment → whole ≡ true → HearsIfAny (front_of line) old new [] (fragment ∷ [])
heard_whole line unit old new whole fragment front hears shown is =
    subst (λ (o : Option (List ℕ)). HearsIfAny o old new [] (fragment ∷ [])) front
    (subst (λ (b : Bool). HearsUnit unit old new [] (if b then fragment ∷ [] else [])) is (hears [] fragment shown))

pub heard_part : (line : LineState) (unit : List ℕ) (old new : PortState) (whole : Bool) (fragment : List ℕ) → Some unit ≡ front_of line
    → ((given : List (List ℕ)) (fragment : List ℕ) → IsShown new fragment → HearsUnit unit old new given (if whole then given ++ fragment ∷ [] else given))
    → IsShown new fragment → whole ≡ false → HearsIfAny (front_of line) old new [] []
heard_part line unit old new whole fragment front hears shown is =
    subst (λ (o : Option (List ℕ)). HearsIfAny o old new [] []) front
    (subst (λ (b : Bool). HearsUnit unit old new [] (if b then fragment ∷ [] else [])) is (hears [] fragment shown))

-- ---- the master

-- what an append makes of a sink
abbrev pub Sink : Type 0 → Type 1
Sink S = S → List Row → List Row → List Row → S → Type 0

-- the first of the octets' events, as many as were taken, are those that were taken
all_first : (rows events : List Row) → events ≡ rows → take (length events) rows ≡ events
all_first rows events e = take_all (length events) rows (omega (arith, ap (λ (xs : List Row). length xs) e)) ∙ sym e

none_first : (rows events : List Row) → events ≡ [] → take (length events) rows ≡ events
none_first rows events e =
    ap (λ (xs : List Row). take (length xs) rows) e ∙ sym e

pub events_first : (s : master.State) (octets : List ℕ) (t : Taking) → PassesOver s t ⊎ (TakesResponse s octets t ⊎ TakesReport s octets t)
    → take (length t.events) (rows_in octets) ≡ t.events
events_first s octets t h =
    elim h [
      | inl p ↦ none_first (rows_in octets) t.events p.events
      | inr k ↦ elim k [
        | inl r ↦ all_first (rows_in octets) t.events (r.events ∙ events_are_rows octets)
        | inr r ↦ all_first (rows_in octets) t.events (r.events ∙ events_are_rows octets)
      ]
    ]

-- ---- what comes up a link by itself

-- the link with this master and sink, over these lines
abbrev pub with_receiver : {S : Type 0} → LinkState S → Receiver S → ChannelState → LinkState S
with_receiver s r lines = record s { master = r.master; sink = r.sink; channel = lines; taken = r.taken.items }

-- nothing was taken
stays : {S : Type 0} (s : LinkState S) (old new : Receiver S) (before after : ChannelState) → KeepsBeside (λ a b. b ≡ a) old new → after ≡ before
    → with_receiver s new after ≡ with_receiver s old before
stays {S} s old new before after k same =
    ap (with_receiver s new) same ∙ ap (λ (m : master.State). record s { master = m; sink = new.sink; channel = before; taken = new.taken.items }) k.master
    ∙ ap (λ (x : S). record s { master = old.master; sink = x; channel = before; taken = new.taken.items }) k.sink
    ∙ ap (λ (rows : List Row). record s { master = old.master; sink = old.sink; channel = before; taken = rows }) k.listed

come_up : {S : Type 0} (takes : Sink S) (s : LinkState S) (old new : Receiver S) (before after : ChannelState) (drops : Taking → Type 0) (none : Type 0)
    (r : Result Taking MasterFault)
    → TakesBy r (λ t. ReceiverTakes takes t old new × drops t) (KeepsBeside (λ a b. b ≡ a) old new × none) before after
    → Receives takes r (with_receiver s old before) (with_receiver s new after)
come_up takes s old new before after drops none (Ok t) (down, took) = record {
  rows = took.0.rows;
  goes = down;
  after = ap (λ (m : master.State). record s { master = m; sink = new.sink; channel = after; taken = new.taken.items }) took.0.master
      ∙ ap (λ (rows : List Row). record s { master = t.state; sink = new.sink; channel = after; taken = rows }) took.0.listed;
}
come_up takes s old new before after drops none (Err fault) (same, kept) = stays s old new before after kept.0 same

given_up : {S : Type 0} (takes : Sink S) (s : LinkState S) (old new : Receiver S) (before after : ChannelState) (drops : Taking → Type 0) (none : Type 0)
    (given : List (List ℕ))
    → TakesGiven given old.master s.now (λ t. ReceiverTakes takes t old new × drops t) (KeepsBeside (λ a b. b ≡ a) old new × none) before after
    → ComeUp takes given (with_receiver s old before) (with_receiver s new after)
given_up takes s old new before after drops none [] (same, kept) = stays s old new before after kept.0 same
given_up takes s old new before after drops none (fragment ∷ others) h =
    come_up takes s old new before after drops none (receive_of old.master s.now fragment) h

-- what comes to the master's end is what comes up the link
pub comes_up : {S : Type 0} (takes : Sink S) (s : LinkState S) (old new : Receiver S) (before after : ChannelState) (drops : Taking → Type 0) (none : Type 0)
    (left : LineState → LineState)
    → ComesToMaster left old.master s.now (λ t. ReceiverTakes takes t old new × drops t) (KeepsBeside (λ a b. b ≡ a) old new × none) before after
    → ComesUp takes (left before.up) (with_receiver s old before) (with_receiver s new after)
comes_up takes s old new before after drops none left c = record {
  port = c.port;
  given = c.given;
  heard = c.heard;
  came = given_up takes s old new (record before { up = left before.up; master_port = c.port }) after drops none c.given c.came;
}

-- what its sink refused
pub stops_up : {S : Type 0} (keeps : S → S → Type 0) (s : LinkState S) (old new : Receiver S) (before after : ChannelState) → KeepsBeside keeps old new
    → after ≡ before → IsStopped keeps (with_receiver s old before) (with_receiver s new after)
stops_up keeps s old new before after k same = record {
  kept = k.sink;
  after = ap (with_receiver s new) same
      ∙ ap (λ (m : master.State). record s { master = m; sink = new.sink; channel = before; taken = new.taken.items }) k.master
      ∙ ap (λ (rows : List Row). record s { master = old.master; sink = new.sink; channel = before; taken = rows }) k.listed;
}

-- ---- answers

pub on_err : {A E : Type 0} (r : Result A E) (P Q R : Type 0) → (P → Q → R) → OnErr r P → OnErr r Q → OnErr r R
on_err (Ok x) P Q R f h k = tt
on_err (Err e) P Q R f h k = f h k
