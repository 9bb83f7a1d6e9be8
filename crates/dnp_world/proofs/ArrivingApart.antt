-- A quiet link carries nothing, and what arrives on one link leaves the lines of the others alone.
use Rattle.std.proofs.Common.{◌≡◌, ◌≢◌, ℕ, ◌==◌, Bool, true, false, not, ◌&&◌, if◌then◌else◌, List, [], ◌∷◌, length, Option, Some, None, Result, Ok, Err, refl, ap, ◌∙◌}
use Rattle.std.specs.Prelude.{slice_get}
use Rattle.std.proofs.lemmas.Bool.{and_parts, not-true}
use Rattle.std.proofs.lemmas.Bool.Decides.{Decides-eqb}
use Rattle.std.proofs.lemmas.List.{nil_from_length}
use Rattle.dnp_concentrator.specs.Relaying.{Relaying}
use Rattle.dnp_line.specs.Lines.{LineState, is_broken}
use Rattle.dnp_line.specs.Ports.{PortState}
use Rattle.dnp_master.specs.Calls.{Taking, receive_of}
use Rattle.dnp_master.specs.State.{is_idle}
use Rattle.dnp_master.specs.declared.fault.MasterFault.{MasterFault}
use Rattle.dnp_outstation.specs.State.{is_quiet}
use Rattle.dnp_world.specs.Arriving.{AreApart, Arrive, HearsAt, IsClearOn, StandOn, TakesOn, channel_at, channel_on}
use Rattle.dnp_world.specs.Behind.{Elsewhere}
use Rattle.dnp_world.specs.Channels.{ChannelState, GoDown, are_quiet, is_quiet_line}
use Rattle.dnp_world.specs.Joined.{Carries}
use Rattle.dnp_world.specs.Rounds.{is_quiet_at, is_quiet_on}
use Rattle.dnp_world.specs.SystemEvents.{LinesChange, MasterReceives, SendsDown, relaying_at, taken_on, with_relaying, with_substation}
use Rattle.dnp_world.specs.SystemStanding.{IsJoinedBelow, IsStanding}
use Rattle.dnp_world.specs.Systems.{SubstationState, System, has_substation, link_at}
use Rattle.dnp_world.specs.declared.event.Link.{Link}
use Rattle.dnp_world.specs.declared.event.Link.TheVariants.{Below, Above}
use Rattle.dnp_world.specs.declared.link_event.Way.{Way}
use Rattle.dnp_world.specs.declared.link_event.Way.TheVariants.{Down, Up}
use Rattle.dnp_world.proofs.ArrivingLinks.{channel_found, has_set}
use Rattle.dnp_world.proofs.ArrivingTakes.{relaying_same, taken_same}
use Rattle.dnp_world.proofs.BelowKeeps.{some_of}
use Rattle.dnp_world.proofs.ListedAt.{set_there}

-- ---- a quiet link

-- a line that carries nothing, and is whole
record IsEmpty (line : LineState) : Type 0 where
  units : line.units ≡ []
  unbroken : is_broken line ≡ false

empty_line : (line : LineState) → is_quiet_line line ≡ true → IsEmpty line
empty_line line e =
    let parts = and_parts (length line.units == 0) (not (is_broken line)) e in
    record {
      units = nil_from_length line.units ((Decides-eqb (length line.units) 0).0 parts.0);
      unbroken = not-true (is_broken line) parts.1;
    }

nothing_stands : (line : LineState) (sender receiver : PortState) (is_open : Bool) (rest : List (List ℕ)) → is_quiet_line line ≡ true
    → Carries line sender receiver is_open rest → StandOn [] line sender receiver
nothing_stands line sender receiver is_open rest quiet c =
    let empty : IsEmpty line = empty_line line quiet in
    let port = c.flows.port in
    record {
      facing = c.flows.facing;
      unbroken = empty.unbroken;
      units = empty.units;
      history = record { heard = port.heard; answers = port.answers; pushed = port.pushed; stands = port.stands };
    }

quiet_below : (s : System) {el : Elsewhere} (substation : ℕ) (o : Option SubstationState) → IsStanding el s → slice_get s.substations substation ≡ o
    → has_substation s substation ≡ true → is_quiet_at o ≡ true → IsClearOn (Below substation) s
quiet_below s substation None h there has e = absurd (cc)
quiet_below s substation (Some was) h there has e =
    let lines : ChannelState = was.channel in
    let joined_to : SubstationState → Type 0 = IsJoinedBelow s.now (link_at s.concentrator substation) (h.links.below substation) in
    let joined = (some_of joined_to (slice_get s.substations substation) was there (h.below substation)).joined in
    let quiet : are_quiet lines ≡ true = (and_parts (is_quiet was.core) (are_quiet lines) e).1 in
    let parts = and_parts (is_quiet_line lines.down) (is_quiet_line lines.up) quiet in
    record {
      channel = lines;
      there = channel_found s substation was has there;
      down_is = nothing_stands lines.down lines.master_port lines.outstation_port (link_at s.concentrator substation).master.is_open
          joined.going_down parts.0 joined.down;
      up_is = nothing_stands lines.up lines.outstation_port lines.master_port was.core.is_open _ parts.1 joined.up;
    }

pub quiet_is_clear : (on : Link) (s : System) {el : Elsewhere} → IsStanding el s → is_quiet_on s on ≡ true → IsClearOn on s
quiet_is_clear (Below substation) s h e =
    let idle : Bool = is_idle (link_at s.concentrator substation).master in
    let quiet : Bool = is_quiet_at (slice_get s.substations substation) in
    let parts = and_parts (has_substation s substation) (idle && quiet) e in
    quiet_below s substation (slice_get s.substations substation) h refl parts.0 (and_parts idle quiet parts.1).1
quiet_is_clear (Above centre) s h e =
    let lines : ChannelState = s.above in
    let ends_quiet : Bool = is_quiet s.concentrator.core && are_quiet lines in
    let ends = and_parts (is_idle s.centre.link.master) ends_quiet e in
    let quiet : are_quiet lines ≡ true = (and_parts (is_quiet s.concentrator.core) (are_quiet lines) ends.1).1 in
    let parts = and_parts (is_quiet_line lines.down) (is_quiet_line lines.up) quiet in
    record {
      channel = lines;
      there = refl;
      down_is = nothing_stands lines.down lines.master_port lines.outstation_port s.centre.link.master.is_open h.above.going_down parts.0 h.above.down;
      up_is = nothing_stands lines.up lines.outstation_port lines.master_port s.concentrator.core.is_open _ parts.1 h.above.up;
    }

-- ---- the other links

set_apart : (s : System) (substation other : ℕ) (is : SubstationState) → substation ≢ other
    → channel_on (with_substation s other is) (Below substation) ≡ channel_on s (Below substation)
set_apart s substation other is apart =
    let set : System = with_substation s other is in
    let lines_in : Bool → Option SubstationState → Option ChannelState = λ b o. if b then channel_at o else None in
    ap (λ (b : Bool). lines_in b (slice_get set.substations substation)) (has_set s other substation is)
    ∙ ap (λ (o : Option SubstationState). lines_in (has_substation s substation) o) (set_there s.substations other substation is apart)

pub lines_apart : (on other : Link) (C : ChannelState → ChannelState → Type 0) (old new : System) → AreApart on other → LinesChange other C old new
    → channel_on new on ≡ channel_on old on
lines_apart (Below substation) (Below other) C old new apart e =
    ap (λ (s : System). channel_on s (Below substation)) e.after ∙ set_apart old substation other e.is apart
lines_apart (Above centre) (Below other) C old new apart e = ap (λ (s : System). channel_on s (Above centre)) e.after
lines_apart (Below substation) (Above centre) C old new apart e = ap (λ (s : System). channel_on s (Below substation)) e.1
lines_apart (Above centre) (Above other) C old new apart e = absurd apart

received_apart : (on other : Link) (r : Result Taking MasterFault) (old new : System) → AreApart on other → MasterReceives other r old new
    → channel_on new on ≡ channel_on old on
received_apart on other (Ok t) old new apart (room, changes) =
    lines_apart on other (GoDown _) (taken_on old other t) new apart changes ∙ taken_same on other old t
received_apart on other (Err fault) old new apart is = ap (λ (s : System). channel_on s on) is

takes_apart : (on other : Link) (way : Way) (f : List ℕ) (old new : System) → AreApart on other → TakesOn other way f old new
    → channel_on new on ≡ channel_on old on
takes_apart (Below substation) (Below other) Down f old new apart h =
    let e = h.answers in
    ap (λ (s : System). channel_on s (Below substation)) e.after ∙ set_apart old substation other e.is apart
takes_apart (Above centre) (Below other) Down f old new apart h = ap (λ (s : System). channel_on s (Above centre)) h.answers.after
takes_apart (Below substation) (Above centre) Down f old new apart h = ap (λ (s : System). channel_on s (Below substation)) h.after
takes_apart (Above centre) (Above other) Down f old new apart h = absurd apart
takes_apart on (Below other) Up f old new apart h =
    received_apart on (Below other) (receive_of (relaying_at old (Below other)).master old.now f) old new apart h
takes_apart on (Above centre) Up f old new apart h =
    received_apart on (Above centre) (receive_of (relaying_at old (Above centre)).master old.now f) old new apart h

pub arrivals_apart : (on other : Link) (way : Way) (fragments answers : List (List ℕ)) (old new : System) → AreApart on other
    → Arrive other way fragments answers old new → channel_on new on ≡ channel_on old on
arrivals_apart on other way [] answers old new apart h = ap (λ (s : System). channel_on s on) h.1
arrivals_apart on other way (f ∷ fragments) answers old new apart (first, more, next, arrives, rest, all) =
    arrivals_apart on other way fragments more next new apart rest
    ∙ takes_apart on other way f arrives.heard next apart arrives.takes
    ∙ lines_apart on other (HearsAt way) old arrives.heard apart arrives.hears

pub sends_apart : (on other : Link) (fragments : List (List ℕ)) (link : Relaying) (old new : System) → AreApart on other
    → SendsDown other fragments link old new → channel_on new on ≡ channel_on old on
sends_apart on other fragments link old new apart changes =
    lines_apart on other (GoDown fragments) (with_relaying old other link) new apart changes ∙ relaying_same on other old link
