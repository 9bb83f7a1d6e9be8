-- What is under way on the lines of a link arrives: what a quiet link carries, what is sent after it, and what deliveries make of it.
use Rattle.std.proofs.Common.{◌≡◌, ℕ, zero, suc, ◌+◌, Bool, List, [], ◌∷◌, ◌++◌, length, Option, Some, refl, sym, ap, ◌∙◌, subst, arith, append_assoc, append-nil}
use Rattle.std.specs.Prelude.{if◌then◌else◌, slice_get}
use Rattle.std.proofs.lemmas.Option.{same_Some}
use Rattle.std.proofs.lemmas.List.{length-append}
use Rattle.dnp_linkstation.specs.Station.{ends}
use Rattle.dnp_concentrator.specs.Relaying.{Relaying}
use Rattle.dnp_line.specs.Flows.{AreFacing}
use Rattle.dnp_line.specs.Lines.{LineState}
use Rattle.dnp_line.specs.Lines.{line_of as line_with}
use Rattle.dnp_line.specs.Ports.{PortState, HasHistory}
use Rattle.dnp_line.specs.steps.Lower.{Lower}
use Rattle.dnp_world.specs.Arriving.{AreInUnits, Arrive, Arrives, HearsAt, StandOn, UnderWay, answers_on, channel_on}
use Rattle.dnp_world.specs.Channels.{ChannelState, GoDown, GoUp, line_of}
use Rattle.dnp_world.specs.Rounds.{Flushes, deliveries}
use Rattle.dnp_world.specs.SystemEvents.{LinesChange, SendsDown, with_relaying}
use Rattle.dnp_world.specs.SystemRuns.{Happens, RunsTo}
use Rattle.dnp_world.specs.Systems.{SubstationState, System, itself, standing_on, units_at}
use Rattle.dnp_world.specs.declared.event.Link.{Link}
use Rattle.dnp_world.specs.declared.event.Link.TheVariants.{Below, Above}
use Rattle.dnp_world.specs.declared.link_event.Way.{Way}
use Rattle.dnp_world.specs.declared.link_event.Way.TheVariants.{Down, Up}
use Rattle.dnp_world.proofs.ArrivingLines.{back_heard, back_sent, came_off, sent_behind}
use Rattle.dnp_world.proofs.ArrivingLinks.{Found, WentTo, back, found, heard_at, lines_by, lines_go, receiver_at, sender_at}
use Rattle.dnp_world.proofs.ArrivingTakes.{GoesBack, HasTaken, line_stays, relaying_same, takes_goes}
use Rattle.dnp_world.proofs.ArrivingUnits.{IsLeft, Reached, fragment_comes}

-- ---- both ways of a link

-- these fragments are under way on this way, and those on the way back
pub record BothWays (way : Way) (ahead behind : List (List ℕ)) (c : ChannelState) : Type 0 where
  pub there : StandOn ahead (line_of way c) (sender_at way c) (receiver_at way c)
  pub back_is : StandOn behind (line_of (back way) c) (receiver_at way c) (sender_at way c)

-- fragments go on the way back
both_sent : (way : Way) (ahead behind more : List (List ℕ)) (c c' : ChannelState) → GoesBack way more c c' → BothWays way ahead behind c
    → BothWays way ahead (behind ++ more) c'
both_sent Down ahead behind more c c' h b =
    subst (λ (x : ChannelState). BothWays Down ahead (behind ++ more) x) (sym h.after)
    record {
      there = back_sent ahead more c.down c.up c'.up c.master_port c.outstation_port c'.outstation_port h.sent b.there;
      back_is = sent_behind behind more c.up c'.up c.outstation_port c'.outstation_port c.master_port h.sent b.back_is;
    }
both_sent Up ahead behind more c c' h b =
    subst (λ (x : ChannelState). BothWays Up ahead (behind ++ more) x) (sym h.after)
    record {
      there = back_sent ahead more c.up c.down c'.down c.outstation_port c.master_port c'.master_port h.sent b.there;
      back_is = sent_behind behind more c.down c'.down c.master_port c'.master_port c.outstation_port h.sent b.back_is;
    }

-- units came off the line
both_came : (way : Way) (ahead behind rest : List (List ℕ)) (c : ChannelState) (port : PortState) → AreFacing (sender_at way c) (receiver_at way c)
    → ends port.link ≡ ends (receiver_at way c).link → HasHistory port → AreInUnits (sender_at way c) ahead rest
    → StandOn behind (line_of (back way) c) (receiver_at way c) (sender_at way c)
    → BothWays way ahead behind (heard_at way c (line_with rest 0) port)
both_came Down ahead behind rest c port facing same history units other = record {
  there = came_off ahead rest c.master_port c.outstation_port port facing same history units;
  back_is = back_heard behind c.up c.outstation_port port c.master_port same other;
}
both_came Up ahead behind rest c port facing same history units other = record {
  there = came_off ahead rest c.outstation_port c.master_port port facing same history units;
  back_is = back_heard behind c.down c.master_port port c.outstation_port same other;
}

-- ---- all that stands on a line comes

-- what has arrived, and what is under way then
record HasCome (on : Link) (way : Way) (ahead behind : List (List ℕ)) (old new : System) : Type 0 where
  answers : List (List ℕ)
  arrive : Arrive on way ahead answers old new
  lines : ChannelState
  there : channel_on new on ≡ Some lines
  both : BothWays way [] (behind ++ answers) lines

-- two lists of deliveries
runs_two : (on : Link) (way : Way) (m n : ℕ) (old new : System) → RunsTo Happens old (deliveries (m + n) on way) new
    → (mid : System) × RunsTo Happens old (deliveries m on way) mid × RunsTo Happens mid (deliveries n on way) new
runs_two on way zero n old new runs = (old, refl, subst (λ (k : ℕ). RunsTo Happens old (deliveries k on way) new) (omega arith) runs)
runs_two on way (suc m) n old new runs =
    let more : suc m + n ≡ suc (m + n) = omega arith in
    let r : RunsTo Happens old (deliveries (suc (m + n)) on way) new = subst (λ (k : ℕ). RunsTo Happens old (deliveries k on way) new) more runs in
    let t = runs_two on way m n r.0 new r.2 in
    (t.0, (r.0, r.1, t.1), t.2)

-- only the line and the port are others
hears_at : (way : Way) (tail : List (List ℕ)) (was is : ChannelState) → IsLeft way tail was is → HearsAt way was is
hears_at Down tail was is h =
    let with_line : LineState → ChannelState = λ l. record was { down = l; outstation_port = is.outstation_port } in
    h.after ∙ ap with_line (sym (ap (λ (c : ChannelState). c.down) h.after))
hears_at Up tail was is h =
    let with_line : LineState → ChannelState = λ l. record was { up = l; master_port = is.master_port } in
    h.after ∙ ap with_line (sym (ap (λ (c : ChannelState). c.up) h.after))

-- one fragment has arrived, and others stand after it
record OneArrived (on : Link) (way : Way) (f : List ℕ) (fragments behind rest : List (List ℕ)) (old new : System) : Type 0 where
  answers : List (List ℕ)
  arrives : Arrives on way f answers old new
  lines : ChannelState
  there : channel_on new on ≡ Some lines
  both : BothWays way fragments (behind ++ answers) lines
  units : (line_of way lines).units ≡ rest

line_left : (way : Way) (tail : List (List ℕ)) (was is : ChannelState) → IsLeft way tail was is → (line_of way is).units ≡ tail
line_left Down tail was is h = ap (λ (c : ChannelState). c.down.units) h.after
line_left Up tail was is h = ap (λ (c : ChannelState). c.up.units) h.after

one_arrives : (on : Link) (way : Way) (f : List ℕ) (fragments behind first rest : List (List ℕ)) (c : ChannelState) (old new : System)
    → BothWays way (f ∷ fragments) behind c → AreInUnits (sender_at way c) fragments rest → Reached on way f rest c old new
    → OneArrived on way f fragments behind rest old new
one_arrives on way f fragments behind first rest c old new b units r =
    let port : PortState = receiver_at way r.lines in
    let heard : BothWays way fragments behind r.lines =
    subst (λ (x : ChannelState). BothWays way fragments behind x) (sym r.left.after)
    (both_came way fragments behind rest c port b.there.facing r.left.same_ends r.left.history units b.back_is) in
    let answers : List (List ℕ) = answers_on r.heard on way f in
    let t : HasTaken on way answers r.lines new = takes_goes on way f r.lines r.heard new r.go.after r.took in
    record {
      answers = answers;
      arrives = record {
        heard = r.heard;
        hears = lines_by on (HearsAt way) c r.lines old r.heard r.go (hears_at way rest c r.lines r.left);
        takes = r.took;
        sends = refl;
      };
      lines = t.lines;
      there = t.there;
      both = both_sent way fragments behind answers r.lines t.lines t.goes heard;
      units = ap (λ (l : LineState). l.units) (line_stays way answers r.lines t.lines t.goes) ∙ line_left way rest c r.lines r.left;
    }

all_come : Lower → (on : Link) (way : Way) (ahead behind : List (List ℕ)) (c : ChannelState) (old new : System) → channel_on old on ≡ Some c
    → BothWays way ahead behind c → RunsTo Happens old (deliveries (length (line_of way c).units) on way) new → HasCome on way ahead behind old new
all_come low on way [] behind c old new there b runs =
    let none : length (line_of way c).units ≡ 0 = ap (λ (xs : List (List ℕ)). length xs) b.there.units in
    let same : new ≡ old = subst (λ (n : ℕ). RunsTo Happens old (deliveries n on way) new) none runs in
    record {
      answers = [];
      arrive = (refl, same);
      lines = c;
      there = ap (λ (s : System). channel_on s on) same ∙ there;
      both = subst (λ (fs : List (List ℕ)). BothWays way [] fs c) (sym (append-nil behind)) b;
    }
all_come low on way (f ∷ fragments) behind c old new there b runs =
    let u = b.there.units in
    let first : List (List ℕ) = u.0 in
    let rest : List (List ℕ) = u.1 in
    let count : length (line_of way c).units ≡ length first + length rest =
    ap (λ (xs : List (List ℕ)). length xs) u.4 ∙ length-append first rest in
    let two = runs_two on way (length first) (length rest) old new (subst (λ (n : ℕ). RunsTo Happens old (deliveries n on way) new) count runs) in
    let mid : System = two.0 in
    let r : Reached on way f rest c old mid =
    fragment_comes low on way (sender_at way c) f first rest c old mid there u.2 u.4 b.there.facing b.there.history two.1 in
    let o : OneArrived on way f fragments behind rest old mid = one_arrives on way f fragments behind first rest c old mid b u.3 r in
    let left : length rest ≡ length (line_of way o.lines).units = ap (λ (xs : List (List ℕ)). length xs) (sym o.units) in
    let h : HasCome on way fragments (behind ++ o.answers) mid new =
    all_come low on way fragments (behind ++ o.answers) o.lines mid new o.there o.both
    (subst (λ (n : ℕ). RunsTo Happens mid (deliveries n on way) new) left two.2) in
    record {
      answers = o.answers ++ h.answers;
      arrive = (o.answers, h.answers, mid, o.arrives, h.arrive, refl);
      lines = h.lines;
      there = h.there;
      both = subst (λ (fs : List (List ℕ)). BothWays way [] fs h.lines) (append_assoc behind o.answers h.answers) h.both;
    }

-- ---- the law

-- as many units stand there
standing_there : (on : Link) (way : Way) (s : System) (c : ChannelState) → channel_on s on ≡ Some c → standing_on s on way ≡ length (line_of way c).units
standing_there (Below substation) way s c there =
    let f : Found s substation c = found s substation c there in
    ap (λ (b : Bool). if b then units_at way (slice_get s.substations substation) else 0) f.has
    ∙ ap (λ (o : Option SubstationState). units_at way o) f.there ∙ ap (λ (l : ChannelState). length (line_of way l).units) f.lines
standing_there (Above centre) way s c there = ap (λ (l : ChannelState). length (line_of way l).units) (same_Some s.above c there)

flush : Lower → (on : Link) (way : Way) (ahead behind : List (List ℕ)) (c : ChannelState) (old new : System) → channel_on old on ≡ Some c
    → BothWays way ahead behind c → Flushes Happens itself on way old new → HasCome on way ahead behind old new
flush low on way ahead behind c old new there b runs =
    all_come low on way ahead behind c old new there b
    (subst (λ (n : ℕ). RunsTo Happens old (deliveries n on way) new) (standing_there on way old c there) runs)

pub down_comes : Lower → (on : Link) (down up : List (List ℕ)) (old new : System) → UnderWay on down up old → Flushes Happens itself on Down old new
    → (answers : List (List ℕ)) × Arrive on Down down answers old new × UnderWay on [] (up ++ answers) new
down_comes low on down up old new u runs =
    let h : HasCome on Down down up old new =
    flush low on Down down up u.channel old new u.there (record { there = u.down_is; back_is = u.up_is }) runs in
    (h.answers, h.arrive, record { channel = h.lines; there = h.there; down_is = h.both.there; up_is = h.both.back_is })

pub up_comes : Lower → (on : Link) (down up : List (List ℕ)) (old new : System) → UnderWay on down up old → Flushes Happens itself on Up old new
    → (answers : List (List ℕ)) × Arrive on Up up answers old new × UnderWay on (down ++ answers) [] new
up_comes low on down up old new u runs =
    let h : HasCome on Up up down old new =
    flush low on Up up down u.channel old new u.there (record { there = u.up_is; back_is = u.down_is }) runs in
    (h.answers, h.arrive, record { channel = h.lines; there = h.there; down_is = h.both.back_is; up_is = h.both.there })

pub sends_down : (on : Link) (fragments down up : List (List ℕ)) (old new : System) → UnderWay on down up old
    → LinesChange on (GoDown fragments) old new → UnderWay on (down ++ fragments) up new
sends_down on fragments down up old new u changes =
    let went : WentTo on (GoDown fragments) u.channel old new = lines_go on (GoDown fragments) u.channel old new u.there changes in
    let b : BothWays Up up (down ++ fragments) went.lines =
    both_sent Up up down fragments u.channel went.lines went.changed (record { there = u.up_is; back_is = u.down_is }) in
    record { channel = went.lines; there = went.go.after; down_is = b.back_is; up_is = b.there }

pub sends_up : (on : Link) (fragments down up : List (List ℕ)) (old new : System) → UnderWay on down up old
    → LinesChange on (GoUp fragments) old new → UnderWay on down (up ++ fragments) new
sends_up on fragments down up old new u changes =
    let went : WentTo on (GoUp fragments) u.channel old new = lines_go on (GoUp fragments) u.channel old new u.there changes in
    let b : BothWays Down down (up ++ fragments) went.lines =
    both_sent Down down up fragments u.channel went.lines went.changed (record { there = u.down_is; back_is = u.up_is }) in
    record { channel = went.lines; there = went.go.after; down_is = b.there; up_is = b.back_is }

pub asks_down : (on : Link) (fragments down up : List (List ℕ)) (link : Relaying) (old new : System) → UnderWay on down up old
    → SendsDown on fragments link old new → UnderWay on (down ++ fragments) up new
asks_down on fragments down up link old new u changes =
    let set : UnderWay on down up (with_relaying old on link) =
    record { channel = u.channel; there = relaying_same on on old link ∙ u.there; down_is = u.down_is; up_is = u.up_is } in
    sends_down on fragments down up (with_relaying old on link) new set changes
