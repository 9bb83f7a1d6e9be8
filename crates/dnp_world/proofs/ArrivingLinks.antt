-- The lines of one link of a system: what they are, what changes them alone, and what leaves them alone.
use Rattle.std.proofs.Common.{◌≡◌, ℕ, Bool, true, false, ◌&&◌, if◌then◌else◌, List, length, Option, Some, None, refl, sym, ap, ◌∙◌, subst}
use Rattle.std.specs.Prelude.{nat_lt, slice_get}
use Rattle.std.proofs.lemmas.Option.{none-some, same_Some}
use Rattle.std.proofs.lemmas.List.{length-set, set-set}
use Rattle.dnp_line.specs.Lines.{LineState}
use Rattle.dnp_line.specs.Ports.{PortState}
use Rattle.dnp_world.specs.Arriving.{channel_at, channel_on}
use Rattle.dnp_world.specs.Channels.{ChannelState, line_of}
use Rattle.dnp_world.specs.SystemEvents.{LinesChange, with_substation}
use Rattle.dnp_world.specs.Systems.{SubstationState, System, has_link, has_substation}
use Rattle.dnp_world.specs.declared.event.Link.{Link}
use Rattle.dnp_world.specs.declared.event.Link.TheVariants.{Below, Above}
use Rattle.dnp_world.specs.declared.link_event.Way.{Way}
use Rattle.dnp_world.specs.declared.link_event.Way.TheVariants.{Down, Up}
use Rattle.dnp_world.proofs.ListedAt.{set_here}

-- ---- lists

-- ---- the ends of a way

abbrev pub receiver_at : Way → ChannelState → PortState
receiver_at Down c = c.outstation_port
receiver_at Up c = c.master_port

abbrev pub sender_at : Way → ChannelState → PortState
sender_at Down c = c.master_port
sender_at Up c = c.outstation_port

abbrev pub back : Way → Way
back Down = Up
back Up = Down

-- the line of the way and the port at its end are these
abbrev pub heard_at : Way → ChannelState → LineState → PortState → ChannelState
heard_at Down c line port = record c { down = line; outstation_port = port }
heard_at Up c line port = record c { up = line; master_port = port }

pub line_heard : (way : Way) (c : ChannelState) (line : LineState) (port : PortState) → line_of way (heard_at way c line port) ≡ line
line_heard Down c line port = refl
line_heard Up c line port = refl

pub heard_again : (way : Way) (c : ChannelState) (line line' : LineState) (port port' : PortState)
    → heard_at way (heard_at way c line port) line' port' ≡ heard_at way c line' port'
heard_again Down c line line' port port' = refl
heard_again Up c line line' port port' = refl

-- ---- the lines of a link

-- a substation of the plan with these lines
pub record Found (s : System) (substation : ℕ) (c : ChannelState) : Type 0 where
  pub has : has_substation s substation ≡ true
  pub was : SubstationState
  pub there : slice_get s.substations substation ≡ Some was
  pub lines : was.channel ≡ c

found_by : (s : System) (substation : ℕ) (c : ChannelState) (b : Bool) (o : Option SubstationState) → has_substation s substation ≡ b
    → slice_get s.substations substation ≡ o → (if b then channel_at o else None) ≡ Some c → Found s substation c
found_by s substation c true (Some was) has there e = record { has = has; was = was; there = there; lines = same_Some was.channel c e }
found_by s substation c true None has there e = absurd (none-some c e)
found_by s substation c false o has there e = absurd (none-some c e)

pub found : (s : System) (substation : ℕ) (c : ChannelState) → channel_on s (Below substation) ≡ Some c → Found s substation c
found s substation c e = found_by s substation c (has_substation s substation) (slice_get s.substations substation) refl refl e

pub channel_found : (s : System) (substation : ℕ) (was : SubstationState) → has_substation s substation ≡ true → slice_get s.substations substation ≡ Some was
    → channel_on s (Below substation) ≡ Some was.channel
channel_found s substation was has there =
    ap (λ (b : Bool). if b then channel_at (slice_get s.substations substation) else None) has
    ∙ ap (λ (o : Option SubstationState). channel_at o) there

-- a link with lines is one of the plan
pub linked : (on : Link) (s : System) (c : ChannelState) → channel_on s on ≡ Some c → has_link s on ≡ true
linked (Below substation) s c e = (found s substation c e).has
linked (Above centre) s c e = refl

-- another list of as many substations has the same places
pub has_set : (s : System) (i substation : ℕ) (is : SubstationState) → has_substation (with_substation s i is) substation ≡ has_substation s substation
has_set s i substation is =
    ap (λ (n : ℕ). nat_lt substation n && nat_lt substation (length s.concentrator.links)) (length-set s.substations i is)

-- ---- changes of the lines alone

-- these lines became those
abbrev pub ChangeTo : ChannelState → ChannelState → ChannelState → ChannelState → Type 0
ChangeTo c c' was is = (was ≡ c) × (is ≡ c')

-- the lines of the link were these, and became those, and nothing else changed
pub record LinesGo (on : Link) (c c' : ChannelState) (old new : System) : Type 0 where
  pub before : channel_on old on ≡ Some c
  pub after : channel_on new on ≡ Some c'
  pub change : LinesChange on (ChangeTo c c') old new

pub lines_as : (on : Link) (C D : ChannelState → ChannelState → Type 0) (old new : System)
    → ((was is : ChannelState) → C was is → D was is) → LinesChange on C old new → LinesChange on D old new
lines_as (Below substation) C D old new weaker e = record {
  was = e.was;
  is = e.is;
  there = e.there;
  changed = (weaker e.was.channel e.is.channel e.changed.0, e.changed.1);
  after = e.after;
}
lines_as (Above centre) C D old new weaker e = (weaker old.above new.above e.0, e.1)

-- any change of the lines
pub lines_by : (on : Link) (C : ChannelState → ChannelState → Type 0) (c c' : ChannelState) (old new : System) → LinesGo on c c' old new → C c c'
    → LinesChange on C old new
lines_by on C c c' old new go is =
    lines_as on (ChangeTo c c') C old new (λ a b same. subst (λ (x : ChannelState). C x b) (sym same.0) (subst (λ (x : ChannelState). C c x) (sym same.1) is))
    go.change

-- what they became
pub record WentTo (on : Link) (C : ChannelState → ChannelState → Type 0) (c : ChannelState) (old new : System) : Type 0 where
  pub lines : ChannelState
  pub changed : C c lines
  pub go : LinesGo on c lines old new

pub lines_go : (on : Link) (C : ChannelState → ChannelState → Type 0) (c : ChannelState) (old new : System) → channel_on old on ≡ Some c
    → LinesChange on C old new → WentTo on C c old new
lines_go (Below substation) C c old new there e =
    let f : Found old substation c = found old substation c there in
    let same : e.was.channel ≡ c =
    ap (λ (x : SubstationState). x.channel) (same_Some e.was f.was (sym e.there ∙ f.there)) ∙ f.lines in
    let changed : System = with_substation old substation e.is in
    let after : channel_on changed (Below substation) ≡ Some e.is.channel =
    channel_found changed substation e.is (has_set old substation substation e.is ∙ f.has) (set_here old.substations substation e.was e.is e.there) in
    record {
      lines = e.is.channel;
      changed = subst (λ (x : ChannelState). C x e.is.channel) same e.changed.0;
      go = record {
        before = there;
        after = ap (λ (s : System). channel_on s (Below substation)) e.after ∙ after;
        change = record { was = e.was; is = e.is; there = e.there; changed = ((same, refl), e.changed.1); after = e.after };
      };
    }
lines_go (Above centre) C c old new there e =
    let same : old.above ≡ c = same_Some old.above c there in
    record {
      lines = new.above;
      changed = subst (λ (x : ChannelState). C x new.above) same e.0;
      go = record { before = there; after = refl; change = ((same, refl), e.1) };
    }

-- one change after another
substations_both : (substation : ℕ) (first next last : System) (was middle from is : SubstationState) → slice_get first.substations substation ≡ Some was
    → middle ≡ record was { channel = middle.channel } → next ≡ with_substation first substation middle → slice_get next.substations substation ≡ Some from
    → is ≡ record from { channel = is.channel } → last ≡ with_substation next substation is
    → (is ≡ record was { channel = is.channel }) × (last ≡ with_substation first substation is)
substations_both substation first next last was middle from is there changed set there' changed' set' =
    let with_lines : SubstationState → SubstationState = λ s. record s { channel = is.channel } in
    let same : from ≡ middle =
    same_Some from middle
    (sym there' ∙ ap (λ (s : System). slice_get s.substations substation) set ∙ set_here first.substations substation was middle there) in
    let with_list : List SubstationState → System = λ xs. record first { substations = xs } in (
      changed' ∙ ap with_lines same ∙ ap with_lines changed,
      set' ∙ ap (λ (s : System). with_substation s substation is) set ∙ ap with_list (set-set first.substations substation middle is),
    )

pub lines_both : (on : Link) (a b c : ChannelState) (first next last : System) → LinesGo on a b first next → LinesGo on b c next last
    → LinesGo on a c first last
lines_both (Below substation) a b c first next last g h =
    let e = g.change in
    let f = h.change in
    let both = substations_both substation first next last e.was e.is f.was f.is e.there e.changed.1 e.after f.there f.changed.1 f.after in
    record {
      before = g.before;
      after = h.after;
      change = record { was = e.was; is = f.is; there = e.there; changed = ((e.changed.0.0, f.changed.0.1), both.0); after = both.1 };
    }
lines_both (Above centre) a b c first next last g h =
    let with_above : System → System = λ s. record s { above = last.above } in
    record {
      before = g.before;
      after = h.after;
      change = ((g.change.0.0, h.change.0.1), h.change.1 ∙ ap with_above g.change.1);
    }
