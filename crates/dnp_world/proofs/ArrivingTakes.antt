-- What a station that takes a fragment does to the lines of its link: its answers go on the way back, and nothing else happens there.
use Rattle.std.proofs.Common.{◌≡◌, ℕ, List, [], ◌∷◌, length, Option, Some, Result, Ok, Err, refl, sym, ap, ◌∙◌, subst}
use Rattle.std.specs.Prelude.{◌&&◌, if◌then◌else◌, None, nat_lt, option_to_list, slice_get}
use Rattle.std.proofs.lemmas.Option.{same_Some}
use Rattle.std.proofs.lemmas.List.{length-set}
use Rattle.dnp_concentrator.specs.Relaying as relaying
use Rattle.dnp_concentrator.specs.Relaying.{Relaying}
use Rattle.dnp_master.specs.Calls.{Taking, receive_of}
use Rattle.dnp_master.specs.declared.fault.MasterFault.{MasterFault}
use Rattle.dnp_outstation.specs.Calls.{connection_after}
use Rattle.dnp_outstation.specs.State.{Step}
use Rattle.dnp_world.specs.Arriving.{SubstationTakes, TakesOn, answers_below, answers_on, channel_at, channel_on, confirms_of}
use Rattle.dnp_world.specs.Channels.{ChannelState, GoDown, GoUp, line_of}
use Rattle.dnp_world.specs.SystemEvents.{MasterReceives, MiddleAnswers, relaying_at, taken_on, with_relaying, with_substation}
use Rattle.dnp_world.specs.Systems.{SubstationState, System, link_at, panel_of, station_of}
use Rattle.dnp_world.specs.declared.event.Link.{Link}
use Rattle.dnp_world.specs.declared.event.Link.TheVariants.{Below, Above}
use Rattle.dnp_world.specs.declared.link_event.Way.{Way}
use Rattle.dnp_world.specs.declared.link_event.Way.TheVariants.{Down, Up}
use Rattle.dnp_world.proofs.ArrivingLinks.{Found, WentTo, channel_found, found, has_set, lines_go}
use Rattle.dnp_world.proofs.ListedAt.{set_here}

-- these fragments go on the way back
abbrev pub GoesBack : Way → List (List ℕ) → ChannelState → ChannelState → Type 0
GoesBack Down fragments old new = GoUp fragments old new
GoesBack Up fragments old new = GoDown fragments old new

pub line_stays : (way : Way) (fragments : List (List ℕ)) (old new : ChannelState) → GoesBack way fragments old new → line_of way new ≡ line_of way old
line_stays Down fragments old new h = ap (λ (c : ChannelState). c.down) h.after
line_stays Up fragments old new h = ap (λ (c : ChannelState). c.up) h.after

-- the lines after it
pub record HasTaken (on : Link) (way : Way) (answers : List (List ℕ)) (c : ChannelState) (new : System) : Type 0 where
  pub lines : ChannelState
  pub there : channel_on new on ≡ Some lines
  pub goes : GoesBack way answers c lines

-- ---- as many substations and links as before

pub same_channel : (substation : ℕ) (s t : System) → t.substations ≡ s.substations → length t.concentrator.links ≡ length s.concentrator.links
    → channel_on t (Below substation) ≡ channel_on s (Below substation)
same_channel substation s t substations links =
    let lines_in : List SubstationState → ℕ → Option ChannelState = λ xs count.
    if nat_lt substation (length xs) && nat_lt substation count then channel_at (slice_get xs substation) else None in
    ap (λ (xs : List SubstationState). lines_in xs (length t.concentrator.links)) substations ∙ ap (λ (n : ℕ). lines_in s.substations n) links

-- also of another link
pub relaying_same : (on other : Link) (s : System) (link : Relaying) → channel_on (with_relaying s other link) on ≡ channel_on s on
relaying_same (Below substation) (Below other) s link =
    same_channel substation s (with_relaying s (Below other) link) refl (length-set s.concentrator.links other link)
relaying_same (Above centre) (Below other) s link = refl
relaying_same (Below substation) (Above centre) s link = refl
relaying_same (Above centre) (Above other) s link = refl

pub taken_same : (on other : Link) (s : System) (t : Taking) → channel_on (taken_on s other t) on ≡ channel_on s on
taken_same (Below substation) (Below other) s t =
    same_channel substation s (taken_on s (Below other) t) refl
    (length-set s.concentrator.links other (relaying.received (link_at s.concentrator other) t))
taken_same (Above centre) (Below other) s t = refl
taken_same (Below substation) (Above centre) s t = refl
taken_same (Above centre) (Above other) s t = refl

-- ---- the stations

substation_goes : (substation : ℕ) (f : List ℕ) (c : ChannelState) (old new : System) → channel_on old (Below substation) ≡ Some c
    → SubstationTakes substation f old new → HasTaken (Below substation) Down (answers_below (slice_get old.substations substation) old.now f) c new
substation_goes substation f c old new there h =
    let e = h.answers in
    let step : Step = connection_after (station_of e.was) (panel_of e.was) old.now f in
    let place : Found old substation c = found old substation c there in
    let same : e.was.channel ≡ c =
    ap (λ (x : SubstationState). x.channel) (same_Some e.was place.was (sym e.there ∙ place.there)) ∙ place.lines in
    let up : GoUp step.does.send c e.is.channel = subst (λ (x : ChannelState). GoUp step.does.send x e.is.channel) same e.changed.1.sent in
    let set : System = with_substation old substation e.is in
    let has : channel_on set (Below substation) ≡ Some e.is.channel =
    channel_found set substation e.is (has_set old substation substation e.is ∙ place.has) (set_here old.substations substation e.was e.is e.there) in
    record {
      lines = e.is.channel;
      there = ap (λ (s : System). channel_on s (Below substation)) e.after ∙ has;
      goes = subst (λ (o : Option SubstationState). GoUp (answers_below o old.now f) c e.is.channel) (sym e.there) up;
    }

middle_goes : (centre : ℕ) (f : List ℕ) (c : ChannelState) (old new : System) → channel_on old (Above centre) ≡ Some c → MiddleAnswers (f ∷ []) old new
    → HasTaken (Above centre) Down (answers_on old (Above centre) Down f) c new
middle_goes centre f c old new there h = record {
  lines = new.above;
  there = refl;
  goes = subst (λ (x : ChannelState). GoUp (answers_on old (Above centre) Down f) x new.above) (same_Some old.above c there) h.sent;
}

receives : (on : Link) (r : Result Taking MasterFault) (c : ChannelState) (old new : System) → channel_on old on ≡ Some c → MasterReceives on r old new
    → HasTaken on Up (confirms_of r) c new
receives on (Ok t) c old new there (room, changes) =
    let went : WentTo on (GoDown (option_to_list t.confirm)) c (taken_on old on t) new =
    lines_go on (GoDown (option_to_list t.confirm)) c (taken_on old on t) new (taken_same on on old t ∙ there) changes in
    record { lines = went.lines; there = went.go.after; goes = went.changed }
receives on (Err fault) c old new there is = record {
  lines = c;
  there = ap (λ (s : System). channel_on s on) is ∙ there;
  goes = record { sent = (refl, refl); after = refl };
}

pub takes_goes : (on : Link) (way : Way) (f : List ℕ) (c : ChannelState) (old new : System) → channel_on old on ≡ Some c → TakesOn on way f old new
    → HasTaken on way (answers_on old on way f) c new
takes_goes (Below substation) Down f c old new there h = substation_goes substation f c old new there h
takes_goes (Above centre) Down f c old new there h = middle_goes centre f c old new there h
takes_goes (Below substation) Up f c old new there h =
    receives (Below substation) (receive_of (relaying_at old (Below substation)).master old.now f) c old new there h
takes_goes (Above centre) Up f c old new there h = receives (Above centre) (receive_of (relaying_at old (Above centre)).master old.now f) c old new there h
