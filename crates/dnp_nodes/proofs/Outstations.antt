-- Calls of an outstation's side: runs of its link, and their ends.
use Rattle.std.proofs.Common.{◌≡◌, ℕ, Bool, true, false, List, [], ◌∷◌, ◌++◌, append-nil, refl, subst, sym, ap, ◌∙◌}
use Rattle.std.specs.Prelude.{◌||◌, ◌&&◌, not, if◌then◌else◌, min, length, All, IfSome, Option, Some, None, Result, is_some}
use Rattle.std.specs.List.{list_any}
use Rattle.std.proofs.lemmas.List.Elements.{All-append, All-cons, All-nil}
use Rattle.dnp_line.specs.Ports.{HasHistory, IsShown, PortState}
use Rattle.dnp_linkframe.specs.declared.frame.Frame.{Frame}
use Rattle.dnp_streams.specs.declared.link.answering.Heard.TheVariants as took
use Rattle.dnp_streams.specs.declared.link.answering.Told.{Told}
use Rattle.dnp_streams.specs.declared.stream.change.Change.{Change}
use Rattle.dnp_streams.specs.declared.stream.station.StationFault.{StationFault}
use Rattle.dnp_streams.specs.links.Deeds.{ActsAll, Came, Changed, Deed, Joined, Part, Reply, Ways, Whole, heard_of, told_of}
use Rattle.dnp_streams.specs.links.Laws.{Event, HappenAll, Made, deeds_in}
use Rattle.dnp_streams.specs.links.Links.{Does, LinkState, Makes}
use Rattle.dnp_nodes.proofs.Runs.{runs_none, runs_made, runs_then, noted_one, noted_then, over_now, no_longer}
use Rattle.dnp_nodes.specs.Callees.{Calls, Changes, Goes, Hears, IsCut, IsHeard, Passes, has_operated, is_operating, is_up, link_of, made_of, operates, over_if, over_in, want_of}
use Rattle.dnp_nodes.specs.Runs.{Runs, wanted}
use Rattle.dnp_nodes.specs.declared.callee.Callee.{Callee}
use Rattle.dnp_nodes.specs.declared.slot.Closing.{Closing}
use Rattle.dnp_nodes.specs.declared.slot.Want.{Want}

-- ---- whether the fragment that a frame completed operates an output

pub not_operating : (now : ℕ) (frame : Frame) (joined : Joined) (b : Bool) → took.Part ≡ heard_of joined → b ≡ (is_operating (Made (Came now frame joined)) || b)
not_operating now frame Part b is = refl
not_operating now frame (Whole fragment reply) b is = cc

-- the port shows the fragment that the station was given
pub operates_now : (old new : LinkState) (now : ℕ) (frame : Frame) (joined : Joined) (told : Result Told StationFault) (shown : List ℕ)
    → ((old new : LinkState) (now : ℕ) (frame : Frame) (fragment : List ℕ) (reply : Reply) → Does old (Came now frame (Whole fragment reply)) new → IsShown new.port fragment)
    → ((port : PortState) (fragment other : List ℕ) → HasHistory port → IsShown port fragment → IsShown port other → fragment ≡ other)
    → HasHistory new.port → IsShown new.port shown → Does old (Came now frame joined) new → took.Whole told ≡ heard_of joined
    → operates shown ≡ is_operating (Made (Came now frame joined))
operates_now old new now frame Part told shown shows one history is_shown does is = cc
operates_now old new now frame (Whole fragment reply) told shown shows one history is_shown does is =
    ap operates (one new.port shown fragment history is_shown (shows old new now frame fragment reply does))

-- ---- runs

pub hears_none : {S : Type 0} (w : Ways S) (h : Type 0) (now : ℕ) (old : Callee) (s : S) → Hears w h now (link_of old) old s (link_of old) s old
hears_none w h now old s = record { heard = []; each = All-nil (IsHeard now); runs = runs_none w h (link_of old) s; operated = refl }

pub hears_one : {S : Type 0} (w : Ways S) (h : Type 0) (now : ℕ) (a b : LinkState) (old new : Callee) (s t : S) (frame : Frame) (joined : Joined)
    → Makes w h a s (Came now frame joined) b t → has_operated new ≡ (is_operating (Made (Came now frame joined)) || has_operated old) → Hears w h now a old s b t new
hears_one w h now a b old new s t frame joined made operated = record {
  heard = Made (Came now frame joined) ∷ [];
  each = All-cons (IsHeard now) (Made (Came now frame joined)) [] refl (All-nil (IsHeard now));
  runs = runs_made w h a b s t (Came now frame joined) made;
  operated = noted_one is_operating (Made (Came now frame joined)) (has_operated old) (has_operated new) operated;
}

-- the link is said in another way
pub hears_from : {S : Type 0} (w : Ways S) (h : Type 0) (now : ℕ) (a b : LinkState) (old new : Callee) (s t : S) → link_of new ≡ b
    → Hears w h now a old s b t new → Hears w h now a old s (link_of new) t new
hears_from w h now a b old new s t same hears = subst (λ link. Hears w h now a old s link t new) (sym same) hears

pub hears_then : {S : Type 0} (w : Ways S) (h h' : Type 0) (now : ℕ) (a b c : LinkState) (old mid new : Callee) (s t u : S)
    → (h' → h) → Hears w h now a old s b t mid → Hears w h' now b mid t c u new → Hears w h' now a old s c u new
hears_then w h h' now a b c old mid new s t u held one two = record {
  heard = one.heard ++ two.heard;
  each = All-append (IsHeard now) one.heard two.heard one.each two.each;
  runs = runs_then w h h' a b c s t u one.heard two.heard held one.runs two.runs;
  operated = noted_then is_operating one.heard two.heard (has_operated old) (has_operated mid) (has_operated new) one.operated two.operated;
}

-- the connection had to end while it heard
pub goes_over : {S : Type 0} (w : Ways S) (h : Type 0) (now : ℕ) (over : Option Closing) (a b : LinkState) (old new : Callee) (s t : S)
    → (over ≡ None → ⊥) → Hears w h now a old s b t new → Goes w h now over [] a old s b t new
goes_over w h now over a b old new s t is_over hears = record {
  heard = hears.heard;
  each = hears.each;
  time = [];
  passes = λ none room. is_over none;
  runs = subst (λ events. Runs w h a s events b t) (sym (append-nil hears.heard)) hears.runs;
  operated = hears.operated;
}

-- then time passes
pub goes_on : {S : Type 0} (w : Ways S) (h h' : Type 0) (now : ℕ) (over : Option Closing) (a b c : LinkState) (old mid new : Callee) (s t u : S) (time : List Event)
    → (h' → h) → Hears w h now a old s b t mid → Passes now over c time → Runs w h' b t time c u → has_operated new ≡ has_operated mid
    → Goes w h' now over [] a old s c u new
goes_on w h h' now over a b c old mid new s t u time held hears passes runs operated = record {
  heard = hears.heard;
  each = hears.each;
  time = time;
  passes = passes;
  runs = runs_then w h h' a b c s t u hears.heard time held hears.runs runs;
  operated = operated ∙ hears.operated;
}

-- a call begins with these events
pub goes_first : {S : Type 0} (w : Ways S) (h h' : Type 0) (now : ℕ) (over : Option Closing) (first : List Event) (a b c : LinkState) (old mid new : Callee) (s t u : S)
    → (h' → h) → Runs w h a s first b t → has_operated mid ≡ has_operated old → Goes w h' now over [] b mid t c u new → Goes w h' now over first a old s c u new
goes_first w h h' now over first a b c old mid new s t u held runs same goes = record {
  heard = goes.heard;
  each = goes.each;
  time = goes.time;
  passes = goes.passes;
  runs = runs_then w h h' a b c s t u first (goes.heard ++ goes.time) held runs goes.runs;
  operated = goes.operated ∙ ap (λ b. list_any is_operating goes.heard || b) same;
}

-- and with nothing else
pub goes_alone : {S : Type 0} (w : Ways S) (h : Type 0) (now : ℕ) (over : Option Closing) (first : List Event) (a b : LinkState) (old new : Callee) (s t : S)
    → (over ≡ None → ⊥) → Runs w h a s first b t → has_operated new ≡ has_operated old → Goes w h now over first a old s b t new
goes_alone w h now over first a b old new s t is_over runs same = record {
  heard = [];
  each = All-nil (IsHeard now);
  time = [];
  passes = λ none room. is_over none;
  runs = subst (λ events. Runs w h a s events b t) (sym (append-nil first)) runs;
  operated = same;
}

-- it begins from another value
pub goes_from : {S : Type 0} (w : Ways S) (h : Type 0) (now : ℕ) (over : Option Closing) (first : List Event) (a a' last : LinkState) (old old' new : Callee) (s t : S)
    → a' ≡ a → has_operated old' ≡ has_operated old → Goes w h now over first a' old' s last t new → Goes w h now over first a old s last t new
goes_from w h now over first a a' last old old' new s t link operated goes = record {
  heard = goes.heard;
  each = goes.each;
  time = goes.time;
  passes = goes.passes;
  runs = subst (λ from. Runs w h from s (first ++ (goes.heard ++ goes.time)) last t) link goes.runs;
  operated = goes.operated ∙ ap (λ b. list_any is_operating goes.heard || b) operated;
}

-- ---- the end of a call

pub called : {S : Type 0} (w : Ways S) (hung_up_of : S → S) (h h' : Type 0) (now : ℕ) (first : List Event) (a : LinkState) (want : Option Want)
    (old mid new : Callee) (s t u : S) (over : Option Closing) → (h' → h) → Goes w h now over first a old s (link_of mid) t mid → is_up mid ≡ true → want_of mid ≡ want
    → is_up new ≡ (is_up mid && not (is_some over)) → (over ≡ None → link_of new ≡ link_of mid) → (h' → u ≡ (if is_some over then hung_up_of t else t))
    → want_of new ≡ wanted over (want_of mid) → has_operated new ≡ has_operated mid → Calls w hung_up_of h' now first a want old s new u
called w hung_up_of h h' now first a want old mid new s t u over held goes was_up wants up link state wanting operated = record {
  over = over;
  last = link_of mid;
  station = t;
  goes = record {
    heard = goes.heard;
    each = goes.each;
    time = goes.time;
    passes = goes.passes;
    runs = record { happen = goes.runs.happen; acts = λ honest. goes.runs.acts (held honest) };
    operated = operated ∙ goes.operated;
  };
  ends = record {
    up = over_now (is_up mid) (is_up new) over was_up up;
    link = link;
    state = state;
    want = wanting ∙ ap (wanted over) wants;
  };
}

pub cut : {S : Type 0} (hung_up_of : S → S) (h' : Type 0) (cause : Closing) (old mid new : Callee) (s t u : S) (over : Option Closing)
    → over ≡ Some cause → mid ≡ old → t ≡ s → is_up new ≡ (is_up mid && not (is_some over)) → (h' → u ≡ (if is_some over then hung_up_of t else t))
    → want_of new ≡ wanted over (want_of mid) → has_operated new ≡ has_operated mid → IsCut hung_up_of h' cause old s new u
cut hung_up_of h' cause old mid new s t u over is same at up state wanting operated = record {
  up = no_longer (is_up mid) (is_up new) cause over is up;
  state = λ honest. state honest ∙ ap (λ o. if is_some o then hung_up_of t else t) is ∙ ap hung_up_of at;
  want = wanting ∙ ap (λ o. wanted o (want_of mid)) is;
  operated = operated ∙ ap has_operated same;
}

-- it begins from another value, link and state
pub calls_from : {S : Type 0} (w : Ways S) (hung_up_of : S → S) (h : Type 0) (now : ℕ) (first : List Event) (a a' : LinkState) (want : Option Want)
    (old old' : Callee) (s s' : S) (new : Callee) (u : S) → a' ≡ a → (h → s' ≡ s) → has_operated old' ≡ has_operated old
    → Calls w hung_up_of h now first a' want old' s' new u → Calls w hung_up_of h now first a want old s new u
calls_from w hung_up_of h now first a a' want old old' s s' new u link state operated calls = record {
  over = calls.over;
  last = calls.last;
  station = calls.station;
  goes = record {
    heard = calls.goes.heard;
    each = calls.goes.each;
    time = calls.goes.time;
    passes = calls.goes.passes;
    runs = record {
      happen = subst (λ from. HappenAll from (first ++ (calls.goes.heard ++ calls.goes.time)) calls.last) link calls.goes.runs.happen;
      acts = λ honest. subst (λ from. ActsAll w from (deeds_in (first ++ (calls.goes.heard ++ calls.goes.time))) calls.station) (state honest)
          (calls.goes.runs.acts honest);
    };
    operated = calls.goes.operated ∙ ap (λ b. list_any is_operating calls.goes.heard || b) operated;
  };
  ends = calls.ends;
}

-- so it is if anything took too long
pub cut_if : {S : Type 0} (hung_up_of : S → S) (h' : Type 0) (old mid new : Callee) (s t u : S) (over budget : Option Closing)
    → is_up new ≡ (is_up mid && not (is_some over)) → (h' → u ≡ (if is_some over then hung_up_of t else t))
    → want_of new ≡ wanted over (want_of mid) → has_operated new ≡ has_operated mid
    → IfSome budget (λ cause. (over ≡ Some cause) × (mid ≡ old) × (t ≡ s)) → IfSome budget (λ cause. IsCut hung_up_of h' cause old s new u)
cut_if hung_up_of h' old mid new s t u over None up state wanting operated some = some
cut_if hung_up_of h' old mid new s t u over (Some cause) up state wanting operated (is, same, at) =
    cut hung_up_of h' cause old mid new s t u over is same at up state wanting operated

-- ---- a change

pub changed : {S : Type 0} (w : Ways S) (hung_up_of : S → S) (h h' : Type 0) (now : ℕ) (change : Change) (reply : Reply) (old mid new : Callee) (s t u : S)
    (over : Option Closing) → (h' → h) → Runs w h (link_of old) s (Made (Changed now change reply) ∷ []) (link_of mid) t → mid ≡ record old { link = link_of mid }
    → over ≡ over_in (made_of (told_of reply)) → is_up new ≡ (is_up mid && not (is_some (over_if (is_up mid) over)))
    → (over_if (is_up mid) over ≡ None → link_of new ≡ link_of mid) → (h' → u ≡ (if is_some (over_if (is_up mid) over) then hung_up_of t else t))
    → want_of new ≡ wanted (over_if (is_up mid) over) (want_of mid) → has_operated new ≡ has_operated mid
    → Changes w hung_up_of h' now change reply old s new u
changed w hung_up_of h h' now change reply old mid new s t u over held runs same is up link state want operated = record {
  over = over_if (is_up mid) over;
  last = link_of mid;
  station = t;
  is = ap (λ b. over_if b over) (ap is_up same) ∙ ap (over_if (is_up old)) is;
  runs = record { happen = runs.happen; acts = λ honest. runs.acts (held honest) };
  up = up ∙ ap (λ b. b && not (is_some (over_if (is_up mid) over))) (ap is_up same);
  link = link;
  state = state;
  want = want ∙ ap (wanted (over_if (is_up mid) over)) (ap want_of same);
  operated = operated ∙ ap has_operated same;
}

stays_up : (b : Bool) → b ≡ (b && not (is_some (over_if b None)))
stays_up true = refl
stays_up false = refl

stays_so : {A : Type 0} (b : Bool) (f : A → A) (a : A) → a ≡ (if is_some (over_if b None) then f a else a)
stays_so true f a = refl
stays_so false f a = refl

stays_wanted : (b : Bool) (want : Option Want) → want ≡ wanted (over_if b None) want
stays_wanted true want = refl
stays_wanted false want = refl

-- the station refused it
pub unchanged : {S : Type 0} (w : Ways S) (hung_up_of : S → S) (h : Type 0) (now : ℕ) (change : Change) (reply : Reply) (old new : Callee) (s t : S)
    → Runs w h (link_of old) s (Made (Changed now change reply) ∷ []) (link_of new) t → new ≡ record old { link = link_of new }
    → None ≡ over_in (made_of (told_of reply)) → Changes w hung_up_of h now change reply old s new t
unchanged w hung_up_of h now change reply old new s t runs same is =
    changed w hung_up_of h h now change reply old new new s t t None (λ honest. honest) runs same is (stays_up (is_up new)) (λ none. refl)
    (λ honest. stays_so (is_up new) hung_up_of t) (stays_wanted (is_up new) (want_of new)) refl
