-- The law of a session, call by call.
use Rattle.std.proofs.Common.{◌≡◌, ℕ, ◌≤◌, Bool, List, [], ◌∷◌, ◌++◌, Ok, Err, Result, take, refl, sym, ap, ◌∙◌, subst, append_assoc, append-nil}
use Rattle.std.specs.Prelude.{⊤}
use Rattle.std.proofs.lemmas.List.{map-append}
use Rattle.dnp_line.specs.Ports.{PortState}
use Rattle.dnp_linkframe.specs.declared.frame.Frame.{Frame}
use Rattle.dnp_streams.specs.declared.link.answering.Heard.{Heard}
use Rattle.dnp_streams.specs.declared.link.answering.Told.{Told}
use Rattle.dnp_streams.specs.declared.stream.change.Change.{Change}
use Rattle.dnp_streams.specs.declared.stream.station.StationFault.{StationFault}
use Rattle.dnp_streams.specs.links.Counts.{closes, is_closing}
use Rattle.dnp_streams.specs.links.Deeds.{ActsAll, Came, Deed, Joined, Part, Reply, Ways, Whole, heard_of, told_of}
use Rattle.dnp_streams.specs.links.Laws.{Stands}
use Rattle.dnp_streams.specs.links.Links.{Feeds, LinkState, Makes, after_sent, new_link}
use Rattle.dnp_streams.proofs.links.Following.{deeds_made, deeds_waited, follows_more}
use Rattle.dnp_sessions.proofs.Standing.{acts_more, stands_fed, stands_made, stands_new, stands_sent}
use Rattle.dnp_streams.specs.declared.link.stage.Stage.TheVariants.{Idle, Owing, Unopened}
use Rattle.dnp_streams.specs.declared.link.stage.Stage.{Stage}
use Rattle.dnp_streams.specs.links.Orders.{Follows, FollowsAll, FollowsDeed, ComesTo, Made, Standing, Step, Waited, changes_in, changes_of, deeds_in, has_closed, heard_closing, standing, unless_closed}
use Rattle.dnp_sessions.specs.Sessions.{KeepsLaw, SessionState, noted_in}

-- ---- one step more

changes_more : (deeds : List Deed) (deed : Deed) → changes_in (deeds ++ deed ∷ []) ≡ changes_in deeds ++ changes_of deed
changes_more [] deed = append-nil (changes_of deed)
changes_more (d ∷ deeds) deed =
    ap (λ (cs : List Change). changes_of d ++ cs) (changes_more deeds deed) ∙ sym (append_assoc (changes_of d) (changes_in deeds) (changes_of deed))

-- ---- what is done with a session

pub keeps_begun : {S T : Type 0} (w : Ways T) (honest : S → Type 0) (state : S → T) {began : List (S × PortState)} (station : S) (port : PortState) {link : LinkState}
    {reads hands : List (ℕ × ⊤)} {changes : List (Change × ⊤)} → began ≡ (station, port) ∷ [] → link ≡ new_link port → reads ≡ [] → hands ≡ [] → changes ≡ []
    → KeepsLaw w honest state (record {
      began = began;
      station = station;
      link = link;
      stands = standing Unopened 0;
      received = noted_in reads;
      handed = noted_in hands;
      changes = noted_in changes;
    })
keeps_begun w honest state {began} station port {link} {reads} {hands} {changes} is fresh none nothing unchanged = record {
  start = (station, port);
  is_start = is;
  steps = [];
  ordered = refl;
  acts = λ _. refl;
  sends =
      subst (λ (l : LinkState). Stands port [] (noted_in reads) (noted_in hands) l) (sym fresh)
      (subst (λ (r : List (ℕ × ⊤)). Stands port [] (noted_in r) (noted_in hands) (new_link port)) (sym none)
      (subst (λ (h : List (ℕ × ⊤)). Stands port [] [] (noted_in h) (new_link port)) (sym nothing) (stands_new port)));
  made = ap noted_in unchanged;
}

-- a step was made; `seen` is what contracts see of the old session
pub keeps_made : {S T : Type 0} (w : Ways T) (honest : S → Type 0) (state : S → T) (old seen : SessionState S) (station : S) (link : LinkState) (stands : Standing)
    (changes : List Change) (deed : Deed) → old ≡ seen → Makes w (honest station) old.link (state old.station) deed link (state station)
    → (honest station → honest old.station) → FollowsDeed seen.stands deed stands → changes ≡ old.changes ++ changes_of deed → KeepsLaw w honest state old
    → KeepsLaw w honest state (record old { station = station; link = link; stands = stands; changes = changes })
keeps_made w honest state old seen station link stands changes deed is makes back follows more k =
    let deeds = deeds_made k.steps deed in
    let follows_old = subst (λ v. FollowsDeed v.stands deed stands) (sym is) follows in
    record {
      start = k.start;
      is_start = k.is_start;
      steps = k.steps ++ Made deed ∷ [];
      ordered = follows_more _ old.stands stands k.steps (Made deed) k.ordered follows_old;
      acts = λ is_honest. subst (λ (ds : List Deed). ActsAll w (state k.start.0) ds (state station)) (sym deeds)
          (acts_more w (state k.start.0) (state old.station) (state station) (deeds_in k.steps) deed (k.acts (back is_honest)) (makes.acts is_honest));
      sends = subst (λ (ds : List Deed). Stands k.start.1 ds old.received old.handed link) (sym deeds)
          (stands_made k.start.1 (deeds_in k.steps) old.received old.handed deed old.link link makes.does k.sends);
      made = more ∙ ap (λ (cs : List Change). cs ++ changes_of deed) k.made ∙ sym (ap changes_in deeds ∙ changes_more (deeds_in k.steps) deed);
    }

-- a wait ended
pub keeps_waited : {S T : Type 0} (w : Ways T) (honest : S → Type 0) (state : S → T) (old seen : SessionState S) (now : ℕ) → old ≡ seen → seen.stands.stage ≡ Idle
    → seen.stands.now ≤ now → KeepsLaw w honest state old → KeepsLaw w honest state (record old { stands = standing Owing now })
keeps_waited w honest state old seen now is idle later k =
    let deeds = deeds_waited k.steps now in
    let follows = subst (λ v. Follows v.stands (Waited now) (standing Owing now)) (sym is) (later, idle, refl) in
    record {
      start = k.start;
      is_start = k.is_start;
      steps = k.steps ++ Waited now ∷ [];
      ordered = follows_more _ old.stands (standing Owing now) k.steps (Waited now) k.ordered follows;
      acts = λ is_honest. subst (λ (ds : List Deed). ActsAll w (state k.start.0) ds (state old.station)) (sym deeds) (k.acts is_honest);
      sends = subst (λ (ds : List Deed). Stands k.start.1 ds old.received old.handed old.link) (sym deeds) k.sends;
      made = k.made ∙ ap changes_in (sym deeds);
    }

-- octets came
pub keeps_fed : {S T : Type 0} (w : Ways T) (honest : S → Type 0) (state : S → T) (old : SessionState S) (octets received : List ℕ) (link : LinkState)
    → Feeds old.link octets link → received ≡ old.received ++ octets → KeepsLaw w honest state old
    → KeepsLaw w honest state (record old { link = link; received = received })
keeps_fed w honest state old octets received link feeds is k = record {
  start = k.start;
  is_start = k.is_start;
  steps = k.steps;
  ordered = k.ordered;
  acts = k.acts;
  sends =
      subst (λ (r : List ℕ). Stands k.start.1 (deeds_in k.steps) r old.handed link) (sym is)
      (stands_fed k.start.1 (deeds_in k.steps) old.received old.handed octets old.link link feeds k.sends);
  made = k.made;
}

-- octets were handed out
pub keeps_sent : {S T : Type 0} (w : Ways T) (honest : S → Type 0) (state : S → T) (old : SessionState S) (count : ℕ) (handed : List ℕ) (link : LinkState)
    → link ≡ after_sent old.link count → handed ≡ old.handed ++ take count old.link.pending → KeepsLaw w honest state old
    → KeepsLaw w honest state (record old { link = link; handed = handed })
keeps_sent w honest state old count handed link after is k = record {
  start = k.start;
  is_start = k.is_start;
  steps = k.steps;
  ordered = k.ordered;
  acts = k.acts;
  sends =
      subst (λ (l : LinkState). Stands k.start.1 (deeds_in k.steps) old.received handed l) (sym after)
      (subst (λ (h : List ℕ). Stands k.start.1 (deeds_in k.steps) old.received h (after_sent old.link count)) (sym is)
      (stands_sent k.start.1 (deeds_in k.steps) old.received old.handed count old.link k.sends));
  made = k.made;
}

-- ---- what was noted

pub noted_more : {A : Type 0} (old new : List (A × ⊤)) (thing : A) → new ≡ old ++ (thing, tt) ∷ [] → noted_in new ≡ noted_in old ++ thing ∷ []
noted_more old new thing is = ap noted_in is ∙ map-append (λ entry. entry.0) old ((thing, tt) ∷ [])
