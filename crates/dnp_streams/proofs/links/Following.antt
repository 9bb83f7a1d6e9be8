-- Steps on a link that follow one another, and where each of them leads.
use Rattle.std.proofs.Common.{◌≡◌, ℕ, ◌≤◌, Bool, List, [], ◌∷◌, ◌++◌, Ok, Err, Result, refl, sym, ap, ◌∙◌, subst}
use Rattle.dnp_linkframe.specs.declared.frame.Frame.{Frame}
use Rattle.dnp_streams.specs.declared.link.answering.Heard.{Heard}
use Rattle.dnp_streams.specs.declared.link.answering.Told.{Told}
use Rattle.dnp_streams.specs.declared.link.stage.Stage.{Stage}
use Rattle.dnp_streams.specs.declared.link.stage.Stage.TheVariants.{Idle, Owing}
use Rattle.dnp_streams.specs.declared.stream.station.StationFault.{StationFault}
use Rattle.dnp_streams.specs.links.Counts.{closes, is_closing}
use Rattle.dnp_streams.specs.links.Deeds.{Came, Deed, Joined, Part, Reply, Whole, heard_of, told_of}
use Rattle.dnp_streams.specs.links.Orders.{ComesTo, Follows, FollowsAll, Made, Standing, Step, Waited, deeds_in, has_closed, heard_closing, standing, unless_closed}

-- ---- whether a step closed the connection

pub told_closing : (reply : Reply) → has_closed (told_of reply) ≡ is_closing reply
told_closing (Ok answer) = refl
told_closing (Err fault) = refl

pub heard_closes : (now : ℕ) (frame : Frame) (joined : Joined) → heard_closing (heard_of joined) ≡ closes (Came now frame joined)
heard_closes now frame Part = refl
heard_closes now frame (Whole fragment reply) = told_closing reply

-- ---- one step more

pub follows_more : (a b c : Standing) (steps : List Step) (step : Step) → FollowsAll a steps b → Follows b step c → FollowsAll a (steps ++ step ∷ []) c
follows_more a b c [] step same one = (c, subst (λ (x : Standing). Follows x step c) same one, refl)
follows_more a b c (s ∷ steps) step (next, here, all) one = (next, here, follows_more next b c steps step all one)

pub deeds_made : (steps : List Step) (deed : Deed) → deeds_in (steps ++ Made deed ∷ []) ≡ deeds_in steps ++ deed ∷ []
deeds_made [] deed = refl
deeds_made (Made d ∷ steps) deed = ap (λ (ds : List Deed). d ∷ ds) (deeds_made steps deed)
deeds_made (Waited now ∷ steps) deed = deeds_made steps deed

pub deeds_waited : (steps : List Step) (now : ℕ) → deeds_in (steps ++ Waited now ∷ []) ≡ deeds_in steps
deeds_waited [] now = refl
deeds_waited (Made d ∷ steps) now = ap (λ (ds : List Deed). d ∷ ds) (deeds_waited steps now)
deeds_waited (Waited before ∷ steps) now = deeds_waited steps now

-- ---- where a step leads

-- a step that the station answered or refused, by what is told of that
pub leads_told : (old : Standing) (from to got : Stage) (now : ℕ) (deed : Deed) (result : Result Told StationFault) (reply : Reply)
    → closes deed ≡ is_closing reply → result ≡ told_of reply → got ≡ unless_closed (has_closed result) to → old.now ≤ now → old.stage ≡ from
    → ComesTo old from now deed to (standing got now)
leads_told old from to got now deed result reply replied is after later stage = record {
  later = later;
  stage = stage;
  after = ap (λ (s : Stage). standing s now)
      (after ∙ ap (λ (r : Result Told StationFault). unless_closed (has_closed r) to) is ∙ ap (λ (c : Bool). unless_closed c to) (told_closing reply ∙ sym replied));
}

-- a frame that was heard
pub leads_heard : (old : Standing) (got : Stage) (now : ℕ) (frame : Frame) (joined : Joined) (heard : Heard) → heard ≡ heard_of joined
    → got ≡ unless_closed (heard_closing heard) Owing → old.now ≤ now → old.stage ≡ Idle → ComesTo old Idle now (Came now frame joined) Owing (standing got now)
leads_heard old got now frame joined heard is after later stage = record {
  later = later;
  stage = stage;
  after = ap (λ (s : Stage). standing s now)
      (after ∙ ap (λ (h : Heard). unless_closed (heard_closing h) Owing) is ∙ ap (λ (c : Bool). unless_closed c Owing) (heard_closes now frame joined));
}
