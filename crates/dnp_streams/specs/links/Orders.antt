-- Definition: the order of a session's steps. The opening is the first one. A frame that came, and a wait in which none came, are each
-- followed by time that passes, at the same moment. No change is made before it is due, moments never fall, and no step comes after one
-- that closed the connection.
use Rattle.std.specs.Prelude.{◌≡◌, ℕ, ◌≤◌, Bool, false, if◌then◌else◌, List, [], ◌∷◌, ◌++◌, Option, None, Some, Result, Ok, Err}
use Rattle.dnp_streams.specs.declared.stream.change.Change.{Change}
use Rattle.dnp_streams.specs.declared.stream.station.StationFault.{StationFault}
use Rattle.dnp_streams.specs.declared.link.answering.Heard.{Heard}
use Rattle.dnp_streams.specs.declared.link.answering.Heard.TheVariants as heard
use Rattle.dnp_streams.specs.declared.link.answering.Told.{Told}
use Rattle.dnp_streams.specs.links.Counts.{closes}
use Rattle.dnp_streams.specs.links.Deeds.{Deed, Opened, Came, Ticked, Changed, Asked, Relaid}
use Rattle.dnp_streams.specs.declared.link.stage.Stage.{Stage}
use Rattle.dnp_streams.specs.declared.link.stage.Stage.TheVariants.{Unopened, Idle, Owing, Closed}

-- a step of the station on its link, or a wait in which no frame came, at a moment, in milliseconds
pub data Step : Type 0 where
  Made : (deed : Deed) → Step
  Waited : (now : ℕ) → Step

-- where a session stands: its stage, and the moment of its last step
pub record Standing : Type 0 where
  pub stage : Stage
  pub now : ℕ

abbrev pub standing : Stage → ℕ → Standing
standing stage now = record { stage = stage; now = now }

-- the stage after a step: closed, if the station closed the connection by it
abbrev pub unless_closed : Bool → Stage → Stage
unless_closed closed stage = if closed then Closed else stage

-- a step at a moment that isn't before the last one, at this stage; it leads to another stage, unless it closes the connection
pub record ComesTo (old : Standing) (from : Stage) (now : ℕ) (deed : Deed) (to : Stage) (new : Standing) : Type 0 where
  pub later : old.now ≤ now
  pub stage : old.stage ≡ from
  pub after : new ≡ standing (unless_closed (closes deed) to) now

-- a step may follow
abbrev pub FollowsDeed : Standing → Deed → Standing → Type 0
FollowsDeed old (Opened now reply) new = ComesTo old Unopened now (Opened now reply) Idle new
FollowsDeed old (Came now frame joined) new = ComesTo old Idle now (Came now frame joined) Owing new
FollowsDeed old (Ticked now reply) new = (now ≡ old.now) × ComesTo old Owing now (Ticked now reply) Idle new
FollowsDeed old (Changed now change reply) new = (change.at ≤ now) × ComesTo old Idle now (Changed now change reply) Idle new
FollowsDeed old (Asked now task reply) new = ComesTo old Idle now (Asked now task reply) Idle new
FollowsDeed old (Relaid now reply) new = ComesTo old Idle now (Relaid now reply) Idle new

abbrev pub Follows : Standing → Step → Standing → Type 0
Follows old (Made deed) new = FollowsDeed old deed new
Follows old (Waited now) new = (old.now ≤ now) × (old.stage ≡ Idle) × (new ≡ standing Owing now)

-- one after the other
abbrev pub FollowsAll : Standing → List Step → Standing → Type 0
FollowsAll old [] new = new ≡ old
FollowsAll old (step ∷ steps) new = (next : Standing) × Follows old step next × FollowsAll next steps new

-- ---- what of it is said of the whole list

-- the moment of a step
abbrev pub moment_of : Step → ℕ
moment_of (Made (Opened now reply)) = now
moment_of (Made (Came now frame joined)) = now
moment_of (Made (Ticked now reply)) = now
moment_of (Made (Changed now change reply)) = now
moment_of (Made (Asked now task reply)) = now
moment_of (Made (Relaid now reply)) = now
moment_of (Waited now) = now

-- moments never fall, from one on
abbrev pub NeverFall : ℕ → List Step → Type 0
NeverFall from [] = Unit {0}
NeverFall from (step ∷ steps) = (from ≤ moment_of step) × NeverFall (moment_of step) steps

-- time passes at this moment, before anything else
abbrev pub PassesAt : ℕ → List Step → Type 0
PassesAt now (Made (Ticked moment reply) ∷ steps) = moment ≡ now
PassesAt now _ = ⊥

-- after each frame and after each wait time passes at once, unless the frame's answer closed the connection
abbrev pub EachPasses : List Step → Type 0
EachPasses [] = Unit {0}
EachPasses (Made (Came now frame joined) ∷ steps) = (closes (Came now frame joined) ≡ false → PassesAt now steps) × EachPasses steps
EachPasses (Waited now ∷ steps) = PassesAt now steps × EachPasses steps
EachPasses (_ ∷ steps) = EachPasses steps

-- the opening is the first step, and no other one is an opening
abbrev pub NeverOpens : List Step → Type 0
NeverOpens [] = Unit {0}
NeverOpens (Made (Opened now reply) ∷ steps) = ⊥
NeverOpens (_ ∷ steps) = NeverOpens steps

abbrev pub OpensFirst : List Step → Type 0
OpensFirst [] = Unit {0}
OpensFirst (Made (Opened now reply) ∷ steps) = NeverOpens steps
OpensFirst (_ ∷ steps) = ⊥

-- no change is made before it is due
abbrev pub NoneEarly : List Step → Type 0
NoneEarly [] = Unit {0}
NoneEarly (Made (Changed now change reply) ∷ steps) = (change.at ≤ now) × NoneEarly steps
NoneEarly (_ ∷ steps) = NoneEarly steps

-- the steps of the station, without the waits
abbrev pub deeds_in : List Step → List Deed
deeds_in [] = []
deeds_in (Made deed ∷ steps) = deed ∷ deeds_in steps
deeds_in (Waited now ∷ steps) = deeds_in steps

-- the changes that were made
abbrev pub changes_of : Deed → List Change
changes_of (Changed now change reply) = change ∷ []
changes_of _ = []

abbrev pub changes_in : List Deed → List Change
changes_in [] = []
changes_in (deed ∷ deeds) = changes_of deed ++ changes_in deeds

-- ---- what a caller is told of it

-- whether the station closed the connection, by what it answered
abbrev pub has_closed : Result Told StationFault → Bool
has_closed (Ok told) = told.closed
has_closed (Err fault) = false

abbrev pub heard_closing : Heard → Bool
heard_closing heard.Part = false
heard_closing (heard.Whole result) = has_closed result

abbrev pub turn_closing : Option Heard → Bool
turn_closing None = false
turn_closing (Some heard) = heard_closing heard
