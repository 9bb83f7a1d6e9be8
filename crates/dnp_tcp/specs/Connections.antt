-- Definition: what stations do on connections over TCP. No clause says which octets come and go on a connection; what a station does is said by
-- steps of its own.
use Rattle.std.specs.Prelude.{◌≡◌, ◌⊎◌, ℕ, ◌+◌, min, ⊤, Bool, true, false, List, Option, Some, None}
use Rattle.dnp_streams.specs.declared.link.answering.Heard.{Heard}
use Rattle.dnp_streams.specs.declared.link.answering.Heard.TheVariants.{Part, Whole}
use Rattle.dnp_streams.specs.links.Counts.{fragments_in}
use Rattle.dnp_streams.specs.declared.link.stage.Stage.TheVariants.{Unopened}
use Rattle.dnp_streams.specs.links.Deeds.{ActsAll, Deed, Ways}
use Rattle.dnp_streams.specs.links.Orders.{Follows, FollowsAll, Standing, Step, Waited, deeds_in, standing}
use Rattle.dnp_streams.specs.streams.Counts.{most}
use Rattle.dnp_tcp.specs.declared.asking.Ended.{Ended}
use Rattle.dnp_tcp.specs.declared.asking.Ended.TheVariants.{Done, Failed, Lost}
use Rattle.dnp_tcp.specs.declared.leave.Leave.TheVariants.{Memory}
use Rattle.dnp_tcp.specs.declared.serving.Stop.{Stop}
use Rattle.dnp_tcp.specs.declared.serving.Stop.TheVariants.{Parted}
use Rattle.dnp_tcp.specs.declared.turn.Parting.TheVariants.{Left, Refused}
use Rattle.dnp_tcp.specs.declared.standing.StandingConnection.{StandingConnection}

-- some steps of a station lead from one of its states to another
abbrev pub Leads : {S : Type 0} → Ways S → S → S → Type 0
Leads w old new = (deeds : List Deed) × ActsAll w old deeds new

-- what is told of tasks that were asked: that all were done, only where nothing is awaited
abbrev pub IsTold : Bool → Ended → Type 0
IsTold is_idle (Done rows) = is_idle ≡ true
IsTold is_idle Failed = ⊤
IsTold is_idle Lost = ⊤

-- A station was led by steps of its own, at whose end it was idle or not; then it was hung up, once, and is as this.
abbrev pub LeadsToEnd : {S : Type 0} → Ways S → (S → S) → S → Bool → S → Type 0
LeadsToEnd {S} w hung_up_of old is_idle new =
    (ended : S) × Leads w old ended × (is_idle ≡ w.asking.is_idle ended) × (new ≡ hung_up_of ended)

-- so it asked on a connection, and this is told of it
abbrev pub AsksOn : {S : Type 0} → Ways S → (S → S) → S → Ended → S → Type 0
AsksOn w hung_up_of old told new = (is_idle : Bool) × LeadsToEnd w hung_up_of old is_idle new × IsTold is_idle told

-- where a connection stands that is served in turns: how far its station has come, and the moment of the last step; what is counted on it
abbrev pub standing_on : StandingConnection → Standing
standing_on connection = standing connection.stage connection.moment

abbrev pub fragments_on : StandingConnection → ℕ
fragments_on connection = connection.fragments

-- A station was led on a connection by steps of its own, in the order of a session, and the fragments that came whole with them were
-- counted. The count stops at the largest number.
pub record LeadsOn {S : Type 0} (w : Ways S) (old : S) (from : StandingConnection) (new : S) (to : StandingConnection) : Type 0 where
  pub steps : List Step
  pub follows : FollowsAll (standing_on from) steps (standing_on to)
  pub acts : ActsAll w old (deeds_in steps) new
  pub counted : min (fragments_on to) most ≡ min (fragments_on from + fragments_in (deeds_in steps)) most

-- how many fragments came whole with a frame, by what came of it
abbrev pub wholes_of : Heard → ℕ
wholes_of Part = 0
wholes_of (Whole told) = 1

-- what is told of a connection on which so many fragments came whole: their number, or nothing
abbrev pub IsCounted : ℕ → Option ℕ → Type 0
IsCounted count (Some told) = told ≡ count
IsCounted count None = ⊤

-- whether a connection isn't served any longer since memory ran out, or a store of the station failed
abbrev pub is_own_fault : Stop → Bool
is_own_fault (Parted (Left Memory)) = true
is_own_fault (Parted (Refused cause)) = true
is_own_fault _ = false

-- on which no step was made
abbrev pub IsNew : StandingConnection → Type 0
IsNew connection = (connection.stage ≡ Unopened) × (connection.fragments ≡ 0)

-- a read brought nothing that is counted; if no frame waits, a wait is over
abbrev pub Listens : StandingConnection → StandingConnection → Type 0
Listens old new = (fragments_on new ≡ fragments_on old)
    × ((standing_on new ≡ standing_on old) ⊎ Follows (standing_on old) (Waited new.moment) (standing_on new))

-- So a station was led on a connection, from its beginning to its end; then it was hung up, once, and is as this.
abbrev pub ServedOn : {S : Type 0} → Ways S → (S → S) → S → Option ℕ → S → Type 0
ServedOn {S} w hung_up_of old told new =
    (ended : S) × (from : StandingConnection) × (to : StandingConnection)
    × IsNew from × LeadsOn w old from ended to × (new ≡ hung_up_of ended) × IsCounted (fragments_on to) told
