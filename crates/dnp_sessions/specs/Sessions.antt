-- Definition: a session: a station on its link, and what was done since it began.
use Rattle.std.specs.Prelude.{◌≡◌, ℕ, List, [], ◌∷◌, map, ⊤}
use Rattle.dnp_line.specs.Ports.{PortState}
use Rattle.dnp_streams.specs.declared.stream.change.Change.{Change}
use Rattle.dnp_streams.specs.links.Deeds.{ActsAll, Ways}
use Rattle.dnp_streams.specs.links.Laws.{Stands}
use Rattle.dnp_streams.specs.links.Links.{LinkState, new_link}
use Rattle.dnp_streams.specs.declared.link.stage.Stage.TheVariants.{Unopened}
use Rattle.dnp_streams.specs.links.Orders.{FollowsAll, Standing, Step, changes_in, deeds_in, standing}

-- The station and the port with which a session began, alone in a list; its station, its link and where it stands now; the octets that it
-- received and those that were handed out, and the changes that were made, in order.
pub record SessionState (S : Type 0) : Type 0 where
  pub began : List (S × PortState)
  pub station : S
  pub link : LinkState
  pub stands : Standing
  pub received : List ℕ
  pub handed : List ℕ
  pub changes : List Change

abbrev pub new_session : {S : Type 0} → S → PortState → SessionState S
new_session station port = record {
  began = (station, port) ∷ [];
  station = station;
  link = new_link port;
  stands = standing Unopened 0;
  received = [];
  handed = [];
  changes = [];
}

-- what was noted, without the nothing that stands beside each
abbrev pub noted_in : {A : Type 0} → List (A × ⊤) → List A
noted_in entries = map (λ entry. entry.0) entries

-- The law of a session: from the station and the port with which it began it made some steps, in order. What was handed out and what waits
-- to be sent is what they sent, on the frames of the octets that it received. What this says of the station holds where that is honest.
pub record KeepsLaw {S T : Type 0} (w : Ways T) (honest : S → Type 0) (state : S → T) (s : SessionState S) : Type 0 where
  pub start : S × PortState
  pub is_start : s.began ≡ start ∷ []
  pub steps : List Step
  pub ordered : FollowsAll (standing Unopened 0) steps s.stands
  pub acts : honest s.station → ActsAll w (state start.0) (deeds_in steps) (state s.station)
  pub sends : Stands start.1 (deeds_in steps) s.received s.handed s.link
  pub made : s.changes ≡ changes_in (deeds_in steps)
