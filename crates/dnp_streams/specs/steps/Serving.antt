-- Private steps: a stream under way.
use Rattle.std.specs.Prelude.{◌≡◌, ℕ, ◌+◌, ◌≤◌, min, Bool, true, false, ◌||◌, List, [], ◌∷◌, ◌++◌, length, Option, Result, Ok, Err, MatchResult, ⊤}
use Rattle.std.specs.Io.KnownBytes.{Appends, Consumes}
use Rattle.dnp_streams.specs.declared.stream.log.Log.{Log}
use Rattle.dnp_streams.specs.declared.stream.served.Served.{Served}
use Rattle.dnp_streams.specs.declared.stream.station.StationFault.{StationFault}
use Rattle.dnp_streams.specs.declared.writing.NotWritten.{NotWritten}
use Rattle.dnp_streams.specs.streams.Counts.{most}
use Rattle.dnp_streams.specs.streams.Stations.{Endpoint}
use Rattle.dnp_streams.specs.declared.link.answering.Heard.{Heard}
use Rattle.dnp_streams.specs.declared.link.answering.Heard.TheVariants as heard
use Rattle.dnp_streams.specs.declared.link.answering.Told.{Told}
use Rattle.dnp_streams.specs.links.Counts.{AreComings, StopsLast, closed_in, faults_in, fragments_in, is_closing}
use Rattle.dnp_streams.specs.links.Deeds.{ActsAll, Deed, Opened, Reply, Ways}
use Rattle.dnp_streams.specs.links.Laws.{Stands}
use Rattle.dnp_streams.specs.links.Links.{LinkState}

-- this is left to be sent
abbrev pub left_with : LinkState → List ℕ → LinkState
left_with link rest = record link { pending = rest }

-- all that waited was written, or a beginning of it
abbrev pub WritesOut : LinkState → Option (List ℕ) → Result ⊤ NotWritten → LinkState → Option (List ℕ) → Type 0
WritesOut old held (Ok done) new held' = (new ≡ left_with old []) × Appends held held' old.pending
WritesOut old held (Err fault) new held' =
    (part : List ℕ) × (rest : List ℕ) × (old.pending ≡ part ++ rest) × (new ≡ left_with old rest) × Appends held held' part

-- what the log notes of octets that were to be written
abbrev pub IsWriteNoted : Result ⊤ NotWritten → Log → Log → Type 0
IsWriteNoted result old new = MatchResult result (λ _. new ≡ old) (λ _. new ≡ record old { write_failed = true })

-- what a reply brings, in numbers
abbrev pub faults_told : Result Told StationFault → ℕ
faults_told (Ok told) = 0
faults_told (Err fault) = 1

abbrev pub closed_told : Result Told StationFault → Bool
closed_told (Ok told) = told.closed
closed_told (Err fault) = false

pub record Tells (old : Served) (whole : ℕ) (told : Result Told StationFault) (new : Served) : Type 0 where
  pub fragments : new.fragments ≡ min (old.fragments + whole) most
  pub faults : new.faults ≡ min (old.faults + faults_told told) most
  pub closed : new.closed ≡ (old.closed || closed_told told)

-- what a frame brings
abbrev pub TellsHeard : Served → Heard → Served → Type 0
TellsHeard old heard.Part new = new ≡ old
TellsHeard old (heard.Whole told) new = Tells old 1 told new

-- A stream under way: the station was opened, and then frames came, at one moment; so many reads at least brought the octets.
pub record Runs {S : Type 0} (w : Ways S) (now reads : ℕ) (began : Endpoint S) (left left' held held' : Option (List ℕ)) (s : S) (link : LinkState)
    (served : Served) : Type 0 where
  pub reply : Reply
  pub deeds : List Deed
  pub received : List ℕ
  pub handed : List ℕ
  pub only : AreComings now deeds
  pub stops : StopsLast (Opened now reply ∷ deeds)
  pub acts : ActsAll w began.station (Opened now reply ∷ deeds) s
  pub stands : Stands began.port (Opened now reply ∷ deeds) received handed link
  pub fragments : served.fragments ≡ min (fragments_in deeds) most
  pub faults : served.faults ≡ min (faults_in (Opened now reply ∷ deeds)) most
  pub closed : served.closed ≡ closed_in (Opened now reply ∷ deeds)
  pub silent : is_closing reply ≡ true → received ≡ []
  pub often : reads ≤ length received
  pub read : Consumes left left' received
  pub written : Appends held held' handed

-- a stream that was under way still is
abbrev pub GoesOn : {S : Type 0} → Ways S → ℕ → S → LinkState → Served → Option (List ℕ) → S → LinkState → Served → Option (List ℕ) → Type 0
GoesOn {S} w now s link served held s' link' served' held' =
    (reads : ℕ) (began : Endpoint S) (left left' from : Option (List ℕ)) → Runs w now reads began left left' from held s link served
    → Runs w now reads began left left' from held' s' link' served'
