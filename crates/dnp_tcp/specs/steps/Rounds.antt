-- Words of private steps: how a round of tasks ends.
use Rattle.std.specs.Prelude.{◌≡◌, ◌⊎◌, ⊤}
use Rattle.dnp_tcp.specs.declared.exit.TheConstants.{REFUSED, FAULT}
use Rattle.dnp_tcp.specs.declared.rounds.Ended.{Ended}
use Rattle.dnp_tcp.specs.declared.rounds.Ended.TheVariants.{Answered, Stopped}

-- rounds that can't go on stop by the status of a refusal or of a fault
abbrev pub StopsBy : Ended → Type 0
StopsBy (Answered is_done) = ⊤
StopsBy (Stopped status) = (status ≡ REFUSED) ⊎ (status ≡ FAULT)
