-- Definition: what a script knows of a whole system, and the system that it begins with.
use Rattle.std.specs.Prelude.{◌≡◌, ℕ, true, false, List, [], ◌∷◌, Result, Ok, Err, ⊤}
use Rattle.dnp_concentrator.specs.declared.plan.Plan.{Plan}
use Rattle.dnp_controls.specs.Book.{empty_ledger}
use Rattle.dnp_eventbuf.specs.Archive.{Archive}
use Rattle.dnp_eventbuf.specs.Sides.{ForEach}
use Rattle.dnp_eventbuf.specs.EventBuffer.{empty_buffer}
use Rattle.dnp_world.specs.Centres.{HappensToAll, centre_of, is_quiet_on, may_stop, seen_at, standing_on}
use Rattle.dnp_world.specs.Controls.{ControlEnds}
use Rattle.dnp_world.specs.FreshSystems.{fresh_whole}
use Rattle.dnp_world.specs.ReportShown.{Shows, lists_of}
use Rattle.dnp_world.specs.Rounds.{IsRound, StopsInRound}
use Rattle.dnp_world.specs.SystemRuns.{RunsTo, StopsAfter}
use Rattle.dnp_world.specs.Wholes.{Whole, seen_by}
use Rattle.dnp_world.specs.declared.event.Link.{Link}
use Rattle.dnp_world.specs.declared.round_fault.RoundFault.{RoundFault}
use Rattle.dnp_world.specs.declared.round_fault.RoundFault.TheVariants as round
use Rattle.dnp_daemons.specs.Centres.{number_of}
use Rattle.dnp_daemons.specs.Scripted.{Law}

-- how a clean round comes out
abbrev pub RoundEnds : Whole → Link → Result ⊤ RoundFault → Whole → Type 0
RoundEnds old link (Ok done) new = (is_quiet_on old link ≡ true) × IsRound HappensToAll (seen_at (centre_of link)) link old new
RoundEnds old link (Err round.NotQuiet) new = (is_quiet_on old link ≡ false) × (new ≡ old)
RoundEnds old link (Err (round.Fault cause)) new =
    (is_quiet_on old link ≡ true) × StopsInRound HappensToAll (seen_at (centre_of link)) may_stop link old new

abbrev pub law_of_worlds : Law Whole
law_of_worlds = record {
  happens = λ old event new. RunsTo HappensToAll old (event ∷ []) new;
  stops = λ old event new. (done : ℕ) × StopsAfter HappensToAll may_stop old (event ∷ []) done new;
  units = standing_on;
  rounds = RoundEnds;
  controls = λ old centre id result new.
      ControlEnds HappensToAll (seen_by (number_of centre)) may_stop (number_of centre) id old result new;
  shows = λ whole report. ForEach (λ centre. Shows (seen_by centre whole) (lists_of centre report));
}

abbrev pub empty_archive : Archive
empty_archive = record { rows = []; last_id = 0 }

-- a new system of the plan, over empty stores
abbrev pub plain_system : Plan → Whole
plain_system plan =
    fresh_whole plan (record { first = empty_buffer plan.queue; second = empty_buffer plan.queue2 })
    (record { first = empty_archive; second = empty_archive }) empty_ledger (record { first = empty_ledger; second = empty_ledger })
