-- Definition: what a node has told.
use Rattle.std.specs.Prelude.{◌≡◌, ℕ, ◌+◌, ◌-◌, ◌^◌, List, [], ◌∷◌, ◌++◌, min, nat_eq, ◌&&◌, if◌then◌else◌, Option, Some, None}
use Rattle.dnp_linkframe.specs.declared.frame.Frame.{Frame}
use Rattle.dnp_master.specs.declared.outcome.Outcome.{Outcome}
use Rattle.dnp_master.specs.declared.outcome.Outcome.TheVariants as outcome
use Rattle.dnp_nodes.specs.declared.answers.Answer.{Answer}
use Rattle.dnp_nodes.specs.declared.answers.Answer.TheVariants as answer
use Rattle.dnp_nodes.specs.declared.report.Report.{Report}
use Rattle.dnp_nodes.specs.declared.report.Report.TheVariants as report
use Rattle.dnp_nodes.specs.declared.report.Reports.{Reports}
use Rattle.dnp_nodes.specs.declared.slot.Ends.{Ends}
use Rattle.dnp_nodes.specs.declared.slot.Slot.{Slot}

-- in order
abbrev pub told_in : Reports → List Report
told_in reports = reports.list.items

-- how many more there were
abbrev pub missed_in : Reports → ℕ
missed_in reports = reports.missed

-- the octets of the fragments that were refused, one after the other
abbrev pub refused_in : Reports → List ℕ
refused_in reports = reports.refused.items

-- this was told, after all else
pub record IsTold (report : Report) (old new : Reports) : Type 0 where
  pub told : told_in new ≡ told_in old ++ report ∷ []
  pub missed : missed_in new ≡ missed_in old

-- one more was not told; they are counted up to the greatest number of 64 bits
pub record IsCounted (old new : Reports) : Type 0 where
  pub told : told_in new ≡ told_in old
  pub missed : missed_in new ≡ min (missed_in old + 1) (2 ^ 64 - 1)

-- what is told of a frame that came to a station with these ends: it is of the other end, or a strange one
abbrev pub frame_report : Slot → Ends → Frame → Report
frame_report slot ends frame =
    if nat_eq frame.dest ends.own && nat_eq frame.source ends.peer then report.Frame slot
    else report.Strange slot (record { own = frame.dest; peer = frame.source })

-- how a task came out, if one did; a command by the code of its status
abbrev pub answer_of : Option Outcome → Answer
answer_of None = answer.Nothing
answer_of (Some (outcome.Done iin)) = answer.Done
answer_of (Some (outcome.Control status)) = answer.Control status
answer_of (Some outcome.Unlike) = answer.Unlike

-- the place of a report
abbrev pub slot_of : Report → Slot
slot_of (report.Connected slot absent tries) = slot
slot_of (report.Lost slot cause) = slot
slot_of (report.Started slot) = slot
slot_of (report.Indications slot before after) = slot
slot_of (report.Octets slot) = slot
slot_of (report.Frame slot) = slot
slot_of (report.Strange slot ends) = slot
slot_of (report.Whole slot) = slot
slot_of (report.Refused slot count) = slot
slot_of (report.Response slot head outcome) = slot
slot_of (report.Repeated slot) = slot
slot_of (report.NotMade slot) = slot
slot_of (report.Request slot sequence) = slot
slot_of (report.Asked slot task) = slot
slot_of (report.Stored slot rows) = slot
slot_of (report.DropsBegun slot lane count) = slot
slot_of (report.DropsEnded slot lane count) = slot
slot_of (report.Selecting slot id) = slot
slot_of (report.Operating slot id) = slot
slot_of (report.Finished slot id status) = slot
