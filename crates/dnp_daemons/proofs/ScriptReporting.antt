-- Scripts with their reports.
use Rattle.std.proofs.Common.{◌≡◌, ℕ, Bool, List, ◌++◌, Option, Err, inl, refl, sym, ap, ◌∙◌, subst, append_assoc}
use Rattle.std.specs.Prelude.{IsTrue, Result, ⊤}
use Rattle.std.specs.Io.KnownBytes.{Appends}
use Rattle.std.proofs.KnownBytes.{Appends-trans}
use Rattle.dnp_concentrator.specs.declared.cause.Cause.{Cause}
use Rattle.dnp_concentrator.specs.declared.cause.Cause.TheVariants as causes
use Rattle.dnp_world.specs.declared.report.Report.{Report}
use Rattle.dnp_daemons.specs.declared.run.ScriptStop.{ScriptStop}
use Rattle.dnp_daemons.specs.declared.run.ScriptStop.TheVariants as stop
use Rattle.dnp_daemons.specs.declared.script.ScriptLine.{ScriptLine}
use Rattle.dnp_daemons.specs.ReportText.{report_text}
use Rattle.dnp_daemons.specs.Scripted.{Law}
use Rattle.dnp_daemons.specs.ScriptRuns.{DoesAll}
use Rattle.dnp_daemons.specs.steps.Readings.{TextEndsBy}
use Rattle.dnp_daemons.specs.ScriptReports.{IsReported, IsReportCut, ReportEnds, TellsCause, Unread}

-- a script that was not done has no report
pub no_report : {State : Type 0} (law : Law State) (old : State) (script : List ScriptLine) (by : ScriptStop) (new : State) (held held' : Option (List ℕ))
    → TextEndsBy law old script (Err by) new held held' → ReportEnds law old script (Err by) new held held'
no_report law old script (stop.Stopped n) new held held' ends = ends
no_report law old script stop.WriteFailed new held held' ends = inl ends
no_report law old script (stop.Fault cause) new held held' ends = Unread ends

is_reported : {State : Type 0} (law : Law State) (old : State) (script : List ScriptLine) (mid new : State) (text : List ℕ) (report : Report)
    → DoesAll law old script mid text → new ≡ mid → law.shows mid report → IsReported law old script new (text ++ report_text report)
is_reported {State} law old script mid new text report did same shown =
    subst (λ (s : State). IsReported law old script s (text ++ report_text report)) (sym same)
    (record { printed = text; did = did; report = report; shown = shown; whole = refl })

-- the report was written
pub reported : {State : Type 0} (law : Law State) (old : State) (script : List ScriptLine) (mid new : State) (text : List ℕ) (report : Report)
    (held held' held'' : Option (List ℕ)) → DoesAll law old script mid text → Appends held held' text → new ≡ mid → law.shows mid report
    → Appends held' held'' (report_text report) → (all : List ℕ) × IsReported law old script new all × Appends held held'' all
reported law old script mid new text report held held' held'' did wrote same shown more = (
  text ++ report_text report,
  is_reported law old script mid new text report did same shown,
  Appends-trans held held' held'' text (report_text report) wrote more,
)

-- a part of it was written
pub report_cut : {State : Type 0} (law : Law State) (old : State) (script : List ScriptLine) (mid new : State) (text : List ℕ) (report : Report)
    (part rest : List ℕ) (held held' held'' : Option (List ℕ)) → DoesAll law old script mid text → Appends held held' text → new ≡ mid
    → law.shows mid report → report_text report ≡ part ++ rest → Appends held' held'' part → IsReportCut law old script new held held''
report_cut law old script mid new text report part rest held held' held'' did wrote same shown cut more = record {
  written = text ++ part;
  unwritten = rest;
  reported = subst (IsReported law old script new) (ap (λ (t : List ℕ). text ++ t) cut ∙ sym (append_assoc text part rest))
      (is_reported law old script mid new text report did same shown);
  appended = Appends-trans held held' held'' text part wrote more;
}

-- a report that was refused: what the stores say of it, cause by cause
pub unreported_cause : (before mid after : Bool) (cause : Cause) → mid ≡ before → (cause ≡ causes.Device → IsTrue after)
    → ((cause ≡ causes.Device → ⊥) → after ≡ mid) → (cause ≡ causes.Exhausted → ⊥) → TellsCause before after (Err (stop.Fault cause))
unreported_cause before mid after causes.Device same stopped runs named = stopped refl
unreported_cause before mid after causes.Memory same stopped runs named = runs (λ e. cc) ∙ same
unreported_cause before mid after causes.Exhausted same stopped runs named = named refl

-- ---- what a cause says

-- numbers that have run out are no cause
pub never_exhausted : (before after : Bool) (r : Result ⊤ ScriptStop) → TellsCause before after r → r ≡ Err (stop.Fault causes.Exhausted) → ⊥
never_exhausted before after r tells is = subst (TellsCause before after) is tells

-- a device is one only where a store has answered it
pub told_device : (before after : Bool) (r : Result ⊤ ScriptStop) → TellsCause before after r → r ≡ Err (stop.Fault causes.Device) → IsTrue after
told_device before after r tells is = subst (TellsCause before after) is tells
