-- Definition: what a script makes of a system, and what it prints.
use Rattle.std.specs.Prelude.{◌≡◌, ℕ, ◌<◌, List, [], ◌∷◌, ◌++◌, length, take, slice_get, Option, Some, None, Result, Ok, Err, ⊤}
use Rattle.std.specs.Io.KnownBytes.{Appends}
use Rattle.dnp_concentrator.specs.declared.cause.Cause.{Cause}
use Rattle.dnp_concentrator.specs.declared.cause.Cause.TheVariants as causes
use Rattle.dnp_world.specs.declared.event.Event.TheVariants.{Deliver}
use Rattle.dnp_world.specs.declared.event.Link.{Link}
use Rattle.dnp_world.specs.declared.link_event.Way.{Way}
use Rattle.dnp_world.specs.declared.round_fault.RoundFault.{RoundFault}
use Rattle.dnp_world.specs.declared.round_fault.ControlFault.{ControlFault}
use Rattle.dnp_daemons.specs.declared.script.ScriptLine.{ScriptLine}
use Rattle.dnp_daemons.specs.declared.script.ScriptLine.TheVariants.{One, Flush, Round, Control}
use Rattle.dnp_daemons.specs.declared.run.ScriptStop.{ScriptStop}
use Rattle.dnp_daemons.specs.declared.run.ScriptStop.TheVariants as stop
use Rattle.dnp_daemons.specs.Scripted.{Law, HappensTimes}
use Rattle.dnp_daemons.specs.ScriptTexts.{round_said, control_said, stopped_line}

-- the line makes the second state of the first, and prints this
abbrev pub Does : {State : Type 0} → Law State → State → ScriptLine → State → List ℕ → Type 0
Does law old (One event) new text = law.happens old event new × (text ≡ [])
Does law old (Flush link way) new text = HappensTimes law (law.units old link way) (Deliver link way) old new × (text ≡ [])
Does law old (Round link) new text =
    (result : Result ⊤ RoundFault) × law.rounds old link result new × (round_said link result ≡ Some text)
Does law old (Control centre id) new text =
    (result : Result ⊤ ControlFault) × law.controls old centre id result new × (control_said centre id result ≡ Some text)

-- some of the units that stand there are delivered, and the next delivery stops
pub record StopsFlushing {State : Type 0} (law : Law State) (old : State) (link : Link) (way : Way) (new : State) : Type 0 where
  pub done : ℕ
  pub some : done < law.units old link way
  pub before : State
  pub delivered : HappensTimes law done (Deliver link way) old before
  pub stopped : law.stops before (Deliver link way) new

-- the line stops, and leaves this
abbrev pub StopsIn : {State : Type 0} → Law State → State → ScriptLine → State → Type 0
StopsIn law old (One event) new = law.stops old event new
StopsIn law old (Flush link way) new = StopsFlushing law old link way new
StopsIn law old (Round link) new = (result : Result ⊤ RoundFault) × law.rounds old link result new × (round_said link result ≡ None)
StopsIn law old (Control centre id) new =
    (result : Result ⊤ ControlFault) × law.controls old centre id result new × (control_said centre id result ≡ None)

-- lines are done, one after the other, and print this
abbrev pub DoesAll : {State : Type 0} → Law State → State → List ScriptLine → State → List ℕ → Type 0
DoesAll law old [] new text = (new ≡ old) × (text ≡ [])
DoesAll {State} law old (line ∷ lines) new text =
    (next : State) × (first : List ℕ) × (more : List ℕ)
    × Does law old line next first × DoesAll law next lines new more × (text ≡ first ++ more)

-- so many lines are done, and the next one stops; this is printed
pub record StopsAt {State : Type 0} (law : Law State) (old : State) (script : List ScriptLine) (done : ℕ) (new : State) (text : List ℕ) : Type 0 where
  pub before : State
  pub printed : List ℕ
  pub did : DoesAll law old (take done script) before printed
  pub line : ScriptLine
  pub next : slice_get script done ≡ Some line
  pub stopped : StopsIn law before line new
  pub whole : text ≡ printed ++ stopped_line done

-- some first lines are done, or a line stops after them; all this is to be printed by then
pub data Reaches {State : Type 0} (law : Law State) (old : State) (script : List ScriptLine) (new : State) (text : List ℕ) : Type 0 where
  Done : (done : ℕ) → DoesAll law old (take done script) new text → Reaches law old script new text
  Stopped : (done : ℕ) → StopsAt law old script done new text → Reaches law old script new text

-- what was written before the writer failed
pub record IsCut {State : Type 0} (law : Law State) (old : State) (script : List ScriptLine) (new : State) (held held' : Option (List ℕ)) : Type 0 where
  pub written : List ℕ
  pub unwritten : List ℕ
  pub reached : Reaches law old script new (written ++ unwritten)
  pub appended : Appends held held' written

-- how a script ends, and what was written
abbrev pub ScriptEndsBy : {State : Type 0} → Law State → State → List ScriptLine → Result ⊤ ScriptStop → State → Option (List ℕ) → Option (List ℕ) → Type 0
ScriptEndsBy law old script (Ok done) new held held' = (text : List ℕ) × DoesAll law old script new text × Appends held held' text
ScriptEndsBy law old script (Err (stop.Stopped done)) new held held' =
    (text : List ℕ) × StopsAt law old script done new text × Appends held held' text
ScriptEndsBy law old script (Err stop.WriteFailed) new held held' = IsCut law old script new held held'
ScriptEndsBy law old script (Err (stop.Fault cause)) new held held' = ⊥

-- so many lines of a script that is read as it runs are done, and memory for the octets of the next one was refused
pub record IsUnread {State : Type 0} (law : Law State) (old : State) (script : List ScriptLine) (cause : Cause) (new : State)
    (held held' : Option (List ℕ)) : Type 0 where
  pub why : cause ≡ causes.Memory
  pub done : ℕ
  pub some : done < length script
  pub printed : List ℕ
  pub did : DoesAll law old (take done script) new printed
  pub appended : Appends held held' printed
