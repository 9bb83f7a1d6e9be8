use Rattle.std.proofs.Common.{◌≡◌, ℕ, List, take}
use Rattle.std.specs.Io.KnownBytes.{Appends}
use Rattle.dnp_daemons.specs.ScriptRuns.{DoesAll}
use Rattle.dnp_daemons.proofs.run.run_script.Given as goal

-- the first lines are done, what they print is written, and no store was stopped by them
abbrev pub invariant-loop-done : goal.invariant-loop-done
invariant-loop-done g l =
    (g.S.Scripted.honest l.system → g.S.Scripted.honest l.fn.system)
    × (g.S.Scripted.honest l.system → (text : List ℕ)
    × DoesAll g.S.Scripted.law (g.S.Scripted.state l.fn.system) (take l.done l.script) (g.S.Scripted.state l.system) text
    × Appends (g.W.Write.contents l.fn.out) (g.W.Write.contents l.out) text)
    × (g.S.Scripted.is_stopped l.system ≡ g.S.Scripted.is_stopped l.fn.system)
