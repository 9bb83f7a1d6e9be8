use Rattle.std.proofs.Common.{◌≡◌, ℕ, ◌+◌, List, [], Some, None, length, map, take, drop, sym, ap, ◌∙◌, subst, rules, arith}
use Rattle.std.specs.Io.KnownBytes.{Appends}
use Rattle.dnp_daemons.specs.declared.script.ScriptLine.{ScriptLine}
use Rattle.dnp_daemons.specs.ScriptRuns.{DoesAll}
use Rattle.dnp_daemons.specs.Words.{lines_of}
use Rattle.dnp_daemons.specs.steps.Judging.{reading_by}
use Rattle.dnp_daemons.specs.steps.Readings.{Says}
use Rattle.dnp_daemons.proofs.ScriptReading.{all_done, ends_so, goes_on, next_said, no_text, said_some}
use Rattle.dnp_daemons.proofs.ScriptRunning.{cut_line, said_stopped}
use Rattle.dnp_daemons.proofs.run.text.run_text.Given.{Over}
use Rattle.dnp_daemons.proofs.run.text.run_text.Goals.{In-Ok}
use Rattle.dnp_daemons.proofs.run.text.run_text.Goals as goal

pub unreachable-requires : goal.unreachable-requires
unreachable-requires g c =
    let r = reading_by c.args.script.now.carried c.args.script.now.substations in
    let line = c.first_line.result.0.now in
    let more = lines_of c.first_line.result.1.now in
    let (utf8, few, said, held, did, on) = c.loop-rest.invariant in
    let (lines, says) = c.requires.fits in
    let from = c.in-Ok-None.ensures in
    let none : r line ≡ None = sym from ∙ c.in-Ok-None.field-0-is in
    said_some r line more (drop c.loop-rest.done lines) (ap (map r) (sym c.first_line.ensures.lines) ∙ said lines says) none

pub returns-in-Err-Stopped-clause-ends : goal.returns-in-Err-Stopped-clause-ends
returns-in-Err-Stopped-clause-ends g c = λ honest lines says.
    let r = reading_by c.args.script.now.carried c.args.script.now.substations in
    let line = c.first_line.result.0.now in
    let more = lines_of c.first_line.result.1.now in
    let (utf8, few, said, held, did, on) = c.loop-rest.invariant in
    let from = c.in-Ok-Some.ensures in
    let some = c.in-Ok-Some.field-0-is in
    let is : r line ≡ Some c.in-Ok-Some.read = cc in
    let next = next_said r lines c.loop-rest.done line more c.in-Ok-Some.read (ap (map r) (sym c.first_line.ensures.lines) ∙ said lines says) is in
    let (text, does, wrote) = did (c.in-Err-Stopped.ensures.held honest) lines says in
    let ends = rw c.in-Err-Stopped.field-0-is at (c.in-Err-Stopped.ensures.ends honest) in
    ends_so g.S.Scripted.law _ lines c.print_stopped.result _ _ _
    (said_stopped g.S.Scripted.law _ _ _ _ _ _ _ _ _ text next.low next.is does wrote ends.0 c.print_stopped.result
    (rw (← ends.1) c.print_stopped.ensures))

pub returns-in-Err-Unwritten-clause-ends : goal.returns-in-Err-Unwritten-clause-ends
returns-in-Err-Unwritten-clause-ends g c = λ honest lines says.
    let r = reading_by c.args.script.now.carried c.args.script.now.substations in
    let line = c.first_line.result.0.now in
    let more = lines_of c.first_line.result.1.now in
    let (utf8, few, said, held, did, on) = c.loop-rest.invariant in
    let from = c.in-Ok-Some.ensures in
    let some = c.in-Ok-Some.field-0-is in
    let is : r line ≡ Some c.in-Ok-Some.read = cc in
    let next = next_said r lines c.loop-rest.done line more c.in-Ok-Some.read (ap (map r) (sym c.first_line.ensures.lines) ∙ said lines says) is in
    let (text, did, wrote) = did (c.in-Err-Unwritten.ensures.held honest) lines says in
    let (part, rest, does, wrote_part) = rw c.in-Err-Unwritten.field-0-is at (c.in-Err-Unwritten.ensures.ends honest) in
    cut_line g.S.Scripted.law _ _ _ _ _ _ _ _ _ _ _ _ next.low next.is did wrote does wrote_part

-- a line more is done: what the rest of the text says, the honesty of the stores, what was done and printed by then, and that no store
-- was stopped
line_done : (g : Over) (c : In-Ok g) →
    ((lines : List ScriptLine) → Says c.args.script.now lines →
    map (reading_by c.args.script.now.carried c.args.script.now.substations) (lines_of c.first_line.result.1.now)
    ≡ map Some (drop (c.loop-rest.done + 1) lines))
    × (g.S.Scripted.honest c.run_line.new.system → g.S.Scripted.honest c.args.system.now)
    × (g.S.Scripted.honest c.run_line.new.system → (lines : List ScriptLine) → Says c.args.script.now lines → (text : List ℕ)
    × DoesAll g.S.Scripted.law (g.S.Scripted.state c.args.system.now) (take (c.loop-rest.done + 1) lines)
    (g.S.Scripted.state c.run_line.new.system) text
    × Appends (g.W.Write.contents c.args.out.now) (g.W.Write.contents c.run_line.new.out) text)
    × (g.S.Scripted.is_stopped c.run_line.new.system ≡ g.S.Scripted.is_stopped c.args.system.now)
line_done g c =
    let r = reading_by c.args.script.now.carried c.args.script.now.substations in
    let line = c.first_line.result.0.now in
    let more = lines_of c.first_line.result.1.now in
    let (utf8, few, said, held, did, on) = c.loop-rest.invariant in
    let from = c.in-Ok-Some.ensures in
    let some = c.in-Ok-Some.field-0-is in
    let is : r line ≡ Some c.in-Ok-Some.read = cc in (
      λ lines says. (next_said r lines c.loop-rest.done line more c.in-Ok-Some.read (ap (map r) (sym c.first_line.ensures.lines) ∙ said lines says) is).left,
      λ honest. held (c.in-Ok.ensures.held honest),
      λ honest lines says.
          let (text, done, wrote) = did (c.in-Ok.ensures.held honest) lines says in
          let (part, does, wrote_part) = c.in-Ok.ensures.ends honest in
          goes_on g.S.Scripted.law r lines c.loop-rest.done line more c.in-Ok-Some.read _ _ _ _ _ _ text part
          (ap (map r) (sym c.first_line.ensures.lines) ∙ said lines says) is done wrote does wrote_part,
      c.in-Ok.ensures.runs_on (λ e. cc) ∙ on,
    )

pub loop-rest-preserved-in-Ok : goal.loop-rest-preserved-in-Ok
loop-rest-preserved-in-Ok g c =
    let (left, held, did, on) = line_done g (goal.at.loop-rest-preserved-in-Ok g c).In-Ok in (search rules, omega arith, left, held, did, on)

pub loop-rest-preserved-in-Ok-2 : goal.loop-rest-preserved-in-Ok-2
loop-rest-preserved-in-Ok-2 g c =
    let (left, held, did, on) = line_done g (goal.at.loop-rest-preserved-in-Ok-2 g c).In-Ok in (search rules, omega arith, left, held, did, on)

pub loop-rest-preserved : goal.loop-rest-preserved
loop-rest-preserved g c =
    let (left, held, did, on) = line_done g (goal.at.loop-rest-preserved g c).In-Ok in (search rules, omega arith, left, held, did, on)

pub returns-clause-ends : goal.returns-clause-ends
returns-clause-ends g c = λ honest lines says.
    let r = reading_by c.args.script.now.carried c.args.script.now.substations in
    let (utf8, few, said, held, did, on) = c.loop-rest.invariant in
    let (text, done, wrote) = did honest lines says in
    let empty : length c.loop-rest.rest.now ≡ 0 = search rules in
    let none : c.loop-rest.rest.now ≡ [] = no_text c.loop-rest.rest.now empty in
    let all = all_done lines c.loop-rest.done (sym (ap (λ t. map r (lines_of t)) none) ∙ said lines says) in
    (text, subst (λ l. DoesAll g.S.Scripted.law (g.S.Scripted.state c.args.system.now) l (g.S.Scripted.state c.loop-rest.system) text) all done, wrote)
