use Rattle.std.proofs.Common.{◌≡◌, drop}
use denote.Text.{Utf8}
use denote.Shadow.{shadow}
use Rattle.dnp_daemons.specs.Words.{lines_of}
use Rattle.dnp_daemons.proofs.script.reason.line_at.Given as goal

-- the lines to come
abbrev pub invariant-loop-done : goal.invariant-loop-done
invariant-loop-done l = shadow (Utf8 l.rest) × (lines_of l.rest ≡ drop l.done (lines_of l.fn.text))
