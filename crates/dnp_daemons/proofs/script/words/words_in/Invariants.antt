use Rattle.dnp_daemons.specs.declared.script.words.TheConstants.{MAX_WORDS}
use Rattle.std.proofs.Common.{◌≡◌, map, length, ◌<◌, ◌++◌}
use denote.Text.{Utf8}
use denote.Shadow.{shadow}
use Rattle.dnp_daemons.specs.Words.{words_of}
use Rattle.dnp_daemons.proofs.script.words.words_in.Given as goal

abbrev pub invariant-loop-word : goal.invariant-loop-word
invariant-loop-word l =
    shadow (Utf8 l.rest) × (length l.words.items < MAX_WORDS) × (map (λ w. w.now) l.words.items ++ words_of l.rest ≡ words_of l.fn.line)

abbrev pub decreases-loop-word : goal.decreases-loop-word
decreases-loop-word l = length l.rest
