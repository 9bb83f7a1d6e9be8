use Rattle.std.proofs.Common.{ℕ, List, ◌++◌, codes, ◌∙◌, ap, append_assoc}
use Rattle.dnp_trace.specs.Phrases.{segment_phrase}
use Rattle.dnp_trace.proofs.phrase.say_confirmed.Goals as goal

pub returns : goal.returns
returns c =
    c.in_ok-say_segment.ensures ∙ ap (λ (text : List ℕ). text ++ segment_phrase c.args.user.now) c.in_ok-word.ensures
    ∙ append_assoc c.args.sheet.now (codes "CONFIRMED_USER_DATA ") (segment_phrase c.args.user.now)
