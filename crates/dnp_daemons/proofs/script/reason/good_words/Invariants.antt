use Rattle.std.proofs.Common.{◌≡◌, drop, max}
use Rattle.dnp_daemons.specs.Words.{words_of}
use Rattle.dnp_daemons.specs.steps.Forms.{all_forms, allows, most_of, slots_of, taken}
use Rattle.dnp_daemons.proofs.script.reason.good_words.Given as goal

-- the most of all forms is the most so far, or that of the forms to come
abbrev pub invariant-loop-form : goal.invariant-loop-form
invariant-loop-form l =
    most_of (allows l.carried) (λ form. taken l.substations (words_of l.line) (slots_of form)) all_forms
    ≡ max l.most (most_of (allows l.carried) (λ form. taken l.substations (words_of l.line) (slots_of form)) (drop l.form-index all_forms))
