use mir.Val.{bool_byte}
use Rattle.std.proofs.Common.{◌≡◌, ℕ, ◌+◌, List, [], ◌∷◌, sym, refl, ◌∙◌, ap, lit<}
use Rattle.dnp_daemons.specs.Words.{words_of}
use Rattle.dnp_daemons.specs.steps.Forms.{taken}
use Rattle.dnp_daemons.proofs.LineWords.{taken_by_none, taken_further, taken_here, taken_last}
use Rattle.dnp_daemons.proofs.Splitting.{last_word, next_word}
use Rattle.dnp_daemons.proofs.script.reason.+taken.Goals as goal

pub returns-in-empty-clause-exact : goal.returns-in-empty-clause-exact
returns-in-empty-clause-exact t c = sym (taken_by_none c.args.substations (words_of c.args.line.now) c.args.slots.now c.in-empty.len_below)

pub returns-then-takes-clause-exact : goal.returns-then-takes-clause-exact
returns-then-takes-clause-exact t c =
    let at = c.in-Some.ensures.byte (lit< tt) (λ w o h. h) in
    let split = next_word [] c.args.line.now c.in-Some.word.now c.in-Some.rest.now (words_of c.args.line.now) at.0 at.1 at.2 refl in
    ap (λ k. k + 1) c.taken.ensures.exact
    ∙ sym (taken_further c.args.substations c.in-Some.word.now (words_of c.in-Some.rest.now) c.args.slots.now _ c.in-len1-up.len_at_least
    (sym c.takes.ensures ∙ c.if-takes.true))
    ∙ ap (λ words. taken c.args.substations words c.args.slots.now) split

pub returns-else-takes-clause-exact : goal.returns-else-takes-clause-exact
returns-else-takes-clause-exact t c =
    let at = c.in-Some.ensures.byte (lit< tt) (λ w o h. h) in
    let split = next_word [] c.args.line.now c.in-Some.word.now c.in-Some.rest.now (words_of c.args.line.now) at.0 at.1 at.2 refl in
    sym (taken_here c.args.substations c.in-Some.word.now (words_of c.in-Some.rest.now) c.args.slots.now _ c.in-len1-up.len_at_least
    (sym c.takes.ensures ∙ c.if-takes.false))
    ∙ ap (λ words. taken c.args.substations words c.args.slots.now) split

pub returns-in-None-clause-exact : goal.returns-in-None-clause-exact
returns-in-None-clause-exact t c =
    let at = c.in-None.ensures.byte (lit< tt) (λ w o h. h) in
    let only : words_of c.args.line.now ≡ c.args.line.now ∷ [] = last_word c.args.line.now at in
    c.from.ensures ∙ ap bool_byte c.takes-in-None.ensures
    ∙ sym (taken_last c.args.substations c.args.line.now c.args.slots.now _ c.in-len1-up.len_at_least)
    ∙ ap (λ (words : List (List ℕ)). taken c.args.substations words c.args.slots.now) (sym only)
