use Rattle.std.proofs.Common.{rules, arith, ◌++◌, [], ◌∙◌, ap, sym, map, lit<, append-nil}
use Rattle.std.proofs.lemmas.List.{length-map}
use Rattle.dnp_daemons.specs.Words.{words_of}
use Rattle.dnp_daemons.proofs.Splitting.{last_word, next_word, many_words, pushed}
use Rattle.dnp_daemons.proofs.script.words.words_in.Goals as goal

pub returns-then-len-eq-MAX_WORDS-clause-none : goal.returns-then-len-eq-MAX_WORDS-clause-none
returns-then-len-eq-MAX_WORDS-clause-none c =
    let at = c.in-Some.ensures.byte (lit< tt) (λ w o h. h) in
    let split = next_word (map (λ w. w.now) c.loop-word.words.items) c.loop-word.rest.now c.in-Some.word.now c.in-Some.more.now
    (words_of c.args.line.now) at.0 at.1 at.2 c.loop-word.invariant.2 in
    let many = many_words (map (λ w. w.now) c.loop-word.words.items) c.in-Some.word.now c.in-Some.more.now (words_of c.args.line.now) split in
    omega (arith, many, length-map c.loop-word.words.items (λ w. w.now))

pub loop-word-preserved : goal.loop-word-preserved
loop-word-preserved c =
    let at = c.in-Some.ensures.byte (lit< tt) (λ w o h. h) in
    let split = next_word (map (λ w. w.now) c.loop-word.words.items) c.loop-word.rest.now c.in-Some.word.now c.in-Some.more.now
    (words_of c.args.line.now) at.0 at.1 at.2 c.loop-word.invariant.2 in
    (search rules, omega arith, rw c.push.ensures.items (pushed c.loop-word.words.items c.in-Some.word (words_of c.in-Some.more.now) _ split))

pub returns-clause-found : goal.returns-clause-found
returns-clause-found c =
    let at = c.in_default.ensures.byte (lit< tt) (λ w o h. h) in
    let split = ap (λ l. map (λ w. w.now) c.loop-word.words.items ++ l) (sym (last_word c.loop-word.rest.now at)) ∙ c.loop-word.invariant.2 in
    rw c.push-2.ensures.items (sym (append-nil _) ∙ pushed c.loop-word.words.items c.loop-word.rest [] _ split)
