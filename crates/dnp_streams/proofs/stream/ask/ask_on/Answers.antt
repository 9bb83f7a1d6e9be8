use Rattle.std.proofs.Common.{rules, ◌≡◌, ℕ, ◌+◌, ◌<◌, [], Ok, Err, inl, take, length, refl, sym, ap, ◌∙◌, subst, arith}
use Rattle.std.proofs.lemmas.List.{length-take}
use Rattle.std.specs.Io.KnownBytes.{Consumes}
use Rattle.std.proofs.KnownBytes.{Consumes-kept, Consumes-nil}
use Rattle.dnp_streams.specs.declared.stream.serve.ServeFault.TheVariants.{ReadFailed, TurnsSpent, Memory}
use Rattle.dnp_streams.specs.declared.stream.log.Log.{Log}
use Rattle.dnp_streams.specs.links.Links.{LinkState}
use Rattle.dnp_streams.proofs.links.Dialogues.{talking_fed, talking_same, talking_unbegun, talks_by, talks_gone, talks_over}
use Rattle.dnp_streams.proofs.stream.ask.ask_on.Goals as goal

pub returns-in-Ok-true-clause-talks : goal.returns-in-Ok-true-clause-talks
returns-in-Ok-true-clause-talks g c honest =
    let (t, over) = (rw c.in-Ok-true.field-0-test at (c.in-Ok-true.ensures.talks honest)) 0 _ _ _ _
    (talking_unbegun _ c.args.now _ c.args.dialogue.now.agenda (g.R.Read.remaining c.args.reader.now) (g.W.Write.contents c.args.out.now) c.args.dialogue.now.link c.requires.fresh c.requires.link) in
    talks_over _ _ _ c.args.turns _ _ _ _ _ _ _ c.begin.new.dialogue.agenda _ c.in-Ok-true.ensures.sent t (over refl)

pub returns-in-Err-clause-talks : goal.returns-in-Err-clause-talks
returns-in-Err-clause-talks g c honest =
    let (t, over) = c.in-Err.ensures.talks honest 0 _ _ _ _
    (talking_unbegun _ c.args.now _ c.args.dialogue.now.agenda (g.R.Read.remaining c.args.reader.now) (g.W.Write.contents c.args.out.now) c.args.dialogue.now.link c.requires.fresh c.requires.link) in
    talks_gone _ _ _ c.args.turns _ _ _ _ _ _ _ c.begin.new.dialogue.agenda _ c.in-Err.gone _ c.fault_of.ensures (λ is. c.in-Err.ensures.wanting (ap (λ e. Err e) is)) t

pub loop-init : goal.loop-init
loop-init g c =
    let on = c.in-Ok-false.field-0-test in (
      c.in-Ok-false.ensures.sent,
      c.begin.ensures.waiting ∙ ap (λ (l : LinkState). l.waiting) c.requires.link,
      c.in-Ok-false.ensures.awaits (cc),
      c.begin.ensures.held,
      λ honest. ((rw c.in-Ok-false.field-0-test at (c.in-Ok-false.ensures.talks honest)) 0 _ _ _ _
          (talking_unbegun _ c.args.now _ c.args.dialogue.now.agenda (g.R.Read.remaining c.args.reader.now) (g.W.Write.contents c.args.out.now) c.args.dialogue.now.link c.requires.fresh c.requires.link)).0,
      c.begin.ensures.kept,
      c.in-Ok-false.ensures.noted ∙ c.requires.log,
    )

pub returns-in-Err-read_noted-clause-talks : goal.returns-in-Err-read_noted-clause-talks
returns-in-Err-read_noted-clause-talks g c honest =
    let before = c.loop.invariant in
    talks_by _ _ _ c.args.turns _ _ _ _ _ _ _ _ c.loop.dialogue.agenda _ [] (Err ReadFailed) (before.4 honest)
    (Consumes-kept _ _ _ [] (Consumes-nil (g.R.Read.remaining c.loop.reader)) c.in-Err-read_noted.ensures.octets)
    record { begun = before.2.begun; goes_on = before.2.goes_on; busy = before.2.busy; looked_at = refl; heard = before.1; answered = before.0 }

pub returns-then-count-eq0-clause-talks : goal.returns-then-count-eq0-clause-talks
returns-then-count-eq0-clause-talks g c honest =
    let before = c.loop.invariant in
    let none : take c.in-Ok.count c.read_noted.new.piece ≡ [] = ap (λ (n : ℕ). take n c.read_noted.new.piece) c.if-count-eq0.true in
    talks_by _ _ _ c.args.turns _ _ _ _ _ _ _ _ c.loop.dialogue.agenda _ [] (Ok c.loop.dialogue.agenda.asked) (before.4 honest)
    (subst (Consumes (g.R.Read.remaining c.loop.reader) (g.R.Read.remaining c.read_noted.new.reader)) none c.in-Ok.ensures.octets.0)
    record {
      rows = refl;
      outcomes = refl;
      faults = refl;
      looked_at = refl;
      answered = before.0;
      ended = λ goes_on. inl (
        c.in-Ok.ensures.octets.1 c.if-count-eq0.true (search rules),
        record { begun = before.2.begun; goes_on = before.2.goes_on; busy = before.2.busy; looked_at = refl; heard = before.1; answered = before.0 },
      );
    }

pub returns-in-Err-feed-clause-talks : goal.returns-in-Err-feed-clause-talks
returns-in-Err-feed-clause-talks g c honest =
    let before = c.loop.invariant in
    let same = c.in-Err-feed.ensures.unchanged in
    talks_by _ _ _ c.args.turns _ _ _ _ _ _ _ _ c.loop.dialogue.agenda _ (take c.in-Ok.count c.read_noted.new.piece) (Err Memory)
    (talking_same _ _ _ _ _ _ _ _ _ c.loop.dialogue.agenda _ _ (sym same) (before.4 honest)) c.in-Ok.ensures.octets.0 record {
      goes_on = before.2.goes_on;
      answered = ap (λ (l : LinkState). l.pending) same ∙ before.0;
      short = inl (ap (λ (l : LinkState). l.waiting) same ∙ before.1);
    }

pub returns-in-Ok-true-hear_all-clause-talks : goal.returns-in-Ok-true-hear_all-clause-talks
returns-in-Ok-true-hear_all-clause-talks g c honest =
    let before = c.loop.invariant in
    let piece = take c.in-Ok.count c.read_noted.new.piece in
    let size = length-take c.in-Ok.count c.read_noted.new.piece in
    let some : 0 < length piece = search rules in
    let (t, over) = (rw c.in-Ok-true-hear_all.field-0-test at (c.in-Ok-true-hear_all.ensures.talks honest)) (c.loop.counter + 1) _ _ _ _
    (talking_fed _ c.args.now c.loop.counter _ _ _ _ _ _ _ c.loop.dialogue.agenda _ _ piece c.in-Ok-feed.ensures.fed c.in-Ok.ensures.octets.0 some
    (before.4 (c.hear_all.ensures.held honest))) in
    talks_over _ _ _ c.args.turns _ _ _ _ _ _ _ c.hear_all.new.dialogue.agenda _ c.in-Ok-true-hear_all.ensures.sent t (over refl)

pub returns-in-Err-hear_all-clause-talks : goal.returns-in-Err-hear_all-clause-talks
returns-in-Err-hear_all-clause-talks g c honest =
    let before = c.loop.invariant in
    let piece = take c.in-Ok.count c.read_noted.new.piece in
    let size = length-take c.in-Ok.count c.read_noted.new.piece in
    let some : 0 < length piece = search rules in
    let (t, over) = c.in-Err-hear_all.ensures.talks honest (c.loop.counter + 1) _ _ _ _
    (talking_fed _ c.args.now c.loop.counter _ _ _ _ _ _ _ c.loop.dialogue.agenda _ _ piece c.in-Ok-feed.ensures.fed c.in-Ok.ensures.octets.0 some
    (before.4 (c.hear_all.ensures.held honest))) in
    talks_gone _ _ _ c.args.turns _ _ _ _ _ _ _ c.hear_all.new.dialogue.agenda _ c.in-Err-hear_all.gone _ c.fault_of-in-Err-hear_all.ensures
    (λ is. c.in-Err-hear_all.ensures.wanting (ap (λ e. Err e) is)) t

pub loop-preserved : goal.loop-preserved
loop-preserved g c =
    let before = c.loop.invariant in
    let piece = take c.in-Ok.count c.read_noted.new.piece in
    let size = length-take c.in-Ok.count c.read_noted.new.piece in
    let some : 0 < length piece = search rules in
    let on = c.in-Ok-false-hear_all.field-0-test in
    let both = c.in-Ok-false-hear_all.ensures.awaits (cc) in (
      c.in-Ok-false-hear_all.ensures.sent,
      both.1,
      both.0,
      λ honest. before.3 (c.hear_all.ensures.held honest),
      λ honest. ((rw c.in-Ok-false-hear_all.field-0-test at (c.in-Ok-false-hear_all.ensures.talks honest)) (c.loop.counter + 1) _ _ _ _
          (talking_fed _ c.args.now c.loop.counter _ _ _ _ _ _ _ c.loop.dialogue.agenda _ _ piece c.in-Ok-feed.ensures.fed c.in-Ok.ensures.octets.0 some
          (before.4 (c.hear_all.ensures.held honest)))).0,
      c.hear_all.ensures.kept ∙ before.5,
      c.in-Ok-false-hear_all.ensures.noted ∙ c.in-Ok.ensures.noted ∙ ap (λ (l : Log). record l { reads = l.reads + 1 }) before.6,
    )

pub returns-clause-talks : goal.returns-clause-talks
returns-clause-talks g c honest =
    let before = c.loop.invariant in
    let spent : c.args.turns ≡ c.loop.counter = omega (arith, c.loop-test.false, c.loop.auto.counter-end) in
    let t = before.4 honest in
    talks_by _ _ _ c.args.turns _ _ _ _ _ _ _ _ c.loop.dialogue.agenda _ [] (Err TurnsSpent) t (Consumes-nil (g.R.Read.remaining c.loop.reader)) (
      record { begun = before.2.begun; goes_on = before.2.goes_on; busy = before.2.busy; looked_at = refl; heard = before.1; answered = before.0 },
      omega (arith, t.often, spent),
    )
