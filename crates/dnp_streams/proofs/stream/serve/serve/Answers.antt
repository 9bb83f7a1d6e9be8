use Rattle.std.proofs.Common.{rules, ◌≡◌, ℕ, ◌+◌, ◌<◌, [], Ok, Err, take, length, refl, sym, ap, ◌∙◌, subst, arith}
use Rattle.std.proofs.lemmas.Bool.{false≢true}
use Rattle.std.proofs.lemmas.List.{length-take}
use Rattle.std.specs.Io.KnownBytes.{Consumes}
use Rattle.std.proofs.KnownBytes.{Consumes-kept, Consumes-nil}
use Rattle.dnp_streams.specs.links.Links.{LinkState}
use Rattle.dnp_streams.specs.declared.stream.serve.ServeFault.TheVariants.{ReadFailed, WriteFailed, TurnsSpent, Memory}
use Rattle.dnp_streams.specs.declared.stream.log.Log.{Log}
use Rattle.dnp_streams.proofs.links.Serving.{runs_first, runs_sent, runs_fed, runs_serves, runs_same}
use Rattle.dnp_streams.proofs.stream.serve.serve.Goals as goal

pub returns-in-Err-clause-serves : goal.returns-in-Err-clause-serves
returns-in-Err-clause-serves g c honest =
    let opened = c.opened.ensures.opened in
    let r = runs_sent _ _ _ _ _ _ _ _ _ _ _ _ _ (Err c.in-Err.field-0) c.in-Err.ensures.sent
    (runs_first _ c.args.now _ _ _ _ _ _ opened.0 _ _ _ _ c.requires.fresh refl honest opened.1 opened.2 c.count.ensures) in
    runs_serves _ _ _ c.args.turns _ _ _ _ _ _ _ _ _ [] (Err WriteFailed) r (Consumes-nil (g.R.Read.remaining c.args.reader.now)) (λ t is. is.refused_is)

pub returns-then-served-clause-serves : goal.returns-then-served-clause-serves
returns-then-served-clause-serves g c honest =
    let opened = c.opened.ensures.opened in
    let r = runs_sent _ _ _ _ _ _ _ _ _ _ _ _ _ (Ok tt) c.in-Ok.ensures.sent
    (runs_first _ c.args.now _ _ _ _ _ _ opened.0 _ _ _ _ c.requires.fresh refl honest opened.1 opened.2 c.count.ensures) in
    runs_serves _ _ _ c.args.turns _ _ _ _ _ _ _ _ _ [] (Ok c.count.new.served) r (Consumes-nil (g.R.Read.remaining c.args.reader.now)) (λ t is. record {
      counted = is.counted;
      looked_at = is.refused_is;
      answered = is.unwritten ∙ ap (λ (l : LinkState). l.pending) c.in-Ok.ensures.sent.0;
      ended = λ open_still. absurd (false≢true (sym (is.counted.closed ∙ open_still) ∙ c.if-served.true));
    })

pub loop-init : goal.loop-init
loop-init g c =
    let opened = c.opened.ensures.opened in (
      c.if-served.false,
      ap (λ (l : LinkState). l.pending) c.in-Ok.ensures.sent.0,
      ap (λ (l : LinkState). l.waiting) c.in-Ok.ensures.sent.0 ∙ sym opened.2.does.waiting ∙ ap (λ (l : LinkState). l.waiting) c.requires.fresh,
      c.opened.ensures.held,
      λ honest. runs_sent _ _ _ _ _ _ _ _ _ _ _ _ _ (Ok tt) c.in-Ok.ensures.sent
          (runs_first _ c.args.now _ _ _ _ _ _ opened.0 _ _ _ _ c.requires.fresh refl honest opened.1 opened.2 c.count.ensures),
      c.opened.ensures.kept,
      c.in-Ok.ensures.noted ∙ c.requires.log,
    )

-- a read brought these octets, some or none
pub loop-preserved : goal.loop-preserved
loop-preserved g c =
    let before = c.loop.invariant in
    let piece = take c.in-Ok-read_noted.count c.read_noted.new.piece in
    let size = length-take c.in-Ok-read_noted.count c.read_noted.new.piece in
    let some : 0 < length piece = search rules in (
      c.if-served-2.false,
      c.in-Ok-hear_all.ensures.sent,
      c.in-Ok-hear_all.ensures.heard c.if-served-2.false,
      λ honest. before.3 (c.hear_all.ensures.held honest),
      λ honest.
          c.hear_all.ensures.goes_on honest (c.loop.counter + 1) _ _ _ _
          (runs_fed _ c.args.now c.loop.counter _ _ _ _ _ _ _ _ _ _ piece c.in-Ok-feed.ensures.fed c.in-Ok-read_noted.ensures.octets.0 some before.0
          (before.4 (c.hear_all.ensures.held honest))),
      c.hear_all.ensures.kept ∙ before.5,
      c.in-Ok-hear_all.ensures.noted ∙ c.in-Ok-read_noted.ensures.noted ∙ ap (λ (l : Log). record l { reads = l.reads + 1 }) before.6,
    )

pub returns-in-Err-read_noted-clause-serves : goal.returns-in-Err-read_noted-clause-serves
returns-in-Err-read_noted-clause-serves g c honest =
    let before = c.loop.invariant in
    runs_serves _ _ _ c.args.turns _ _ _ _ _ _ _ _ _ [] (Err ReadFailed) (before.4 honest)
    (Consumes-kept _ _ _ [] (Consumes-nil (g.R.Read.remaining c.loop.reader)) c.in-Err-read_noted.ensures.octets)
    (λ t is. record {
      looked_at = is.refused_is;
      heard = is.unheard ∙ before.2;
      answered = is.unwritten ∙ before.1;
      open_still = sym is.counted.closed ∙ before.0;
    })

pub returns-then-count-eq0-clause-serves : goal.returns-then-count-eq0-clause-serves
returns-then-count-eq0-clause-serves g c honest =
    let before = c.loop.invariant in
    let none : take c.in-Ok-read_noted.count c.read_noted.new.piece ≡ [] = ap (λ (n : ℕ). take n c.read_noted.new.piece) c.if-count-eq0.true in
    runs_serves _ _ _ c.args.turns _ _ _ _ _ _ _ _ _ [] (Ok c.loop.served) (before.4 honest)
    (subst (Consumes (g.R.Read.remaining c.loop.reader) (g.R.Read.remaining c.read_noted.new.reader)) none c.in-Ok-read_noted.ensures.octets.0)
    (λ t is. record {
      counted = is.counted;
      looked_at = is.refused_is;
      answered = is.unwritten ∙ before.1;
      ended = λ _. (c.in-Ok-read_noted.ensures.octets.1 c.if-count-eq0.true (search rules), is.unheard ∙ before.2);
    })

pub returns-in-Err-feed-clause-serves : goal.returns-in-Err-feed-clause-serves
returns-in-Err-feed-clause-serves g c honest =
    let before = c.loop.invariant in
    let same = c.in-Err-feed.ensures.unchanged in
    runs_serves _ _ _ c.args.turns _ _ _ _ _ _ _ _ _ (take c.in-Ok-read_noted.count c.read_noted.new.piece) (Err Memory)
    (runs_same _ _ _ _ _ _ _ _ _ _ _ _ (sym same) (before.4 honest)) c.in-Ok-read_noted.ensures.octets.0
    (λ t is. (
      is.unheard ∙ ap (λ (l : LinkState). l.waiting) same ∙ before.2,
      is.unwritten ∙ ap (λ (l : LinkState). l.pending) same ∙ before.1,
      sym is.counted.closed ∙ before.0,
    ))

pub returns-in-Err-hear_all-clause-serves : goal.returns-in-Err-hear_all-clause-serves
returns-in-Err-hear_all-clause-serves g c honest =
    let before = c.loop.invariant in
    let piece = take c.in-Ok-read_noted.count c.read_noted.new.piece in
    let size = length-take c.in-Ok-read_noted.count c.read_noted.new.piece in
    let some : 0 < length piece = search rules in
    let r = c.hear_all.ensures.goes_on honest (c.loop.counter + 1) _ _ _ _
    (runs_fed _ c.args.now c.loop.counter _ _ _ _ _ _ _ _ _ _ piece c.in-Ok-feed.ensures.fed c.in-Ok-read_noted.ensures.octets.0 some before.0
    (before.4 (c.hear_all.ensures.held honest))) in
    runs_serves _ _ _ c.args.turns _ _ _ _ _ _ _ _ _ [] (Err WriteFailed) r (Consumes-nil (g.R.Read.remaining c.read_noted.new.reader)) (λ t is. is.refused_is)

pub returns-then-served-2-clause-serves : goal.returns-then-served-2-clause-serves
returns-then-served-2-clause-serves g c honest =
    let before = c.loop.invariant in
    let piece = take c.in-Ok-read_noted.count c.read_noted.new.piece in
    let size = length-take c.in-Ok-read_noted.count c.read_noted.new.piece in
    let some : 0 < length piece = search rules in
    let r = c.hear_all.ensures.goes_on honest (c.loop.counter + 1) _ _ _ _
    (runs_fed _ c.args.now c.loop.counter _ _ _ _ _ _ _ _ _ _ piece c.in-Ok-feed.ensures.fed c.in-Ok-read_noted.ensures.octets.0 some before.0
    (before.4 (c.hear_all.ensures.held honest))) in
    runs_serves _ _ _ c.args.turns _ _ _ _ _ _ _ _ _ [] (Ok c.hear_all.new.served) r (Consumes-nil (g.R.Read.remaining c.read_noted.new.reader)) (λ t is. record {
      counted = is.counted;
      looked_at = is.refused_is;
      answered = is.unwritten ∙ c.in-Ok-hear_all.ensures.sent;
      ended = λ open_still. absurd (false≢true (sym (is.counted.closed ∙ open_still) ∙ c.if-served-2.true));
    })

pub returns-clause-serves : goal.returns-clause-serves
returns-clause-serves g c honest =
    let before = c.loop.invariant in
    let spent : c.args.turns ≡ c.loop.counter = omega (arith, c.loop-test.false, c.loop.auto.counter-end) in
    runs_serves _ _ _ c.args.turns _ _ _ _ _ _ _ _ _ [] (Err TurnsSpent) (before.4 honest) (Consumes-nil (g.R.Read.remaining c.loop.reader))
    (λ t is. (
      record {
        looked_at = is.refused_is;
        heard = is.unheard ∙ before.2;
        answered = is.unwritten ∙ before.1;
        open_still = sym is.counted.closed ∙ before.0;
      },
      omega (arith, is.often, spent),
    ))
