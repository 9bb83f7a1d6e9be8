use Rattle.std.proofs.Common.{◌≡◌, true, inl, inr, Ok, Err, refl, sym, ap, ◌∙◌, arith}
use Rattle.std.proofs.lemmas.Bool.{false≢true}
use Rattle.dnp_streams.specs.declared.stream.log.Log.{Log}
use Rattle.dnp_streams.specs.links.Links.{LinkState}
use Rattle.dnp_streams.proofs.links.Dialogues.{talking_goes, talking_sent}
use Rattle.dnp_streams.proofs.stream.ask.go_on.Goals as goal

pub returns-in-Err-clause-talks : goal.returns-in-Err-clause-talks
returns-in-Err-clause-talks g c = λ honest reads began left left' from t.
    let (t', n) = talking_sent _ _ _ _ _ _ _ _ _ _ c.args.dialogue.now.agenda _ _ (Err c.in-Err.fault) c.in-Err.ensures.sent t in
    (t', λ stops. absurd (false≢true stops))

pub loop-init : goal.loop-init
loop-init g c = (
  c.requires,
  ap (λ (l : LinkState). l.pending) c.in-Ok.ensures.sent.0,
  ap (λ (l : LinkState). l.waiting) c.in-Ok.ensures.sent.0,
  λ honest. honest,
  λ honest reads began left left' from t.
      let (t', n) = talking_sent _ _ _ _ _ _ _ _ _ _ c.args.dialogue.now.agenda _ _ (Ok tt) c.in-Ok.ensures.sent t in
      (t', omega arith),
  refl,
  c.in-Ok.ensures.noted,
)

pub returns-then-dialogue-clause-talks : goal.returns-then-dialogue-clause-talks
returns-then-dialogue-clause-talks g c = λ honest reads began left left' from t.
    let (t', n) = c.loop.invariant.4 honest reads began left left' from t in
    (t', λ _. inl c.if-dialogue.true)

pub returns-then-not-idle-clause-talks : goal.returns-then-not-idle-clause-talks
returns-then-not-idle-clause-talks g c = λ honest reads began left left' from t.
    let (t', n) = c.loop.invariant.4 honest reads began left left' from t in
    (t', λ stops. absurd (false≢true stops))

pub loop-preserved : goal.loop-preserved
loop-preserved g c =
    let S = g.S.Station in
    let before = c.loop.invariant in
    let idle : S.asking.is_idle (S.state c.loop.station) ≡ true = sym c.idle.ensures ∙ c.if-not-idle.false in (
      c.go.ensures.begun ∙ before.0,
      ap (λ (l : LinkState). l.pending) c.in-Ok-send_noted.ensures.sent.0,
      ap (λ (l : LinkState). l.waiting) c.in-Ok-send_noted.ensures.sent.0 ∙ c.go.ensures.waiting ∙ before.2,
      λ honest. before.3 (c.go.ensures.held honest),
      λ honest reads began left left' from t.
          let (t', n) = before.4 (c.go.ensures.held honest) reads began left left' from t in
          let (t'', m) = talking_goes _ _ _ _ _ _ _ _ _ _ _ c.loop.dialogue.agenda c.go.new.self.agenda _ _ _ (Ok tt) before.0 idle c.if-dialogue.false
          (c.go.ensures.goes honest c.if-dialogue.false) c.in-Ok-send_noted.ensures.sent t' in
          (t'', omega (arith, n, m)),
      c.go.ensures.kept ∙ before.5,
      c.in-Ok-send_noted.ensures.noted ∙ c.go.ensures.log ∙ before.6,
    )

pub returns-in-Err-send_noted-clause-talks : goal.returns-in-Err-send_noted-clause-talks
returns-in-Err-send_noted-clause-talks g c = λ honest reads began left left' from t.
    let S = g.S.Station in
    let before = c.loop.invariant in
    let idle : S.asking.is_idle (S.state c.loop.station) ≡ true = sym c.idle.ensures ∙ c.if-not-idle.false in
    let (t', n) = before.4 (c.go.ensures.held honest) reads began left left' from t in
    let (t'', m) = talking_goes _ _ _ _ _ _ _ _ _ _ _ c.loop.dialogue.agenda c.go.new.self.agenda _ _ _ (Err c.in-Err-send_noted.fault) before.0 idle c.if-dialogue.false
    (c.go.ensures.goes honest c.if-dialogue.false) c.in-Err-send_noted.ensures.sent t' in
    (t'', λ stops. absurd (false≢true stops))

pub returns-clause-talks : goal.returns-clause-talks
returns-clause-talks g c = λ honest reads began left left' from t.
    let (t', n) = c.loop.invariant.4 honest reads began left left' from t in
    (t', λ _. inr (omega (arith, n, c.loop-test.false)))

pub returns-in-Err-send_noted-clause-noted : goal.returns-in-Err-send_noted-clause-noted
returns-in-Err-send_noted-clause-noted g c =
    c.in-Err-send_noted.ensures.noted ∙ ap (λ (l : Log). record l { write_failed = true }) (c.go.ensures.log ∙ c.loop.invariant.6)
