-- What a confirm does that isn't nothing: rows leave, a fragment goes on with the response, or a report is sent.
use Rattle.std.proofs.Common.{◌≡◌, ◌≢◌, ℕ, ◌+◌, ◌%◌, Bool, true, false, ◌&&◌, if◌then◌else◌, List, [], ◌∷◌, ◌++◌, Option, None, Some, refl, ap, sym, subst, ◌∙◌}
use Rattle.dnp_controls.specs.Panel.{Panel}
use Rattle.dnp_eventbuf.specs.EventBuffer.{without, all_up_to}
use Rattle.dnp_outstation.specs.declared.answer.Answer.{Answer}
use Rattle.dnp_outstation.specs.declared.offer.writer.Writer.{Writer}
use Rattle.dnp_outstation.specs.declared.session.Awaited.{Awaited}
use Rattle.dnp_outstation.specs.steps.Answering.{goes_on_by, went_on}
use Rattle.dnp_outstation.specs.steps.Filling.{has_rows_in}
use Rattle.dnp_outstation.specs.Connection.{at_end, confirmed, discarding, goes_on, has_enabled_rows, on_confirm, starts, unsolicited_of}
use Rattle.dnp_outstation.specs.Content.{Content, content_from}
use Rattle.dnp_outstation.specs.Items.{enabled_lanes}
use Rattle.dnp_outstation.specs.Offer.{pushed}
use Rattle.dnp_outstation.specs.State.{State, Step, Actions, nothing, with_session, is_free, is_ready}
use Rattle.dnp_outstation.proofs.Endings.{starts_at_end}
use Rattle.dnp_outstation.proofs.Steps.{goes_on_marked}

never_none : {A : Type 0} (xs : List A) (x : A) → xs ++ x ∷ [] ≢ []
never_none [] x is = absurd (cc)
never_none (y ∷ ys) x is = absurd (cc)

starts_something : (step : Step) (now : ℕ) (content : Content) → (starts step now content).does ≢ nothing
starts_something step now content is = never_none step.does.send (unsolicited_of step.state content) (ap (λ (a : Actions). a.send) is)

-- what is done before the end of a call isn't undone by it
something_at_end : (now : ℕ) (step : Step) → step.does ≢ nothing → (at_end now step).does ≢ nothing
something_at_end now step some =
    let c = step.state.core in
    by (c.times.unsolicited && (c.announced && (c.is_open && (is_free c && has_enabled_rows step.state))))
  where
    by : (b : Bool) → (if b then starts step now (content_from (pushed step.state.lanes step.state.core.enabled)) else step).does ≢ nothing
    by true = starts_something step now (content_from (pushed step.state.lanes step.state.core.enabled))
    by false = some

-- what is ready and has rows starts a report
ready_starts : (now : ℕ) (step : Step) → true ≡ is_ready step.state.core → true ≡ has_enabled_rows step.state → (at_end now step).does ≢ nothing
ready_starts now step ready some is =
    let filled = pushed step.state.lanes step.state.core.enabled in
    starts_something step now (content_from filled) (ap (λ (x : Step). x.does) (sym (starts_at_end now step filled ready some refl)) ∙ is)

-- the state once the response went on, if it did
went_on_state : (s : State) (now seq : ℕ) (w : Writer) (next : Option Answer)
    → (goes_on_by s now seq w next).state ≡ with_session s (went_on s.core.session now s.core.times.confirm_ms seq w next)
went_on_state s now seq w None = refl
went_on_state s now seq w (Some a) = refl

-- the state once the awaited fragment is confirmed, and its rows have left
abbrev pub behind_confirm : State → Awaited → State
behind_confirm s w = record (with_session s (confirmed s.core.session)) { lanes = without s.lanes w.upto }

confirm_is : (s : State) (o : Panel) (now : ℕ) (w : Awaited)
    → on_confirm s o now w ≡ discarding s w.upto (goes_on (behind_confirm s w) o now ((w.seq + 1) % 16) s.core.session.last)
confirm_is s o now w = ap (discarding s w.upto) (goes_on_marked (behind_confirm s w) o now ((w.seq + 1) % 16) s.core.session.last)

pub confirm_goes_on : (s : State) (o : Panel) (now : ℕ) (w : Awaited)
    → (goes_on (behind_confirm s w) o now ((w.seq + 1) % 16) s.core.session.last).does.send ≢ [] → (at_end now (on_confirm s o now w)).does ≢ nothing
confirm_goes_on s o now w some = something_at_end now (on_confirm s o now w) (λ is.
    some (ap (λ (x : Step). x.does.send) (sym (confirm_is s o now w)) ∙ ap (λ (a : Actions). a.send) is))

pub confirm_releases : (s : State) (o : Panel) (now : ℕ) (w : Awaited) → all_up_to s.lanes w.upto ≢ [] → (at_end now (on_confirm s o now w)).does ≢ nothing
confirm_releases s o now w some = something_at_end now (on_confirm s o now w) (λ is. some (ap (λ (a : Actions). a.discarded) is))

pub confirm_reports : (s : State) (o : Panel) (now : ℕ) (w : Awaited) (writer : Writer) (next : Option Answer)
    → goes_on (behind_confirm s w) o now ((w.seq + 1) % 16) s.core.session.last ≡ goes_on_by (behind_confirm s w) now ((w.seq + 1) % 16) writer next
    → true ≡ is_ready (with_session (behind_confirm s w) (went_on (confirmed s.core.session) now s.core.times.confirm_ms ((w.seq + 1) % 16) writer next)).core
    → true ≡ has_rows_in (without s.lanes w.upto) (enabled_lanes 0 s.core.enabled) → (at_end now (on_confirm s o now w)).does ≢ nothing
confirm_reports s o now w writer next goes ready rows =
    let seq = (w.seq + 1) % 16 in
    let state_is = went_on_state (behind_confirm s w) now seq writer next in
    let step : Step = discarding s w.upto (goes_on_by (behind_confirm s w) now seq writer next) in
    let is : on_confirm s o now w ≡ step = confirm_is s o now w ∙ ap (discarding s w.upto) goes in
    subst (λ (x : Step). (at_end now x).does ≢ nothing) (sym is)
    (ready_starts now step (ready ∙ ap (λ (t : State). is_ready t.core) (sym state_is)) (rows ∙ ap has_enabled_rows (sym state_is)))
