-- What is sent and what is dropped keep whether the log is cut.
use Rattle.std.proofs.Common.{◌≡◌, false, ℕ, ◌-◌, List, [], sym, ◌∙◌, ap, refl, rules}
use Rattle.dnp_trace.specs.declared.noted.What.TheVariants as what
use Rattle.dnp_trace.specs.Logs.{Noted, line_number, came_to, count_on, times}
use Rattle.dnp_trace.specs.Logs as logs
use Rattle.dnp_trace.proofs.Noting.{times_cut, came_to_cut}
use Rattle.dnp_trace.proofs.log.Log.count.Goals as goal

pub returns : goal.returns
returns c = λ whole.
    let came = c.come_to.ensures whole in
    let kept : c.come_to.new.self.cut ≡ c.send_unseen.new.self.cut =
    ap (λ (log : Noted). log.cut) came
    ∙ times_cut c.saturating_sub-2.result (came_to c.number-line.result what.Dropped) c.send_unseen.new.self (came_to_cut c.number-line.result what.Dropped) in
    let sent = c.send_unseen.ensures (sym kept ∙ whole) in
    let line : c.number-line.result ≡ line_number c.args.course = c.number-line.ensures in
    let stood : ℕ = count_on (line_number c.args.course) c.args.self.now in
    let known : c.count_on-known.result ≡ stood = c.count_on-known.ensures ∙ ap (λ (l : ℕ). count_on l c.args.self.now) line in
    let more : c.saturating_sub.result ≡ c.args.count - stood = c.saturating_sub.ensures ∙ ap (λ (k : ℕ). c.args.count - k) known in
    let fewer : c.saturating_sub-2.result ≡ stood - c.args.count = c.saturating_sub-2.ensures ∙ ap (λ (k : ℕ). k - c.args.count) known in
    came
    ∙ ap (λ (k : ℕ). times k (came_to c.number-line.result what.Dropped) c.send_unseen.new.self) fewer
    ∙ ap (λ (l : ℕ). times (stood - c.args.count) (came_to l what.Dropped) c.send_unseen.new.self) line
    ∙ ap (λ (log : Noted). times (stood - c.args.count) (came_to (line_number c.args.course) what.Dropped) log)
    (sent ∙ ap (λ (k : ℕ). times k (logs.sent c.args.course []) c.args.self.now) more)
