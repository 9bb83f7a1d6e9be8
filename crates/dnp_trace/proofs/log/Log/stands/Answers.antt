-- What is shown keeps whether the log is cut.
use Rattle.std.proofs.Common.{◌≡◌, false, ℕ, List, sym, ◌∙◌, ap}
use Rattle.std.specs.Borrow.{Bor}
use Rattle.std.specs.Option.{option_map}
use Rattle.dnp_trace.specs.Logs.{Noted, shown}
use Rattle.dnp_trace.proofs.Noting.{shown_cut}
use Rattle.dnp_trace.proofs.log.Log.stands.Goals as goal

pub returns : goal.returns
returns c = λ whole.
    let told = c.show.ensures whole in
    let kept : c.show.new.self.cut ≡ c.count.new.self.cut =
    ap (λ (log : Noted). log.cut) told
    ∙ shown_cut c.front-number.result (option_map (λ (octets : Bor (List ℕ)). octets.now) c.args.front) c.count.new.self in
    let counts = c.count.ensures (sym kept ∙ whole) in
    cc (c.front-number.ensures, c.number.ensures)
