-- A header is named while there is room, and all of them are named or counted in the end.
use Rattle.std.proofs.Common.{◌≡◌, ℕ, ◌<◌, List, [], ◌∷◌, length, ap, rules, arith}
use Rattle.dnp_appfragment.specs.Seen.{head}
use Rattle.dnp_trace.proofs.Naming.{named_less, named_all}
use Rattle.dnp_trace.proofs.phrase.say_headers.Goals as goal

pub loop-header-preserved : goal.loop-header-preserved
loop-header-preserved c =
    let cons : c.loop-header.header-iterator.headers ≡ head c.in-Some.header ∷ c.next.new.self.headers = c.in-Some.ensures.steps.0 in
    let counts = ap length cons in
    let some : 0 < c.loop-header.room = omega arith in
    record {
      named = named_less c.loop-header.sheet c.say_header.new.sheet c.loop-header.room (head c.in-Some.header) c.loop-header.header-iterator.headers
          c.next.new.self.headers _ some cons c.in_ok-say_header.ensures c.loop-header.invariant.named;
      over = omega (arith, c.loop-header.invariant.over);
      fits = c.loop-header.invariant.fits;
    }

pub returns : goal.returns
returns c =
    let start : c.into_iter-header-iterator.result.headers ≡ c.args.headers.headers = search rules in
    named_all c.loop-header.sheet c.args.sheet.now c.say_more.new.sheet c.loop-header.room c.loop-header.left c.loop-header.header-iterator.headers
    c.args.headers.headers c.in-None.ensures.steps.0.0 c.loop-header.invariant.fits (cc (c.loop-header.invariant.named, start))
    (let over = c.loop-header.invariant.over in cc (over, start)) c.in_ok-say_more.ensures
