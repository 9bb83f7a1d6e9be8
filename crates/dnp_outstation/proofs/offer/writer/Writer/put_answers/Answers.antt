use Rattle.std.proofs.Common.{◌≡◌, refl, ap}
use Rattle.dnp_appfragment.specs.Built.{with_header}
use Rattle.dnp_appfragment.specs.Headers.{begin, context_after}
use Rattle.dnp_appfragment.specs.Seen.{head}
use Rattle.dnp_outstation.specs.Controls.{answered_head}
use Rattle.dnp_outstation.specs.steps.Deciding.{code_by}
use Rattle.dnp_outstation.proofs.ControlHeaders.{no_common, header_put, room_left, room_in}
use Rattle.dnp_outstation.proofs.offer.writer.Writer.put_answers.Goals as goal

pub loop-header-init : goal.loop-header-init
loop-header-init g c =
    let same = c.into_iter-header-iterator.ensures.into_iter_gives in
    record { whole = (begin, rw same c.requires.whole); response = c.requires.response; room = rw same c.requires.room; all = refl; upto = refl }

pub put_answered-requires-clause-whole : goal.put_answered-requires-clause-whole
put_answered-requires-clause-whole g c = (rw c.in-Some.ensures.steps.0 at c.loop-header.invariant.whole.1).0.header

pub put_answered-requires-clause-alone : goal.put_answered-requires-clause-alone
put_answered-requires-clause-alone g c =
    no_common c.loop-header.invariant.whole.0 (head c.in-Some.header) (rw c.in-Some.ensures.steps.0 at c.loop-header.invariant.whole.1).0

pub put_answered-requires-clause-room : goal.put_answered-requires-clause-room
put_answered-requires-clause-room g c =
    room_in c.loop-header.self.builder (head c.in-Some.header) c.next.new.self.headers (rw c.in-Some.ensures.steps.0 at c.loop-header.invariant.room)

pub loop-header-preserved : goal.loop-header-preserved
loop-header-preserved g c =
    let h = head c.in-Some.header in
    let code = code_by (g.O.Outputs.panel c.args.outputs.now) c.args.told.now in
    let next = c.in-Some.ensures.steps.0 in
    let whole = rw next at c.loop-header.invariant.whole.1 in
    let put : c.put_answered.new.self.builder ≡ with_header c.loop-header.self.builder (answered_head code h) = ap (λ w. w.builder) c.put_answered.ensures in
    record {
      whole = (context_after c.loop-header.invariant.whole.0 h, whole.1);
      response = rw c.put_answered.ensures c.loop-header.invariant.response;
      room = room_left code c.loop-header.self.builder c.put_answered.new.self.builder h c.next.new.self.headers whole.0.header put
          (rw next at c.loop-header.invariant.room);
      all = header_put code c.loop-header.self.builder c.put_answered.new.self.builder h c.next.new.self.headers _ put
          (rw next at c.loop-header.invariant.all);
      upto = rw c.put_answered.ensures c.loop-header.invariant.upto;
    }
