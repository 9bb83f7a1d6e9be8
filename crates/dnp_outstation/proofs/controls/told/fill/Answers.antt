use Rattle.std.proofs.Common.{◌/◌, ◌≤◌, ℕ, length, rules}
use Rattle.dnp_appfragment.specs.Seen.{head}
use Rattle.dnp_outstation.specs.steps.Deciding.{code_by}
use Rattle.dnp_outstation.proofs.ControlHeaders.{piece_is, piece_some, object_put, longer_by, cut_again}
use Rattle.dnp_outstation.proofs.controls.told.fill.Goals as goal

pub push_object-requires : goal.push_object-requires
push_object-requires g c =
    let some : 1 ≤ length c.split_at.result.0.now =
    rw c.split_at.ensures.front_len
    (piece_some (head c.args.header.now) c.loop-k.k c.count-count.result c.count-count.ensures.value c.loop-k-test.true c.requires.whole) in
    search rules

pub loop-k-preserved : goal.loop-k-preserved
loop-k-preserved g c =
    let h = head c.args.header.now in
    let count = c.count-count.result in
    let each : ℕ = length h.octets / count in
    let object = c.split_at.result.0.now in
    let object_is = piece_is h c.loop-k.k count c.loop-k.rest.now object c.count-count.ensures.value c.loop-k.invariant.left c.split_at.ensures.front in
    let some = piece_some h c.loop-k.k count c.count-count.ensures.value c.loop-k-test.true c.requires.whole in
    record {
      left = cut_again c.loop-k.k each h.octets c.loop-k.rest.now c.split_at.result.1.now c.loop-k.invariant.left c.split_at.ensures.back;
      long = longer_by c.loop-k.k each c.loop-k.octets.items c.push_object.new.octets.items object c.code_at.result some c.split_at.ensures.front_len
          c.push_object.ensures c.loop-k.invariant.long;
      all = object_put (code_by (g.O.Outputs.panel c.args.outputs.now) c.args.told.now) h c.loop-k.k count c.loop-k.octets.items
          c.push_object.new.octets.items _ object c.code_at.result c.loop-k-test.true object_is c.code_at.ensures c.push_object.ensures c.loop-k.invariant.all;
    }
