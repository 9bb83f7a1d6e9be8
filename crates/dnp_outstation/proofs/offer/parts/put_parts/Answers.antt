use Rattle.std.proofs.Common.{rules, refl, true, false, sym, subst, ◌≡◌, Bool, List, map}
use Rattle.dnp_outstation.specs.Forms.{may_in}
use Rattle.dnp_outstation.specs.Items.{Source, items_of, part_of, parts_left}
use Rattle.dnp_outstation.specs.steps.Filling.{after_release, reached}
use Rattle.dnp_outstation.specs.steps.Grouping.{Marked, opened}
use Rattle.dnp_outstation.specs.steps.Putting.{Puts}
use Rattle.dnp_outstation.proofs.OfferParts.{ended_full, ended_last, filled_offered, left_open}
use Rattle.dnp_outstation.proofs.offer.parts.put_parts.Goals as goal

pub returns-then-not-branch-clause-offered : goal.returns-then-not-branch-clause-offered
returns-then-not-branch-clause-offered g c = λ honest place begun.
    let s : Source = record {
      points = c.args.from.now.points.now;
      panel = g.O.Outputs.panel c.args.from.now.outputs.now;
      lanes = after_release (g.L.Lanes.contents c.args.lanes.now) c.args.from.now.released.now;
    } in
    let w = c.args.writer.now in
    let v = c.put_headers.new.self in
    let headers = c.args.headers.headers in
    let left = c.after-left.result.headers in
    let items : List Marked =
    map (opened (may_in headers)) (items_of s c.args.from.now.stood (reached w) w.place.header (parts_left w.place.count (map (part_of s) left))) in
    let full : c.in_ok-put_headers.field-0 ≡ false = search rules in
    filled_offered s c.args.from.now.stood place headers left w v false begun c.after-left.ensures.headers
    (ended_full w v items (subst (λ (fit : Bool). Puts w items fit v) full (c.in_ok-put_headers.ensures.written honest s refl refl refl (may_in headers)
    (left_open headers w.place.header left (sym c.after-left.ensures.headers)))))

pub returns-clause-offered : goal.returns-clause-offered
returns-clause-offered g c = λ honest place begun.
    let s : Source = record {
      points = c.args.from.now.points.now;
      panel = g.O.Outputs.panel c.args.from.now.outputs.now;
      lanes = after_release (g.L.Lanes.contents c.args.lanes.now) c.args.from.now.released.now;
    } in
    let w = c.args.writer.now in
    let v = c.put_headers.new.self in
    let headers = c.args.headers.headers in
    let left = c.after-left.result.headers in
    let items : List Marked =
    map (opened (may_in headers)) (items_of s c.args.from.now.stood (reached w) w.place.header (parts_left w.place.count (map (part_of s) left))) in
    let all : c.in_ok-put_headers.field-0 ≡ true = search rules in
    filled_offered s c.args.from.now.stood place headers left w c.settle.new.self c.settle.result begun c.after-left.ensures.headers
    (ended_last w v c.settle.new.self items c.settle.result
    (subst (λ (fit : Bool). Puts w items fit v) all (c.in_ok-put_headers.ensures.written honest s refl refl refl (may_in headers)
    (left_open headers w.place.header left (sym c.after-left.ensures.headers))))
    c.settle.ensures.written)
