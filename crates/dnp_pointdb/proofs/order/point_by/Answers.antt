use Rattle.std.proofs.Common.{rules, ◌<◌, ◌≡◌, List, length, map, get_or, sym, ◌∙◌, ap, subst, Some, None}
use Rattle.std.proofs.lemmas.List.{get_or_default}
use Rattle.dnp_pointdb.specs.declared.point.Point.{Point}
use Rattle.dnp_pointdb.specs.declared.point.Block.{Block}
use Rattle.dnp_pointdb.specs.steps.Order.{extent_of, place_in}
use Rattle.dnp_pointdb.proofs.PlanPoints.{in_blocks, in_points, point_there, point_lacks}
use Rattle.dnp_pointdb.proofs.order.point_by.Goals as goal

pub returns-in_err-block : goal.returns-in_err-block
returns-in_err-block c =
    let lacks : place_in (map extent_of c.args.blocks.now) c.args.index ≡ None = sym (c.find.ensures (map extent_of c.args.blocks.now) c.requires) ∙ c.in_err-block.was in
    c.from_residual.ensures ∙ sym (point_lacks c.args.blocks.now c.args.index lacks)

pub bounds-blocks-block : goal.bounds-blocks-block
bounds-blocks-block c =
    let at : place_in (map extent_of c.args.blocks.now) c.args.index ≡ Some (c.in_ok-block.block, c.in_ok-block.place) =
    sym (c.find.ensures (map extent_of c.args.blocks.now) c.requires) ∙ c.in_ok-block.was in
    in_blocks c.args.blocks.now c.args.index c.in_ok-block.block c.in_ok-block.place at

pub offset_bounds-blocks-block : goal.offset_bounds-blocks-block
offset_bounds-blocks-block c =
    let at : place_in (map extent_of c.args.blocks.now) c.args.index ≡ Some (c.in_ok-block.block, c.in_ok-block.place) =
    sym (c.find.ensures (map extent_of c.args.blocks.now) c.requires) ∙ c.in_ok-block.was in
    let within : c.in_ok-block.block < length c.args.blocks.now = in_blocks c.args.blocks.now c.args.index c.in_ok-block.block c.in_ok-block.place at in
    search rules

pub bounds-as_slice-place : goal.bounds-as_slice-place
bounds-as_slice-place c =
    let at : place_in (map extent_of c.args.blocks.now) c.args.index ≡ Some (c.in_ok-block.block, c.in_ok-block.place) =
    sym (c.find.ensures (map extent_of c.args.blocks.now) c.requires) ∙ c.in_ok-block.was in
    let points : c.as_slice.result.now ≡ c.index-blocks-block.result.points = c.as_slice.ensures ∙ ap (λ (b : Block). b.points) (sym c.index-blocks-block.is) in
    let inside = in_points c.args.blocks.now c.args.index c.in_ok-block.block c.in_ok-block.place c.index-blocks-block.result at c.index-blocks-block.is in
    subst (λ (ps : List Point). c.in_ok-block.place < length ps) (sym points) inside

pub offset_bounds-as_slice-place : goal.offset_bounds-as_slice-place
offset_bounds-as_slice-place c =
    let at : place_in (map extent_of c.args.blocks.now) c.args.index ≡ Some (c.in_ok-block.block, c.in_ok-block.place) =
    sym (c.find.ensures (map extent_of c.args.blocks.now) c.requires) ∙ c.in_ok-block.was in
    let points : c.as_slice.result.now ≡ c.index-blocks-block.result.points = c.as_slice.ensures ∙ ap (λ (b : Block). b.points) (sym c.index-blocks-block.is) in
    let inside = in_points c.args.blocks.now c.args.index c.in_ok-block.block c.in_ok-block.place c.index-blocks-block.result at c.index-blocks-block.is in
    let within : c.in_ok-block.place < length c.as_slice.result.now =
    subst (λ (ps : List Point). c.in_ok-block.place < length ps) (sym points) inside in
    search rules

pub returns : goal.returns
returns c =
    let at : place_in (map extent_of c.args.blocks.now) c.args.index ≡ Some (c.in_ok-block.block, c.in_ok-block.place) =
    sym (c.find.ensures (map extent_of c.args.blocks.now) c.requires) ∙ c.in_ok-block.was in
    let points : c.as_slice.result.now ≡ c.index-blocks-block.result.points = c.as_slice.ensures ∙ ap (λ (b : Block). b.points) (sym c.index-blocks-block.is) in
    let inside = in_points c.args.blocks.now c.args.index c.in_ok-block.block c.in_ok-block.place c.index-blocks-block.result at c.index-blocks-block.is in
    let none : Point = record { class = 0; deadband = 0 } in
    let q : Point = get_or c.index-blocks-block.result.points c.in_ok-block.place none in
    let is : q ≡ get_or c.index-blocks-block.result.points c.in_ok-block.place q = get_or_default c.index-blocks-block.result.points c.in_ok-block.place none q inside in
    ap (λ (ps : List Point). Some (get_or ps c.in_ok-block.place none)) points
    ∙ sym (point_there c.args.blocks.now c.args.index c.in_ok-block.block c.in_ok-block.place c.index-blocks-block.result q at c.index-blocks-block.is is)
