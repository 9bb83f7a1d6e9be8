-- A reading releases nothing, and one row at most is dropped for it.
use Rattle.std.proofs.Common.{◌≡◌, ◌≤◌, ◌++◌, ◌∙◌, List, length, ap, refl, subst, sym, arith}
use Rattle.std.specs.Prelude.{is_ok}
use Rattle.dnp_objects.specs.declared.row.Row.{Row}
use Rattle.dnp_controls.specs.Latches.{no_panel}
use Rattle.dnp_line.specs.Lines.{LineState}
use Rattle.dnp_outstation.specs.Parts.{whole_of}
use Rattle.dnp_outstation.specs.Station.{actions_of}
use Rattle.dnp_pointdb.specs.Database.{answer_of}
use Rattle.dnp_world.specs.Channels.{AreSent, state_of}
use Rattle.dnp_world.specs.OneLinkParts.{link_of}
use Rattle.dnp_world.proofs.OneLinkLists.{extended}
use Rattle.dnp_world.proofs.OneLinkSteps.{changes}
use Rattle.dnp_world.proofs.one_link.OneLink.change_taken.Goals as goal

pub returns-clause-done : goal.returns-clause-done
returns-clause-done g c = λ honest.
    let contents = g.L.Lanes.contents in
    let old = link_of contents c.args.self.now in
    let kind = c.args.kind in
    let index = c.args.index in
    let reading = c.args.reading in
    let overwritten : List Row = c.as_slice.result.now in
    let does = actions_of c.change_into.new.actions in
    let same : overwritten ≡ does.overwritten = c.as_slice.ensures in
    changes _ old kind index reading (answer_of old.outstation.core.points kind index reading) c.change_into.result tt does
    (whole_of contents (λ _. no_panel) c.change_into.new.self)
    (record (state_of c.args.self.now.channel) { up = c.send_all.new.line.state; outstation_port = c.send_all.new.port }) c.extend_from_slice.new.self.items
    c.change_into.ensures.refused c.in_ok-change_into.was (c.in_ok-change_into.ensures.changed honest)
    (λ made. c.a_confirm_releases_what_its_fragment_reported.ensures.changed old.outstation old.now kind index reading made)
    (c.in_ok-change_into.ensures.not_exhausted honest)
    (record {
      sent = subst
          (λ (line : LineState). AreSent does.send line old.channel.outstation_port c.send_all.new.line.state c.send_all.new.port)
          c.reserve_for_left.ensures.line c.send_all.ensures;
      after = refl;
    })
    (λ few.
    let room : length overwritten ≤ 1 = subst (λ (rows : List Row). length rows ≤ 1) (sym same) few in
    extended (is_ok c.extend_from_slice.result) c.reserve_for_left.new.left.items overwritten c.extend_from_slice.new.self.items
    c.extend_from_slice.ensures.items
    (c.extend_from_slice.ensures.succeeds (omega (arith, room, c.in_ok-reserve_for_left.ensures.places)))
    ∙ ap (λ (rows : List Row). rows ++ overwritten) c.reserve_for_left.ensures.list ∙ ap (λ (rows : List Row). old.left ++ rows) same)
