-- No more rows are released than waited.
use Rattle.std.proofs.Common.{◌≡◌, ◌≤◌, ◌++◌, ◌∙◌, List, length, ap, subst, sym, arith}
use Rattle.std.specs.Prelude.{is_ok, ⊤}
use Rattle.std.proofs.lemmas.Bool.{false≢true}
use Rattle.dnp_objects.specs.declared.row.Row.{Row}
use Rattle.dnp_controls.specs.Latches.{no_panel}
use Rattle.dnp_eventbuf.specs.EventBuffer.{rows_in}
use Rattle.dnp_line.specs.Lines.{front_of}
use Rattle.dnp_outstation.specs.Parts.{whole_of, with_lanes}
use Rattle.dnp_outstation.specs.State.{State, Actions}
use Rattle.dnp_outstation.specs.Station.{actions_of}
use Rattle.dnp_world.specs.Channels.{ChannelState, state_of, ComesToOutstation, left_by}
use Rattle.dnp_world.specs.OneLinkEvents.{ComesDown}
use Rattle.dnp_world.specs.OneLinkParts.{link_of}
use Rattle.dnp_world.proofs.IdleLines.{not_there}
use Rattle.dnp_world.proofs.OneLinkComing.{comes, few_came, unfollowed, with_parts}
use Rattle.dnp_world.proofs.OneLinkIdle.{idle_down}
use Rattle.dnp_world.proofs.OneLinkLists.{extended}
use Rattle.dnp_world.proofs.OneLinkSteps.{Laws}
use Rattle.dnp_world.proofs.one_link.OneLink.come_down.Goals as goal

-- nothing comes over an empty line
pub returns-then-is_none-clause-done : goal.returns-then-is_none-clause-done
returns-then-is_none-clause-done g c = λ honest.
    let old = link_of g.L.Lanes.contents c.args.self.now in
    idle_down c.args.repeats no_panel old
    (not_there c.front.result (front_of old.channel.down) c.is_none.result c.front.ensures c.is_none.ensures c.if-is_none.true)

pub returns-then-answered-clause-done : goal.returns-then-answered-clause-done
returns-then-answered-clause-done g c = λ honest.
    let contents = g.L.Lanes.contents in
    let old = link_of contents c.args.self.now in
    let laws : Laws = record {
      says = c.each_case_says_what_came.ensures;
      solicited = c.a_confirm_releases_what_its_fragment_reported.ensures.solicited;
      unsolicited = c.a_confirm_releases_what_its_fragment_reported.ensures.unsolicited;
      others = c.a_confirm_releases_what_its_fragment_reported.ensures.others;
    } in
    let counted = with_lanes c.args.self.now.outstation c.rows_waiting-waiting.new.lanes in
    let before : State = whole_of contents (λ _. no_panel) counted in
    let same : before ≡ old.outstation =
    ap (λ lanes. whole_of contents (λ _. no_panel) (with_lanes c.args.self.now.outstation lanes))
    (c.rows_waiting-waiting.ensures.same ∙ c.lanes.ensures.value) in
    let state : State = whole_of contents (λ _. no_panel) c.come_down.new.end in
    let does : Actions = actions_of c.come_down.new.actions in
    let first : ChannelState = state_of c.args.self.now.channel in
    let last : ChannelState = state_of c.come_down.new.self in
    let answered = c.in_ok-answered.answered in
    let came : ComesToOutstation (λ _. ⊤) no_panel old.now before state does answered first last =
    unfollowed _ _ _ _ _ _ _ _ _ (c.in_ok-answered.ensures.came (honest, tt)) in
    let discarded : List Row = c.as_slice.result.now in
    let waits : c.rows_waiting-waiting.result ≡ length (rows_in before.lanes) =
    c.rows_waiting-waiting.ensures.count (c.come_down.ensures.held (honest, tt)).0 in
    let few : length discarded ≤ length (rows_in before.lanes) =
    subst (λ (rows : List Row). length rows ≤ length (rows_in before.lanes)) (sym c.as_slice.ensures)
    (few_came laws (λ _. ⊤) no_panel old.now before state does answered first last came c.if-answered.true) in
    let released : List Row = c.extend_from_slice.new.self.items in
    let lists : released ≡ old.released ++ does.discarded =
    extended (is_ok c.extend_from_slice.result) c.reserve.new.self.items discarded released c.extend_from_slice.ensures.items
    (c.extend_from_slice.ensures.succeeds (omega (arith, few, waits, c.in_ok-reserve.ensures.ok)))
    ∙ ap (λ (rows : List Row). rows ++ discarded) c.in_ok-reserve.ensures.items ∙ ap (λ (rows : List Row). old.released ++ rows) c.as_slice.ensures in
    subst (λ (lines : ChannelState). ComesDown no_panel (left_by c.args.repeats first.down) old (with_parts old state lines released)) (sym c.settle.ensures)
    (comes (λ _. ⊤) no_panel c.args.repeats old state does answered last released
    (subst (λ (s : State). ComesToOutstation (λ _. ⊤) no_panel old.now s state does answered first last) same came)
    (λ _. lists) (λ none. absurd (false≢true (sym none ∙ c.if-answered.true))))
