use Rattle.std.proofs.Common.{rules, ◌≡◌, ℕ, IsTrue, List, true, false, length, map, fold, ap, subst, sym, ◌∙◌, arith}
use Rattle.std.specs.List.{All}
use Rattle.dnp_objects.specs.Lanes.{lane_number}
use Rattle.dnp_eventbuf.specs.declared.numbered.Numbered.{Numbered}
use Rattle.dnp_outstation.specs.Items.{at_most, event_of, given_after, rows_left}
use Rattle.dnp_outstation.specs.steps.Filling.{after_release, reached}
use Rattle.dnp_outstation.specs.steps.Grouping.{mark}
use Rattle.dnp_outstation.specs.steps.Putting.{Puts}
use Rattle.dnp_outstation.proofs.OfferRoom.{all_asked}
use Rattle.dnp_outstation.proofs.OfferRows.{lane_full}
use Rattle.dnp_outstation.proofs.offer.writer.Writer.put_lane.Given.{Over}
use Rattle.dnp_outstation.proofs.offer.writer.Writer.put_lane.Goals as goal

pub returns-then-not-put_rows-clause-written : goal.returns-then-not-put_rows-clause-written
returns-then-not-put_rows-clause-written g c = λ honest more.
    let bounds = c.args.bounds.now in
    let number = lane_number c.args.lane in
    let all : List Numbered = at_most c.args.most
    (rows_left (after_release (g.L.Lanes.contents c.rows_to_give.new.lanes) bounds.released.now) bounds.stood bounds.given.now number) in
    let full : c.put_rows.result ≡ false = search rules in
    lane_full c.args.self.now c.put_rows.new.self c.put_rows.result c.args.is_open c.args.header number c.number.result _ all c.as_slice.result.now more
    c.number.ensures.value (c.as_slice.ensures.value ∙ c.in_ok-rows_to_give.ensures.rows honest) c.put_rows.ensures.written full

-- the rows that the header may still give of the lane
abbrev left_of : (g : Over) → goal.After-len g → List Numbered
left_of g c =
    let bounds = c.args.bounds.now in
    at_most c.args.most
    (rows_left (after_release (g.L.Lanes.contents c.rows_to_give.new.lanes) bounds.released.now) bounds.stood bounds.given.now (lane_number c.args.lane))

-- those that are put are all of them
are_all : (g : Over) (c : goal.After-len g) → g.L.Lanes.honest c.rows_to_give.new.lanes → c.as_slice.result.now ≡ left_of g c
are_all g c honest =
    let put' : IsTrue true = search rules in
    all_asked c.args.lane.kind c.args.self.now.builder c.enough-few.result c.left.result (left_of g c) c.as_slice.result.now
    (subst (All (λ (x : Numbered). x.row.kind ≡ c.args.lane.kind)) (sym c.as_slice.ensures.value) (c.in_ok-rows_to_give.ensures.kinds honest))
    (c.as_slice.ensures.value ∙ c.in_ok-rows_to_give.ensures.rows honest) c.enough-few.ensures.enough c.left.ensures (c.if-not-put_rows.ensures.room put')

pub returns-clause-written : goal.returns-clause-written
returns-clause-written g c = λ honest.
    let header = c.args.header in
    let puts : ℕ → List Numbered → Type 0 =
    λ (n : ℕ) (rows : List Numbered). Puts c.args.self.now (mark c.args.is_open (map (event_of header n) rows)) true c.put_rows.new.self in
    subst (λ (rows : List Numbered). puts (lane_number c.args.lane) rows) (are_all g c honest)
    (subst (λ (n : ℕ). puts n c.as_slice.result.now) c.number.ensures.value c.if-not-put_rows.ensures.written)

pub returns-clause-given : goal.returns-clause-given
returns-clause-given g c = λ honest some.
    let put' : IsTrue true = search rules in
    let before = reached c.args.self.now in
    let header = c.args.header in
    c.if-not-put_rows.ensures.given put'
    ∙ ap (λ (n : ℕ). fold given_after before (map (event_of header n) c.as_slice.result.now)) c.number.ensures.value
    ∙ ap (λ (rows : List Numbered). fold given_after before (map (event_of header (lane_number c.args.lane)) rows)) (are_all g c honest)

pub returns-clause-counted : goal.returns-clause-counted
returns-clause-counted g c = λ honest. omega (arith, c.len.ensures, c.as_slice.ensures.len, ap length (are_all g c honest))
