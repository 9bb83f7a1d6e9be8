-- Where the side stands is the reference and the centre, so what is held there and beside it are both sides.
use Rattle.std.proofs.Common.{ℕ, refl, ap, subst}
use Rattle.std.specs.Borrow.{GName}
use Rattle.std.specs.Prelude.{IfOk}
use Rattle.dnp_eventbuf.specs.Sides.{centre_in, pair_in}
use Rattle.dnp_eventbuf.specs.EventBuffer.{EventBuffer}
use Rattle.dnp_world.specs.ReportShown.{AreById, all_in}
use Rattle.dnp_world.proofs.CentreReads.{all_sides, centre_low}
use Rattle.dnp_world.proofs.reading.side_rows.Goals as goal

pub returns-clause-lent : goal.returns-clause-lent
returns-clause-lent g c = ap (λ (p : GName × ℕ). p.0) c.rows_by_id.ensures.place

pub returns-clause-same : goal.returns-clause-same
returns-clause-same g c = λ honest.
    let old = c.args.side.now in
    let read = c.rows_by_id.ensures in
    all_sides g.Q.PairLanes.contents (centre_in old) (pair_in old) old c.rows_by_id.new.lanes refl refl (ap (λ (p : GName × ℕ). p.1) read.place)
    (centre_low old) (read.same honest) (read.beside honest)

pub returns-clause-rows : goal.returns-clause-rows
returns-clause-rows g c = λ honest.
    let read = c.rows_by_id.ensures in
    subst (λ (s : EventBuffer). IfOk c.rows_by_id.result (λ rows. AreById (all_in s) rows.items)) (read.same honest) (read.rows honest)
