-- One substation more was listed, and is what it was.
use Rattle.std.proofs.Common.{◌≡◌, ◌∙◌, ℕ, List, length, map, take, min, ap, arith}
use Rattle.std.proofs.lemmas.List.{length-map, take_min}
use Rattle.dnp_world.specs.Kept.{lane_rows_of}
use Rattle.dnp_world.specs.Stations.{listed_from}
use Rattle.dnp_world.specs.SystemParts.{substation_of}
use Rattle.dnp_world.specs.Systems.{SubstationState}
use Rattle.dnp_world.specs.declared.parts.report.TheConstants.{NUMBERS}
use Rattle.dnp_world.proofs.ReportLists.{all_kept, one_listed}
use Rattle.dnp_world.proofs.parts.report.buffered_rows.Goals as goal

pub returns-in_err-put_buffered-clause-same : goal.returns-in_err-put_buffered-clause-same
returns-in_err-put_buffered-clause-same c =
    let long : length c.loop-number.substations ≡ length c.args.substations.now = c.loop-number.auto.substations in
    all_kept (map substation_of c.args.substations.now) c.loop-number.substations c.loop-number.number c.index-substations-number.result
    c.put_buffered.new.below c.loop-number.invariant.same (omega (arith, long)) c.put_buffered.ensures.same

pub loop-number-preserved : goal.loop-number-preserved
loop-number-preserved c =
    let long : length c.loop-number.substations ≡ length c.args.substations.now = c.loop-number.auto.substations in
    let both = one_listed (map substation_of c.args.substations.now) c.loop-number.substations c.loop-number.number c.index-substations-number.result
    c.put_buffered.new.below c.loop-number.list.items c.put_buffered.new.list.items c.loop-number.invariant.same (omega (arith, long))
    c.put_buffered.ensures.same c.loop-number.invariant.listed c.in_ok-put_buffered.ensures.rows in
    record { same = both.0; listed = both.1 }

pub returns-clause-rows : goal.returns-clause-rows
returns-clause-rows c =
    let first : List SubstationState = map substation_of c.args.substations.now in
    let long : length first ≡ length c.args.substations.now = length-map c.args.substations.now substation_of in
    let all : c.loop-number.number ≡ min NUMBERS (length first) = omega (arith, long) in
    c.loop-number.invariant.listed
    ∙ ap (λ (n : ℕ). listed_from lane_rows_of 0 (take n first)) all
    ∙ ap (λ (ys : List SubstationState). listed_from lane_rows_of 0 ys) (take_min NUMBERS first)
