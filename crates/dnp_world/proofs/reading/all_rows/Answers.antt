-- What the store tells is handed on: it ran on up to here.
use Rattle.dnp_world.proofs.Telling.{tells_on, tells_since}
use Rattle.dnp_world.proofs.reading.all_rows.Goals as goal

pub returns-in_err-put_lane_rows-clause-device : goal.returns-in_err-put_lane_rows-clause-device
returns-in_err-put_lane_rows-clause-device g c =
    tells_since _ _ _ c.loop-number.invariant.runs_on
    (tells_on _ _ c.put_lane_rows.result c.from_residual.result c.in_err-put_lane_rows.field-0.0 c.in_err-put_lane_rows.was c.from_residual.ensures.1
    c.put_lane_rows.ensures.device)
