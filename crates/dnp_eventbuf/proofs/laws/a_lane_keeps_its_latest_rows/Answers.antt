use Rattle.dnp_eventbuf.proofs.LatestRows.{append_keeps_latest}
use Rattle.dnp_eventbuf.proofs.laws.a_lane_keeps_its_latest_rows.Goals as goal

pub returns : goal.returns
returns c = append_keeps_latest
