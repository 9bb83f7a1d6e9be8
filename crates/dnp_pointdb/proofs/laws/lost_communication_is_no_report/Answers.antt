use Rattle.std.proofs.Common.{refl}
use Rattle.dnp_pointdb.specs.declared.state.PointState.{PointState}
use Rattle.dnp_pointdb.proofs.Histories.{state_at-lost}
use Rattle.dnp_pointdb.proofs.laws.lost_communication_is_no_report.Goals as goal

pub returns : goal.returns
returns c = record {
  points = state_at-lost (λ (s : PointState). s.point) (λ s. refl);
  reports = state_at-lost (λ (s : PointState). s.reported) (λ s. refl);
}
