use Rattle.std.proofs.Common.{rules}
use Rattle.std.specs.List.{Any}
use Rattle.dnp_concentrator.specs.IndexMap.{IsWide}
use Rattle.dnp_concentrator.specs.Plan.{spans_of}
use Rattle.dnp_concentrator.proofs.Refusals.{any_kind, any_mapped, mapped_any}
use Rattle.dnp_concentrator.proofs.index_map.is_too_wide.Goals as goal

pub returns : goal.returns
returns c =
    let by_kind = any_kind (λ kind. Any (λ s. IsWide kind (spans_of s)) c.args.substations.now) c.any.result
    c.iter.result.rest.now c.iter.ensures.rest (search rules) in (
      λ h. ((by_kind.0 h).0, any_mapped (IsWide (by_kind.0 h).0) c.args.substations.now (by_kind.0 h).1),
      λ h. by_kind.1 (h.0, mapped_any (IsWide h.0) c.args.substations.now h.1),
    )
